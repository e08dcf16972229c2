use Rattle.std.proofs.Common.{ℕ, ◌+◌, ◌-◌, Some, sym, ap, subst, ◌∙◌, arith}
use Rattle.std.proofs.lemmas.Grind.{common_steps}
use Rattle.clk_units.specs.Events.{IsFirst}
use Rattle.lapic_timer.specs.Stretch.{fires_in}
use Rattle.lapic_timer.specs.private.Rounds.{after_fire, fires_by}
use Rattle.lapic_timer.proofs.Laws.{stretch-after, IsFirst-after}
use Rattle.lapic_timer.proofs.stretch.run_past.Goals as goal

pub returns : goal.returns
returns c =
    let law = stretch-after c.args.n c.args.parts.now c.requires.valid c.requires.counts c.requires.fires in
    record {
      state = c.fire-count.ensures.state
          ∙ ap (λ (m : ℕ). after_fire (c.args.n - m - 1) c.args.parts.now) c.ahead_of-ahead.ensures.value
          ∙ sym law.0;
      count = c.fire-count.ensures.count
          ∙ ap (λ (m : ℕ). fires_by (c.args.n - m - 1) c.args.parts.now) c.ahead_of-ahead.ensures.value
          ∙ sym law.1;
      few = grind (arith, common_steps);
      first = subst (λ (m : ℕ). IsFirst (fires_in c.args.parts.now) c.args.n (Some (m + 1))) (sym c.ahead_of-ahead.ensures.value)
          (IsFirst-after c.args.n c.args.parts.now c.requires.valid c.requires.counts c.requires.fires);
    }
