use Rattle.std.proofs.Common.{suc, ◌≤◌, ap, sym, subst, ◌∙◌, rules, zero-le}
use Rattle.clk_units.specs.Events.{IsFirst}
use Rattle.hpet_comparator.specs.declared.stretch.Matches.{Matches}
use Rattle.hpet_comparator.specs.Stretch.{spacing_of, falls_on}
use Rattle.hpet_registers.specs.Parts.{timer_at}
use Rattle.hpet_registers.specs.Stretch.{matches_of}
use Rattle.hpet_registers.proofs.Places.{timer_matches-none}
use Rattle.hpet_registers.proofs.Planned.{matches_next-none}
use Rattle.hpet_registers.proofs.stretch.pulse.Goals as goal

pub returns-then-take_planned-clause-taken : goal.returns-then-take_planned-clause-taken
returns-then-take_planned-clause-taken c =
    let none = c.if-take_planned.ensures.none in
    record {
      state = c.if-take_planned.ensures.state;
      count = λ k. ap (λ (m : Matches). m.count) (timer_matches-none k) ∙ sym (none k);
      few = λ k. subst (λ (m : Matches). m.count ≤ c.args.n) (sym (timer_matches-none k)) zero-le;
      first = λ k. subst (λ (m : Matches). IsFirst (matches_of k c.args.parts.now) c.args.n m.first) (sym (timer_matches-none k)) (none k);
      every = λ k i inside. matches_next-none k i c.args.n c.args.parts.now (none k) inside
          ∙ ap (λ (m : Matches). falls_on m.first m.count (spacing_of (timer_at k c.args.parts.now)) (suc i)) (sym (timer_matches-none k));
      below = record {
        none = λ k past. timer_matches-none k;
        inside = zero-le;
        places = search rules;
        quiet = λ k past. ap (λ (m : Matches). m.count) (timer_matches-none k);
      };
    }
