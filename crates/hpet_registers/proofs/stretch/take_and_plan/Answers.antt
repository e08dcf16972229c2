use Rattle.std.proofs.Common.{◌≡◌, ℕ, suc, ◌^◌, ◌<◌, ◌≤◌, ◌&&◌, true, zero-le, ltb, map, ap, sym, subst, ◌∙◌, inl, inr}
use Rattle.std.proofs.lemmas.Bool.{cases_lt}
use Rattle.clk_units.specs.Events.{IsFirst}
use Rattle.hpet_comparator.specs.Counter.{counter_after}
use Rattle.hpet_comparator.specs.declared.stretch.Matches.{Matches}
use Rattle.hpet_comparator.specs.Parts.{is_level}
use Rattle.hpet_comparator.specs.Stretch.{pulsed_times, matches_in, spacing_of, falls_on}
use Rattle.hpet_registers.specs.declared.parts.HpetParts.{HpetParts}
use Rattle.hpet_registers.specs.Parts.{IsHpet, timer_at, is_running}
use Rattle.hpet_registers.specs.Stretch.{with_bits, hpet_pulsed_times, matches_of, timer_matches}
use Rattle.hpet_registers.proofs.Conditions.{IsHpet-hpet_pulsed_times}
use Rattle.hpet_registers.proofs.Product.{matches_of-running, matches_of-absent, matches_next-absent, matches_next-hpet_pulsed_times, IsFirst-running}
use Rattle.hpet_registers.proofs.Places.{stretched}
use Rattle.hpet_registers.proofs.stretch.take_and_plan.Goals as goal

-- the counter goes on, and all else is as the timers left it
pulsed : (n value : ℕ) (h p : HpetParts) → IsHpet h → is_running h ≡ true → h.counter < 2 ^ 64 → value ≡ counter_after h.counter n
    → p ≡ record h {
      timer = map (pulsed_times h.counter n) h.timer;
      status = with_bits (λ j. ltb 0 (matches_in h.counter (timer_at j h) n) && is_level (timer_at j h)) h.timers h.status;
    } → record p { counter = value } ≡ hpet_pulsed_times n h
pulsed n value h p valid runs fits counter others =
    ap (λ (x : ℕ). record p { counter = x }) counter
    ∙ (ap (λ (q : HpetParts). record q { counter = counter_after h.counter n }) others ∙ stretched n h valid runs fits)

pub plan_of-requires : goal.plan_of-requires
plan_of-requires c = subst IsHpet
    (sym (pulsed c.args.n c.pulses.new.self.value c.args.parts.now c.pulse_timers-reach.new.parts c.requires.valid c.requires.runs c.requires.fits
    c.pulses.ensures.value c.pulse_timers-reach.ensures.state)) (IsHpet-hpet_pulsed_times c.args.n c.args.parts.now c.requires.valid)

pub returns-clause-taken : goal.returns-clause-taken
returns-clause-taken c =
    let h : HpetParts = c.args.parts.now in
    let n : ℕ = c.args.n in
    let none = c.pulse_timers-reach.ensures.reach.none in
    let matches = c.pulse_timers-reach.ensures.matches in
    record {
      state = pulsed n c.pulses.new.self.value h c.pulse_timers-reach.new.parts c.requires.valid c.requires.runs c.requires.fits c.pulses.ensures.value
          c.pulse_timers-reach.ensures.state;
      count = λ k. elim (cases_lt k h.timers) [
        | inl inside ↦ (matches k inside).count ∙ sym (matches_of-running k n h c.requires.runs c.requires.fits inside)
        | inr past ↦ ap (λ (m : Matches). m.count) (none k past) ∙ sym (matches_of-absent k n h past)
      ];
      few = λ k. elim (cases_lt k h.timers) [
        | inl inside ↦ (matches k inside).few
        | inr past ↦ subst (λ (m : Matches). m.count ≤ n) (sym (none k past)) zero-le
      ];
      first = λ k. elim (cases_lt k h.timers) [
        | inl inside ↦ IsFirst-running k n h (timer_matches c.pulse_timers-reach.new.matches k).first c.requires.runs c.requires.fits inside
            (matches k inside).first
        | inr past ↦ subst (λ (m : Matches). IsFirst (matches_of k h) n m.first) (sym (none k past)) (matches_of-absent k n h past)
      ];
      every = λ k i less. elim (cases_lt k h.timers) [
        | inl inside ↦ matches_next-hpet_pulsed_times k i h c.requires.runs c.requires.fits inside ∙ (matches k inside).every i less
        | inr past ↦ matches_next-absent k i h past
            ∙ ap (λ (m : Matches). falls_on m.first m.count (spacing_of (timer_at k h)) (suc i)) (sym (none k past))
      ];
      below = c.pulse_timers-reach.ensures.reach;
    }
