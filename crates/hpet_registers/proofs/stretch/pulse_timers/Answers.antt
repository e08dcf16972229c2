use Rattle.std.proofs.Common.{◌≡◌, ◌≤◌, ap, inl, inr, arith}
use Rattle.std.proofs.lemmas.Bool.{cases_lt}
use Rattle.hpet_comparator.specs.declared.stretch.Matches.{Matches}
use Rattle.hpet_registers.specs.Stretch.{no_matches}
use Rattle.hpet_registers.proofs.Places.{ArePulsed-more, ArePulsed-all, set-more}
use Rattle.hpet_registers.proofs.stretch.pulse_timers.Goals as goal

pub loop-k-preserved : goal.loop-k-preserved
loop-k-preserved c = record {
  pulsed = ArePulsed-more c.args.parts.now c.args.n c.loop-k.k c.loop-k.parts c.pulse_timer-timer.new.parts c.loop-k.matches c.pulse_timer-timer.result
      c.loop-k.invariant.pulsed (omega arith) c.pulse_timer-timer.ensures.state c.pulse_timer-timer.ensures.matches;
  inside = omega (arith, c.reach_with-reach.ensures.inside);
  small = omega (arith, c.reach_with-reach.ensures.inside);
  quiet = set-more (λ i (m : Matches). c.reach_with-reach.result ≤ i → m.count ≡ 0) c.loop-k.matches c.loop-k.k c.pulse_timer-timer.result no_matches
      (omega (arith, c.loop-k.invariant.pulsed.places))
      (λ j less past. c.loop-k.invariant.quiet j less (omega (arith, past, c.reach_with-reach.ensures.more))) c.reach_with-reach.ensures.here;
}

pub returns-clause-state : goal.returns-clause-state
returns-clause-state c = ArePulsed-all c.args.parts.now c.args.n c.loop-k.k c.loop-k.parts c.loop-k.matches c.requires c.loop-k.invariant.pulsed (omega arith)

pub returns-clause-reach : goal.returns-clause-reach
returns-clause-reach c = record {
  none = λ k past. c.loop-k.invariant.pulsed.none k (omega (arith, past));
  inside = omega (arith, c.loop-k.invariant.inside);
  places = c.loop-k.invariant.small;
  quiet = λ k past. elim (cases_lt k c.loop-k.k) [
    | inl less ↦ c.loop-k.invariant.quiet k less past
    | inr behind ↦ ap (λ (m : Matches). m.count) (c.loop-k.invariant.pulsed.none k behind)
  ];
}
