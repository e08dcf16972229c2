use Rattle.std.proofs.Common.{◌≡◌, ap, sym, ◌∙◌, arith}
use Rattle.hpet_comparator.specs.declared.parts.TimerParts.{TimerParts}
use Rattle.hpet_comparator.specs.Stretch.{pulsed_times, matches_in}
use Rattle.hpet_comparator.proofs.Steps.{pulsed_times-quiet}
use Rattle.hpet_registers.specs.Parts.{timer_at}
use Rattle.hpet_registers.proofs.Places.{unmatched}
use Rattle.hpet_registers.proofs.stretch.pulse_timer.Goals as goal

pub returns-else-matches-gt0-clause-state : goal.returns-else-matches-gt0-clause-state
returns-else-matches-gt0-clause-state c =
    let t : TimerParts = timer_at c.args.k c.args.parts.now in
    let none : c.pulses-matches.result.count ≡ 0 = omega arith in
    let count : c.pulses-matches.result.count ≡ matches_in c.args.parts.now.counter t c.args.n =
    c.pulses-matches.ensures.count ∙ ap (λ (s : TimerParts). matches_in c.args.parts.now.counter s c.args.n) c.of_valid_parts-timer.ensures in
    unmatched c.args.parts.now c.args.k c.pulses-matches.result.count (pulsed_times c.args.parts.now.counter c.args.n t) none
    (pulsed_times-quiet c.args.parts.now.counter c.args.n t (sym count ∙ none))
