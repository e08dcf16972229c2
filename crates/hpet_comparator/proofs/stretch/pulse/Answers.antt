use Rattle.std.proofs.Common.{◌≡◌, suc, ◌+◌, ◌-◌, ◌/◌, Some, ap, sym, ◌∙◌, arith}
use Rattle.hpet_comparator.specs.Stretch.{matches_in, spacing_of, falls_on}
use Rattle.hpet_comparator.specs.private.Rounds.{advanced}
use Rattle.hpet_comparator.proofs.Rounds.{IsDue-before, early, IsFirst-due, matches_in-due, pulsed_times-advanced}
use Rattle.hpet_comparator.proofs.Falls.{matches_at-before, matches_at-falls}
use Rattle.hpet_comparator.proofs.stretch.pulse.Goals as goal

pub returns-then-n-before-clause-state : goal.returns-then-n-before-clause-state
returns-then-n-before-clause-state c = sym
    (early c.args.from (c.pulses_before-before.result + 1) c.args.n c.args.parts.now (IsDue-before c.args.from c.pulses_before-before.result c.args.parts.now c.requires.valid c.pulses_before-before.ensures.value) (omega arith)).0

pub returns-then-n-before-clause-count : goal.returns-then-n-before-clause-count
returns-then-n-before-clause-count c = sym
    (early c.args.from (c.pulses_before-before.result + 1) c.args.n c.args.parts.now (IsDue-before c.args.from c.pulses_before-before.result c.args.parts.now c.requires.valid c.pulses_before-before.ensures.value) (omega arith)).1

pub returns-then-n-before-clause-first : goal.returns-then-n-before-clause-first
returns-then-n-before-clause-first c =
    (early c.args.from (c.pulses_before-before.result + 1) c.args.n c.args.parts.now (IsDue-before c.args.from c.pulses_before-before.result c.args.parts.now c.requires.valid c.pulses_before-before.ensures.value) (omega arith)).1

pub returns-then-n-before-clause-every : goal.returns-then-n-before-clause-every
returns-then-n-before-clause-every c = λ i inside. matches_at-before c.args.from
    (c.pulses_before-before.result + 1) i c.args.parts.now (IsDue-before c.args.from c.pulses_before-before.result c.args.parts.now c.requires.valid c.pulses_before-before.ensures.value) (omega arith)

pub returns-clause-state : goal.returns-clause-state
returns-clause-state c =
    let value : 1 + c.further_matches-count.result
    ≡ 1 + (c.args.n - (c.pulses_before-before.result + 1)) / spacing_of c.args.parts.now = ap (λ x. 1 + x) c.further_matches-count.ensures.value in
    let count : matches_in c.args.from c.args.parts.now c.args.n
    ≡ 1 + c.further_matches-count.result = matches_in-due c.args.from
    (c.pulses_before-before.result + 1) c.args.n c.args.parts.now c.requires.valid (IsDue-before c.args.from c.pulses_before-before.result c.args.parts.now c.requires.valid c.pulses_before-before.ensures.value) (omega arith) ∙ sym value in
    ap (λ x. record c.args.parts.now { comparator = x }) c.advanced_comparator-parts.ensures.value
    ∙ sym (pulsed_times-advanced c.args.from (c.pulses_before-before.result + 1) c.args.n c.args.parts.now c.requires.valid (IsDue-before c.args.from c.pulses_before-before.result c.args.parts.now c.requires.valid c.pulses_before-before.ensures.value)
    ∙ ap (λ q. advanced q c.args.parts.now) count)

pub returns-clause-count : goal.returns-clause-count
returns-clause-count c =
    let value : 1 + c.further_matches-count.result
    ≡ 1 + (c.args.n - (c.pulses_before-before.result + 1)) / spacing_of c.args.parts.now = ap (λ x. 1 + x) c.further_matches-count.ensures.value in
    value ∙ sym
    (matches_in-due c.args.from (c.pulses_before-before.result + 1) c.args.n c.args.parts.now c.requires.valid (IsDue-before c.args.from c.pulses_before-before.result c.args.parts.now c.requires.valid c.pulses_before-before.ensures.value)
    (omega arith))

pub returns-clause-first : goal.returns-clause-first
returns-clause-first c = IsFirst-due c.args.from (c.pulses_before-before.result + 1) c.args.n c.args.parts.now (IsDue-before c.args.from c.pulses_before-before.result c.args.parts.now c.requires.valid c.pulses_before-before.ensures.value) (omega arith)

pub returns-clause-every : goal.returns-clause-every
returns-clause-every c = λ i inside.
    let value : 1 + c.further_matches-count.result
    ≡ 1 + (c.args.n - (c.pulses_before-before.result + 1)) / spacing_of c.args.parts.now = ap (λ x. 1 + x) c.further_matches-count.ensures.value in
    matches_at-falls c.args.from (c.pulses_before-before.result + 1) c.args.n i c.args.parts.now c.requires.valid (IsDue-before c.args.from c.pulses_before-before.result c.args.parts.now c.requires.valid c.pulses_before-before.ensures.value) inside
    ∙ ap (λ x. falls_on (Some (c.pulses_before-before.result + 1)) x (spacing_of c.args.parts.now) (suc i)) (sym value)
