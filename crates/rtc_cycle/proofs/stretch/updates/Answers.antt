use Rattle.std.proofs.Common.{◌≡◌, ℕ, false, sym, ap, refl, ◌∙◌, arith}
use Rattle.std.proofs.lemmas.Bool.{false≢true}
use Rattle.rtc_cycle.specs.private.Stretch.{recurs}
use Rattle.rtc_cycle.proofs.Times.{updates_in-none}
use Rattle.rtc_cycle.proofs.Recurs.{updates_in-recurs, IsFirst-updates_in}
use Rattle.rtc_cycle.proofs.stretch.updates.Goals as goal

pub returns-then-ends_cycles-clause-count : goal.returns-then-ends_cycles-clause-count
returns-then-ends_cycles-clause-count c =
    let on : (c.args.p.dv ≡ 2) × (c.args.p.set ≡ false) = c.if-ends_cycles.ensures.0 refl in
    c.of.ensures.count
    ∙ ap (λ (m : ℕ). recurs m 32768 c.args.n) c.pulses_to_end.ensures.value
    ∙ updates_in-recurs c.args.p c.requires on.0 on.1 c.args.n

pub returns-then-ends_cycles-clause-first : goal.returns-then-ends_cycles-clause-first
returns-then-ends_cycles-clause-first c =
    let on : (c.args.p.dv ≡ 2) × (c.args.p.set ≡ false) = c.if-ends_cycles.ensures.0 refl in
    rw (c.of.ensures.first, c.pulses_to_end.ensures.value)
    (IsFirst-updates_in c.args.p c.requires on.0 on.1 (omega (arith, c.pulses_to_end.ensures.value, c.pulses_to_end.ensures.later)) c.args.n)

pub returns-else-ends_cycles-clause-count : goal.returns-else-ends_cycles-clause-count
returns-else-ends_cycles-clause-count c =
    sym (updates_in-none c.args.n c.args.p c.requires (λ runs off. false≢true (c.if-ends_cycles.ensures.1 (runs, off))))

pub returns-else-ends_cycles-clause-first : goal.returns-else-ends_cycles-clause-first
returns-else-ends_cycles-clause-first c =
    updates_in-none c.args.n c.args.p c.requires (λ runs off. false≢true (c.if-ends_cycles.ensures.1 (runs, off)))
