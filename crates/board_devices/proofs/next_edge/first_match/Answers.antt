use Rattle.std.proofs.Common.{◌≡◌, ℕ, ◌%◌, ◌^◌, ◌<◌, ◌≤◌, ◌↔◌, sym, subst, arith}
use Rattle.hpet_comparator.specs.declared.parts.TimerParts.{TimerParts}
use Rattle.hpet_comparator.specs.Parts.{IsTimer}
use Rattle.hpet_comparator.specs.Stretch.{matches_in}
use Rattle.hpet_registers.specs.declared.parts.HpetParts.{HpetParts}
use Rattle.hpet_registers.specs.Parts.{timer_at}
use Rattle.board_devices.proofs.FirstOf.{match-standing, match-later, match-next}
use Rattle.board_devices.proofs.next_edge.first_match.Goals as goal

pub returns-then-parts-eq0-clause-value : goal.returns-then-parts-eq0-clause-value
returns-then-parts-eq0-clause-value c = match-standing c.args.k c.args.n c.args.h.now
    (subst (λ (h : HpetParts). h.config % 2 ≡ 0) c.parts-parts.ensures.parts c.if-parts-eq0.true)

-- the pulses before a timer's next match, in the HPET
quiet_in : (h p : HpetParts) (t : TimerParts) (k b : ℕ) → p ≡ h → t ≡ timer_at k h → IsTimer t
    → ((m : ℕ) → IsTimer t → (m ≤ b) ↔ (matches_in p.counter t m ≡ 0))
    → (m : ℕ) → (m ≤ b) ↔ (matches_in h.counter (timer_at k h) m ≡ 0)
quiet_in h p t k b same timer valid quiet m =
    subst (λ (g : HpetParts). (m ≤ b) ↔ (matches_in g.counter (timer_at k h) m ≡ 0)) same
    (subst (λ (u : TimerParts). (m ≤ b) ↔ (matches_in p.counter u m ≡ 0)) timer (quiet m valid))

pub returns-then-n-before-clause-value : goal.returns-then-n-before-clause-value
returns-then-n-before-clause-value c =
    let same : c.parts-parts.result ≡ c.args.h.now = c.parts-parts.ensures.parts in
    let fits : c.parts-parts.result.counter < 2 ^ 64 = omega (arith, c.parts-parts.type_inv.1.1.0) in
    match-later c.args.k c.args.n c.pulses_before-before.result c.args.h.now
    (λ even. c.if-parts-eq0.false (subst (λ (h : HpetParts). h.config % 2 ≡ 0) (sym same) even))
    (subst (λ (h : HpetParts). h.counter < 2 ^ 64) same fits) c.requires.place
    (quiet_in c.args.h.now c.parts-parts.result c.timer.result c.args.k c.pulses_before-before.result same c.timer.ensures.value
    (c.timer.ensures.valid c.requires.place) c.pulses_before-before.ensures.quiet)
    c.if-n-before.true

pub returns-clause-value : goal.returns-clause-value
returns-clause-value c =
    let same : c.parts-parts.result ≡ c.args.h.now = c.parts-parts.ensures.parts in
    let fits : c.parts-parts.result.counter < 2 ^ 64 = omega (arith, c.parts-parts.type_inv.1.1.0) in
    match-next c.args.k c.args.n c.pulses_before-before.result c.args.h.now
    (λ even. c.if-parts-eq0.false (subst (λ (h : HpetParts). h.config % 2 ≡ 0) (sym same) even))
    (subst (λ (h : HpetParts). h.counter < 2 ^ 64) same fits) c.requires.place
    (quiet_in c.args.h.now c.parts-parts.result c.timer.result c.args.k c.pulses_before-before.result same c.timer.ensures.value
    (c.timer.ensures.valid c.requires.place) c.pulses_before-before.ensures.quiet)
    (omega (arith, c.if-n-before.false))
