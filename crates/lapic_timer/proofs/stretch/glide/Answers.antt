use Rattle.std.proofs.Common.{◌≡◌, ℕ, ◌+◌, ◌-◌, ◌*◌, ◌/◌, ◌%◌, ◌^◌, ◌<◌, rules, ap, ◌∙◌, arith}
use Rattle.std.proofs.lemmas.Nat.{one_shl}
use Rattle.lapic_timer.specs.declared.parts.ApicParts.{ApicParts}
use Rattle.lapic_timer.specs.Parts.{divisor}
use Rattle.lapic_timer.proofs.Glides.{glides, fires-late}
use Rattle.lapic_timer.proofs.Steps.{same_counts}
use Rattle.lapic_timer.proofs.stretch.glide.Goals as goal

pub returns-then-n-ge-LONGEST-clause-fires : goal.returns-then-n-ge-LONGEST-clause-fires
returns-then-n-ge-LONGEST-clause-fires c = λ e some.
    fires-late c.args.parts.now some c.requires.phase c.args.n (search rules) (omega (arith, c.if-n-ge-LONGEST.true))

pub returns-clause-state : goal.returns-clause-state
returns-clause-state c = λ e.
    let p : ApicParts = c.args.parts.now in
    let passed : c.from.result + c.args.n ≡ p.phase + c.args.n = omega (arith, c.from.ensures) in
    let counts : (c.from.result + c.args.n) / 2 ^ c.shift-shift.result ≡ (p.phase + c.args.n) / divisor p.divide =
    ap (λ (x : ℕ). x / 2 ^ c.shift-shift.result) passed ∙ ap (λ (d : ℕ). (p.phase + c.args.n) / d) c.shift-shift.ensures.value in
    let one : 1 * 2 ^ c.shift-shift.result % 18446744073709551616 ≡ divisor p.divide =
    one_shl c.shift-shift.result 64 (omega (arith, c.shift-shift.ensures.small)) ∙ c.shift-shift.ensures.value in
    let rest : (c.from.result + c.args.n) % (1 * 2 ^ c.shift-shift.result % 18446744073709551616) ≡ (p.phase + c.args.n) % divisor p.divide =
    ap (λ (x : ℕ). x % (1 * 2 ^ c.shift-shift.result % 18446744073709551616)) passed ∙ ap (λ (d : ℕ). (p.phase + c.args.n) % d) one in
    let some : 0 < p.current = omega (arith, c.if-counts-from.false, c.from-2.ensures) in
    same_counts p _ (p.current - (p.phase + c.args.n) / divisor p.divide) _ ((p.phase + c.args.n) % divisor p.divide)
    (omega (arith, counts)) rest
    ∙ (glides p some c.requires.phase c.args.n (omega (arith, counts, c.if-counts-from.false, c.from-2.ensures))).1
