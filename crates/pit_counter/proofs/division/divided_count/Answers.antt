use Rattle.std.proofs.Common.{◌-◌, ◌%◌, ℕ, ap, sym, ◌∙◌, arith}
use Rattle.std.proofs.Math.Nat.{mod-lt}
use Rattle.pit_counter.specs.Count.{modulus}
use Rattle.pit_counter.specs.private.Stretch.{height}
use Rattle.pit_counter.proofs.Divided.{DividesBy-some, modulus-binary, count-first, count-later}
use Rattle.pit_counter.proofs.division.divided_count.Goals as goal

pub nonzero_rem-result-2 : goal.nonzero_rem-result-2
nonzero_rem-result-2 c = DividesBy-some c.args.period c.args.p.now c.requires.divides

pub overflow_sub-result-3 : goal.overflow_sub-result-3
overflow_sub-result-3 c = omega (arith, mod-lt (c.args.n - c.binary_height-left.result) (nonzero_rem-result-2 c))

pub returns-then-n-left : goal.returns-then-n-left
returns-then-n-left c =
    let p = c.args.p.now in
    let left = c.binary_height-left.ensures in
    ap (λ (m : ℕ). (c.binary_height-left.result - c.args.n) % m) (sym (modulus-binary p.bits c.requires.binary))
    ∙ ap (λ (h : ℕ). (h - c.args.n) % modulus p.bits) left
    ∙ count-first p c.args.n c.requires.divides.counts c.requires.below (omega (arith, c.if-n-left.true, left))

pub returns : goal.returns
returns c =
    let p = c.args.p.now in
    let period = c.args.period in
    let divides = c.requires.divides in
    let left = c.binary_height-left.ensures in
    ap (λ (m : ℕ). (period - (c.args.n - c.binary_height-left.result) % period) % m) (sym (modulus-binary p.bits c.requires.binary))
    ∙ ap (λ (h : ℕ). (period - (c.args.n - h) % period) % modulus p.bits) left
    ∙ ap (λ (m : ℕ). (m - (c.args.n - height p) % m) % modulus p.bits) divides.period
    ∙ count-later p c.args.n divides.counts c.requires.below (omega (arith, divides.short, divides.period))
    (omega (arith, DividesBy-some period p divides, divides.period)) (omega (arith, c.if-n-left.false, left))
