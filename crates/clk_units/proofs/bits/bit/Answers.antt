use Rattle.std.proofs.Common.{◌≡◌, ℕ, ◌/◌, ◌%◌, ◌≤◌, ◌^◌, eqb, sym, ap, ◌∙◌, arith}
use Rattle.std.proofs.Math.Nat.{div-eq_of_lt}
use Rattle.std.proofs.Math.Pow.{pow_mono}
use Rattle.std.proofs.lemmas.Bool.{le-ltb}
use Rattle.clk_units.proofs.bits.bit.Goals as goal

pub returns-else-k-lt-BITS : goal.returns-else-k-lt-BITS
returns-else-k-lt-BITS c =
    let far : 2 ^ 64 ≤ 2 ^ c.args.k = pow_mono c.if-k-lt-BITS.false in
    let none : c.args.n / 2 ^ c.args.k ≡ 0 = div-eq_of_lt (omega arith) in
    le-ltb c.args.k 64 c.if-k-lt-BITS.false ∙ sym (ap (λ (q : ℕ). eqb (q % 2) 1) none)
