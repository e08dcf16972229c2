use Rattle.std.proofs.Common.{◌≤◌, length, drop, decimal, ap, arith, length-append, length-drop}
use Rattle.std.proofs.lemmas.Fmt.{length-decimal-le}
use Rattle.trace_gen.proofs.piece.Piece.digits.Goals as goal

pub write_digits-self-inside-requires : goal.write_digits-self-inside-requires
write_digits-self-inside-requires c =
    let short : length (decimal c.args.n) ≤ 20 = length-decimal-le 20 c.args.n (omega arith) (omega arith) (omega arith) in
    let left = ap length c.self.view_is in
    let of_drop = length-drop c.self.inside.start c.self.inside.bytes in
    let invariant = c.self.invariant in
    (omega arith, omega arith)

pub returns-clause-len : goal.returns-clause-len
returns-clause-len c =
    let short : length (decimal c.args.n) ≤ 20 = length-decimal-le 20 c.args.n (omega arith) (omega arith) (omega arith) in
    let left = ap length c.self.view_is in
    let whole = ap length c.write_digits-self-inside.ensures.written in
    let parts = length-append (decimal c.args.n) (drop c.self.inside.start c.self.inside.bytes) in
    omega arith
