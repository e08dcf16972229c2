use Rattle.std.proofs.Common.{◌≡◌, length, subst, arith}
use Rattle.reply_text.proofs.Hexes.{AreDigits, digits-all}
use Rattle.reply_text.proofs.saved.hexes.Goals as goal

pub returns : goal.returns
returns c =
    let all : c.loop-k.k ≡ length c.args.piece.now = omega (arith, c.told-piece, c.loop-k-test.false, c.loop-k.auto.k-end) in
    digits-all c.args.piece.now c.loop-k.text (omega (arith, c.told-piece, c.loop-k.invariant.0))
    (subst (AreDigits c.args.piece.now c.loop-k.text) all c.loop-k.invariant.1)
