use Rattle.std.proofs.Common.{arith}
use Rattle.std.proofs.lemmas.Fmt.{length-decimal-le}
use Rattle.reply_text.proofs.Fronts.{line_written}
use Rattle.reply_text.proofs.counted.CountedLines.write_line.Goals as goal

pub write_digits-self-inside-requires : goal.write_digits-self-inside-requires
write_digits-self-inside-requires c =
    (length-decimal-le 20 c.args.line (omega arith) (omega arith) (omega arith), omega (arith, c.self.told))

pub invariant_of-self : goal.invariant_of-self
invariant_of-self c =
    line_written _ _ _ _ _ _ _ _ c.self.invariant c.self.told (omega (arith, c.self.told, c.write_digits-self-inside.auto.buf))
    c.write_digits-self-inside.ensures.start c.write_digits-self-inside.ensures.written
