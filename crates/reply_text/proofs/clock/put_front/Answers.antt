use Rattle.std.proofs.Common.{drop, decimal, arith}
use Rattle.std.proofs.lemmas.Fmt.{length-decimal-le}
use Rattle.reply_text.proofs.Fronts.{up_to}
use Rattle.reply_text.proofs.clock.put_front.Goals as goal

pub write_digits-requires : goal.write_digits-requires
write_digits-requires c = (length-decimal-le 20 c.args.line (omega arith) (omega arith) (omega arith), omega (arith, c.told-text))

pub returns-clause-written : goal.returns-clause-written
returns-clause-written c =
    up_to c.write_digits.new.buf (decimal c.args.line) (drop 20 c.args.text.now) c.write_digits.result 20
    c.write_digits.ensures.written c.write_digits.ensures.start
