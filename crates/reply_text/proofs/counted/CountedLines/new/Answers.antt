use Rattle.std.proofs.Common.{refl, arith}
use Rattle.std.proofs.lemmas.Fmt.{decimal_digit}
use Rattle.reply_text.proofs.counted.CountedLines.new.Goals as goal

pub invariant_of-result : goal.invariant_of-result
invariant_of-result c =
    let zero = decimal_digit 0 (omega arith) in
    record {
      start_is = rw zero refl;
      end_is = rw zero refl;
      short = omega arith;
      written = rw zero refl;
    }
