use Rattle.std.proofs.Common.{ℕ, ◌++◌, List, take, drop, decimal, replicate, ap, ◌∙◌, arith}
use Rattle.std.proofs.lemmas.Fmt.{length-decimal-le}
use Rattle.reply_text.proofs.Fronts.{digits_before}
use Rattle.reply_text.proofs.forward.put_number.Goals as goal

pub write_digits-start-requires : goal.write_digits-start-requires
write_digits-start-requires c = (length-decimal-le 20 c.args.n (omega arith) (omega arith) (omega arith), omega arith)

pub returns-clause-written : goal.returns-clause-written
returns-clause-written c =
    let before : List ℕ = take c.args.at c.args.text.now in
    c.put_digits.ensures.written ∙ ap (λ (t : List ℕ). before ++ t)
    (digits_before (decimal c.args.n) c.write_digits-start.new.buf (drop 20 (replicate 40 0)) c.write_digits-start.result
    c.write_digits-start.ensures.written c.write_digits-start.ensures.start)
