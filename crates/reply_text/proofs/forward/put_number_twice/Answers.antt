use Rattle.std.proofs.Common.{◌≡◌, ℕ, ◌-◌, ◌++◌, ◌∷◌, [], List, take, drop, decimal, replicate, ap, ◌∙◌, arith}
use Rattle.std.proofs.lemmas.Fmt.{length-decimal-le}
use Rattle.reply_text.proofs.Fronts.{chain, digits_before}
use Rattle.reply_text.proofs.forward.put_number_twice.Goals as goal

pub write_digits-start-requires : goal.write_digits-start-requires
write_digits-start-requires c = (length-decimal-le 20 c.args.n (omega arith) (omega arith) (omega arith), omega arith)

pub returns-clause-written : goal.returns-clause-written
returns-clause-written c =
    let before : List ℕ = take c.args.at c.args.text.now in
    let number : List ℕ = decimal c.args.n in
    let start : ℕ = c.write_digits-start.result in
    let digits : take (20 - start) (drop start c.write_digits-start.new.buf) ≡ number =
    digits_before number c.write_digits-start.new.buf (drop 20 (replicate 40 0)) start c.write_digits-start.ensures.written
    c.write_digits-start.ensures.start in
    let once : List ℕ = take c.put_digits-at.result c.put_digits-at.new.text in
    let spaced : List ℕ = take c.put_byte-at.result c.put_byte-at.new.text in
    let all : List ℕ = take c.put_digits.result c.put_digits.new.text in
    chain before number (32 ∷ number) once all
    (c.put_digits-at.ensures.written ∙ ap (λ (t : List ℕ). before ++ t) digits)
    (chain once (32 ∷ []) number spaced all c.put_byte-at.ensures.written
    (c.put_digits.ensures.written ∙ ap (λ (t : List ℕ). spaced ++ t) digits))
