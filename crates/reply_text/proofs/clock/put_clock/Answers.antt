use Rattle.std.proofs.Common.{ℕ, ◌++◌, ◌∷◌, [], List, take}
use Rattle.std.specs.Prelude.{codes}
use Rattle.reply_text.specs.private.Readings.{reading_text}
use Rattle.reply_text.proofs.Fronts.{chain}
use Rattle.reply_text.proofs.clock.put_clock.Goals as goal

pub returns-clause-written : goal.returns-clause-written
returns-clause-written c =
    let word : List ℕ = codes " clock " in
    let reading : List ℕ = reading_text c.args.reply.now in
    let front : List ℕ = take 20 c.args.text.now in
    let after_word : List ℕ = take c.put_word-at.result c.put_word-at.new.text in
    let after_reading : List ℕ = take c.put_reading-at.result c.put_reading-at.new.text in
    let all : List ℕ = take c.put_byte.result c.put_byte.new.text in
    chain front word (reading ++ 10 ∷ []) after_word all c.put_word-at.ensures.written
    (chain after_word reading (10 ∷ []) after_reading all c.put_reading-at.ensures.written c.put_byte.ensures.written)
