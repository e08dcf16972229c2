use Rattle.std.proofs.Common.{◌≡◌, ℕ, ◌+◌, ◌*◌, ◌++◌, ◌∷◌, [], List, take, drop, set, ap, ◌∙◌, arith, append_assoc}
use Rattle.std.proofs.lemmas.List.{take_more_set}
use Rattle.reply_text.specs.Words.{hex_text}
use Rattle.reply_text.proofs.Fronts.{written_after}
use Rattle.reply_text.proofs.Hexes.{length-hex_text}
use Rattle.reply_text.proofs.forward.put_hex.Goals as goal

pub returns-clause-written : goal.returns-clause-written
returns-clause-written c =
    let text : List ℕ = c.args.text.now in
    let at : ℕ = c.args.at in
    let digits : ℕ = 2 * c.args.count in
    let new : List ℕ = c.write_hex.new.buf in
    let start : c.write_hex.result ≡ at + 1 = omega (arith, c.write_hex.ensures.start) in
    let spaced : List ℕ = set text at 32 in
    let hex : List ℕ = hex_text digits c.args.n in
    let same : take (at + 1) new ≡ take (at + 1) spaced = rw start at c.write_hex.ensures.before in
    let after : drop (at + 1) new ≡ hex ++ drop (at + 1 + digits) spaced = rw start at c.write_hex.ensures.written in
    written_after new spaced hex (at + 1) digits (length-hex_text digits c.args.n) same after
    ∙ ap (λ (t : List ℕ). t ++ hex) (take_more_set text at 32 (omega (arith, c.told-text))) ∙ append_assoc (take at text) (32 ∷ []) hex
