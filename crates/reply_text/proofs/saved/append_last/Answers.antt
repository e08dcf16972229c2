use Rattle.std.proofs.Common.{◌≡◌, ℕ, ◌*◌, List, ◌++◌, length, take, drop, replicate, ap, subst, ◌∙◌}
use Rattle.reply_text.specs.Words.{hexes}
use Rattle.reply_text.specs.private.Appended.{IsAppended}
use Rattle.reply_text.proofs.Hexes.{take-hexes}
use Rattle.reply_text.proofs.saved.append_last.Goals as goal

pub returns-clause-appended : goal.returns-clause-appended
returns-clause-appended c =
    let bytes = c.args.bytes.now in
    let is : take (2 * length bytes) c.hexes.result ≡ hexes bytes =
    ap (λ (t : List ℕ). take (2 * length bytes) t)
    (c.hexes.ensures ∙ ap (λ (xs : List ℕ). hexes (xs ++ drop (length bytes) (replicate 64 0))) c.copy_from_slice.ensures.after)
    ∙ take-hexes bytes (drop (length bytes) (replicate 64 0)) in
    subst (λ (t : List ℕ). IsAppended c.args.out.now c.append_bytes.new.out t c.append_bytes.result) is c.append_bytes.ensures.appended
