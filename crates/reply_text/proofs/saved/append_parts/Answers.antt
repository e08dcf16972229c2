use Rattle.std.proofs.Common.{◌+◌, ◌<◌, ◌++◌, [], ◌∷◌, length, vec_len, vec_capacity, arith, length-append}
use Rattle.std.proofs.lemmas.Result.{MatchResult-from_err}
use Rattle.reply_text.specs.Words.{hexes}
use Rattle.reply_text.proofs.saved.append_parts.Goals as goal

pub returns-in_err-append_hexes-clause-full : goal.returns-in_err-append_hexes-clause-full
returns-in_err-append_hexes-clause-full c =
    let first = length-append c.args.front.now (hexes c.args.bytes.now) in
    let all = length-append (c.args.front.now ++ hexes c.args.bytes.now) (10 ∷ []) in
    let full : vec_capacity c.args.out.now < vec_len c.args.out.now + length (c.args.front.now ++ hexes c.args.bytes.now ++ 10 ∷ []) =
    omega (arith, c.in_ok-append_to.ensures.len, c.in_err-append_hexes.ensures.appended.full) in
    MatchResult-from_err c.from_residual-in_err-append_hexes.result (λ _. Unit {0})
    (λ _. vec_capacity c.args.out.now < vec_len c.args.out.now + length (c.args.front.now ++ hexes c.args.bytes.now ++ 10 ∷ []))
    c.from_residual-in_err-append_hexes.ensures.0 (λ _. full)
