use Rattle.std.proofs.Common.{
  rules,
  ◌≡◌,
  ℕ,
  ◌+◌,
  ◌<◌,
  ◌≤◌,
  List,
  ◌++◌,
  length,
  take,
  drop,
  vec_len,
  vec_capacity,
  ◌∙◌,
  ap,
  sym,
  arith,
  append_assoc,
  length-append,
}
use Rattle.std.proofs.lemmas.List.{take-append-le, length-take}
use Rattle.std.proofs.lemmas.Result.{MatchResult-from_err}
use Rattle.std.specs.Io.{StartsWith}
use Rattle.reply_text.specs.Words.{hexes}
use Rattle.reply_text.proofs.Hexes.{hexes-take-drop}
use Rattle.reply_text.proofs.saved.append_hexes.Goals as goal

-- a text that begins with another still does where more is appended
StartsWith-append : (text more front : List ℕ) → StartsWith text front → StartsWith (text ++ more) front
StartsWith-append text more front e =
    let short : length front ≤ length text = omega (arith, ap length e, length-take (length front) text) in
    take-append-le (length front) text more short ∙ e

-- a piece of the bytes, and those after it, have their digits one after another
parted : (left piece more : List ℕ) → piece ≡ take 64 left → more ≡ drop 64 left → hexes piece ++ hexes more ≡ hexes left
parted left piece more front rest = rw (front, rest) (hexes-take-drop 64 left)

parted-length : (left piece more : List ℕ) → piece ≡ take 64 left → more ≡ drop 64 left
    → length (hexes left) ≡ length (hexes piece) + length (hexes more)
parted-length left piece more front rest = ap length (sym (parted left piece more front rest)) ∙ length-append (hexes piece) (hexes more)

pub loop-piece-preserved : goal.loop-piece-preserved
loop-piece-preserved c =
    let out = c.loop-piece.out.items in
    let left = c.loop-piece.left.now in
    let piece = c.in-Some.piece.now in
    let more = c.in-Some.more.now in
    let cases = c.in-Some.ensures.cases in
    let parts = parted left piece more cases.0 cases.1 in
    let len = parted-length left piece more cases.0 cases.1 in (
      rw (c.in_ok-append_bytes.ensures.appended.ok, c.hexes.ensures)
          (append_assoc out (hexes piece) (hexes more) ∙ ap (λ (t : List ℕ). out ++ t) parts ∙ c.loop-piece.invariant.0),
      omega (arith, c.in_ok-append_bytes.ensures.appended.len, ap length c.hexes.ensures, len, c.loop-piece.invariant.1),
      omega arith,
      rw c.in_ok-append_bytes.ensures.appended.ok (StartsWith-append out c.hexes.result c.args.out.now.items c.loop-piece.invariant.3),
    )

pub returns-in_err-append_bytes-clause-appended : goal.returns-in_err-append_bytes-clause-appended
returns-in_err-append_bytes-clause-appended c =
    let cases = c.in-Some.ensures.cases in
    let len = parted-length c.loop-piece.left.now c.in-Some.piece.now c.in-Some.more.now cases.0 cases.1 in
    let full : vec_capacity c.args.out.now < vec_len c.args.out.now + length (hexes c.args.bytes.now) =
    omega (arith, len, ap length c.hexes.ensures, c.in_err-append_bytes.ensures.appended.full, c.loop-piece.invariant.1, c.loop-piece.invariant.2) in
    record {
      ok = search rules;
      len = search rules;
      full = MatchResult-from_err c.from_residual.result (λ _. Unit {0})
          (λ _. vec_capacity c.args.out.now < vec_len c.args.out.now + length (hexes c.args.bytes.now))
          c.from_residual.ensures.0 (λ _. full);
      grows = omega (arith, c.append_bytes.ensures.appended.grows, c.loop-piece.invariant.2);
    }
