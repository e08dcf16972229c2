use Rattle.std.proofs.Common.{◌≡◌, ℕ, suc, ◌+◌, ◌-◌, ◌++◌, ◌∷◌, [], List, length, take, drop, ap, sym, ◌∙◌, arith}
use Rattle.std.proofs.Math.Seq.{take-suc}
use Rattle.std.proofs.lemmas.List.{take-append-drop, take_all, length-drop}
use Rattle.trace_text.proofs.usual.after.Goals as goal

pub loop-i-preserved : goal.loop-i-preserved
loop-i-preserved c =
    let text : List ℕ = c.args.text.now in
    let front : List ℕ = c.args.prefix.now in
    let one : suc c.loop-i.i ≡ c.loop-i.i + 1 = omega arith in
    ap (λ (k : ℕ). take k text) (sym one) ∙ take-suc text c.loop-i.i 0 (omega arith)
    ∙ (λ j. c.loop-i.invariant j ++ (c.if-text-i.false j ∷ []))
    ∙ sym (take-suc front c.loop-i.i 0 c.loop-i-test.true) ∙ ap (λ (k : ℕ). take k front) one

-- a text whose first bytes are these
begins : (n i : ℕ) (text front : List ℕ) → n ≡ length front → i ≡ n → take i text ≡ take i front
    → text ≡ front ++ take (length text - n) (drop n text)
begins n i text front all same begin =
    let left : drop n text ≡ take (length text - n) (drop n text) =
    sym (take_all (length text - n) (drop n text) (omega (arith, length-drop n text))) in
    let whole : take n front ≡ front = take_all n front (omega (arith, all)) in
    sym (take-append-drop n text)
    ∙ (λ j. ((ap (λ (k : ℕ). take k text) (sym same) ∙ begin ∙ ap (λ (k : ℕ). take k front) same ∙ whole) j) ++ (left j))

pub returns : goal.returns
returns c =
    begins (length c.args.prefix.now) c.loop-i.i c.args.text.now c.args.prefix.now (omega arith)
    (omega (arith, c.loop-i-test.false, c.loop-i.auto.i-end)) c.loop-i.invariant
