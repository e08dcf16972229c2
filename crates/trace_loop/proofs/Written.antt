-- What a sink holds after several puts.
use Rattle.std.proofs.Common.{◌≡◌, ℕ, zero, suc, ◌+◌, ◌-◌, ◌<◌, ◌≤◌, List, [], ◌∷◌, ◌++◌, Result, Ok, Err, OnErr, length, take, drop, get_or, sym, ap, ◌∙◌, arith, append_assoc, length-drop}
use Rattle.std.specs.List.{flat_map}
use Rattle.std.proofs.Math.Seq.{take-add}
use Rattle.std.proofs.lemmas.List.{take_all}
use Rattle.trace_loop.specs.Outcome.{Begins}

-- a text up to a place, and a piece from there
pub take_piece : (text : List ℕ) (i n : ℕ) → i + n ≤ length text → take i text ++ take n (take (length text - i) (drop i text)) ≡ take (i + n) text
take_piece text i n within =
    let fits : length (drop i text) ≤ length text - i = omega (arith, length-drop i text) in
    ap (λ (l : List ℕ). take i text ++ take n l) (take_all (length text - i) (drop i text) fits) ∙ sym (take-add i n text)

-- a prefix of one of several texts, after those before it
pub begins_each : {X : Type 0} (f : X → List ℕ) (xs : List X) (i : ℕ) (d : X) (cut text : List ℕ) → i < length xs → text ≡ f (get_or xs i d) → Begins cut text
    → Begins (flat_map f (take i xs) ++ cut) (flat_map f xs)
begins_each f [] i d cut text l is front = absurd (omega arith)
begins_each f (x ∷ xs) zero d cut text l is front =
    (front.0 ++ flat_map f xs, ap (λ t. t ++ flat_map f xs) (sym is ∙ front.1) ∙ append_assoc cut front.0 (flat_map f xs))
begins_each f (x ∷ xs) (suc i) d cut text l is front =
    let b = begins_each f xs i d cut text (omega arith) is front in
    let before : List ℕ = flat_map f (take i xs) in (
      b.0,
      ap (λ t. f x ++ t) b.1 ∙ sym (append_assoc (f x) (before ++ cut) b.0) ∙ ap (λ t. t ++ b.0) (sym (append_assoc (f x) before cut)),
    )

-- a fact of any result that is an error
pub on_err_from : {T E : Type 0} → (r : Result T E) (A : Type 0) → A → OnErr r A
on_err_from {T} {E} (Ok x) A h = tt
on_err_from {T} {E} (Err e) A h = h
