-- Where there is no edge, no count of rises grows.
use Rattle.std.proofs.Common.{◌≡◌, ℕ, ◌+◌, Bool, true, false, cond, leb, List, [], ◌∷◌, ◌++◌, length, drop, refl, ap, subst, sym, ◌∙◌, add-zero, arith}
use Rattle.std.proofs.lemmas.List.{nil_from_length}
use Rattle.irq_edges.specs.declared.edges.Edge.{Edge}
use Rattle.irq_edges.specs.Lines.{line_numbers}
use Rattle.board_devices.specs.Rises.{lifts, rises_with}
use Rattle.board_devices.proofs.Rises.{lifts-++}
use Rattle.board_core.specs.Rises.{rises_after}

rises_with-none : (ns rises : List ℕ) → rises_with [] ns rises ≡ rises
rises_with-none [] rises = refl
rises_with-none (n ∷ ns) [] = refl
rises_with-none (n ∷ ns) (r ∷ rises) = ap (λ (x : ℕ). x ∷ rises_with [] ns rises) (add-zero r) ∙ ap (λ (xs : List ℕ). r ∷ xs) (rises_with-none ns rises)

pub none_counted : (es : List Edge) (rises : List ℕ) → length es ≡ 0 → rises_with es line_numbers rises ≡ rises
none_counted es rises none =
    subst (λ (xs : List Edge). rises_with xs line_numbers rises ≡ rises) (sym (nil_from_length es none)) (rises_with-none line_numbers rises)

pub rises_after-none : (format : ℕ) (rises : List ℕ) → rises_after format [] rises ≡ rises
rises_after-none format rises = by (leb 2 format)
  where
    by : (b : Bool) → cond b (rises_with [] line_numbers rises) rises ≡ rises
    by true = rises_with-none line_numbers rises
    by false = refl

-- after the last edge there is none
drop-length : (es : List Edge) → drop (length es) es ≡ []
drop-length [] = refl
drop-length (e ∷ es) = drop-length es

pub none_after : (format from : ℕ) (es : List Edge) (rises : List ℕ) → from ≡ length es → rises_after format (drop from es) rises ≡ rises
none_after format from es rises end =
    ap (λ (n : ℕ). rises_after format (drop n es) rises) end
    ∙ ap (λ (xs : List Edge). rises_after format xs rises) (drop-length es)
    ∙ rises_after-none format rises

-- the edges of one list after those of another
rises_with-append : (es fs : List Edge) (ns rises : List ℕ) → rises_with (es ++ fs) ns rises ≡ rises_with fs ns (rises_with es ns rises)
rises_with-append es fs [] rises = refl
rises_with-append es fs (n ∷ ns) [] = refl
rises_with-append es fs (n ∷ ns) (r ∷ rises) =
    let sum : r + lifts n (es ++ fs) ≡ r + lifts n es + lifts n fs = omega (arith, lifts-++ n es fs) in
    ap (λ (x : ℕ). x ∷ rises_with (es ++ fs) ns rises) sum ∙ ap (λ (xs : List ℕ). (r + lifts n es + lifts n fs) ∷ xs) (rises_with-append es fs ns rises)

pub rises_after-append : (format : ℕ) (es fs : List Edge) (rises : List ℕ)
    → rises_after format (es ++ fs) rises ≡ rises_after format fs (rises_after format es rises)
rises_after-append format es fs rises = by (leb 2 format)
  where
    by : (b : Bool) → cond b (rises_with (es ++ fs) line_numbers rises) rises
        ≡ cond b (rises_with fs line_numbers (cond b (rises_with es line_numbers rises) rises)) (cond b (rises_with es line_numbers rises) rises)
    by true = rises_with-append es fs line_numbers rises
    by false = refl
