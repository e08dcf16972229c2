-- Letters that the first word of a line begins with.
use Rattle.std.proofs.Common.{◌≡◌, ℕ, ◌≤◌, Bool, true, false, not, ◌&&◌, eqb, length, drop, List, [], ◌∷◌, None, refl, sym, ◌∙◌, ap, IsTrue, inl, inr, arith}
use Rattle.std.specs.List.{onto_first, list_all, starts_with}
use Rattle.std.proofs.lemmas.Bool.{cases_eq, eqb-true, ne_eqb}
use Rattle.trace_text.specs.Tokens.{words_of, rest, first, dec, decimal_past}
use Rattle.trace_text.specs.private.Spelled.{begins, shortened}
use Rattle.trace_text.proofs.FirstWord.{first_word, words_of-cons, letters}

-- the word's bytes are the line's up to a space, which is no letter
first_word-begins : (name bytes : List ℕ) → IsTrue (list_all (λ b. not (eqb b 32)) name)
    → starts_with eqb (first_word (words_of bytes)) name ≡ starts_with eqb bytes name
unfolding words_of
first_word-begins [] bytes h = refl
first_word-begins (b ∷ bs) [] h = refl
first_word-begins (b ∷ bs) (c ∷ cs) h =
    let parts = letters (eqb b 32) (list_all (λ b. not (eqb b 32)) bs) h in
    elim (cases_eq c 32) [
      | inl space ↦ rw space (a_space parts.0)
      | inr other ↦ rw (ne_eqb c 32 other) (a_letter (words_of cs) (first_word-begins bs cs parts.1))
    ]
  where
    a_space : eqb b 32 ≡ false → false ≡ (eqb b 32 && starts_with eqb cs bs)
    a_space e = rw e refl

    a_letter : (ws : List (List ℕ)) → starts_with eqb (first_word ws) bs ≡ starts_with eqb cs bs
        → starts_with eqb (first_word (onto_first c ws)) (b ∷ bs)
        ≡ (eqb b c && starts_with eqb cs bs)
    a_letter [] e = ap (λ (t : Bool). eqb b c && t) e
    a_letter (w ∷ ws) e = ap (λ (t : Bool). eqb b c && t) e

pub begins-is : (name bytes : List ℕ) → IsTrue (list_all (λ b. not (eqb b 32)) name)
    → begins name (words_of bytes) ≡ starts_with eqb bytes name
begins-is name bytes h = ap (begins name) (words_of-cons bytes) ∙ first_word-begins name bytes h

-- without its letters the word is shorter, and the words after it are the same
pub shortened-is : (name bytes : List ℕ) → IsTrue (list_all (λ b. not (eqb b 32)) name)
    → starts_with eqb bytes name ≡ true
    → (length name ≤ length bytes) × (words_of (drop (length name) bytes) ≡ shortened (length name) (words_of bytes))
unfolding words_of
shortened-is [] bytes h e = (omega arith, words_of-cons bytes ∙ sym (ap (shortened 0) (words_of-cons bytes)))
shortened-is (b ∷ bs) [] h e = absurd (cc e)
shortened-is (b ∷ bs) (c ∷ cs) h e =
    let parts = letters (eqb b 32) (list_all (λ b. not (eqb b 32)) bs) h in
    by_letter parts.0 (eqb b c) refl e (shortened-is bs cs parts.1)
  where
    fewer : (ws : List (List ℕ)) → ws ≡ first_word ws ∷ rest ws
        → shortened (length (b ∷ bs)) (onto_first c ws) ≡ shortened (length bs) ws
    fewer [] some = cc
    fewer (w ∷ ws) some = refl

    by_letter : eqb b 32 ≡ false → (same : Bool) → eqb b c ≡ same → (same && starts_with eqb cs bs) ≡ true
        → (starts_with eqb cs bs ≡ true
        → (length bs ≤ length cs) × (words_of (drop (length bs) cs) ≡ shortened (length bs) (words_of cs)))
        → (length (b ∷ bs) ≤ length (c ∷ cs))
        × (words_of (drop (length bs) cs) ≡ shortened (length (b ∷ bs)) (words_of (c ∷ cs)))
    by_letter letter false is e more = absurd (cc e)
    by_letter letter true is e more =
        let no_space : eqb c 32 ≡ false = ap (λ (x : ℕ). eqb x 32) (sym (eqb-true b c is)) ∙ letter in
        let less = more e in
        (omega (arith, less.0), less.1 ∙ sym (fewer (words_of cs) (words_of-cons cs)) ∙ rw no_space refl)

-- a DEC after letters, by what the words begin with
pub decimal_past-there : (name : List ℕ) (ws : List (List ℕ)) → begins name ws ≡ true
    → (first (decimal_past name) ws ≡ dec (shortened (length name) ws)) × (rest (shortened (length name) ws) ≡ rest ws)
unfolding decimal_past
decimal_past-there name [] e = absurd (cc e)
decimal_past-there name (w ∷ ws) e = (rw e refl, refl)

pub decimal_past-none : (name : List ℕ) (ws : List (List ℕ)) → begins name ws ≡ false → first (decimal_past name) ws ≡ None
unfolding decimal_past
decimal_past-none name [] e = refl
decimal_past-none name (w ∷ ws) e = rw e refl
