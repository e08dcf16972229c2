-- What the answers to lines keep true of a progress stays true over any bytes.
use Rattle.std.proofs.Common.{◌≡◌, ℕ, ◌==◌, ltb, List, [], ◌∷◌, ◌++◌, length, Option, Some, None, refl}
use Rattle.std.proofs.lemmas.Bool.{cond_both}
use Rattle.trace_loop.specs.Progress.{limit_of, Answer, Progress, answered, checked, heard, after_bytes, closed}

-- in a trace that has not ended: a line is answered, or has one byte more
module _ {A E : Type 0} (answer : ℕ → A → List ℕ → Answer A E) (P : Progress A E → Type 0)
    (answers : (p : Progress A E) → p.end ≡ None → P p → P (answered answer p))
    (grows : (b : ℕ) (p : Progress A E) → p.end ≡ None → P p → P (record p { text = p.text ++ b ∷ [] })) where
  stays-heard : (end : Option E) (b : ℕ) (p : Progress A E) → p.end ≡ end → P p → P (heard answer end b p)
  stays-heard None b p none here =
      let longer : Progress A E = record p { text = p.text ++ b ∷ [] } in
      let there : P longer = grows b p none here in
      cond_both (b == 10) (answered answer p) (checked answer longer) P (λ _. answers p none here)
      (λ _. cond_both (ltb (limit_of longer.text) (length longer.text)) (answered answer longer) longer P
      (λ _. answers longer none there) (λ _. there))
  stays-heard (Some e) b p is here = here

  pub stays : (bytes : List ℕ) (p : Progress A E) → P p → P (after_bytes answer bytes p)
  stays [] p here = here
  stays (b ∷ bs) p here = stays bs (heard answer p.end b p) (stays-heard p.end b p refl here)

  pub stays-closed : (p : Progress A E) → P p → P (closed answer p)
  stays-closed p here = cond_both (length p.text == 0) p (heard answer p.end 10 p) P (λ _. here)
      (λ _. stays-heard p.end 10 p refl here)
