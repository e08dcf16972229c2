-- The next edge: the first nanosecond with an edge is the one that the definition finds.
use Rattle.std.proofs.Common.{◌≡◌, ◌≢◌, ℕ, zero, suc, ◌+◌, ◌-◌, ◌≤◌, refl, subst, sym, ap, ◌∙◌, arith, inl, inr, List, [], ◌∷◌, ◌++◌, Option, Some, None}
use Rattle.std.proofs.lemmas.Bool.{cases_lt}
use Rattle.irq_edges.specs.declared.edges.Edge.{Edge}
use Rattle.board_devices.specs.declared.parts.DeviceParts.{DeviceParts}
use Rattle.board_devices.specs.Run.{run, onward, IsNextEdge}
use Rattle.std.specs.Option.{option_or}
use Rattle.board_core.specs.Next.{at_first_edge, first_edge, next_of}

front-nil : (xs ys : List Edge) → xs ++ ys ≡ [] → xs ≡ []
front-nil [] ys e = refl
front-nil (x ∷ xs) ys e = cc

at_first_edge-some : (t : ℕ) (es : List Edge) → es ≢ [] → at_first_edge t es ≡ Some t
at_first_edge-some t [] some = absurd (some refl)
at_first_edge-some t (e ∷ es) some = refl

module _ (now : ℕ) (d : DeviceParts) where
  none-before : (n : ℕ) → (run now (suc n) d).edges ≡ [] → (run now n d).edges ≡ []
  unfolding run onward
  none-before n e = front-nil (run now n d).edges _ e

  first-none : (n : ℕ) → (run now n d).edges ≡ [] → first_edge now n d ≡ None
  unfolding first_edge
  first-none zero e = refl
  first-none (suc n) e =
      ap (λ (o : Option ℕ). option_or o (at_first_edge (now + n + 1) (run now (suc n) d).edges)) (first-none n (none-before n e))
      ∙ ap (at_first_edge (now + n + 1)) e

  first-some : (m : ℕ) → (run now m d).edges ≡ [] → (run now (suc m) d).edges ≢ [] → first_edge now (suc m) d ≡ Some (now + m + 1)
  unfolding first_edge
  first-some m none some =
      ap (λ (o : Option ℕ). option_or o (at_first_edge (now + m + 1) (run now (suc m) d).edges)) (first-none m none)
      ∙ at_first_edge-some (now + m + 1) (run now (suc m) d).edges some

  first-stays : (n m t : ℕ) → m ≤ n → first_edge now m d ≡ Some t → first_edge now n d ≡ Some t
  unfolding first_edge
  first-stays zero m t le e = let none : m ≡ 0 = omega arith in subst (λ (x : ℕ). first_edge now x d ≡ Some t) none e
  first-stays (suc n) m t le e = elim (cases_lt n m) [
    | inl last ↦ let same : m ≡ suc n = omega arith in subst (λ (x : ℕ). first_edge now x d ≡ Some t) same e
    | inr more ↦ ap (λ (o : Option ℕ). option_or o (at_first_edge (now + n + 1) (run now (suc n) d).edges)) (first-stays n m t more e)
  ]

  -- what is found by division is what the definition finds
  pub next_of-is : (r : Option ℕ) → IsNextEdge now d r → r ≡ next_of now d
  next_of-is None none = sym (first-none (576460752303423487 - now) none)
  next_of-is (Some t) found =
      let m : ℕ = t - 1 - now in
      let after : t - now ≡ suc m = omega (arith, found.0) in
      let at : now + m + 1 ≡ t = omega (arith, found.0) in
      let some : (run now (suc m) d).edges ≢ [] = subst (λ (x : ℕ). (run now x d).edges ≢ []) after found.3 in
      let first : first_edge now (suc m) d ≡ Some t = first-some m found.2 some ∙ ap (λ (x : ℕ). Some x) at in
      sym (first-stays (576460752303423487 - now) (suc m) t (omega (arith, found.0, found.1)) first)
