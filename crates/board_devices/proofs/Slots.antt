-- The lines that the timers drive, slot by slot.
use Rattle.std.proofs.Common.{◌≡◌, ℕ, zero, suc, ◌<◌, ◌≤◌, Bool, true, false, cond, eqb, ltb, ◌&&◌, not, ◌⊎◌, List, [], ◌∷◌, get_or, Option, Some, None}
use Rattle.std.proofs.Common.{refl, ap, sym, subst, ◌∙◌, inl, inr, arith}
use Rattle.std.proofs.lemmas.Bool.{cases_eq, ne_eqb, le-ltb}
use Rattle.hpet_comparator.specs.declared.parts.TimerParts.{TimerParts}
use Rattle.hpet_comparator.specs.Parts.{route_of}
use Rattle.hpet_registers.specs.declared.parts.HpetParts.{HpetParts}
use Rattle.hpet_registers.specs.Parts.{IsHpet, IsPlace, no_timer, timer_at, is_legacy}
use Rattle.board_devices.specs.private.Stretch.{either_from, slot_of_route, slot_of, with_rise, slots_from, routed_from}
use Rattle.board_devices.proofs.Places.{all_eight}

pub either-none : (x : Option ℕ) → either_from x None ≡ x
unfolding either_from
either-none None = refl
either-none (Some a) = refl

-- the lines to which a route leads
by_route : (r : ℕ) (u x0 x1 x20 x21 x22 x23 : Option ℕ) → with_rise u (slot_of_route r) (x0 ∷ x1 ∷ x20 ∷ x21 ∷ x22 ∷ x23 ∷ [])
    ≡ x0 ∷ x1 ∷ either_from x20 (cond (eqb r 20 && true) u None) ∷ either_from x21 (cond (eqb r 21 && true) u None)
    ∷ either_from x22 (cond (eqb r 22 && true) u None) ∷ either_from x23 (cond (eqb r 23 && true) u None) ∷ []
by_route r u x0 x1 x20 x21 x22 x23 = elim (cases_eq r 20) [
  | inl e ↦ subst Goal (sym e) (at20 u)
  | inr a ↦ elim (cases_eq r 21) [
    | inl e ↦ subst Goal (sym e) (at21 u)
    | inr b ↦ elim (cases_eq r 22) [
      | inl e ↦ subst Goal (sym e) (at22 u)
      | inr g ↦ elim (cases_eq r 23) [
        | inl e ↦ subst Goal (sym e) (at23 u)
        | inr h ↦ rw (ne_eqb r 20 a, ne_eqb r 21 b, ne_eqb r 22 g, ne_eqb r 23 h)
            (rw (either-none x20, either-none x21, either-none x22, either-none x23) (nowhere u))
      ]
    ]
  ]
]
  where
    Goal : ℕ → Type 0
    Goal r = with_rise u (slot_of_route r) (x0 ∷ x1 ∷ x20 ∷ x21 ∷ x22 ∷ x23 ∷ [])
        ≡ x0 ∷ x1 ∷ either_from x20 (cond (eqb r 20 && true) u None) ∷ either_from x21 (cond (eqb r 21 && true) u None)
        ∷ either_from x22 (cond (eqb r 22 && true) u None) ∷ either_from x23 (cond (eqb r 23 && true) u None) ∷ []

    nowhere : (u : Option ℕ) → with_rise u None (x0 ∷ x1 ∷ x20 ∷ x21 ∷ x22 ∷ x23 ∷ []) ≡ x0 ∷ x1 ∷ x20 ∷ x21 ∷ x22 ∷ x23 ∷ []
    nowhere None = refl
    nowhere (Some t) = refl

    at20 : (u : Option ℕ) → with_rise u (Some 2) (x0 ∷ x1 ∷ x20 ∷ x21 ∷ x22 ∷ x23 ∷ [])
        ≡ x0 ∷ x1 ∷ either_from x20 u ∷ either_from x21 None ∷ either_from x22 None ∷ either_from x23 None ∷ []
    at20 None = rw (either-none x20, either-none x21, either-none x22, either-none x23) refl
    at20 (Some t) = rw (either-none x21, either-none x22, either-none x23) refl

    at21 : (u : Option ℕ) → with_rise u (Some 3) (x0 ∷ x1 ∷ x20 ∷ x21 ∷ x22 ∷ x23 ∷ [])
        ≡ x0 ∷ x1 ∷ either_from x20 None ∷ either_from x21 u ∷ either_from x22 None ∷ either_from x23 None ∷ []
    at21 None = rw (either-none x20, either-none x21, either-none x22, either-none x23) refl
    at21 (Some t) = rw (either-none x20, either-none x22, either-none x23) refl

    at22 : (u : Option ℕ) → with_rise u (Some 4) (x0 ∷ x1 ∷ x20 ∷ x21 ∷ x22 ∷ x23 ∷ [])
        ≡ x0 ∷ x1 ∷ either_from x20 None ∷ either_from x21 None ∷ either_from x22 u ∷ either_from x23 None ∷ []
    at22 None = rw (either-none x20, either-none x21, either-none x22, either-none x23) refl
    at22 (Some t) = rw (either-none x20, either-none x21, either-none x23) refl

    at23 : (u : Option ℕ) → with_rise u (Some 5) (x0 ∷ x1 ∷ x20 ∷ x21 ∷ x22 ∷ x23 ∷ [])
        ≡ x0 ∷ x1 ∷ either_from x20 None ∷ either_from x21 None ∷ either_from x22 None ∷ either_from x23 u ∷ []
    at23 None = rw (either-none x20, either-none x21, either-none x22, either-none x23) refl
    at23 (Some t) = rw (either-none x20, either-none x21, either-none x22) refl

-- lines 0 and 8 after n timers: those of timers 0 and 1 under legacy replacement, else given
first : Bool → Option ℕ → (ℕ → Option ℕ) → ℕ → Option ℕ
first true pit f zero = None
first true pit f (suc n) = f 0
first false pit f n = pit

second : Bool → Option ℕ → (ℕ → Option ℕ) → ℕ → Option ℕ
second true irq f zero = None
second true irq f (suc zero) = None
second true irq f (suc (suc n)) = f 1
second false irq f n = irq

-- one timer more, by whether there is legacy replacement, and by its route
module _ (f : ℕ → Option ℕ) (pit irq : Option ℕ) (x20 x21 x22 x23 : Option ℕ) where
  behind : (l : Bool) (k r : ℕ) → List (Option ℕ)
  behind l k r = first l pit f (suc k) ∷ second l irq f (suc k) ∷ either_from x20 (cond (eqb r 20 && not (l && ltb k 2)) (f k) None)
      ∷ either_from x21 (cond (eqb r 21 && not (l && ltb k 2)) (f k) None) ∷ either_from x22 (cond (eqb r 22 && not (l && ltb k 2)) (f k) None)
      ∷ either_from x23 (cond (eqb r 23 && not (l && ltb k 2)) (f k) None) ∷ []

  hidden : (b : Bool) (u x : Option ℕ) → x ≡ either_from x (cond (b && false) u None)
  hidden true u x = sym (either-none x)
  hidden false u x = sym (either-none x)

  step : (l : Bool) (k r : ℕ) → with_rise (f k) (cond (l && ltb k 2) (Some k) (slot_of_route r))
      (first l pit f k ∷ second l irq f k ∷ x20 ∷ x21 ∷ x22 ∷ x23 ∷ []) ≡ behind l k r
  unfolding behind first second either_from
  step false k r = by_route r (f k) pit irq x20 x21 x22 x23
  step true zero r = to_front (f 0)
      ∙ rw (← hidden (eqb r 20) (f 0) x20, ← hidden (eqb r 21) (f 0) x21, ← hidden (eqb r 22) (f 0) x22, ← hidden (eqb r 23) (f 0) x23) refl
    where
      to_front : (u : Option ℕ) → with_rise u (Some 0) (None ∷ None ∷ x20 ∷ x21 ∷ x22 ∷ x23 ∷ []) ≡ u ∷ None ∷ x20 ∷ x21 ∷ x22 ∷ x23 ∷ []
      to_front None = refl
      to_front (Some t) = refl
  step true (suc zero) r = to_second (f 1)
      ∙ rw (← hidden (eqb r 20) (f 1) x20, ← hidden (eqb r 21) (f 1) x21, ← hidden (eqb r 22) (f 1) x22, ← hidden (eqb r 23) (f 1) x23) refl
    where
      to_second : (u : Option ℕ) → with_rise u (Some 1) (f 0 ∷ None ∷ x20 ∷ x21 ∷ x22 ∷ x23 ∷ []) ≡ f 0 ∷ u ∷ x20 ∷ x21 ∷ x22 ∷ x23 ∷ []
      to_second None = refl
      to_second (Some t) = refl
  step true (suc (suc k)) r =
      let past : ltb (suc (suc k)) 2 ≡ false = le-ltb (suc (suc k)) 2 (omega arith) in
      rw past (by_route r (f (suc (suc k))) (f 0) (f 1) x20 x21 x22 x23)

module _ (h : HpetParts) (us : List (Option ℕ)) (f : ℕ → Option ℕ) (pit irq : Option ℕ) (l : Bool) (l_is : is_legacy h ≡ l)
    (us_are : (k : ℕ) → k < 8 → get_or us k None ≡ f k) where
  -- the lines after n timers
  so_far : ℕ → List (Option ℕ)
  so_far n = first l pit f n ∷ second l irq f n ∷ routed_from 20 n h us ∷ routed_from 21 n h us ∷ routed_from 22 n h us ∷ routed_from 23 n h us ∷ []

  next : (k : ℕ) → k < 8 → with_rise (f k) (slot_of k h) (so_far k) ≡ so_far (suc k)
  unfolding so_far behind
  next k small =
      ap (λ (b : Bool). with_rise (f k) (cond (b && ltb k 2) (Some k) (slot_of_route (route_of (timer_at k h).config))) (so_far k)) l_is
      ∙ step f pit irq (routed_from 20 k h us) (routed_from 21 k h us) (routed_from 22 k h us) (routed_from 23 k h us) l k (route_of (timer_at k h).config)
      ∙ ap (λ (b : Bool). first l pit f (suc k) ∷ second l irq f (suc k) ∷ with_line 20 b (f k) ∷ with_line 21 b (f k)
      ∷ with_line 22 b (f k) ∷ with_line 23 b (f k) ∷ []) (sym l_is)
      ∙ ap (λ (u : Option ℕ). first l pit f (suc k) ∷ second l irq f (suc k) ∷ with_line 20 (is_legacy h) u ∷ with_line 21 (is_legacy h) u
      ∷ with_line 22 (is_legacy h) u ∷ with_line 23 (is_legacy h) u ∷ []) (sym (us_are k small))
    where
      with_line : ℕ → Bool → Option ℕ → Option ℕ
      with_line line b u = either_from (routed_from line k h us) (cond (eqb (route_of (timer_at k h).config) line && not (b && ltb k 2)) u None)

  all_slots : (n : ℕ) → n ≤ 8 → slots_from n h f (first l pit f 0 ∷ second l irq f 0 ∷ None ∷ None ∷ None ∷ None ∷ []) ≡ so_far n
  unfolding so_far
  all_slots zero few = refl
  all_slots (suc k) few = ap (with_rise (f k) (slot_of k h)) (all_slots k (omega arith)) ∙ next k (omega arith)

  -- a timer that isn't there drives none of the lines 20 to 23
  absent : (line k : ℕ) → eqb 0 line ≡ false → IsHpet h → h.timers ≤ k → k < 8 → routed_from line (suc k) h us ≡ routed_from line k h us
  absent line k other valid gone small =
      let none : timer_at k h ≡ no_timer = subst (λ (b : Bool). IsPlace b (timer_at k h)) (le-ltb k h.timers gone) (valid.places k small) in
      ap (λ (t : TimerParts). either_from (routed_from line k h us)
      (cond (eqb (route_of t.config) line && not (is_legacy h && ltb k 2)) (get_or us k None) None)) none
      ∙ ap (λ (b : Bool). either_from (routed_from line k h us) (cond (b && not (is_legacy h && ltb k 2)) (get_or us k None) None)) other
      ∙ either-none (routed_from line k h us)

  pub all-timers : (line : ℕ) → eqb 0 line ≡ false → IsHpet h → routed_from line h.timers h us ≡ routed_from line 8 h us
  all-timers line other valid = all_eight (λ n. routed_from line n h us) h.timers valid.timers (λ k gone small. absent line k other valid gone small)

  -- after all timers
  pub slots-are : IsHpet h → slots_from h.timers h f (cond l None pit ∷ cond l None irq ∷ None ∷ None ∷ None ∷ None ∷ [])
      ≡ cond l (f 0) pit ∷ cond l (f 1) irq ∷ routed_from 20 8 h us ∷ routed_from 21 8 h us ∷ routed_from 22 8 h us ∷ routed_from 23 8 h us ∷ []
  unfolding so_far first second
  slots-are valid =
      let few : h.timers ≤ 8 = at_most valid.timers in
      ap (λ (xs : List (Option ℕ)). slots_from h.timers h f xs) (start l)
      ∙ all_slots h.timers few
      ∙ ap (λ (x : Option ℕ). x ∷ second l irq f h.timers ∷ rest h.timers) (first_all l valid.timers)
      ∙ ap (λ (x : Option ℕ). cond l (f 0) pit ∷ x ∷ rest h.timers) (second_all l valid.timers)
      ∙ rw (all-timers 20 refl valid, all-timers 21 refl valid, all-timers 22 refl valid, all-timers 23 refl valid) refl
    where
      rest : ℕ → List (Option ℕ)
      rest n = routed_from 20 n h us ∷ routed_from 21 n h us ∷ routed_from 22 n h us ∷ routed_from 23 n h us ∷ []

      at_most : (h.timers ≡ 3) ⊎ (h.timers ≡ 8) → h.timers ≤ 8
      at_most (inl e) = omega arith
      at_most (inr e) = omega arith

      start : (b : Bool)
          → cond b None pit ∷ cond b None irq ∷ None ∷ None ∷ None ∷ None ∷ [] ≡ first b pit f 0 ∷ second b irq f 0 ∷ None ∷ None ∷ None ∷ None ∷ []
      start true = refl
      start false = refl

      first_all : (b : Bool) → (h.timers ≡ 3) ⊎ (h.timers ≡ 8) → first b pit f h.timers ≡ cond b (f 0) pit
      first_all true (inl e) = ap (first true pit f) e
      first_all true (inr e) = ap (first true pit f) e
      first_all false e = refl

      second_all : (b : Bool) → (h.timers ≡ 3) ⊎ (h.timers ≡ 8) → second b irq f h.timers ≡ cond b (f 1) irq
      second_all true (inl e) = ap (second true irq f) e
      second_all true (inr e) = ap (second true irq f) e
      second_all false e = refl

-- the same timers drive the same lines
pub slots-same : (g h : HpetParts) (f e : ℕ → Option ℕ) → is_legacy g ≡ is_legacy h → ((k : ℕ) → (timer_at k g).config ≡ (timer_at k h).config)
    → (n : ℕ) → n ≤ 8 → ((k : ℕ) → k < 8 → f k ≡ e k) → (times : List (Option ℕ)) → slots_from n g f times ≡ slots_from n h e times
slots-same g h f e legacy config zero few same times = refl
slots-same g h f e legacy config (suc k) few same times =
    ap (with_rise (f k) (slot_of k g)) (slots-same g h f e legacy config k (omega arith) same times)
    ∙ ap (λ (u : Option ℕ). with_rise u (slot_of k g) (slots_from k h e times)) (same k (omega arith))
    ∙ ap (λ (s : Option ℕ). with_rise (e k) s (slots_from k h e times)) (
    ap (λ (b : Bool). cond (b && ltb k 2) (Some k) (slot_of_route (route_of (timer_at k g).config))) legacy
    ∙ ap (λ (c : ℕ). cond (is_legacy h && ltb k 2) (Some k) (slot_of_route (route_of c))) (config k))
