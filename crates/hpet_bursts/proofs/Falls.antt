-- How many of the numbers first, first + every, .. come by a number.
use Rattle.std.proofs.Common.{◌≡◌, ℕ, suc, ◌+◌, ◌-◌, ◌*◌, ◌/◌, ◌%◌, ◌<◌, Bool, true, false, cond, ◌&&◌, ltb, eqb, min, ◌⊎◌, Some, inl, inr, sym, ap, ◌∙◌, arith}
use Rattle.std.proofs.Math.Nat.{mod-lt}
use Rattle.std.proofs.lemmas.Nat.{div-mul-add, mod-mul-add, div-add-mod'}
use Rattle.std.proofs.lemmas.Bool.{cases_lt, lt-ltb, le-ltb, ne_eqb, ltb-true, false≢true}
use Rattle.hpet_comparator.specs.Stretch.{falls_on}
use Rattle.hpet_comparator.proofs.Falls.{falls_on-before, falls_on-after}

-- one more
pub div-more : (s i : ℕ) → 0 < s → ((suc i % s ≡ 0) × (suc i / s ≡ suc (i / s))) ⊎ ((suc i % s ≡ i % s + 1) × (suc i / s ≡ i / s))
div-more s i some =
    let small : i % s < s = mod-lt i some in
    let whole : i / s * s + i % s ≡ i = div-add-mod' i s in
    elim (cases_lt (i % s + 1) s) [
      | inl less ↦
          let e : suc i ≡ i / s * s + (i % s + 1) = omega (arith, whole) in
          inr (ap (λ (x : ℕ). x % s) e ∙ mod-mul-add (i / s) s (i % s + 1) less, ap (λ (x : ℕ). x / s) e ∙ div-mul-add (i / s) s (i % s + 1) less)
      | inr last ↦
          let r : i % s + 1 ≡ s = omega (arith, small, last) in
          let e : suc i ≡ suc (i / s) * s + 0 = omega (arith, whole, r) in
          inl (ap (λ (x : ℕ). x % s) e ∙ mod-mul-add (suc (i / s)) s 0 some, ap (λ (x : ℕ). x / s) e ∙ div-mul-add (suc (i / s)) s 0 some)
    ]

-- how many come by m, without a bound and with one
abbrev pub come : ℕ → ℕ → ℕ → ℕ
come d s m = cond (ltb m d) 0 ((m - d) / s + 1)

abbrev pub fallen : ℕ → ℕ → ℕ → ℕ → ℕ
fallen d c s m = min c (come d s m)

bounded : (c q : ℕ) → min c (suc (suc q)) ≡ cond (ltb (suc q) c) (suc (min c (suc q))) (min c (suc q))
bounded c q = elim (cases_lt (suc q) c) [
  | inl less ↦ sym (ap (λ (b : Bool). cond b (suc (min c (suc q))) (min c (suc q))) (lt-ltb (suc q) c less) ∙ omega (arith, less))
  | inr more ↦ sym (ap (λ (b : Bool). cond b (suc (min c (suc q))) (min c (suc q))) (le-ltb (suc q) c more) ∙ omega (arith, more))
]

-- what a number more brings, and which of them it is
pub fallen-step : (d c s m : ℕ) → 0 < d → 0 < s
    → (fallen d c s (suc m) ≡ cond (falls_on (Some d) c s (suc m)) (suc (fallen d c s m)) (fallen d c s m))
    × (falls_on (Some d) c s (suc m) ≡ true → suc m ≡ d + fallen d c s m * s)
fallen-step d c s m ahead some = elim (cases_lt (suc m) d) [
  | inl early ↦
      let none : falls_on (Some d) c s (suc m) ≡ false = falls_on-before d c s (suc m) early in
      let a : come d s (suc m) ≡ 0 = ap (λ (b : Bool). cond b 0 ((suc m - d) / s + 1)) (lt-ltb (suc m) d early) in
      let b : come d s m ≡ 0 = ap (λ (b : Bool). cond b 0 ((m - d) / s + 1)) (lt-ltb m d (omega (arith, early))) in (
        ap (min c) a ∙ sym (ap (λ (x : Bool). cond x (suc (fallen d c s m)) (fallen d c s m)) none ∙ ap (min c) b),
        λ yes. absurd (false≢true (sym none ∙ yes)),
      )
  | inr past ↦ elim (cases_lt m d) [
    | inl first ↦
        let e : d + 0 ≡ suc m = omega (arith, past, first) in
        let zeros : 0 ≡ 0 * s + 0 = omega arith in
        let rest : 0 % s ≡ 0 = ap (λ (x : ℕ). x % s) zeros ∙ mod-mul-add 0 s 0 some in
        let quotient : 0 / s ≡ 0 = ap (λ (x : ℕ). x / s) zeros ∙ div-mul-add 0 s 0 some in
        let test : falls_on (Some d) c s (suc m) ≡ ltb 0 c =
        ap (falls_on (Some d) c s) (sym e) ∙ falls_on-after d c s 0
        ∙ ap (λ (x : ℕ). eqb x 0 && ltb (0 / s) c) rest ∙ ap (λ (x : ℕ). ltb x c) quotient in
        let g : suc m - d ≡ 0 = omega (arith, past, first) in
        let a : come d s (suc m) ≡ 1 =
        ap (λ (b : Bool). cond b 0 ((suc m - d) / s + 1)) (le-ltb (suc m) d past) ∙ ap (λ (x : ℕ). x / s + 1) g ∙ ap (λ (x : ℕ). x + 1) quotient in
        let b : come d s m ≡ 0 = ap (λ (b : Bool). cond b 0 ((m - d) / s + 1)) (lt-ltb m d first) in
        let none : fallen d c s m ≡ 0 = ap (min c) b ∙ omega arith in (
          ap (min c) a ∙ one c ∙ sym (ap (λ (x : Bool). cond x (suc (fallen d c s m)) (fallen d c s m)) test
              ∙ ap (λ (x : ℕ). cond (ltb 0 c) (suc x) x) none),
          λ yes. sym e ∙ (let r : d + 0 ≡ d + 0 * s = omega arith in r) ∙ ap (λ (x : ℕ). d + x * s) (sym none),
        )
    | inr later ↦
        let i : ℕ = m - d in
        let e : d + suc i ≡ suc m = omega (arith, later) in
        let g : suc m - d ≡ suc i = omega (arith, later) in
        let test : falls_on (Some d) c s (suc m) ≡ (eqb (suc i % s) 0 && ltb (suc i / s) c) =
        ap (falls_on (Some d) c s) (sym e) ∙ falls_on-after d c s (suc i) in
        let a : come d s (suc m) ≡ suc (suc i / s) =
        ap (λ (b : Bool). cond b 0 ((suc m - d) / s + 1)) (le-ltb (suc m) d past)
        ∙ (let r : (suc m - d) / s + 1 ≡ suc (suc i / s) = ap (λ (x : ℕ). x / s + 1) g ∙ omega arith in r) in
        let b : come d s m ≡ suc (i / s) =
        ap (λ (b : Bool). cond b 0 ((m - d) / s + 1)) (le-ltb m d later) ∙ omega arith in
        elim (div-more s i some) [
          | inl whole ↦
              let q : ℕ = i / s in
              let t : falls_on (Some d) c s (suc m) ≡ ltb (suc q) c =
              test ∙ ap (λ (x : ℕ). eqb x 0 && ltb (suc i / s) c) whole.0 ∙ ap (λ (x : ℕ). ltb x c) whole.1 in (
                ap (min c) (a ∙ ap suc whole.1) ∙ bounded c q
                    ∙ sym (ap (λ (x : Bool). cond x (suc (fallen d c s m)) (fallen d c s m)) t
                    ∙ ap (λ (x : ℕ). cond (ltb (suc q) c) (suc (min c x)) (min c x)) b),
                λ yes. at d c s m i e b whole (ltb-true (suc q) c (sym t ∙ yes)),
              )
          | inr part ↦
              let ne : suc i % s ≡ 0 → ⊥ = λ z. omega (arith, part.0, z) in
              let t : falls_on (Some d) c s (suc m) ≡ false =
              test ∙ ap (λ (x : Bool). x && ltb (suc i / s) c) (ne_eqb (suc i % s) 0 ne) in (
                ap (min c) (a ∙ ap suc part.1) ∙ ap (min c) (sym b)
                    ∙ sym (ap (λ (x : Bool). cond x (suc (fallen d c s m)) (fallen d c s m)) t),
                λ yes. absurd (false≢true (sym t ∙ yes)),
              )
        ]
  ]
]
  where
    one : (c : ℕ) → ◌≡◌ {A = ℕ} (min c 1) (cond (ltb 0 c) 1 0)
    one c = elim (cases_lt 0 c) [
      | inl less ↦ sym (ap (λ (b : Bool). cond b 1 0) (lt-ltb 0 c less) ∙ omega (arith, less))
      | inr none ↦ sym (ap (λ (b : Bool). cond b 1 0) (le-ltb 0 c none) ∙ omega (arith, none))
    ]

    at : (d c s m i : ℕ) → d + suc i ≡ suc m → come d s m ≡ suc (i / s) → (suc i % s ≡ 0) × (suc i / s ≡ suc (i / s)) → suc (i / s) < c
        → suc m ≡ d + fallen d c s m * s
    at d c s m i e b whole less =
        let all : suc i / s * s + suc i % s ≡ suc i = div-add-mod' (suc i) s in
        let f : fallen d c s m ≡ suc i / s = ap (min c) b ∙ (let r : min c (suc (i / s)) ≡ suc (i / s) = omega (arith, less) in r) ∙ sym whole.1 in
        sym e
        ∙ ap (λ (x : ℕ). d + x) (sym all ∙ (let r : suc i / s * s + suc i % s ≡ suc i / s * s = omega (arith, whole.0) in r))
        ∙ ap (λ (x : ℕ). d + x * s) (sym f)
