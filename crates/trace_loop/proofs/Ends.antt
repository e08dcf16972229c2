-- The ends of lines among the first bytes of a piece, a bit each.
use Rattle.std.proofs.Common.{
  ◌≡◌,
  ℕ,
  ◌<◌,
  ◌≤◌,
  Bool,
  true,
  false,
  cond,
  List,
  length,
  take,
  map,
  get_or,
  inl,
  inr,
  refl,
  sym,
  ap,
  ◌∙◌,
  arith,
}
use lib.Lanes.{mask_l}
use Rattle.std.specs.Int.{bit_at}
use Rattle.std.proofs.Math.ListN.{get_or-map}
use Rattle.std.proofs.lemmas.Bool.{cases_lt}
use Rattle.std.proofs.lemmas.List.{get_or-take, get_or_past, length-take-le}
use Rattle.std.proofs.lemmas.Simd.{bit_mask_l}
use Rattle.memchr.specs.Find.{NoneBefore, Passes, is_byte}

-- the bit of a byte says whether it is an end
end_bit : (rest : List ℕ) (k : ℕ) → bit_at (mask_l (map (is_byte 10) (take 32 rest))) k ≡ cond (is_byte 10 (get_or (take 32 rest) k 0)) 1 0
end_bit rest k = bit_mask_l (map (is_byte 10) (take 32 rest)) k ∙ ap (λ (b : Bool). cond b 1 0) (get_or-map (is_byte 10) (take 32 rest) k 0)

is_set : (b : Bool) → ◌≡◌ {A = ℕ} (cond b 1 0) 1 → b ≡ true
is_set true e = refl
is_set false e = cc

is_clear : (b : Bool) → ◌≡◌ {A = ℕ} (cond b 1 0) 0 → b ≡ true → ⊥
is_clear true e h = cc
is_clear false e h = cc

-- the lowest bit that is set is the first end
pub first_of_mask : (rest : List ℕ) (m k : ℕ) → 32 ≤ length rest → m ≡ mask_l (map (is_byte 10) (take 32 rest))
    → bit_at m k ≡ 1 → ((i : ℕ) → i < k → bit_at m i ≡ 0)
    → NoneBefore (Passes (is_byte 10) rest) 0 (length rest) k × Passes (is_byte 10) rest k
first_of_mask rest m k long same set below =
    let front : List ℕ = take 32 rest in
    let bit : (i : ℕ) → bit_at m i ≡ cond (is_byte 10 (get_or front i 0)) 1 0 = λ i. ap (λ (n : ℕ). bit_at n i) same ∙ end_bit rest i in
    let an_end : is_byte 10 (get_or front k 0) ≡ true = is_set (is_byte 10 (get_or front k 0)) (sym (bit k) ∙ set) in
    let inside : k < 32 = elim (cases_lt k 32) [
      | inl less ↦ less
      | inr past ↦ absurd (let none = ap (is_byte 10) (get_or_past front k 0 (omega (arith, past, length-take-le 32 rest long)))
          in let no : false ≡ true = sym none ∙ an_end in cc)
    ] in
    let before : (i : ℕ) → 0 ≤ i → i < k → Passes (is_byte 10) rest i → ⊥ = λ i low less passes.
    is_clear (is_byte 10 (get_or front i 0)) (sym (bit i) ∙ below i less) (ap (is_byte 10) (get_or-take 32 rest i 0 (omega arith)) ∙ passes) in (
      record { low = omega arith; high = omega arith; before = before },
      ap (is_byte 10) (sym (get_or-take 32 rest k 0 inside)) ∙ an_end,
    )
