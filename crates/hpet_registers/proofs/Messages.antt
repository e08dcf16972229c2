-- Whether a timer sends messages.
use Rattle.std.proofs.Common.{◌≡◌, ℕ, zero, suc, ◌<◌, Bool, true, false, ◌&&◌, ◌||◌, not, ltb, refl, ap, sym, ◌∙◌, inl, inr, arith}
use Rattle.std.proofs.lemmas.Bool.{cases_eq, cases_Bool, true≢false}
use Rattle.hpet_registers.specs.declared.parts.HpetParts.{HpetParts}
use Rattle.hpet_registers.specs.Parts.{IsHpet, is_legacy}
use Rattle.hpet_registers.specs.Outputs.{has_edge_ticks, is_message, has_message_below}

-- a block without message registers has no message timer
pub no_message : (h : HpetParts) → IsHpet h → h.messages ≡ false → (k : ℕ) → k < 8 → is_message k h ≡ false
no_message h valid none k small = ap (λ (b : Bool). b && (has_edge_ticks k h && not (is_legacy h && ltb k 2))) (valid.plain none k small).0

pub has_message_below-none : (n : ℕ) (h : HpetParts) → ((k : ℕ) → k < n → is_message k h ≡ false) → has_message_below n h ≡ false
unfolding has_message_below
has_message_below-none zero h none = refl
has_message_below-none (suc n) h none =
    ap (λ (b : Bool). b || is_message n h) (has_message_below-none n h (λ k less. none k (omega (arith, less)))) ∙ none n (omega arith)

-- .. and without one none of them is
pub no_message-below : (n : ℕ) (h : HpetParts) → has_message_below n h ≡ false → (k : ℕ) → k < n → is_message k h ≡ false
unfolding has_message_below
no_message-below zero h none k less = absurd (omega (arith, less))
no_message-below (suc n) h none k less = elim (cases_eq k n) [
  | inl same ↦ ap (λ (m : ℕ). is_message m h) same ∙ last (has_message_below n h) (is_message n h) none
  | inr other ↦ no_message-below n h (first (has_message_below n h) (is_message n h) none) k (omega (arith, less, other))
]
  where
    first : (a b : Bool) → (a || b) ≡ false → a ≡ false
    first true b e = e
    first false b e = refl

    last : (a b : Bool) → (a || b) ≡ false → b ≡ false
    last true b e = absurd (true≢false e)
    last false b e = e

-- a message timer makes it hold for all numbers above its own
pub has_message_below-some : (n k : ℕ) (h : HpetParts) → k < n → is_message k h ≡ true → has_message_below n h ≡ true
has_message_below-some n k h less sends = elim (cases_Bool (has_message_below n h)) [
  | inl e ↦ e
  | inr none ↦ absurd (true≢false (sym sends ∙ no_message-below n h none k less))
]
