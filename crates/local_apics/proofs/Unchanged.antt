-- Timers that a run leaves as they are, and the bits of those that wait.
use Rattle.std.proofs.Common.{◌≡◌, ℕ, ◌*◌, ◌%◌, ◌^◌, ◌<◌, ◌≤◌, true, List, get_or, sym, ap, ◌∙◌, inl, inr, arith}
use Rattle.std.proofs.lemmas.Bool.{cases_lt, eq-eqb, eqb-true}
use Rattle.std.proofs.lemmas.Nat.{and_le_l}
use Rattle.std.proofs.lemmas.Nat.Bits.{bit_at-trailing_zeros, bit_at_clear_same, bit_at_clear_other}
use Rattle.std.specs.Int.{bit_at, bit_not, w64, trailing_zeros}
use Rattle.std.specs.Int.Bits.{bit_and}
use Rattle.tick_policy.specs.Line.{ticked_times}
use Rattle.tick_policy.proofs.Ticks.{ticked_times-zero}
use Rattle.lapic_timer.specs.declared.parts.ApicParts.{ApicParts}
use Rattle.local_apics.specs.declared.parts.ApicsParts.{ApicsParts}
use Rattle.local_apics.specs.Parts.{AreApicPlaces, is_idle}
use Rattle.local_apics.specs.Places.{no_timer, timer_at, line_at}
use Rattle.local_apics.specs.Nanosecond.{run}
use Rattle.local_apics.specs.private.Mask.{bits_below, no_deadline}
use Rattle.local_apics.specs.private.Stretch.{IsStill}
use Rattle.local_apics.proofs.Done.{done-none}
use Rattle.local_apics.proofs.Mask.{bit-clear, zero-clear}
use Rattle.local_apics.proofs.Ticks.{idle_parts, nanoseconds-idle, ticks_in-idle}
use Rattle.local_apics.proofs.Below.{run-end}

-- an idle timer
pub IsStill-idle : (tsc : ℕ → ℕ) (from n : ℕ) (p : ApicParts) → is_idle p ≡ true → IsStill tsc from n p
IsStill-idle tsc from n p idle = record {
  timer = nanoseconds-idle tsc from n p (idle_parts p idle).0 (idle_parts p idle).1;
  ticks = ticks_in-idle tsc from n p (idle_parts p idle).0 (idle_parts p idle).1;
}

-- where all timers are left alone, a run changes nothing
pub run-still : (tsc : ℕ → ℕ → ℕ) (from n : ℕ) (a : ApicsParts) → AreApicPlaces a
    → ((k : ℕ) → k < 64 → IsStill (tsc k) from n (timer_at k a)) → a ≡ run tsc from n a
run-still tsc from n a are still =
    run-end 64 tsc from n a a
    (done-none 64 _ _ a are (λ k less. (still k less).timer)
    (λ k less. ap (λ (m : ℕ). ticked_times m (line_at k a)) (still k less).ticks ∙ ticked_times-zero (line_at k a)))
    (λ k after less. absurd (omega (arith, after, less)))

-- a timer without a bit waits for no deadline
pub bit-unset : (k m : ℕ) (ts : List ApicParts) → k < 64 → m ≡ bits_below no_deadline 64 ts → bit_at m k ≡ 0 → (get_or ts k no_timer).deadline ≡ 0
bit-unset k m ts less e none = eqb-true (get_or ts k no_timer).deadline 0 (zero-clear no_deadline k m ts less e none)

-- .. and where the timers that aren't idle are those that wait, it is idle
pub idle-unset : (k m : ℕ) (ts : List ApicParts) → k < 64 → m ≡ bits_below is_idle 64 ts → m ≡ bits_below no_deadline 64 ts
    → (get_or ts k no_timer).deadline ≡ 0 → is_idle (get_or ts k no_timer) ≡ true
idle-unset k m ts less armed waiting none =
    sym (bit-clear is_idle k m ts less armed) ∙ bit-clear no_deadline k m ts less waiting ∙ eq-eqb (get_or ts k no_timer).deadline 0 none

-- a number without its lowest bit
abbrev pub without_lowest : ℕ → ℕ
without_lowest n = bit_and n (bit_not w64 (1 * 2 ^ trailing_zeros w64 n % 2 ^ 64))

pub without_lowest-less : (n : ℕ) → 0 < n → n < 2 ^ 64 → without_lowest n < n
without_lowest-less n some small =
    let lowest = bit_at-trailing_zeros w64 n some small in
    let less : without_lowest n ≤ n = and_le_l n (bit_not w64 (1 * 2 ^ trailing_zeros w64 n % 2 ^ 64)) in
    elim (cases_lt (without_lowest n) n) [
      | inl fewer ↦ fewer
      | inr all ↦
          let same : without_lowest n ≡ n = omega (arith, less, all) in
          let none : 1 ≡ 0 = sym lowest.1 ∙ ap (λ (m : ℕ). bit_at m (trailing_zeros w64 n)) (sym same)
          ∙ bit_at_clear_same w64 n (trailing_zeros w64 n) lowest.0 in
          absurd (omega (arith, none))
    ]

pub without_lowest-bit : (n k : ℕ) → 0 < n → n < 2 ^ 64 → k < 64 → (k ≡ trailing_zeros w64 n → ⊥) → bit_at (without_lowest n) k ≡ bit_at n k
without_lowest-bit n k some small less other =
    bit_at_clear_other w64 n (trailing_zeros w64 n) (bit_at-trailing_zeros w64 n some small).0 k less other
