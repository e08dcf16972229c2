-- What stays over the pulses of the HPET: which timers tick and which send messages; a place without a timer.
use Rattle.std.proofs.Common.{◌≡◌, ℕ, ◌-◌, ◌%◌, ◌^◌, ◌<◌, ◌≤◌, Bool, true, false, ◌&&◌, not, ltb, eqb}
use Rattle.std.proofs.Common.{ap, sym, subst, ◌∙◌, inl, inr}
use Rattle.std.proofs.Math.Nat.{zero-div}
use Rattle.std.proofs.lemmas.Bool.{cases_lt, le-ltb, false≢true}
use Rattle.clk_units.specs.Bits.{bit}
use Rattle.hpet_comparator.specs.declared.parts.TimerParts.{TimerParts}
use Rattle.hpet_registers.specs.declared.parts.HpetParts.{HpetParts}
use Rattle.hpet_registers.specs.Parts.{no_timer, timer_at, message_bit_at, is_legacy, IsPlace, IsHpet}
use Rattle.hpet_registers.specs.Outputs.{has_edge_ticks, is_message, has_ticks}
use Rattle.hpet_registers.specs.Stretch.{hpet_pulsed_times}
use Rattle.hpet_registers.proofs.Product.{is_legacy-hpet_pulsed_times}
use Rattle.hpet_registers.proofs.Product.{timer_config-hpet_pulsed_times, message_bit_at-hpet_pulsed_times}

-- edge timers and message timers stay what they are
pub has_edge_ticks-hpet_pulsed_times : (k n : ℕ) (h : HpetParts) → has_edge_ticks k (hpet_pulsed_times n h) ≡ has_edge_ticks k h
has_edge_ticks-hpet_pulsed_times k n h = ap (λ (c : ℕ). bit 2 c && not (bit 1 c)) (timer_config-hpet_pulsed_times k n h)

pub is_message-hpet_pulsed_times : (k n : ℕ) (h : HpetParts) → is_message k (hpet_pulsed_times n h) ≡ is_message k h
is_message-hpet_pulsed_times k n h =
    ap (λ (b : Bool). b && (has_edge_ticks k (hpet_pulsed_times n h) && not (is_legacy (hpet_pulsed_times n h) && ltb k 2)))
    (message_bit_at-hpet_pulsed_times k n h)
    ∙ (ap (λ (b : Bool). message_bit_at k h && (b && not (is_legacy (hpet_pulsed_times n h) && ltb k 2))) (has_edge_ticks-hpet_pulsed_times k n h)
    ∙ ap (λ (b : Bool). message_bit_at k h && (has_edge_ticks k h && not (b && ltb k 2))) (is_legacy-hpet_pulsed_times n h))

pub has_ticks-hpet_pulsed_times : (k n : ℕ) (h : HpetParts) → has_ticks k (hpet_pulsed_times n h) ≡ has_ticks k h
has_ticks-hpet_pulsed_times k n h =
    ap (λ (b : Bool). b && not (is_message k (hpet_pulsed_times n h))) (has_edge_ticks-hpet_pulsed_times k n h)
    ∙ ap (λ (b : Bool). has_edge_ticks k h && not b) (is_message-hpet_pulsed_times k n h)

-- a place without a timer
pub timer_at-absent : (k : ℕ) (h : HpetParts) → IsHpet h → k < 8 → h.timers ≤ k → timer_at k h ≡ no_timer
timer_at-absent k h valid small past = subst (λ (b : Bool). IsPlace b (timer_at k h)) (le-ltb k h.timers past) (valid.places k small)

-- a bit that is set in a configuration: the timer is there
pub is_place : (i k : ℕ) (h : HpetParts) → IsHpet h → k < 8 → bit i (timer_at k h).config ≡ true → k < h.timers
is_place i k h valid small set = elim (cases_lt k h.timers) [
  | inl inside ↦ inside
  | inr past ↦
      let none : bit i (timer_at k h).config ≡ false = ap (λ (t : TimerParts). bit i t.config) (timer_at-absent k h valid small past)
      ∙ ap (λ (x : ℕ). eqb (x % 2) 1) (zero-div (2 ^ i)) in
      absurd (false≢true (sym none ∙ set))
]
