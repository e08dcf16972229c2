-- What leaves GATE of a counter as it is: all but a write of port 61h.
use Rattle.std.proofs.Common.{◌≡◌, ℕ, zero, suc, ◌+◌, ◌*◌, ◌<◌, [], ◌∷◌, length, get_or, slice_set, arith}
use Rattle.std.proofs.Common.{Bool, true, false, not, ◌&&◌, cond, refl, ap, sym, ◌∙◌, inl, inr}
use Rattle.std.proofs.lemmas.Bool.{cond_both, cases_order}
use Rattle.std.proofs.lemmas.List.{get_or-set_other, get_or_default, length-set}
use Rattle.std.proofs.lemmas.Grind.{get_or-set_at}
use Rattle.pit_counter.specs.declared.parts.CounterParts.{CounterParts}
use Rattle.pit_counter.specs.declared.mode.Access.{Access}
use Rattle.pit_counter.specs.declared.mode.Access.TheVariants.{LowByte, HighByte, LowThenHigh}
use Rattle.pit_counter.specs.declared.table.Effect.{Effect}
use Rattle.pit_counter.specs.declared.table.Effect.TheVariants.{Load}
use Rattle.pit_counter.specs.Mode.{mode_of, access_of, is_terminal}
use Rattle.pit_counter.specs.Programming.{counter_at_power_on, completed, begun, byte_written_by, byte_written}
use Rattle.pit_counter.specs.Table.{effect_in, affected, pulsed, pulsed_times}
use Rattle.pit_counter.specs.Reading.{with_count_latched, with_status_latched, status_released, count_released, after_read}
use Rattle.pit_readback.specs.private.Wiring.{IsWired}
use Rattle.pit_readback.specs.Pit.{counter_of, pit_pulsed_times}
use Rattle.pit_readback.specs.declared.parts.PitParts.{PitParts}
use Rattle.pit_readback.proofs.Three.{length-pit_pulsed_times, counter_of-pit_pulsed_times}
use Rattle.pit_readback.specs.Ports.{latches_count, latches_status, read_back_of}

gate-byte_written_by : (a : Access) (byte : ℕ) (c : CounterParts) → (byte_written_by a byte c).gate ≡ c.gate
unfolding byte_written_by completed begun
gate-byte_written_by LowByte byte c = refl
gate-byte_written_by HighByte byte c = refl
gate-byte_written_by LowThenHigh byte c = cond_both c.part_there (completed (c.part + byte * 256) c) (begun byte c) (λ d. d.gate ≡ c.gate) (λ _. refl)
    (λ _. refl)

-- a byte of a count
pub gate-byte_written : (byte : ℕ) (c : CounterParts) → (byte_written byte c).gate ≡ c.gate
gate-byte_written byte c = gate-byte_written_by (access_of c.bits) byte (record c { out = c.out && not (is_terminal (mode_of c.bits)) })

-- a read
pub gate-after_read : (c : CounterParts) → (after_read c).gate ≡ c.gate
unfolding after_read status_released count_released
gate-after_read c = cond_both c.status_latched (status_released c) (count_released c) (λ d. d.gate ≡ c.gate) (λ _. refl) (λ _. refl)

gate-count_latched : (latch : Bool) (c : CounterParts) → (cond latch (with_count_latched c) c).gate ≡ c.gate
unfolding with_count_latched
gate-count_latched true c = refl
gate-count_latched false c = refl

gate-with_status_latched : (c : CounterParts) → (with_status_latched c).gate ≡ c.gate
unfolding with_status_latched
gate-with_status_latched c = cond_both c.status_latched c _ (λ (d : CounterParts). d.gate ≡ c.gate) (λ _. refl) (λ _. refl)

-- a read-back command
pub gate-read_back_of : (byte k : ℕ) (c : CounterParts) → (read_back_of byte k c).gate ≡ c.gate
unfolding read_back_of
gate-read_back_of byte k c =
    let counted : CounterParts = cond (latches_count byte k) (with_count_latched c) c in
    cond_both (latches_status byte k) (with_status_latched counted) counted (λ d. d.gate ≡ c.gate)
    (λ _. gate-with_status_latched counted ∙ gate-count_latched (latches_count byte k) c)
    (λ _. gate-count_latched (latches_count byte k) c)

gate-affected : (e : Effect) (c : CounterParts) → (affected e c).gate ≡ c.gate
gate-affected (Load level) c = refl
gate-affected other c = refl

-- pulses
pub gate-pulsed_times : (n : ℕ) (c : CounterParts) → (pulsed_times n c).gate ≡ c.gate
unfolding pulsed_times pulsed
gate-pulsed_times zero c = refl
gate-pulsed_times (suc n) c = gate-affected (effect_in (mode_of (pulsed_times n c).bits) (pulsed_times n c)) (pulsed_times n c) ∙ gate-pulsed_times n c

-- three counters of which the first two have GATE high
pub IsWired-of : (a b c : CounterParts) (speaker : Bool) → a.gate ≡ true → b.gate ≡ true → IsWired (record { counters = a ∷ b ∷ c ∷ []; speaker = speaker })
IsWired-of a b c speaker first second = record { three = refl; high = λ k h. high k h }
  where
    high : (k : ℕ) → k < 2 → (get_or (a ∷ b ∷ c ∷ []) k (counter_at_power_on true)).gate ≡ true
    high zero h = first
    high (suc zero) h = second
    high (suc (suc k)) h = absurd (omega arith)

-- pulses leave the wiring
pub IsWired-pulsed_times : (n : ℕ) (p : PitParts) → IsWired p → IsWired (pit_pulsed_times n p)
IsWired-pulsed_times n p h = record {
  three = length-pit_pulsed_times n p ∙ h.three;
  high = λ k small. ap (λ (c : CounterParts). c.gate) (counter_of-pit_pulsed_times n k p) ∙ gate-pulsed_times n (counter_of p k) ∙ h.high k small;
}

-- another counter of the same GATE leaves the wiring
pub wired-set : (p : PitParts) (k : ℕ) (c d : CounterParts) → IsWired p → c.gate ≡ (get_or p.counters k d).gate
    → IsWired (record p { counters = slice_set p.counters k c })
wired-set p k c d wired same = record {
  three = length-set p.counters k c ∙ wired.three;
  high = λ j two.
      let small : j < length p.counters = omega (arith, wired.three) in
      elim (cases_order k j) [
        | inl equal ↦ ap (λ (x : CounterParts). x.gate) (get_or-set_at p.counters k j c (counter_at_power_on true) (sym equal) (omega (arith, equal, small)))
            ∙ same ∙ ap (λ (i : ℕ). (get_or p.counters i d).gate) equal
            ∙ ap (λ (x : CounterParts). x.gate) (get_or_default p.counters j d (counter_at_power_on true) small) ∙ wired.high j two
        | inr other ↦ ap (λ (x : CounterParts). x.gate) (get_or-set_other p.counters k j c (counter_at_power_on true)
            (λ (e : j ≡ k). elim other [ inl less ↦ omega arith | inr more ↦ omega arith ])) ∙ wired.high j two
      ];
}
