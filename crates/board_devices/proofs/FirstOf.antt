-- The first event of a stretch.
use Rattle.std.proofs.Common.{◌≡◌, ℕ, zero, suc, ◌+◌, ◌-◌, ◌/◌, ◌%◌, ◌^◌, ◌<◌, ◌≤◌, ◌↔◌, ltb, Option, Some, None, inl, inr, arith}
use Rattle.std.proofs.lemmas.Bool.{cases_lt, lt-ltb, le-ltb, eq-eqb, ne_eqb}
use Rattle.clk_units.specs.Events.{CountsUp, IsFirst}
use Rattle.clk_units.proofs.Events.{IsFirst-more, IsFirst-one}
use Rattle.pit_counter.specs.Table.{rises_in}
use Rattle.pit_counter.specs.declared.parts.CounterParts.{CounterParts}
use Rattle.pit_counter.proofs.Times.{CountsUp-rises_in}
use Rattle.rtc_cycle.specs.Divider.{ticks_in, updates_in}
use Rattle.rtc_cycle.specs.declared.parts.DividerParts.{DividerParts}
use Rattle.rtc_cycle.proofs.Pulse.{CountsUp-ticks_in, CountsUp-updates_in}
use Rattle.rtc_registers.specs.declared.parts.RtcParts.{RtcParts}
use Rattle.rtc_registers.specs.Pulses.{alarms_in}
use Rattle.rtc_registers.proofs.Times.{CountsUp-alarms_in}
use Rattle.hpet_comparator.specs.Stretch.{matches_in}
use Rattle.hpet_registers.specs.declared.parts.HpetParts.{HpetParts}
use Rattle.hpet_registers.specs.Parts.{timer_at}
use Rattle.hpet_registers.specs.Stretch.{matches_of}
use Rattle.hpet_registers.proofs.Product.{CountsUp-matches_of, matches_of-standing, IsFirst-running}
use Rattle.board_devices.specs.private.Ahead.{first_of}

-- the first event is one
pub IsFirst-first_of : (count : ℕ → ℕ) → CountsUp count → (n : ℕ) → IsFirst count n (first_of count n)
IsFirst-first_of count up zero = up.none
IsFirst-first_of count up (suc n) = IsFirst-more count n (ltb (count n) (count (suc n))) (first_of count n) (elim (cases_lt (count n) (count (suc n))) [
  | inl less ↦ rw (lt-ltb (count n) (count (suc n)) less) (omega (arith, less, up.few n))
  | inr same ↦ rw (le-ltb (count n) (count (suc n)) same) (omega (arith, same, up.keeps n))
]) (IsFirst-first_of count up n)

first-is : (count : ℕ → ℕ) → CountsUp count → (n : ℕ) (first : Option ℕ) → IsFirst count n first → first ≡ first_of count n
first-is count up n first is = IsFirst-one count up n first (first_of count n) is (IsFirst-first_of count up n)

pub first_rise : (c : CounterParts) (n : ℕ) (first : Option ℕ) → IsFirst (rises_in c) n first → first ≡ first_of (rises_in c) n
first_rise c n first is = first-is (rises_in c) (CountsUp-rises_in c) n first is

pub first_tick : (d : DividerParts) (n : ℕ) (first : Option ℕ) → IsFirst (ticks_in d) n first → first ≡ first_of (ticks_in d) n
first_tick d n first is = first-is (ticks_in d) (CountsUp-ticks_in d) n first is

pub first_update : (d : DividerParts) (n : ℕ) (first : Option ℕ) → IsFirst (updates_in d) n first → first ≡ first_of (updates_in d) n
first_update d n first is = first-is (updates_in d) (CountsUp-updates_in d) n first is

pub first_alarm : (r : RtcParts) (n : ℕ) (first : Option ℕ) → IsFirst (alarms_in r) n first → first ≡ first_of (alarms_in r) n
first_alarm r n first is = first-is (alarms_in r) (CountsUp-alarms_in r) n first is

-- .. of a timer whose counter is halted, and of one whose counter runs
pub match-standing : (k n : ℕ) (h : HpetParts) → h.config % 2 ≡ 0 → None ≡ first_of (matches_of k h) n
match-standing k n h even =
    first-is (matches_of k h) (CountsUp-matches_of k h) n None (matches_of-standing k n h (ne_eqb (h.config / 2 ^ 0 % 2) 1 (λ e. omega arith)))

match-running : (k n : ℕ) (h : HpetParts) (first : Option ℕ) → (h.config % 2 ≡ 0 → ⊥) → h.counter < 2 ^ 64 → k < h.timers
    → IsFirst (matches_in h.counter (timer_at k h)) n first → first ≡ first_of (matches_of k h) n
match-running k n h first odd fits inside is =
    first-is (matches_of k h) (CountsUp-matches_of k h) n first
    (IsFirst-running k n h first (eq-eqb (h.config / 2 ^ 0 % 2) 1 (omega arith)) fits inside is)

-- .. which has b pulses before its next match
pub match-later : (k n b : ℕ) (h : HpetParts) → (h.config % 2 ≡ 0 → ⊥) → h.counter < 2 ^ 64 → k < h.timers
    → ((m : ℕ) → (m ≤ b) ↔ (matches_in h.counter (timer_at k h) m ≡ 0)) → n ≤ b → None ≡ first_of (matches_of k h) n
match-later k n b h odd fits inside quiet few = match-running k n h None odd fits inside ((quiet n).0 few)

pub match-next : (k n b : ℕ) (h : HpetParts) → (h.config % 2 ≡ 0 → ⊥) → h.counter < 2 ^ 64 → k < h.timers
    → ((m : ℕ) → (m ≤ b) ↔ (matches_in h.counter (timer_at k h) m ≡ 0)) → b < n → Some (b + 1) ≡ first_of (matches_of k h) n
match-next k n b h odd fits inside quiet more =
    match-running k n h (Some (b + 1)) odd fits inside (
      omega arith,
      omega (arith, more),
      (quiet (b + 1 - 1)).0 (omega arith),
      elim (cases_lt 0 (matches_in h.counter (timer_at k h) (b + 1))) [
        | inl some ↦ some
        | inr none ↦ absurd (omega (arith, (quiet (b + 1)).1 (omega (arith, none))))
      ],
    )
