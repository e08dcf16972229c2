-- The pulses of the HPET, one and many (IA-PC HPET specification 1.0a, sections 2.3.5 to 2.3.9).
use Rattle.std.specs.Prelude.{ℕ, zero, suc, ◌^◌, Bool, ◌&&◌, nat_lt, if◌then◌else◌, bit_or, map}
use Rattle.std.specs.Prelude.{List, slice_index_or, None}
use Rattle.hpet_comparator.specs.Counter.{counter_after}
use Rattle.hpet_comparator.specs.declared.stretch.Matches.{Matches}
use Rattle.hpet_comparator.specs.Parts.{is_level}
use Rattle.hpet_comparator.specs.Stretch.{matches_at, pulsed}
use Rattle.hpet_registers.specs.declared.parts.HpetParts.{HpetParts}
use Rattle.hpet_registers.specs.Parts.{timer_at, is_running}
use Rattle.hpet_registers.specs.Outputs.{has_ticks}

-- a number with the bits below n set at which a test holds, and the others as they were
abbrev pub with_bits : (ℕ → Bool) → ℕ → ℕ → ℕ
with_bits test zero s = s
with_bits test (suc k) s =
    if test k then bit_or (with_bits test k s) (2 ^ k) else with_bits test k s

-- whether the next pulse is a match of timer k: there is that timer, and the counter runs and goes
-- to its comparator (2.3.9.1)
unfoldable pub matches_next : ℕ → HpetParts → Bool
matches_next k h =
    nat_lt k h.timers && (is_running h && matches_at (counter_after h.counter 1) (timer_at k h))

-- whether a tick of timer k is due at the next pulse: a match of an edge timer (2.3.8)
abbrev pub tick_next : ℕ → HpetParts → Bool
tick_next k h = matches_next k h && has_ticks k h

-- one pulse: where the counter runs it goes up by 1, each timer sees it, and a match of a level
-- timer sets its status bit, enabled or not (2.3.6); an edge timer sets none (own)
unfoldable pub hpet_pulsed : HpetParts → HpetParts
hpet_pulsed h = record h {
  counter = if is_running h then counter_after h.counter 1 else h.counter;
  status = with_bits (λ k. matches_next k h && is_level (timer_at k h)) 8 h.status;
  timer = if is_running h then map (pulsed (counter_after h.counter 1)) h.timer else h.timer;
}

-- n pulses
abbrev pub hpet_pulsed_times : ℕ → HpetParts → HpetParts
hpet_pulsed_times zero h = h
hpet_pulsed_times (suc n) h = hpet_pulsed (hpet_pulsed_times n h)

-- how many of them are matches of timer k
abbrev pub matches_of : ℕ → HpetParts → ℕ → ℕ
matches_of k h zero = 0
matches_of k h (suc n) =
    if matches_next k (hpet_pulsed_times n h) then suc (matches_of k h n) else matches_of k h n

-- how many ticks of timer k are due in them
abbrev pub ticks_of : ℕ → HpetParts → ℕ → ℕ
ticks_of k h n = if has_ticks k h then matches_of k h n else 0

-- no matches
abbrev pub no_matches : Matches
no_matches = record { count = 0; first = None }

-- the matches of timer k, of a list of all timers'
abbrev pub timer_matches : List Matches → ℕ → Matches
timer_matches ms k = slice_index_or ms k no_matches
