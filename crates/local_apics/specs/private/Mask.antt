-- Some of the timers, as bits of one number.
use Rattle.std.specs.Prelude.{ℕ, zero, suc, ◌+◌, ◌^◌, ◌==◌, Bool, List, if◌then◌else◌, slice_index_or}
use Rattle.lapic_timer.specs.declared.parts.ApicParts.{ApicParts}
use Rattle.local_apics.specs.Parts.{is_idle}
use Rattle.local_apics.specs.Places.{no_timer}

-- a bit for each of the first n timers of which a test doesn't hold
unfoldable pub bits_below : (ApicParts → Bool) → ℕ → List ApicParts → ℕ
bits_below test zero ts = 0
bits_below test (suc n) ts =
    bits_below test n ts + (if test (slice_index_or ts n no_timer) then 0 else 2 ^ n)

-- whether a timer waits for no deadline
abbrev pub no_deadline : ApicParts → Bool
no_deadline p = p.deadline == 0

-- a bit for each timer that isn't idle
abbrev pub armed_in : List ApicParts → ℕ
armed_in ts = bits_below is_idle 64 ts

-- .. for each that waits for a deadline
abbrev pub waiting_in : List ApicParts → ℕ
waiting_in ts = bits_below no_deadline 64 ts
