-- Many pulses at once, for the bodies alone.
use Rattle.std.specs.Prelude.{ℕ, ◌+◌, ◌-◌, ◌*◌, Bool, ◌||◌, nat_lt, Option, Some, None}
use Rattle.rtc_cycle.specs.declared.events.CycleEvents.{CycleEvents}
use Rattle.rtc_registers.specs.declared.TheConstants.{RTC_HZ}
use Rattle.rtc_registers.specs.declared.parts.RtcParts.{RtcParts}
use Rattle.rtc_registers.specs.Registers.{pf_of, af_of, uf_of, flags_byte}

-- the pulse of update k, where the first comes at pulse f and each other a second later
abbrev pub second_apart : Option ℕ → Option ℕ → Option ℕ
second_apart None matched = None
second_apart (Some f) None = None
second_apart (Some f) (Some k) = Some (f + (k - 1) * RTC_HZ)

-- register C after these events: a flag is up where it was, or where an event came
abbrev pub flags_left : CycleEvents → Bool → RtcParts → ℕ
flags_left events alarm r =
    flags_byte
    (pf_of r || nat_lt 0 events.ticks)
    (af_of r || alarm)
    (uf_of r || nat_lt 0 events.updates)
