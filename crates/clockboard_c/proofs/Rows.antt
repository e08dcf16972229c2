-- Small rows of what the definitions give.
use Rattle.std.proofs.Common.{◌≡◌, ℕ, true, false, refl, ◌∷◌, [], Some, map}
use Rattle.irq_edges.specs.Lines.{line_numbers}
use Rattle.host_counter.specs.declared.Anchor.{Anchor}
use Rattle.tsc_scale.specs.Offset.{tsc_by}
use Rattle.hv_page.specs.Time.{reference_time, units_of}
use Rattle.board_types.specs.declared.access.TickSource.TheVariants.{Pit, Rtc, Hpet, Apic}
use Rattle.board_types.specs.declared.reply.Value.TheVariants.{Byte, Wall}
use Rattle.board_types.specs.declared.access.Access.TheVariants.{HpetRead, MsrWrite, PortIn, PortOut, Refresh}
use Rattle.board_types.specs.declared.parts.BoardParts.{BoardParts}
use Rattle.clockboard_c.specs.declared.board.TheConstants.{SEAL}
use Rattle.clockboard_c.specs.declared.code.TheConstants.{OK, NOT_OURS, OUT_OF_RANGE, SHARED, NOT_SHARED}
use Rattle.clockboard_c.specs.declared.power_on.SetupWords.{SetupWords}
use Rattle.clockboard_c.specs.declared.shared.FiveWords.{FiveWords}
use Rattle.clockboard_c.specs.declared.shared.RateWords.{RateWords}
use Rattle.clockboard_c.specs.declared.shared.TheConstants.{RATES_SEAL}
use Rattle.clockboard_c.specs.Kept.{CallerBoard}
use Rattle.clockboard_c.specs.Call.{source_of, sealed, access_code, early_code, leaves_lines}
use Rattle.clockboard_c.specs.Shared.{last_count, open_code, opened, hv_reading_code, hv_reading_told}
use Rattle.clockboard_c.specs.States.{save_code}
use Rattle.clockboard_c.specs.Calendar.{setup_at, setup_at_code}
use Rattle.clockboard_c.specs.Look.{lines_word}
use Rattle.clockboard_c.specs.Replies.{value_words, burst_words}
use Rattle.clockboard_c.specs.Setup.{setup_of, setup_valid}
use Rattle.clockboard_c.specs.Timer.{count_of}

-- a counter of 3 GHz that began at count 500, and one of 100 MHz
abbrev fast : Anchor
fast = record { khz = 3000000; start = 500; base_ns = 0 }

abbrev slow : Anchor
slow = record { khz = 100000; start = 500; base_ns = 7 }

-- the count of a time: three a nanosecond; the anchor's own; part of a count is the next, for all of that count
counts : count_of fast 1000 ∷ map (count_of slow) (7 ∷ 8 ∷ 17 ∷ []) ≡ 3500 ∷ 500 ∷ 501 ∷ 501 ∷ []
unfolding count_of
counts = refl

-- sources by number: the 8254, the clock, the last timer, and the first and the last local APIC
sources : map source_of (0 ∷ 1 ∷ 9 ∷ 16 ∷ 79 ∷ []) ≡ Pit ∷ Rtc ∷ Hpet 7 ∷ Apic 0 ∷ Apic 63 ∷ []
sources = refl

-- lines 0 and 23, and line 8 alone
lines : map (lines_word line_numbers)
    ((true ∷ false ∷ false ∷ false ∷ false ∷ true ∷ []) ∷ (false ∷ true ∷ false ∷ false ∷ false ∷ false ∷ []) ∷ [])
    ≡ 0x800001 ∷ 0x100 ∷ []
lines = refl

values : map value_words (Byte 0x34 ∷ Wall 2 1700000000 5 ∷ []) ≡ (0x34 ∷ 0 ∷ 0 ∷ 0 ∷ []) ∷ (2 ∷ 1700000000 ∷ 5 ∷ 0 ∷ []) ∷ []
values = refl

-- three messages of timer 2, a microsecond apart
a_burst : burst_words (record { timer = 2; first = 1000; count = 3; every = 1000; address = 0xfee00000; «data» = 0x31 })
    ≡ record { first_ns = 1000; count = 3; every_ns = 1000; address = 0xfee00000; «data» = 0x31; timer = 2; reserved = 0 }
a_burst = refl

-- a setup in range
abbrev plain : SetupWords
plain = record {
  host_khz = 1000000;
  host_start = 0;
  base_ns = 0;
  guest_khz = 2000000;
  slew_ns = 1000000;
  wall_sec = 0;
  wall_nsec = 0;
  format = 1;
  cpus = 16;
  pit_policy = 0;
  rtc_policy = 1;
  hpet_policy = 2;
  sec = 0;
  min = 0;
  hour = 0;
  wday = 1;
  date = 1;
  month = 1;
  year = 0;
}

-- 16 processors; 17 in format 1, and in format 2; a fourth policy
setups : map setup_valid
    (plain ∷ record plain { cpus = 17 } ∷ record plain { cpus = 17; format = 2 } ∷ record plain { hpet_policy = 3 } ∷ [])
    ≡ true ∷ false ∷ true ∷ false ∷ []
setups = refl

-- time bytes that spell no time: second 61h, hour 24h, a digit that isn't decimal, month 0, 31 April; and they are kept
any_time : map setup_valid
    (record plain { sec = 0x61 } ∷ record plain { hour = 0x24 } ∷ record plain { min = 0x0a } ∷ record plain { month = 0 }
    ∷ record plain { date = 0x31; month = 4 } ∷ [])
    ≡ true ∷ true ∷ true ∷ true ∷ true ∷ []
any_time = refl

second_kept : (setup_of (record plain { sec = 0x61 })).time.sec ≡ 0x61
second_kept = refl

-- 1970 began on a Thursday
the_epoch : setup_at 0 plain ≡ record plain { wday = 5; year = 0x70 }
the_epoch = refl

-- the last second of February 2100, and the first of March
last_setup : map setup_at_code (4107542399 ∷ 4107542400 ∷ []) ≡ OK ∷ OUT_OF_RANGE ∷ []
last_setup = refl

-- the times of a counter of 3 GHz end 2^59 ns after its first count, and those of 64 bits may end sooner
last_counts : map last_count (fast ∷ record fast { khz = 10000000; start = 13000000000000000000 } ∷ [])
    ≡ 1729382256910270963 ∷ 18446744073709551615 ∷ []
unfolding count_of
last_counts = refl

-- a board whose pages threads share: no write of the TSC or of Hyper-V's page, no refresh, no save and no second opening
abbrev shared_by_threads : BoardParts → CallerBoard
shared_by_threads s = record { seal = SEAL; shared = true; known = true; state = s }

shared_calls : (s : BoardParts) → map (early_code (shared_by_threads s) 0) (MsrWrite 0x10 5 ∷ MsrWrite 0x40000021 5 ∷ Refresh 1 ∷ [])
    ≡ Some SHARED ∷ Some SHARED ∷ Some SHARED ∷ []
shared_calls s = refl

wall_clock_write : (s : BoardParts) → early_code (shared_by_threads s) 0 (MsrWrite 0x4b564d00 5) ≡ access_code s 0 (MsrWrite 0x4b564d00 5)
wall_clock_write s = refl

shared_save : (s : BoardParts) → save_code (shared_by_threads s) 8000 ≡ SHARED
shared_save s = refl

second_opening : (s : BoardParts) → opened (shared_by_threads s) ≡ shared_by_threads s
second_opening s = refl

-- one that was never opened
never_opened : (s : BoardParts) → open_code (sealed s) ≡ NOT_SHARED
never_opened s = refl

-- what threads are given of a board that counts alike with its host, and Hyper-V's page in words: half a
-- unit a tick, 7 units at TSC 0
abbrev alike : ℕ → RateWords
alike format = record {
  seal = RATES_SEAL;
  host_start = 5;
  host_last = 100;
  ratio = 0x1000000000000;
  greatest_ns = 0;
  cpus = 1;
  format = format;
}

abbrev half : FiveWords
half = record { word = 2 ∷ 0x8000000000000000 ∷ 7 ∷ 0x1000000000000 ∷ 0 ∷ [] }

-- 17 units in format 4, and no page in format 3
hv_units : hv_reading_told (alike 4) half 20 ≡ 17
unfolding reference_time units_of tsc_by
hv_units = refl

no_hv_page : hv_reading_code (alike 3) half 20 ≡ NOT_OURS
no_hv_page = refl

-- a read of the HPET or the 8254 leaves a next edge as it was, if no line changed on the way; a read of the MC146818, and a write of a port, don't
edge_left : map leaves_lines (HpetRead 0xf0 8 ∷ PortIn 0x61 ∷ PortIn 0x71 ∷ PortOut 0x70 0 ∷ []) ≡ true ∷ true ∷ false ∷ false ∷ []
edge_left = refl
