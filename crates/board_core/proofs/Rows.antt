-- Rows on the definitions: each rule at one small case, so that a weaker rule is seen.
use Rattle.std.proofs.Common.{◌≡◌, ℕ, pos, ◌+◌, ◌-◌, ◌^◌, true, false, List, [], ◌∷◌, map, set, Some, None, refl, ap, arith}
use Rattle.host_counter.specs.declared.Anchor.{Anchor}
use Rattle.host_counter.specs.Time.{time_at}
use Rattle.tsc_scale.specs.Offset.{tsc_by}
use Rattle.irq_edges.specs.declared.edges.Edge.{Edge}
use Rattle.pit_readback.specs.Ports.{after_port_read}
use Rattle.pvclock_page.specs.declared.page.PageReply.{PageReply}
use Rattle.pvclock_page.specs.declared.page.PageReply.TheVariants.{Off, On}
use Rattle.pvclock_page.specs.declared.page.ClockReply.TheVariants.{Off as ClockOff, On as ClockOn}
use Rattle.pvclock_page.specs.Scale.{mul_for, shift_for}
use Rattle.pvclock_page.specs.Reading.{reading_of}
use Rattle.tick_policy.specs.declared.parts.Policy.TheVariants.{Delay, Slew}
use Rattle.tick_policy.specs.declared.parts.TickParts.{TickParts}
use Rattle.host_counter.specs.declared.TimeFault.TheVariants.{BeforeStart, OutOfRange}
use Rattle.board_types.specs.declared.access.Access.TheVariants.{PortIn, PortOut, HpetRead, MsrWrite, Step, Refresh}
use Rattle.board_types.specs.declared.parts.BoardParts.{BoardParts}
use Rattle.board_types.specs.declared.parts.ProcessorParts.{ProcessorParts}
use Rattle.board_types.specs.declared.reply.Refusal.TheVariants.{NoTime, VersionsSpent, Spent}
use Rattle.board_types.specs.declared.reply.Value.TheVariants.{Wall as Words}
use Rattle.board_types.specs.declared.setup.Setup.{Setup}
use Rattle.board_devices.specs.declared.act.Act.TheVariants.{PitRead, PitWrite, IndexRead, IndexWrite, ClockRead, ClockWrite, Nothing}
use Rattle.board_core.specs.Time.{now_of, time_of_access}
use Rattle.board_core.specs.Tsc.{no_processor, msr_read, msr_written}
use Rattle.board_core.specs.Pages.{published, page_in, page_reply, clamped, greatest_with}
use Rattle.board_meters.specs.Published.{published_by}
use Rattle.board_core.specs.Wall.{wall_number_after, wall_words}
use Rattle.board_meters.specs.Published.{wall_version_after}
use Rattle.board_core.specs.Refusals.{meters_of, refusal_of}
use Rattle.board_meters.specs.Meters.{refusal_in}
use Rattle.board_core.specs.Rises.{rises_after, count_at}
use Rattle.board_core.specs.Access.{act_of}
use Rattle.board_core.specs.Lazy.{is_passive, left_by}
use Rattle.board_core.specs.PowerOn.{board_at_power_on}
use Rattle.board_core.specs.Upgrade.{upgraded_to}
use Rattle.board_devices.specs.Parts.{devices_upgraded}
use Rattle.board_core.specs.Conditions.{IsVersion, IsWall, flags_valid, IsProcessor, AreRises, IsFormat}

-- a host and a guest of 1 GHz, and a guest of 2 GHz
abbrev plain : Anchor
plain = record { khz = 1000000; start = 0; base_ns = 0 }

abbrev moved : Anchor
moved = record { khz = 3000000; start = 500; base_ns = 1000002000 }

abbrev setup : Setup
setup = record {
  format = 2;
  anchor = record { khz = 1000000; start = 100; base_ns = 5000 };
  guest_khz = 2000000;
  cpus = 2;
  pit = Delay;
  rtc = Delay;
  hpet = Delay;
  slew_ns = 1000;
  wall_sec = 7;
  wall_nsec = 9;
  time = record { sec = 0; min = 0; hour = 0; wday = 1; date = 1; month = 1; year = 0 };
}

abbrev board : BoardParts
board = board_at_power_on setup

-- the time of a board, and those of accesses at a count before its own and at one after it
times : now_of board ∷ map (time_of_access (record board { host = 300 })) (200 ∷ 400 ∷ []) ≡ 5000 ∷ 5200 ∷ 5300 ∷ []
unfolding time_at
times = refl

-- a processor whose TSC was moved back by 1000
abbrev back : ProcessorParts
back = record no_processor { offset = 0xfffffffffffffc18; adjust = 0xfffffffffffffc18 }

-- a write of the TSC moves TSC_ADJUST by the same amount, and the other way round; a number is stored
msrs_written : msr_written plain 1000000 1000 0x10 0 no_processor
    ∷ msr_written plain 1000000 1500 0x3b 0 back
    ∷ msr_written plain 1000000 1500 0x4b564d01 3 no_processor
    ∷ []
    ≡ back ∷ no_processor ∷ record no_processor { number = 3 } ∷ []
unfolding tsc_by
msrs_written = refl

-- the TSC is read at the access's own count
tsc_read : msr_read (record board { host = 900 }) 0 300 0x10 ≡ 600
unfolding tsc_by
tsc_read = refl

-- publishing: version, TSC, time, scale and flags; the first time, and after a move
pages_published : published plain 2000000 1000 1 (record no_processor { number = 1 })
    ∷ published moved 2000000 3500 3 (record no_processor { version = 4 })
    ∷ []
    ≡ record no_processor { number = 1; version = 2; tsc_timestamp = 2000; system_time = 1000; mul = 0x80000000; flags = 1 }
    ∷ record no_processor { version = 6; tsc_timestamp = 2333; system_time = 1000003000; mul = 0x80000000; flags = 3 }
    ∷ []
unfolding published time_at tsc_by mul_for shift_for
pages_published = refl

-- which page an access of processor 1 publishes: a refresh the named one, a write of the TSC, TSC_ADJUST or the number its own
publishes : map (published_by 1)
    (Refresh 5 ∷ MsrWrite 0x10 7 ∷ MsrWrite 0x3b 7 ∷ MsrWrite 0x4b564d01 7 ∷ MsrWrite 0x4b564d00 7 ∷ Step ∷ [])
    ≡ Some 5 ∷ Some 1 ∷ Some 1 ∷ Some 1 ∷ None ∷ None ∷ []
publishes = refl

-- a publishing raises the version by 2
version_published : (p : ProcessorParts) → (published plain 1000000 5 1 p).version ≡ p.version + 2
unfolding published
version_published p = refl

-- a page is on by bit 0 of the number, and gives its time at the TSC of its own offset, or that of its publishing before it
abbrev page : ℕ → ℕ → ProcessorParts
page number offset = record no_processor {
  offset = offset;
  number = number;
  version = 2;
  tsc_timestamp = 2000;
  system_time = 1000;
  mul = 0x80000000;
  shift = pos 0;
  flags = 1;
}

abbrev reply_at : ℕ → ProcessorParts → PageReply
reply_at h p = page_reply (record board { processors = p ∷ [] }) 0 h

page_replies : map (reply_at 1500) (page 2 0 ∷ page 3 0 ∷ page 1 40 ∷ [])
    ≡ Off ∷ On (page_in (page 3 0)) 1500 ∷ On (page_in (page 1 40)) 1520 ∷ []
unfolding page_reply reading_of tsc_by
page_replies = refl

before_its_publishing : reply_at 900 (page 1 0) ≡ On (page_in (page 1 0)) 1000
unfolding page_reply reading_of tsc_by
before_its_publishing = refl

-- the clamp by a greatest reading of 1000, and the greatest reading after it
clamps : map (clamped 1000) (On (page_in no_processor) 900 ∷ On (page_in no_processor) 1100 ∷ Off ∷ [])
    ≡ ClockOn 900 1000 ∷ ClockOn 1100 1100 ∷ ClockOff ∷ []
clamps = refl

greatest : map (greatest_with 1000) (On (page_in no_processor) 900 ∷ On (page_in no_processor) 1100 ∷ []) ≡ 1000 ∷ 1100 ∷ []
greatest = refl

-- the words of the wall clock, which are 0 before it is published, and what a write of its MSR makes of its number and version
words : map wall_words (board ∷ record board { wall_version = 2 } ∷ []) ≡ Words 0 0 0 ∷ Words 2 7 9 ∷ []
words = refl

wall_number : wall_number_after (MsrWrite 0x4b564d00 5) 2 ≡ 5
wall_number = refl

wall_versions : map (λ msr. wall_version_after (MsrWrite msr 5) 2) (0x4b564d00 ∷ 0x4b564d01 ∷ []) ≡ 4 ∷ 2 ∷ []
wall_versions = refl

-- refusals, each before those that come later: the time ..
abbrev spent_board : ℕ → ℕ → BoardParts
spent_board version accesses = record board { accesses = accesses; wall_version = version; processors = record no_processor { version = version } ∷ [] }

no_time : map (λ h. refusal_of (spent_board 4294967294 (2 ^ 62)) 0 h (Refresh 0)) (99 ∷ (100 + 2 ^ 59 - 5000) ∷ [])
    ≡ Some (NoTime (BeforeStart 100)) ∷ Some (NoTime (OutOfRange (2 ^ 59))) ∷ []
unfolding refusal_in meters_of time_at
no_time = refl

last_time : refusal_of board 0 (100 + 2 ^ 59 - 5001) (Refresh 0) ≡ None
unfolding refusal_in meters_of time_at
last_time = refl

-- .. the version of what is published: a page by a refresh and by a write of the TSC, the wall clock; a page at the last version but one ..
versions_spent : refusal_of (spent_board 4294967294 (2 ^ 62)) 0 100 (Refresh 0)
    ∷ refusal_of (spent_board 4294967294 0) 0 100 (MsrWrite 0x10 0)
    ∷ refusal_of (record board { wall_version = 4294967294 }) 0 100 (MsrWrite 0x4b564d00 0)
    ∷ refusal_of (spent_board 4294967292 0) 0 100 (Refresh 0)
    ∷ []
    ≡ Some (VersionsSpent 4294967294) ∷ Some (VersionsSpent 4294967294) ∷ Some (VersionsSpent 4294967294) ∷ None ∷ []
unfolding refusal_in meters_of time_at
versions_spent = refl

-- .. and the number of accesses
accesses_spent : map (λ n. refusal_of (spent_board 4294967294 n) 0 100 Step) ((2 ^ 62 - 1) ∷ 2 ^ 62 ∷ [])
    ≡ None ∷ Some (Spent (2 ^ 62)) ∷ []
unfolding refusal_in meters_of time_at
accesses_spent = refl

-- the port map; a step does nothing to a device
ports_read : map act_of (PortIn 0x70 ∷ PortIn 0x71 ∷ PortIn 0x61 ∷ PortIn 0x40 ∷ [])
    ≡ IndexRead ∷ ClockRead ∷ PitRead 0x61 ∷ PitRead 0x40 ∷ []
ports_read = refl

ports_written : map act_of (PortOut 0x70 9 ∷ PortOut 0x71 9 ∷ PortOut 0x43 9 ∷ Step ∷ [])
    ≡ IndexWrite 9 ∷ ClockWrite 9 ∷ PitWrite 0x43 9 ∷ Nothing ∷ []
ports_written = refl

-- rises count the edges upwards of each line, from format 2 on
abbrev edges : List Edge
edges = record { at = 1; line = 0; up = true } ∷ record { at = 2; line = 0; up = false } ∷ record { at = 2; line = 0; up = true }
    ∷ record { at = 3; line = 23; up = true } ∷ record { at = 3; line = 8; up = false } ∷ []

rises : rises_after 2 edges (10 ∷ 11 ∷ 12 ∷ 13 ∷ 14 ∷ 15 ∷ []) ∷ rises_after 1 edges (0 ∷ 0 ∷ 0 ∷ 0 ∷ 0 ∷ 0 ∷ []) ∷ []
    ≡ (12 ∷ 11 ∷ 12 ∷ 13 ∷ 14 ∷ 16 ∷ []) ∷ (0 ∷ 0 ∷ 0 ∷ 0 ∷ 0 ∷ 0 ∷ []) ∷ []
rises = refl

rises_of_line_21 : count_at (0 ∷ 8 ∷ 20 ∷ 21 ∷ 22 ∷ 23 ∷ []) (10 ∷ 11 ∷ 12 ∷ 13 ∷ 14 ∷ 15 ∷ []) 21 ≡ 13
rises_of_line_21 = refl

-- conditions
odd_version : IsVersion 3 → ⊥
odd_version valid = omega (arith, valid.even)

late_version : IsVersion 4294967296 → ⊥
late_version valid = omega (arith, valid.most)

number_before_words : IsWall 5 0 0 → ⊥
number_before_words valid = omega (arith, valid.unpublished refl)

whole_second : IsWall 5 2 1000000000 → ⊥
whole_second valid = omega (arith, valid.below_second)

flags : map flags_valid (1 ∷ 2 ∷ 3 ∷ []) ≡ true ∷ false ∷ true ∷ []
flags = refl

late_page : IsProcessor 2000000 (record no_processor { version = 2; system_time = 2 ^ 59 }) → ⊥
late_page valid = omega (arith, valid.time)

other_scale : IsProcessor 2000000 (record no_processor { version = 2; flags = 1; mul = 1 }) → ⊥
unfolding mul_for shift_for
other_scale valid = omega (arith, valid.mul (omega arith))

offset_unpublished : IsProcessor 2000000 (record no_processor { offset = 1 }) → ⊥
offset_unpublished valid = omega (arith, ap (λ (p : ProcessorParts). p.offset) (valid.unpublished refl))

rises_in_format_1 : AreRises 1 9 [] (1 ∷ []) → ⊥
rises_in_format_1 valid = omega (arith, valid.none (omega arith) 0)

more_rises_than_accesses : AreRises 2 9 (false ∷ []) (10 ∷ []) → ⊥
more_rises_than_accesses valid = omega (arith, valid.most 0 (omega arith))

cpus_of_format_1 : IsFormat 1 17 3 → ⊥
cpus_of_format_1 valid = omega (arith, valid.most_cpus)

timers_of_format_2 : IsFormat 2 17 3 → ⊥
timers_of_format_2 valid = omega (arith, valid.has_timers)

-- a board of format 1 gets five timers as at power on, with lines of the policy of the others; each other part is kept
abbrev started : ℕ → BoardParts
started format = board_at_power_on (record setup { format = format; hpet = Slew })

abbrev used : TickParts
used = record { policy = Slew; up = true; counts = record { due = 3; rises = 1; queue = 2; lost = 0 } }

-- a board in use
abbrev in_use : BoardParts → BoardParts
in_use b = record b {
  host = 900;
  accesses = 7;
  greatest = 5800;
  hpet = record b.hpet { config = 1; status = 5; counter = 90 };
  ticks = set b.ticks 4 used;
  wall_number = 1;
  wall_version = 2;
  processors = page 1 40 ∷ no_processor ∷ [];
}

upgrades : map (upgraded_to 2) (started 1 ∷ in_use (started 1) ∷ in_use board ∷ []) ≡ started 2 ∷ in_use (started 2) ∷ in_use board ∷ []
unfolding upgraded_to devices_upgraded
upgrades = refl

-- an upgrade to the board's own format changes nothing
same_format : upgraded_to 1 (in_use (started 1)) ≡ in_use (started 1)
unfolding upgraded_to devices_upgraded
same_format = refl

-- passive: a step, a read of the main counter from its first byte, and a read of a port of the 8254
passive : map is_passive (Step ∷ HpetRead 0xf0 8 ∷ HpetRead 0xf0 4 ∷ HpetRead 0xf4 4 ∷ PortIn 0x43 ∷ PortIn 0x61 ∷ PortIn 0x71 ∷ PortOut 0x40 0 ∷ [])
    ≡ true ∷ true ∷ true ∷ false ∷ true ∷ true ∷ false ∷ false ∷ []
passive = refl

-- only the last of these leaves something
left : (b : BoardParts) → map (λ a. left_by a b) (Step ∷ HpetRead 0xf0 8 ∷ PortIn 0x40 ∷ []) ≡ b ∷ b ∷ record b { pit = after_port_read 0x40 b.pit } ∷ []
left b = refl
