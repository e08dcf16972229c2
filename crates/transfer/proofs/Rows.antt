-- Rows on the definitions: each rule at one small case, so that a weaker rule is seen.
use Rattle.std.proofs.Common.{◌≡◌, ◌-◌, ◌^◌, [], ◌∷◌, map, Some, None, refl}
use Rattle.host_counter.specs.Time.{time_at}
use Rattle.tsc_scale.specs.Offset.{tsc_by}
use Rattle.pvclock_page.specs.Scale.{mul_for, shift_for}
use Rattle.tick_policy.specs.declared.parts.Policy.TheVariants.{Delay}
use Rattle.board_types.specs.declared.parts.BoardParts.{BoardParts}
use Rattle.board_types.specs.declared.parts.ProcessorParts.{ProcessorParts}
use Rattle.board_types.specs.declared.setup.Setup.{Setup}
use Rattle.board_core.specs.Tsc.{no_processor}
use Rattle.board_core.specs.Pages.{published, published_at_host}
use Rattle.hv_page.specs.Scale.{tsc_scale}
use Rattle.hv_page.specs.Time.{units_of}
use Rattle.board_core.specs.Hv.{hv_published, hv_published_at_host, no_hv}
use Rattle.board_core.specs.PowerOn.{board_at_power_on}
use Rattle.board_core.specs.Reanchor.{reanchored}
use Rattle.board_meters.specs.declared.meters.MoveFault.TheVariants.{OutOfRange, VersionsSpent}
use Rattle.transfer.specs.Move.{counts_in, tsc_after_gap, tsc_moved, published_below, moved_to, move_fault}
use Rattle.board_meters.specs.Meters.{or_spent, spent_in, move_fault_in}
use Rattle.board_core.specs.Refusals.{meters_of}

abbrev setup : Setup
setup = record {
  format = 1;
  anchor = record { khz = 1000000; start = 0; base_ns = 0 };
  guest_khz = 2000000;
  cpus = 2;
  pit = Delay;
  rtc = Delay;
  hpet = Delay;
  slew_ns = 1000;
  wall_sec = 0;
  wall_nsec = 0;
  time = record { sec = 0; min = 0; hour = 0; wday = 1; date = 1; month = 1; year = 0 };
}

-- processor 0 has moved its TSC by 5 and its page was published; processor 1 has done nothing
abbrev first : ProcessorParts
first = record no_processor { offset = 5; adjust = 5; number = 1; version = 2; mul = mul_for 2000000000; shift = shift_for 2000000000; flags = 1 }

abbrev board : BoardParts
board = record (board_at_power_on setup) { host = 2000; accesses = 5; greatest = 1000; processors = first ∷ no_processor ∷ [] }

-- the same board with a page at its last version
abbrev spent : BoardParts
spent = record board { processors = first ∷ record no_processor { version = 0xfffffffe } ∷ [] }

-- the gap in counts of the guest, rounded down
counts : counts_in 2000000 1000000000 ∷ counts_in 999999 1 ∷ counts_in 2999999 1 ∷ [] ≡ 2000000000 ∷ 0 ∷ 2 ∷ []
counts = refl

-- a TSC goes on from its value at the greatest count: 4005, and a second at 2 GHz; at its end it wraps
tsc : tsc_after_gap board 1000000000 0 ∷ tsc_after_gap (record board { processors = record no_processor { offset = 2 ^ 64 - 4001 } ∷ [] }) 1 0 ∷ []
    ≡ 2000004005 ∷ 1 ∷ []
unfolding tsc_by
tsc = refl

-- at count 500 of a host of 3 GHz 333 counts of the guest are over; a count beyond the TSC's asks for an offset below 0; TSC_ADJUST is kept
offsets : tsc_moved board 3000000 500 1000000000 0 ∷ tsc_moved board 1000000 3000000000 1000000000 1 ∷ []
    ≡ record { offset = 2000003672; adjust = 5 } ∷ record { offset = 2 ^ 64 - 3999996000; adjust = 0 } ∷ []
unfolding tsc_by
offsets = refl

-- the board on its new host, before the pages are published
abbrev there : BoardParts
there = record board { anchor = record { khz = 3000000; start = 500; base_ns = 1000002000 }; host = 500 }

-- each page is published at `start`, enabled or not, with flags 3, and no other
published_below-both : (published_below board 3000000 500 1000000000 2 there).processors
    ≡ record first { offset = 2000003672; version = 4; tsc_timestamp = 2000004005; system_time = 1000002000; flags = 3 }
    ∷ record no_processor {
      offset = 2000003667;
      version = 2;
      tsc_timestamp = 2000004000;
      system_time = 1000002000;
      mul = mul_for 2000000000;
      shift = shift_for 2000000000;
      flags = 3;
    }
    ∷ []
unfolding published_below published_at_host published tsc_by time_at
published_below-both = refl

published_below-greatest : (published_below board 3000000 500 1000000000 2 there).greatest ≡ 1000
unfolding published_below published_at_host
published_below-greatest = refl

published_below-accesses : (published_below board 3000000 500 1000000000 2 there).accesses ≡ 5
unfolding published_below published_at_host
published_below-accesses = refl

-- the last version, and that below it
spent_versions : map (or_spent None 3) (0xfffffffe ∷ 0xfffffffc ∷ []) ≡ Some (VersionsSpent 3 0xfffffffe) ∷ None ∷ []
spent_versions = refl

-- the same board with both pages at their last version
abbrev spent_twice : BoardParts
spent_twice = record board { processors = record first { version = 0xfffffffe } ∷ record first { version = 0xfffffffe } ∷ [] }

-- the first such processor
first_spent : map (λ b. spent_in (meters_of b).versions 2) (spent ∷ spent_twice ∷ []) ≡ Some (VersionsSpent 1 0xfffffffe) ∷ Some (VersionsSpent 0 0xfffffffe) ∷ []
unfolding spent_in meters_of
first_spent = refl

-- a board whose reference page is at its last version
abbrev reference_spent : BoardParts → BoardParts
reference_spent b = record b { hv = record no_hv { version = 0xfffffffe } }

-- the last time in range is 2^59 - 1, the range is tested first, and the reference page comes after those of the processors
faults : move_fault (2 ^ 59 - 2001) board
    ∷ move_fault (2 ^ 59 - 2000) spent
    ∷ move_fault (2 ^ 59 - 2001) spent
    ∷ move_fault 0 (reference_spent board)
    ∷ move_fault 0 (reference_spent spent)
    ∷ []
    ≡ None
    ∷ Some (OutOfRange (2 ^ 59))
    ∷ Some (VersionsSpent 1 0xfffffffe)
    ∷ Some (VersionsSpent 2 0xfffffffe)
    ∷ Some (VersionsSpent 1 0xfffffffe)
    ∷ []
unfolding move_fault_in spent_in meters_of time_at
faults = refl

-- the reference page is published by the new TSC of its processor, 2000004005 at 1000002000 ns
moved_to-reference : (moved_to 3000000 500 1000000000 (record board { format = 4; hv = record no_hv { number = 1; version = 2 } })).hv
    ≡ record { number = 1; version = 4; cpu = 0; scale = tsc_scale 2000000; offset = 0; tsc_offset = 2000003672 }
unfolding moved_to reanchored published_below published_at_host published hv_published_at_host hv_published tsc_scale units_of tsc_by time_at
moved_to-reference = refl

-- it is published though it was never written; before format 4 there is none
moved_to-never_written : (moved_to 3000000 500 1000000000 (record board { format = 4 })).hv ≡ record no_hv { version = 2 }
unfolding moved_to reanchored published_below published_at_host hv_published_at_host hv_published
moved_to-never_written = refl

moved_to-no_reference : (moved_to 3000000 500 1000000000 (record board { format = 3 })).hv ≡ no_hv
unfolding moved_to reanchored published_below published_at_host hv_published_at_host
moved_to-no_reference = refl
