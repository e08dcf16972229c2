-- The pages of the paravirtual clock: publishing, reading, and the clamp (Linux, msr.rst,
-- "MSR_KVM_SYSTEM_TIME_NEW", and pvclock-abi.h).
use Rattle.std.specs.Prelude.{ℕ, ◌+◌, ◌*◌, max, if◌then◌else◌, List, slice_index_or, slice_set, Option, Some, None}
use Rattle.clk_units.specs.Bits.{bit}
use Rattle.host_counter.specs.declared.Anchor.{Anchor}
use Rattle.host_counter.specs.Time.{time_at}
use Rattle.tsc_scale.specs.declared.Tsc.{Tsc}
use Rattle.tsc_scale.specs.Offset.{tsc_by}
use Rattle.tsc_scale.specs.Ratio.{ratio_of}
use Rattle.pvclock_page.specs.Scale.{mul_for, shift_for}
use Rattle.pvclock_page.specs.declared.page.Page.{Page}
use Rattle.pvclock_page.specs.declared.page.PageReply.{PageReply}
use Rattle.pvclock_page.specs.declared.page.PageReply.TheVariants.{Off, On}
use Rattle.pvclock_page.specs.declared.page.ClockReply.{ClockReply}
use Rattle.pvclock_page.specs.declared.page.ClockReply.TheVariants.{Off as ClockOff, On as ClockOn}
use Rattle.pvclock_page.specs.Reading.{reading_of}
use Rattle.board_types.specs.declared.access.Access.{Access}
use Rattle.board_types.specs.declared.access.Access.TheVariants.{MsrWrite}
use Rattle.board_types.specs.declared.parts.BoardParts.{BoardParts}
use Rattle.board_types.specs.declared.parts.ProcessorParts.{ProcessorParts}
use Rattle.board_meters.specs.Published.{published_by}
use Rattle.board_core.specs.Tsc.{no_processor, processor_at, with_tsc, tsc_read, msr_written}

-- a processor's page is published at count h, with these flags: its version goes up by 2, and it
-- holds the TSC and the time at h, and the scale of the guest's rate
unfoldable pub published : Anchor → ℕ → ℕ → ℕ → ProcessorParts → ProcessorParts
published anchor guest_khz h flags p = record p {
  version = p.version + 2;
  tsc_timestamp = tsc_read anchor guest_khz h p;
  system_time = time_at anchor h;
  mul = mul_for (guest_khz * 1000);
  shift = shift_for (guest_khz * 1000);
  flags = flags;
}

-- the page of a processor; bit 0 of the number in MSR_KVM_SYSTEM_TIME_NEW enables it
abbrev pub page_in : ProcessorParts → Page
page_in p = record {
  version = p.version;
  tsc_timestamp = p.tsc_timestamp;
  system_time = p.system_time;
  mul = p.mul;
  shift = p.shift;
  flags = p.flags;
  offset = p.offset;
  enabled = bit 0 p.number;
}

-- what an access does to that processor before its page is published
abbrev pub prepared : Anchor → ℕ → ℕ → Access → ProcessorParts → ProcessorParts
prepared anchor guest_khz h (MsrWrite msr v) p = msr_written anchor guest_khz h msr v p
prepared anchor guest_khz h _ p = p

-- the processors with the page at a place published, if there is one, with the flag of a stable TSC
abbrev pub published_at :
    Option ℕ → Anchor → ℕ → ℕ → Access → List ProcessorParts → List ProcessorParts
published_at None anchor guest_khz h a ps = ps
published_at (Some k) anchor guest_khz h a ps =
    slice_set ps k
    (published anchor guest_khz h 1
    (prepared anchor guest_khz h a (slice_index_or ps k no_processor)))

-- the processors after an access: all but the published one stay
unfoldable pub processors_after :
    Anchor → ℕ → ℕ → ℕ → Access → List ProcessorParts → List ProcessorParts
processors_after anchor guest_khz cpu h a ps =
    published_at (published_by cpu a) anchor guest_khz h a ps

-- the board with a processor's TSC set, and its page published at the greatest count of accesses
unfoldable pub published_at_host : ℕ → Tsc → ℕ → BoardParts → BoardParts
published_at_host cpu tsc flags b = record b {
  processors = slice_set b.processors cpu
      (published b.anchor b.guest_khz b.host flags (with_tsc tsc (processor_at b cpu)));
}

-- the time that a page gives at count h, by the ratio of the guest's TSC to the host's counter: that
-- at the TSC there, by the page's own offset
abbrev pub reading_by : ℕ → Page → ℕ → ℕ
reading_by ratio page h = reading_of page (tsc_by page.offset h ratio)

-- what a read of a page is answered
abbrev pub answer_by : ℕ → Page → ℕ → PageReply
answer_by ratio page h = if page.enabled then On page (reading_by ratio page h) else Off

-- a read of the page of a processor at count h
unfoldable pub page_reply : BoardParts → ℕ → ℕ → PageReply
page_reply b cpu h =
    answer_by (ratio_of b.guest_khz b.anchor.khz) (page_in (processor_at b cpu)) h

-- the clamp: a clock reads the greater of a page's reading and of all readings before
abbrev pub clamped : ℕ → PageReply → ClockReply
clamped greatest Off = ClockOff
clamped greatest (On page reading) = ClockOn reading (max reading greatest)

-- the greatest reading after a read of a clock
abbrev pub greatest_with : ℕ → PageReply → ℕ
greatest_with greatest Off = greatest
greatest_with greatest (On page reading) = max reading greatest

-- a read of the clock by a page at count h, and what it leaves
unfoldable pub clock_reply : BoardParts → ℕ → ℕ → ClockReply
clock_reply b cpu h = clamped b.greatest (page_reply b cpu h)

-- the board after a read of the clock
unfoldable pub after_clock : BoardParts → ℕ → ℕ → BoardParts
after_clock b cpu h = record b { greatest = greatest_with b.greatest (page_reply b cpu h) }

-- the board with another greatest reading
abbrev pub with_greatest : BoardParts → ℕ → BoardParts
with_greatest b g = record b { greatest = g }
