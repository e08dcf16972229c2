-- What C reads of a page, and of the clock.
use Rattle.std.specs.Prelude.{ℕ, ◌-◌, ◌%◌, ◌==◌, ◌&&◌, if◌then◌else◌, [], ◌∷◌, is_none}
use Rattle.std.specs.Option.{unwrap_or, option_map}
use Rattle.clk_units.specs.Bits.{bit}
use Rattle.pvclock_page.specs.Guest.{guest_bytes}
use Rattle.pvclock_page.specs.declared.page.ClockReply.{ClockReply}
use Rattle.pvclock_page.specs.declared.page.ClockReply.TheVariants.{Off, On}
use Rattle.board_types.specs.declared.parts.BoardParts.{BoardParts}
use Rattle.board_core.specs.Time.{now_of}
use Rattle.host_counter.specs.Time.{time_fault}
use Rattle.board_core.specs.Tsc.{processor_at}
use Rattle.board_core.specs.Pages.{page_in, clock_reply, after_clock}
use Rattle.clockboard_c.specs.Kept.{CallerBoard}
use Rattle.clockboard_c.specs.declared.board.TheConstants.{SEAL}
use Rattle.clockboard_c.specs.declared.code.TheConstants.{OK, PAGE_OFF, SHARED}
use Rattle.clockboard_c.specs.declared.pages.PageWords.{PageWords}
use Rattle.clockboard_c.specs.Codes.{time_code}
use Rattle.clockboard_c.specs.Look.{processor_code}
use Rattle.clockboard_c.specs.Replies.{Told, refused, taken}

-- a page: the guest's address is the number in MSR_KVM_SYSTEM_TIME_NEW without its bit 0, which
-- enables the page (Linux, msr.rst)
abbrev pub page_words : BoardParts → ℕ → PageWords
page_words s cpu = record {
  guest_address = (processor_at s cpu).number - (processor_at s cpu).number % 2;
  enabled = if bit 0 (processor_at s cpu).number then 1 else 0;
  version = (processor_at s cpu).version;
  bytes = guest_bytes (page_in (processor_at s cpu));
}

-- the page, or what the memory held before
abbrev pub page_after : CallerBoard → ℕ → PageWords → PageWords
page_after b cpu before = if processor_code b cpu == OK then page_words b.state cpu else before

-- what a read of the clock answers: its reading, clamped, and that of the page
abbrev pub clock_in : ClockReply → ℕ → Told
clock_in Off now = refused PAGE_OFF
clock_in (On reading clock) now = taken 0 now (clock ∷ reading ∷ 0 ∷ 0 ∷ []) [] []

-- what is told at count h, which must have a time
abbrev pub in_time : BoardParts → ℕ → Told → Told
in_time s h told =
    unwrap_or (option_map (λ fault. refused (time_code fault)) (time_fault s.anchor h)) told

abbrev pub clock_by : BoardParts → ℕ → ℕ → Told
clock_by s cpu h = in_time s h (clock_in (clock_reply s cpu h) (now_of s))

-- and the board after it
abbrev pub state_after_clock : BoardParts → ℕ → ℕ → BoardParts
state_after_clock s cpu h = if is_none (time_fault s.anchor h) then after_clock s cpu h else s

-- the code of a question about the clock of a processor, whose greatest reading the board doesn't
-- know while threads share its pages
abbrev pub clock_code : CallerBoard → ℕ → ℕ
clock_code b cpu =
    if b.seal == SEAL && b.shared then SHARED else processor_code b cpu

-- what the call answers, and the board after it
abbrev pub clock_told : CallerBoard → ℕ → ℕ → Told
clock_told b cpu h =
    if clock_code b cpu == OK then clock_by b.state cpu h else refused (clock_code b cpu)

abbrev pub board_after_clock : CallerBoard → ℕ → ℕ → CallerBoard
board_after_clock b cpu h =
    if clock_code b cpu == OK then record b { state = state_after_clock b.state cpu h } else b
