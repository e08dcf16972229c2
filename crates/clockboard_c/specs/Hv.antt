-- What C reads of Hyper-V's reference page.
use Rattle.std.specs.Prelude.{ℕ, ◌-◌, ◌%◌, ◌==◌, nat_lt, if◌then◌else◌, [], ◌∷◌}
use Rattle.clk_units.specs.Bits.{bit}
use Rattle.hv_page.specs.Guest.{guest_bytes, guest_sequence}
use Rattle.hv_page.specs.declared.page.HvReply.{HvReply}
use Rattle.hv_page.specs.declared.page.HvReply.TheVariants.{Off, On}
use Rattle.board_types.specs.declared.parts.BoardParts.{BoardParts}
use Rattle.board_types.specs.declared.setup.TheConstants.{HV_FORMAT}
use Rattle.board_core.specs.Hv.{hv_in, hv_reply}
use Rattle.board_core.specs.Time.{now_of}
use Rattle.clockboard_c.specs.Kept.{CallerBoard}
use Rattle.clockboard_c.specs.declared.board.TheConstants.{SEAL}
use Rattle.clockboard_c.specs.declared.code.TheConstants.{OK, NO_BOARD, NOT_OURS, PAGE_OFF}
use Rattle.clockboard_c.specs.declared.hv.HvWords.{HvWords}
use Rattle.clockboard_c.specs.Pages.{in_time}
use Rattle.clockboard_c.specs.Replies.{Told, refused, taken}

-- a page: bits 63 to 12 of the number are the guest's page, and bit 0 enables it (TLFS, "Reference
-- TSC Page MSR")
abbrev pub hv_words : BoardParts → HvWords
hv_words s = record {
  guest_address = s.hv.number - s.hv.number % 4096;
  enabled = if bit 0 s.hv.number then 1 else 0;
  sequence = guest_sequence (hv_in s.hv);
  bytes = guest_bytes (hv_in s.hv);
}

-- the code of a question about the page, which a board has from format 4 on
abbrev pub hv_code : CallerBoard → ℕ
hv_code b =
    if b.seal == SEAL then (if nat_lt b.state.format HV_FORMAT then NOT_OURS else OK)
    else NO_BOARD

-- the page, or what the memory held before
abbrev pub hv_in_memory : CallerBoard → HvWords → HvWords
hv_in_memory b before = if hv_code b == OK then hv_words b.state else before

-- what a read of the page answers: the time that it gives
abbrev pub hv_time_in : HvReply → ℕ → Told
hv_time_in Off now = refused PAGE_OFF
hv_time_in (On page reading) now = taken 0 now (reading ∷ 0 ∷ 0 ∷ 0 ∷ []) [] []

-- the same at count h, which must have a time
abbrev pub hv_time_by : BoardParts → ℕ → Told
hv_time_by s h = in_time s h (hv_time_in (hv_reply s h) (now_of s))

-- what the call answers
abbrev pub hv_time_told : CallerBoard → ℕ → Told
hv_time_told b h = if hv_code b == OK then hv_time_by b.state h else refused (hv_code b)
