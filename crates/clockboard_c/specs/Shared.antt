-- What threads that share a board's pages work with: what no access changes of it, a page as words, and
-- what such words give at a count.
use Rattle.std.specs.Prelude.{ℕ, ◌-◌, ◌^◌, ◌<◌, ◌≤◌, ◌↔◌, ◌==◌, nat_lt, min, max, true, false, if◌then◌else◌}
use Rattle.clk_units.specs.declared.ranges.TheConstants.{RANGE_NS}
use Rattle.host_counter.specs.declared.Anchor.{Anchor}
use Rattle.tsc_scale.specs.Ratio.{ratio_of}
use Rattle.tsc_scale.specs.Offset.{tsc_by}
use Rattle.pvclock_page.specs.declared.page.PageReply.{PageReply}
use Rattle.pvclock_page.specs.declared.page.PageReply.TheVariants.{Off, On}
use Rattle.pvclock_page.specs.Words.{words_of, page_of}
use Rattle.pvclock_page.specs.Reading.{reading_of}
use Rattle.hv_page.specs.declared.page.HvReply.{HvReply}
use Rattle.hv_page.specs.declared.page.HvReply.TheVariants.{Off as HvOff, On as HvOn}
use Rattle.hv_page.specs.Words.{as_page, of_page}
use Rattle.hv_page.specs.Time.{reply}
use Rattle.board_types.specs.declared.parts.BoardParts.{BoardParts}
use Rattle.board_types.specs.declared.setup.TheConstants.{HV_FORMAT}
use Rattle.host_counter.specs.Time.{HasTime}
use Rattle.board_core.specs.Tsc.{processor_at}
use Rattle.board_core.specs.Hv.{hv_in}
use Rattle.board_core.specs.Pages.{page_in, with_greatest}
use Rattle.clockboard_c.specs.Kept.{CallerBoard}
use Rattle.clockboard_c.specs.declared.board.TheConstants.{SEAL}
use Rattle.clockboard_c.specs.declared.code.TheConstants.{OK, NO_BOARD, NO_PROCESSOR, BEFORE_START, OUT_OF_RANGE, PAGE_OFF, NOT_OURS, NOT_SHARED}
use Rattle.clockboard_c.specs.declared.shared.RateWords.{RateWords}
use Rattle.clockboard_c.specs.declared.shared.FiveWords.{FiveWords}
use Rattle.clockboard_c.specs.declared.shared.TheConstants.{RATES_SEAL}
use Rattle.clockboard_c.specs.Timer.{count_of}
use Rattle.clockboard_c.specs.States.{whole_code}

-- the last count of 64 bits that has a time
abbrev pub last_count : Anchor → ℕ
last_count anchor = min (count_of anchor RANGE_NS) (2 ^ 64) - 1

-- what no access changes, and the greatest reading of a clock so far
abbrev pub rates_of : BoardParts → RateWords
rates_of s = record {
  seal = RATES_SEAL;
  host_start = s.anchor.start;
  host_last = last_count s.anchor;
  ratio = ratio_of s.guest_khz s.anchor.khz;
  greatest_ns = s.greatest;
  cpus = s.cpus;
  format = s.format;
}

-- the counts of 64 bits from the first to the last one are those that have a time
abbrev pub AreTimes : Anchor → ℕ → ℕ → Type 0
AreTimes anchor first last =
    (h : ℕ) → h < 2 ^ 64 → ((first ≤ h) × (h ≤ last)) ↔ HasTime anchor h

-- a board that is opened for sharing, and what its threads are given
abbrev pub opened : CallerBoard → CallerBoard
opened b = if whole_code b == OK then record b { shared = true } else b

abbrev pub rates_in_memory : CallerBoard → RateWords → RateWords
rates_in_memory b before = if whole_code b == OK then rates_of b.state else before

-- the code of what only threads that share a board ask
abbrev pub open_code : CallerBoard → ℕ
open_code b = if b.seal == SEAL then (if b.shared then OK else NOT_SHARED) else NO_BOARD

-- a board that is closed, with the greatest reading that its threads gave
abbrev pub closed : CallerBoard → ℕ → CallerBoard
closed b told =
    if open_code b == OK then
    record b { shared = false; state = with_greatest b.state (max b.state.greatest told) }
    else b

-- the words of a page, or what the memory held before
abbrev pub words_code : CallerBoard → ℕ → ℕ
words_code b cpu =
    if open_code b == OK then (if nat_lt cpu b.state.cpus then OK else NO_PROCESSOR) else open_code b

abbrev pub words_in_memory : CallerBoard → ℕ → FiveWords → FiveWords
words_in_memory b cpu before =
    if words_code b cpu == OK then record { word = words_of (page_in (processor_at b.state cpu)) }
    else before

-- what words give at a count, by the ratio of the guest's rate to the host's
abbrev pub reply_in : FiveWords → ℕ → ℕ → PageReply
reply_in ws ratio h =
    if (page_of ws.word).enabled then
    On (page_of ws.word)
    (reading_of (page_of ws.word) (tsc_by (page_of ws.word).offset h ratio))
    else Off

-- whether a count has a time
abbrev pub count_code : RateWords → ℕ → ℕ
count_code r h =
    if nat_lt h r.host_start then BEFORE_START
    else (if nat_lt r.host_last h then OUT_OF_RANGE else OK)

-- the code of such a reading, the causes in this order: no call has filled the rates; the count has no
-- time; the page isn't enabled
abbrev pub code_in : PageReply → ℕ
code_in Off = PAGE_OFF
code_in (On page reading) = OK

abbrev pub reading_code : RateWords → FiveWords → ℕ → ℕ
reading_code r ws h =
    if r.seal == RATES_SEAL then
    (if count_code r h == OK then code_in (reply_in ws r.ratio h) else count_code r h)
    else NO_BOARD

abbrev pub reading_in : PageReply → ℕ
reading_in Off = 0
reading_in (On page reading) = reading

abbrev pub reading_told : RateWords → FiveWords → ℕ → ℕ
reading_told r ws h =
    if reading_code r ws h == OK then reading_in (reply_in ws r.ratio h) else 0

-- the words of Hyper-V's reference page, which a board has from format 4 on, or what the memory held
-- before
abbrev pub hv_words_code : CallerBoard → ℕ
hv_words_code b =
    if open_code b == OK then (if nat_lt b.state.format HV_FORMAT then NOT_OURS else OK)
    else open_code b

abbrev pub hv_words_in_memory : CallerBoard → FiveWords → FiveWords
hv_words_in_memory b before =
    if hv_words_code b == OK then record { word = words_of (as_page (hv_in b.state.hv)) } else before

-- what its words give at a count, by the ratio of the guest's rate to the host's
abbrev pub hv_reply_in : FiveWords → ℕ → ℕ → HvReply
hv_reply_in ws ratio h =
    reply (of_page (page_of ws.word)) (tsc_by (of_page (page_of ws.word)).tsc_offset h ratio)

-- the code of such a reading, the causes in this order: no call has filled the rates; the format has no
-- such page; the count has no time; the page isn't enabled
abbrev pub hv_code_in : HvReply → ℕ
hv_code_in HvOff = PAGE_OFF
hv_code_in (HvOn page reading) = OK

abbrev pub hv_reading_code : RateWords → FiveWords → ℕ → ℕ
hv_reading_code r ws h =
    if r.seal == RATES_SEAL then
    (if nat_lt r.format HV_FORMAT then NOT_OURS
    else (if count_code r h == OK then hv_code_in (hv_reply_in ws r.ratio h) else count_code r h))
    else NO_BOARD

abbrev pub hv_reading_in : HvReply → ℕ
hv_reading_in HvOff = 0
hv_reading_in (HvOn page reading) = reading

abbrev pub hv_reading_told : RateWords → FiveWords → ℕ → ℕ
hv_reading_told r ws h =
    if hv_reading_code r ws h == OK then hv_reading_in (hv_reply_in ws r.ratio h) else 0
