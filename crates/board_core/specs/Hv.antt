-- The reference page of Hyper-V: publishing, and reading (TLFS, "Partition Reference Time
-- Enlightenment").
use Rattle.std.specs.Prelude.{ℕ, ◌==◌, nat_le, if◌then◌else◌, List, slice_index_or}
use Rattle.clk_units.specs.Bits.{bit}
use Rattle.host_counter.specs.declared.Anchor.{Anchor}
use Rattle.host_counter.specs.Time.{time_at}
use Rattle.tsc_scale.specs.Offset.{tsc_by}
use Rattle.tsc_scale.specs.Ratio.{ratio_of}
use Rattle.hv_page.specs.declared.page.HvPage.{HvPage}
use Rattle.hv_page.specs.declared.page.HvReply.{HvReply}
use Rattle.hv_page.specs.Page.{published, withdrawn}
use Rattle.hv_page.specs.Time.{reply}
use Rattle.board_types.specs.declared.access.Access.{Access}
use Rattle.board_types.specs.declared.access.Access.TheVariants.{MsrWrite}
use Rattle.board_types.specs.declared.access.TheConstants.{MSR_HV_REFERENCE_TSC}
use Rattle.board_types.specs.declared.parts.BoardParts.{BoardParts}
use Rattle.board_types.specs.declared.parts.ProcessorParts.{ProcessorParts}
use Rattle.board_types.specs.declared.parts.HvParts.{HvParts}
use Rattle.board_types.specs.declared.setup.TheConstants.{HV_FORMAT}
use Rattle.board_core.specs.Tsc.{no_processor, processor_at, tsc_read}

-- the page before it is written first, and that of a board whose format has none
abbrev pub no_hv : HvParts
no_hv = record { number = 0; version = 0; cpu = 0; scale = 0; offset = 0; tsc_offset = 0 }

-- the page itself, and the same with another page
abbrev pub hv_in : HvParts → HvPage
hv_in p = record {
  version = p.version;
  scale = p.scale;
  offset = p.offset;
  tsc_offset = p.tsc_offset;
}

-- the same with another page
abbrev pub with_page : HvParts → HvPage → HvParts
with_page p page = record p {
  version = page.version;
  scale = page.scale;
  offset = page.offset;
  tsc_offset = page.tsc_offset;
}

-- it is published at count h by the TSC of its processor; bit 0 of its number enables it
unfoldable pub hv_published : Anchor → ℕ → ℕ → ProcessorParts → HvParts → HvParts
hv_published anchor guest_khz h writer p =
    with_page p
    (if bit 0 p.number then
    published (hv_in p) guest_khz writer.offset (tsc_read anchor guest_khz h writer)
    (time_at anchor h)
    else withdrawn (hv_in p))

-- a write to its MSR by a processor
abbrev pub hv_written : ℕ → ℕ → HvParts → HvParts
hv_written cpu v p = record p { number = v; cpu = cpu }

-- the page after an access of a processor at count h
unfoldable pub hv_after :
    Anchor → ℕ → ℕ → ℕ → Access → List ProcessorParts → HvParts → HvParts
hv_after anchor guest_khz cpu h (MsrWrite msr v) ps p =
    if msr == MSR_HV_REFERENCE_TSC then
    hv_published anchor guest_khz h (slice_index_or ps cpu no_processor) (hv_written cpu v p)
    else p
hv_after anchor guest_khz cpu h _ ps p = p

-- the board with the page published at the greatest count of accesses, by its processor; a board
-- whose format has no such page stays as it is
unfoldable pub hv_published_at_host : BoardParts → BoardParts
hv_published_at_host b = record b {
  hv = if nat_le HV_FORMAT b.format then
      hv_published b.anchor b.guest_khz b.host (processor_at b b.hv.cpu) b.hv
      else b.hv;
}

-- what a read of the page is answered at count h: the time that it gives at the TSC there, by the
-- page's own offset
abbrev pub hv_answer_by : ℕ → HvPage → ℕ → HvReply
hv_answer_by ratio page h = reply page (tsc_by page.tsc_offset h ratio)

-- a read of a board's page at count h
unfoldable pub hv_reply : BoardParts → ℕ → HvReply
hv_reply b h = hv_answer_by (ratio_of b.guest_khz b.anchor.khz) (hv_in b.hv) h
