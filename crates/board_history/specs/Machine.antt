-- What a history says of a board: its pages, and what no entry changes.
use Rattle.std.specs.Prelude.{ℕ, ◌==◌, Option, Some, if◌then◌else◌}
use Rattle.host_counter.specs.declared.Anchor.{Anchor}
use Rattle.tsc_scale.specs.Ratio.{ratio_of}
use Rattle.pvclock_page.specs.declared.page.Page.{Page}
use Rattle.hv_page.specs.Words.{as_page}
use Rattle.board_core.specs.Hv.{hv_in}
use Rattle.board_meters.specs.Published.{publishes_hv}
use Rattle.board_types.specs.declared.access.Access.{Access}
use Rattle.board_types.specs.declared.parts.BoardParts.{BoardParts}
use Rattle.board_types.specs.Setup.{setup_by_default}
use Rattle.board_core.specs.PowerOn.{board_at_power_on}
use Rattle.board_core.specs.Tsc.{processor_at}
use Rattle.board_core.specs.Pages.{page_in}
use Rattle.board_meters.specs.Published.{published_by}

-- the page k of a board's table: those of the processors, and after the last the reference page
-- of Hyper-V, which is all 0 where the format has none (own)
abbrev pub page_at : BoardParts → ℕ → Page
page_at b k = if k == b.cpus then as_page (hv_in b.hv) else page_in (processor_at b k)

-- the page of the table of so many processors that an access of processor cpu publishes
abbrev pub page_published : ℕ → ℕ → Access → Option ℕ
page_published cpus cpu a = if publishes_hv a then Some cpus else published_by cpu a

-- what no entry but the first sets: the format, the number of processors, the rates of the counters
pub record Machine : Type 0 where
  pub format : ℕ
  pub cpus : ℕ
  pub anchor : Anchor
  pub guest_khz : ℕ

-- the machine of a board
abbrev pub machine_of : BoardParts → Machine
machine_of b = record {
  format = b.format;
  cpus = b.cpus;
  anchor = b.anchor;
  guest_khz = b.guest_khz;
}

-- the ratio of a board's guest TSC to the host's counter
abbrev pub ratio_in : BoardParts → ℕ
ratio_in b = ratio_of b.guest_khz b.anchor.khz

-- the board after no entry, of which nothing is said
unfoldable pub no_board : BoardParts
no_board = board_at_power_on (setup_by_default 1)
