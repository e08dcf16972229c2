-- What is true of the board after each legal history.
use Rattle.std.specs.Prelude.{◌≡◌, ℕ, ◌<◌, ◌≤◌, ◌^◌, ◌%◌, length, FitsSigned}
use Rattle.std.specs.Int.{w8}
use Rattle.clk_units.specs.Ranges.{IsKhz}
use Rattle.pvclock_page.specs.declared.page.Page.{Page}
use Rattle.board_types.specs.declared.parts.BoardParts.{BoardParts}
use Rattle.board_types.specs.declared.parts.TheConstants.{LAST_VERSION, MOST_ACCESSES}
use Rattle.board_history.specs.Machine.{page_at}

-- a page whose version is even and not past the last one, and whose fields fit the words
pub record IsSteadyPage (p : Page) : Type 0 where
  pub even : p.version % 2 ≡ 0
  pub most : p.version ≤ LAST_VERSION
  pub mul : p.mul < 2 ^ 32
  pub shift : FitsSigned w8 p.shift
  pub flags : p.flags < 2 ^ 8

pub record IsSteady (b : BoardParts) : Type 0 where
  pub places : b.cpus ≤ length b.processors
  pub rate : IsKhz b.guest_khz
  pub pages : (cpu : ℕ) → IsSteadyPage (page_at b cpu)
  pub count : b.accesses ≤ MOST_ACCESSES
