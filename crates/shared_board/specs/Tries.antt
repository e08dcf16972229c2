-- A read without the lock, told of the seat.
use Rattle.std.specs.Prelude.{◌≡◌, ◌⊎◌, ℕ, ◌%◌, ◌<◌, ◌≤◌, false, Some}
use Rattle.pvclock_page.specs.declared.page.Page.{Page}
use Rattle.host_counter.specs.declared.Anchor.{Anchor}
use Rattle.host_counter.specs.Time.{time_fault}
use Rattle.host_counter.specs.Time.{HasTime}
use Rattle.board_history.specs.History.{version_after, read_of}
use Rattle.clock_table.specs.declared.view.View.{View}
use Rattle.clock_table.specs.Steps.{Hears, missed, number_in}
use Rattle.shared_board.specs.declared.fault.PageFault.{PageFault}
use Rattle.shared_board.specs.declared.fault.PageFault.TheVariants.{NoTime, Again}

-- the page was read
pub record HasHeard (n k h : ℕ) (page : Page) (v w : View) : Type 0 where
  pub heard : Hears (read_of n (number_in v) k h page false) v w
  pub least : version_after v.seen k ≤ page.version

-- the read met an update
pub record HasMissed (cpu first second : ℕ) (v w : View) : Type 0 where
  pub missed : w ≡ missed cpu first second v
  pub least : version_after v.seen cpu ≤ first
  pub update : ((first % 2 ≡ 1) × (second ≡ first)) ⊎ (first < second)

abbrev pub IsTryFault : Anchor → ℕ → ℕ → PageFault → View → View → Type 0
IsTryFault anchor cpu h (NoTime fault) v w = (time_fault anchor h ≡ Some fault) × (w ≡ v)
IsTryFault anchor cpu h (Again first second) v w =
    HasTime anchor h × HasMissed cpu first second v w
