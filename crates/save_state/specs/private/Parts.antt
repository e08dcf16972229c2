-- What is before the 8254.
use Rattle.std.specs.Prelude.{◌≤◌}
use Rattle.clk_units.specs.Ranges.{IsKhz}
use Rattle.board_types.specs.declared.parts.BoardParts.{BoardParts}
use Rattle.board_types.specs.Setup.{processors_of}
use Rattle.board_types.specs.declared.parts.TheConstants.{MOST_ACCESSES}
use Rattle.board_types.specs.declared.setup.TheConstants.{LAST_FORMAT, SLEW_MAX_NS}
use Rattle.host_counter.specs.Time.{HasTime}

-- the fields before the 8254 have no fault
pub record IsHead (b : BoardParts) : Type 0 where
  pub least : 1 ≤ b.format
  pub built : b.format ≤ LAST_FORMAT
  pub least_cpus : 1 ≤ b.cpus
  pub most_cpus : b.cpus ≤ processors_of b.format
  pub few : b.cpus ≤ 64
  pub host : IsKhz b.anchor.khz
  pub time : HasTime b.anchor b.host
  pub guest : IsKhz b.guest_khz
  pub accesses : b.accesses ≤ MOST_ACCESSES
  pub least_slew : 1 ≤ b.slew_ns
  pub most_slew : b.slew_ns ≤ SLEW_MAX_NS
