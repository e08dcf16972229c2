use Rattle.std.proofs.Common.{[], arith, refl}
use Rattle.clock_table.specs.Steps.{first_view}
use Rattle.clock_table.proofs.SeatSteps.{names}
use Rattle.clock_table.proofs.table.ClockTable.new.Goals as goal

pub load-requires : goal.load-requires
load-requires g c = let i = c.blank.invariant in (
  i.2,
  omega (arith, i.0),
  rw i.3 (names c.blank.inside.table.shared.key _ _ g.N.Name.passes (first_view c.blank.inside.table.shared.key, []) refl refl refl refl),
)
