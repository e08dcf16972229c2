use Rattle.std.proofs.Common.{arith}
use Rattle.board_devices.specs.Places.{no_line}
use Rattle.board_devices.proofs.Places.{same_places}
use Rattle.board_devices.proofs.parts.lines_of_parts.Goals as goal

pub returns-clause-value : goal.returns-clause-value
returns-clause-value c = same_places c.loop-k.lines c.args.parts.now no_line (omega (arith, c.told-parts, c.loop-k.invariant.places))
    (λ j less. c.loop-k.invariant.same j (omega (arith, c.loop-k.invariant.places)))
