use Rattle.std.proofs.Common.{arith}
use Rattle.board_devices.specs.Places.{no_line}
use Rattle.board_devices.proofs.Places.{same_places}
use Rattle.board_devices.proofs.parts.parts_of_lines.Goals as goal

pub returns-clause-value : goal.returns-clause-value
returns-clause-value c = same_places c.loop-k.parts c.args.lines.now no_line (omega (arith, c.told-lines, c.loop-k.invariant.places))
    (λ j less. c.loop-k.invariant.same j (omega (arith, c.loop-k.invariant.places)))
