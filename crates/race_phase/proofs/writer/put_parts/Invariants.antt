use Rattle.std.proofs.Common.{◌≡◌, ◌++◌, take}
use Rattle.race_phase.proofs.writer.put_parts.Given as goal

abbrev pub invariant-loop-part : goal.invariant-loop-part
invariant-loop-part g l = l.put.items ≡ l.fn.put.items ++ take l.part l.shown.piece.parts
