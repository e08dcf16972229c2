use Rattle.std.proofs.Common.{length-append, arith}
use Rattle.irq_edges.specs.Lines.{line_numbers}
use Rattle.irq_edges.proofs.EdgesOf.{length-changes-le}
use Rattle.irq_edges.proofs.lines.changes.Goals as goal

pub append_changes-requires-clause-room : goal.append_changes-requires-clause-room
append_changes-requires-clause-room c =
    omega (arith, c.requires, length-changes-le c.args.at line_numbers c.args.before.levels c.args.after.levels)

pub returns-clause-few : goal.returns-clause-few
returns-clause-few c =
    rw (c.append_changes.ensures, length-append) (omega (arith, length-changes-le c.args.at line_numbers c.args.before.levels c.args.after.levels))
