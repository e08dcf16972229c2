use Rattle.std.proofs.Common.{◌++◌, List, sym, ap, ◌∙◌}
use Rattle.irq_edges.specs.declared.edges.Edge.{Edge}
use Rattle.irq_edges.specs.Lines.{line_numbers}
use Rattle.irq_edges.proofs.Sole.{rises_of-sole}
use Rattle.irq_edges.proofs.rises.emit.Goals as goal

pub returns-in-Some-clause-appended : goal.returns-in-Some-clause-appended
returns-in-Some-clause-appended c =
    c.push.ensures
    ∙ ap (λ (es : List Edge). c.args.into.now ++ es)
    (sym (rises_of-sole c.args.from c.args.to line_numbers c.args.times.now c.in-Some.edge c.requires.forward (sym c.told-times) c.in-Some.ensures))
