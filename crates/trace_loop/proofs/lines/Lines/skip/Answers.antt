use Rattle.std.proofs.Common.{ap}
use Rattle.trace_loop.specs.Cut.{Cut}
use Rattle.trace_loop.proofs.Cuts.{drop_part}
use Rattle.trace_loop.proofs.lines.Lines.skip.Goals as goal

pub returns-clause-left : goal.returns-clause-left
returns-clause-left c = let r = c.self.inside in
    drop_part r.piece c.args.self.now.left r.from r.to 1 c.self.invariant.0 (ap (λ (s : Cut). s.left) c.self.view_is) c.requires
