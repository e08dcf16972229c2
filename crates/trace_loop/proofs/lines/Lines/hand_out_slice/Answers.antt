use Rattle.std.proofs.Common.{ap}
use Rattle.trace_loop.specs.Cut.{Cut}
use Rattle.trace_loop.proofs.Cuts.{drop_part, take_part}
use Rattle.trace_loop.proofs.lines.Lines.hand_out_slice.Goals as goal

pub returns-clause-line : goal.returns-clause-line
returns-clause-line c = let r = c.self.inside in
    take_part r.piece c.args.self.now.left r.from r.to c.args.n (ap (λ (s : Cut). s.left) c.self.view_is) c.requires.there

pub returns-clause-left : goal.returns-clause-left
returns-clause-left c = let r = c.self.inside in
    drop_part r.piece c.args.self.now.left r.from r.to c.args.n c.self.invariant.0 (ap (λ (s : Cut). s.left) c.self.view_is) c.requires.there
