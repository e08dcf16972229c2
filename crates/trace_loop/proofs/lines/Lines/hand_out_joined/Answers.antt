use Rattle.std.proofs.Common.{rules, ap, arith}
use Rattle.std.proofs.lemmas.Grind.{common_steps}
use Rattle.trace_loop.specs.Cut.{Cut}
use Rattle.trace_loop.proofs.Cuts.{drop_part}
use Rattle.trace_loop.proofs.lines.Lines.hand_out_joined.Goals as goal

pub returns : goal.returns
returns c = let r = c.self.inside in
    let left = ap (λ (s : Cut). s.left) c.self.view_is in
    record {
      line = grind (arith, common_steps);
      text = search rules;
      left = drop_part r.piece c.args.self.now.left r.from r.to c.args.n c.self.invariant.0 left c.requires.there;
      number = search rules;
    }
