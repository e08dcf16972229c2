use Rattle.std.proofs.Common.{ap, ◌∙◌, length, arith, length-drop}
use Rattle.std.proofs.lemmas.List.{drop-drop}
use Rattle.trace_gen.proofs.Steps.{moved_more}
use Rattle.trace_gen.proofs.generator.Generator.fill.Goals as goal

pub loop-put-preserved : goal.loop-put-preserved
loop-put-preserved c =
    let left = ap length c.loop-put.invariant.rest in
    let of_drop = length-drop c.loop-put.put c.args.self.now in
    record {
      within = omega arith;
      short = omega arith;
      bytes = moved_more c.args.self.now c.args.into.now c.loop-put.into c.loop-put.self c.give-n.new.into c.loop-put.put c.give-n.result
          c.loop-put.invariant.short c.loop-put.invariant.bytes c.loop-put.invariant.rest c.give-n.ensures.bytes;
      rest = c.give-n.ensures.rest ∙ rw c.loop-put.invariant.rest (drop-drop c.give-n.result c.loop-put.put c.args.self.now);
    }
