use Rattle.std.proofs.Common.{rules, sym}
use Rattle.trace_loop.specs.Text.{memory_fault_text}
use Rattle.trace_loop.specs.declared.ended.Ended.TheVariants.{NoMemory}
use Rattle.trace_loop.proofs.Outcomes.{said-after, put_whole}
use Rattle.trace_loop.proofs.program.want_memory.Goals as goal

pub returns : goal.returns
unfolding memory_fault_text
returns g c =
    let old = g.K.Sink.output c.args.sink.now in
    let put = g.K.Sink.output c.put_all.new.sink in
    let said = g.K.Sink.output c.say.new.sink in
    record {
      said = said-after NoMemory c.say.result old.contents put.contents said.contents c.args.out.now memory_fault_text old.faults put.faults said.faults
          c.put_all.ensures.put.counted
          (put_whole c.put_all.result old put c.args.out.now (sym c.if-is_err.ensures.value) c.put_all.ensures.put).all c.say.ensures.said;
      sink = search rules;
      counted = search rules;
    }
