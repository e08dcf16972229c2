use Rattle.std.proofs.Common.{◌≡◌, List, length, ap, arith}
use Rattle.byte_log.specs.Calls.{Call, bytes_in}
use Rattle.trace_gen.proofs.Lengths.{length-gen_text}
use Rattle.trace_gen.proofs.source.GenSource.new.Goals as goal

pub invariant_of-result : goal.invariant_of-result
invariant_of-result c =
    let short = length-gen_text c.args.key c.args.records c.args.cpus c.requires.records c.requires.some_cpu c.requires.cpus in
    let none : length (bytes_in c.new-2.result.calls) ≡ 0 = ap (λ (calls : List Call). length (bytes_in calls)) c.new-2.ensures in
    rw c.new.ensures (omega arith)
