use Rattle.std.proofs.Common.{arith}
use Rattle.host_counter.proofs.Times.{time_at-split}
use Rattle.host_counter.proofs.Anchor.time_of.Goals as goal

pub overflow_mul-whole_ns : goal.overflow_mul-whole_ns
overflow_mul-whole_ns c = omega (arith, time_at-split c.args.self.now c.args.h (omega arith))

pub overflow_add-result : goal.overflow_add-result
overflow_add-result c = omega (arith, time_at-split c.args.self.now c.args.h (omega arith))

pub overflow_add-result-2 : goal.overflow_add-result-2
overflow_add-result-2 c = omega (arith, time_at-split c.args.self.now c.args.h (omega arith))

pub returns : goal.returns
returns c = omega (arith, time_at-split c.args.self.now c.args.h (omega arith))
