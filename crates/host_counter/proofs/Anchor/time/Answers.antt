use Rattle.std.proofs.Common.{◌+◌, arith}
use Rattle.host_counter.specs.Time.{time_at, IsTimeAt}
use Rattle.host_counter.proofs.Times.{set_anew-goes_on}
use Rattle.host_counter.proofs.Anchor.time.Goals as goal

pub returns-then-ns-from-clause-goes_on : goal.returns-then-ns-from-clause-goes_on
unfolding time_at
returns-then-ns-from-clause-goes_on c = λ later behind.
    let time : IsTimeAt c.args.self.now c.args.h (c.from.result + c.since_ns.result) =
    record { started = omega arith; value = omega arith; in_range = omega arith } in
    set_anew-goes_on c.args.self.now c.args.h (c.from.result + c.since_ns.result) later (omega arith) time behind
