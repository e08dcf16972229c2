use Rattle.std.proofs.Common.{◌≡◌, length, rules, arith}
use Rattle.local_apics.proofs.Done.{same_apics}
use Rattle.local_apics.proofs.apics.LocalApics.of_parts.Goals as goal

pub returns-clause-value : goal.returns-clause-value
returns-clause-value c =
    let long : length c.args.parts.now.timers ≡ 64 = search rules in
    let lines_long : length c.args.parts.now.lines ≡ 64 = search rules in
    same_apics c.loop-cpu.apics c.args.parts.now c.loop-cpu.invariant.long c.loop-cpu.invariant.lines_long long lines_long
    (λ k less. c.loop-cpu.invariant.timers k (omega (arith, less, c.loop-cpu-test.false)))
    (λ k less. c.loop-cpu.invariant.lines k (omega (arith, less, c.loop-cpu-test.false)))
