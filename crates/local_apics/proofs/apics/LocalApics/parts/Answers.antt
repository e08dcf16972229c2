use Rattle.std.proofs.Common.{subst, arith}
use Rattle.local_apics.specs.Parts.{AreApicPlaces}
use Rattle.local_apics.proofs.Done.{same_apics}
use Rattle.local_apics.proofs.apics.LocalApics.parts.Goals as goal

pub returns-clause-value : goal.returns-clause-value
returns-clause-value c =
    let are : AreApicPlaces c.args.self.now = subst AreApicPlaces c.self.view_is c.self.invariant.joined in
    same_apics c.loop-cpu.parts c.args.self.now c.loop-cpu.invariant.long c.loop-cpu.invariant.lines_long are.timers are.lines
    (λ k less. c.loop-cpu.invariant.timers k (omega (arith, less, c.loop-cpu-test.false)))
    (λ k less. c.loop-cpu.invariant.lines k (omega (arith, less, c.loop-cpu-test.false)))
