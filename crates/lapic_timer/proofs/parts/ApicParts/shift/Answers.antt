use Rattle.std.proofs.Common.{arith}
use Rattle.lapic_timer.proofs.Divisors.{pow-divisor}
use Rattle.lapic_timer.proofs.parts.ApicParts.shift.Goals as goal

pub returns-clause-value : goal.returns-clause-value
returns-clause-value c = pow-divisor c.args.self.now.divide c.from-code.result (omega (arith, c.from-code.ensures))
