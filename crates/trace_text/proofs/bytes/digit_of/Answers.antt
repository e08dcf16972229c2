use Rattle.std.proofs.Common.{arith}
use Rattle.trace_text.proofs.HexValues.{HEX_VALUES_at}
use Rattle.trace_text.proofs.bytes.digit_of.Goals as goal

pub returns-clause-digit : goal.returns-clause-digit
returns-clause-digit c = λ small. omega (arith, HEX_VALUES_at c.args.byte (omega arith))

pub returns-clause-none : goal.returns-clause-none
returns-clause-none c = λ large. omega (arith, HEX_VALUES_at c.args.byte (omega arith))
