use Rattle.std.proofs.Common.{arith}
use Rattle.trace_text.proofs.Spells.{words_from-within}
use Rattle.trace_text.proofs.words.Words.new.Goals as goal

pub returns : goal.returns
returns c = words_from-within 0 c.args.line.now (omega arith)
