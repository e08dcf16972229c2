use Rattle.save_state.proofs.Names.{no_line, AreWritten, line, LineFits}
use Rattle.save_state.proofs.encoding.put_lines.Given as goal

abbrev pub invariant-loop-k : goal.invariant-loop-k
invariant-loop-k l = AreWritten line no_line LineFits l.d.ticks l.initial.out.items l.out.items l.k
