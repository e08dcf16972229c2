use Rattle.save_state.proofs.Names.{ArePassed, line, no_line, timers_of, ◌+◌}
use Rattle.save_state.proofs.lines.check_lines.Given as goal

abbrev pub invariant-loop-k : goal.invariant-loop-k
invariant-loop-k l = ArePassed line no_line 33 l.b l.b.ticks (timers_of l.b.format + 2) l.initial.fields l.fields l.k
