use Rattle.save_state.proofs.Names.{◌≡◌, ◌++◌, number, row_bytes}
use Rattle.save_state.proofs.encoding.put_rises.Given as goal

abbrev pub invariant-loop-k : goal.invariant-loop-k
invariant-loop-k l = l.out.items ≡ l.initial.out.items ++ row_bytes (number 8) l.k l.b.rises
