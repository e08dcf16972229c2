use Rattle.save_state.proofs.Names.{no_timer, AreWritten, timer, TimerFits}
use Rattle.save_state.proofs.encoding.put_timers.Given as goal

abbrev pub invariant-loop-k : goal.invariant-loop-k
invariant-loop-k l = AreWritten timer no_timer TimerFits l.d.hpet.timer l.initial.out.items l.out.items l.k
