use Rattle.save_state.proofs.Names.{ArePassed, timer, no_timer, timers_of}
use Rattle.save_state.proofs.faults.check_timers.Given as goal

abbrev pub invariant-loop-k : goal.invariant-loop-k
invariant-loop-k l = ArePassed timer no_timer 18 l.b l.b.hpet.timer (timers_of l.b.format) l.initial.fields l.fields l.k
