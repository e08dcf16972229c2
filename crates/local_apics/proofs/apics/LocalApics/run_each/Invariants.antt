use Rattle.std.proofs.Common.{get_or}
use Rattle.local_apics.specs.Places.{no_tsc}
use Rattle.local_apics.specs.Nanosecond.{tscs_of, tsc_in}
use Rattle.local_apics.specs.private.Span.{length_of}
use Rattle.local_apics.specs.private.Stretch.{IsRunBelow}
use Rattle.local_apics.proofs.apics.LocalApics.run_each.Given as goal

abbrev pub invariant-loop-cpu : goal.invariant-loop-cpu
invariant-loop-cpu l = IsRunBelow l.cpu (λ k. tsc_in l.span.clock (get_or (tscs_of l.processors) k no_tsc)) l.span.from (length_of l.span) l.fn.self l.self
