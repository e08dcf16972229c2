use Rattle.save_state.proofs.Names.{passed-one, passes-same, arith, lines-take, timers_of, line-size}
use Rattle.save_state.proofs.lines.check_lines.Goals as goal

pub loop-k-preserved : goal.loop-k-preserved
loop-k-preserved c =
    passed-one line-size c.loop-k.invariant (omega (arith, c.loop-k-test.true, c.loop-k.auto.k-end)) c.in_ok-check_line.ensures.fault c.in_ok-check_line.ensures.next

pub returns-clause-next : goal.returns-clause-next
returns-clause-next c = passes-same (omega (arith, lines-take (timers_of c.args.b.now.format), c.loop-k-test.false, c.loop-k.auto.k-end)) c.loop-k.invariant.passes
