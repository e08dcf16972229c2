use Rattle.save_state.proofs.Names.{passed-one, passes-same, arith, messages-take, messages_of, message-size}
use Rattle.save_state.proofs.messages.check_messages.Goals as goal

pub loop-k-preserved : goal.loop-k-preserved
loop-k-preserved c =
    passed-one message-size c.loop-k.invariant (omega (arith, c.loop-k-test.true, c.loop-k.auto.k-end)) c.in_ok-check_message.ensures.fault c.in_ok-check_message.ensures.next

pub returns-clause-next : goal.returns-clause-next
returns-clause-next c = passes-same (omega (arith, messages-take (messages_of c.args.b.now.format), c.loop-k-test.false, c.loop-k.auto.k-end, c.messages_of-k-end.ensures.value)) c.loop-k.invariant.passes
