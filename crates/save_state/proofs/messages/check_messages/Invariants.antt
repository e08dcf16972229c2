use Rattle.save_state.proofs.Names.{ArePassed, message, no_message, message_pairs, messages_of}
use Rattle.save_state.proofs.messages.check_messages.Given as goal

abbrev pub invariant-loop-k : goal.invariant-loop-k
invariant-loop-k l = ArePassed message no_message 9 l.b (message_pairs l.b) (messages_of l.b.format) l.initial.fields l.fields l.k
