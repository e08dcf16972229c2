use Rattle.save_state.{proofs.Names.AreWritten, proofs.Names.message, proofs.Names.no_message, proofs.Names.message_pairs, specs.private.Devices.board_with}
use Rattle.save_state.proofs.messages.put_messages.Given as goal

abbrev pub invariant-loop-k : goal.invariant-loop-k
invariant-loop-k l = AreWritten message no_message (λ m. Unit {0}) (message_pairs (board_with l.d)) l.initial.out.items l.out.items l.k
