use Rattle.save_state.proofs.Names.{◌<◌, false, number_at, read-none, read-one, past-past, IsPast, ◌∙◌, arith, plain, blocks, part-filled}
use Rattle.save_state.proofs.Names.{Message, message, messages, no_message, messages_few, message-size}
use Rattle.save_state.proofs.messages.messages_in.Goals as goal

pub loop-k-init : goal.loop-k-init
loop-k-init c = record { bits = read-none _ false 9 8 c.args.fields.now; words = read-none _ 0 9 8 c.args.fields.now }

pub loop-k-preserved : goal.loop-k-preserved
unfolding message plain
loop-k-preserved c =
    let less : c.loop-k.k < 8 = omega (arith, c.loop-k-test.true, c.loop-k.auto.k-end, c.messages_of-k-end.ensures.few) in
    let first = c.flag.ensures.next in
    let past : IsPast 9 c.loop-k.fields c.eight.new.self = past-past first c.eight.ensures.next in
    record {
      bits = read-one c.loop-k.invariant.bits less c.flag.ensures.value past;
      words = read-one c.loop-k.invariant.words less (c.eight.ensures.value ∙ (λ i. number_at 8 (first.place i) (first.bytes i))) past;
    }

pub returns-clause-bits : goal.returns-clause-bits
unfolding messages blocks
returns-clause-bits c =
    part-filled message no_message 9 message-size (λ (m : Message). m.0) _ _ _ _ _ _
    (omega (arith, c.loop-k-test.false, c.loop-k.auto.k-end, c.messages_of-k-end.ensures.value)) (messages_few c.args.format) c.loop-k.invariant.bits.filled

pub returns-clause-words : goal.returns-clause-words
unfolding messages blocks
returns-clause-words c =
    part-filled message no_message 9 message-size (λ (m : Message). m.1) _ _ _ _ _ _
    (omega (arith, c.loop-k-test.false, c.loop-k.auto.k-end, c.messages_of-k-end.ensures.value)) (messages_few c.args.format) c.loop-k.invariant.words.filled
