use Rattle.std.proofs.Common.{rules, ◌≡◌, ℕ, List, ◌++◌, take, ap, ◌∙◌, arith}
use Rattle.std.specs.List.{flat_map}
use Rattle.std.proofs.lemmas.List.{take_all}
use Rattle.edge_hooks.specs.declared.sent.Sent.{Sent}
use Rattle.reply_text.specs.Text.{msg_text}
use Rattle.trace_blocks.proofs.Messages.{sent_text}
use Rattle.trace_blocks.proofs.deliveries.sent_lines.Goals as goal

pub returns-clause-ok : goal.returns-clause-ok
returns-clause-ok c =
    let sent : List Sent = c.as_slice-sent-items.result.now in
    let all : take c.loop-sent.sent-index sent ≡ sent =
    take_all c.loop-sent.sent-index sent (omega (arith, c.loop-sent.auto.sent-index-end, c.loop-sent-test.false)) in
    c.loop-sent.invariant
    ∙ ap (λ (l : List Sent). c.args.out.now.items ++ flat_map msg_text l) (all ∙ c.as_slice-sent-items.ensures.value)
    ∙ ap (λ (l : List ℕ). c.args.out.now.items ++ l) (sent_text _ c.args.cpus c.args.bursts.now c.send-sent.result
    (λ m d answer. search rules) c.send-sent.ensures.answers)
