use Rattle.std.proofs.Common.{◌≡◌, ◌++◌, take}
use Rattle.std.specs.List.{flat_map}
use Rattle.reply_text.specs.Text.{msg_text}
use Rattle.trace_blocks.proofs.deliveries.sent_lines.Given as goal

-- the lines of the messages so far come after the text
abbrev pub invariant-loop-sent : goal.invariant-loop-sent
invariant-loop-sent l = l.out.items ≡ l.fn.out.items ++ flat_map msg_text (take l.sent-index l.sent-items)
