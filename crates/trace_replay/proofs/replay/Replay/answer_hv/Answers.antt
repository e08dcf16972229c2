use Rattle.std.proofs.Common.{◌++◌, sym, ap, ◌∙◌}
use Rattle.board_core.specs.Hv.{hv_reply}
use Rattle.hv_page.specs.declared.page.HvReply.{HvReply}
use Rattle.reply_text.specs.Text.{hv_text}
use Rattle.trace_replay.proofs.Counts.{read-answered, refused-answered}
use Rattle.trace_replay.proofs.replay.Replay.answer_hv.Goals as goal

pub returns-in_ok-hv_line-in-Ok : goal.returns-in_ok-hv_line-in-Ok
returns-in_ok-hv_line-in-Ok c =
    read-answered (λ b. hv_text c.args.line (hv_reply b c.args.h)) (λ b. b) c.args.line c.args.h c.args.self.now _ _ c.board.view_is
    _ _ _ _ c.in-Ok.ensures.ok (sym c.board.view_is)
    (c.in_ok-hv_line-in-Ok.ensures.ok ∙ ap (λ (x : HvReply). c.args.out.now.items ++ hv_text c.args.line x) c.in-Ok.ensures.value)
    c.requires.open

pub returns-in-Err : goal.returns-in-Err
returns-in-Err c =
    refused-answered (λ b. hv_text c.args.line (hv_reply b c.args.h)) (λ b. b) c.args.line c.args.h c.args.self.now _ _ c.board.view_is
    c.refuse.result c.in-Err.fault _ _ _ _ _ c.in-Err.ensures.fault c.refused_time.ensures c.refuse.ensures.printed
    c.refuse.ensures.ends c.refuse.ensures.err
