use Rattle.std.proofs.Common.{◌++◌, sym, ap, ◌∙◌}
use Rattle.board_core.specs.Pages.{page_reply}
use Rattle.pvclock_page.specs.declared.page.PageReply.{PageReply}
use Rattle.reply_text.specs.Text.{page_text}
use Rattle.trace_replay.proofs.Counts.{read-answered, refused-answered}
use Rattle.trace_replay.proofs.replay.Replay.answer_page.Goals as goal

pub returns-in_ok-page_line-in-Ok : goal.returns-in_ok-page_line-in-Ok
returns-in_ok-page_line-in-Ok c =
    read-answered (λ b. page_text c.args.line (page_reply b c.args.page c.args.h)) (λ b. b) c.args.line c.args.h c.args.self.now _ _ c.board.view_is
    _ _ _ _ c.in-Ok.ensures.ok (sym c.board.view_is)
    (c.in_ok-page_line-in-Ok.ensures.ok ∙ ap (λ (x : PageReply). c.args.out.now.items ++ page_text c.args.line x) c.in-Ok.ensures.value)
    c.requires.open

pub returns-in-Err : goal.returns-in-Err
returns-in-Err c =
    refused-answered (λ b. page_text c.args.line (page_reply b c.args.page c.args.h)) (λ b. b) c.args.line c.args.h c.args.self.now _ _ c.board.view_is
    c.refuse.result c.in-Err.fault _ _ _ _ _ c.in-Err.ensures.fault c.refused_time.ensures
    c.refuse.ensures.printed c.refuse.ensures.ends c.refuse.ensures.err
