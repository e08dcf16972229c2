use Rattle.std.proofs.Common.{◌++◌, ap, ◌∙◌}
use Rattle.board_core.specs.Pages.{clock_reply, after_clock}
use Rattle.pvclock_page.specs.declared.page.ClockReply.{ClockReply}
use Rattle.reply_text.specs.Text.{clock_text}
use Rattle.trace_replay.proofs.Counts.{read-answered, refused-answered}
use Rattle.trace_replay.proofs.replay.Replay.answer_clock.Goals as goal

pub returns-in_ok-clock_line-in-Ok : goal.returns-in_ok-clock_line-in-Ok
returns-in_ok-clock_line-in-Ok c =
    read-answered (λ b. clock_text c.args.line (clock_reply b c.args.page c.args.h)) (λ b. after_clock b c.args.page c.args.h) c.args.line c.args.h
    c.args.self.now _ _ c.board.view_is _ _ _ _ c.in-Ok.ensures.ok c.in-Ok.ensures.state
    (c.in_ok-clock_line-in-Ok.ensures.ok ∙ ap (λ (x : ClockReply). c.args.out.now.items ++ clock_text c.args.line x) c.in-Ok.ensures.value)
    c.requires.open

pub returns-in-Err : goal.returns-in-Err
returns-in-Err c =
    refused-answered (λ b. clock_text c.args.line (clock_reply b c.args.page c.args.h)) (λ b. after_clock b c.args.page c.args.h) c.args.line c.args.h
    c.args.self.now _ _ c.board.view_is c.refuse.result c.in-Err.fault _ _ _ _ _ c.in-Err.ensures.fault c.refused_time.ensures
    c.refuse.ensures.printed c.refuse.ensures.ends c.refuse.ensures.err
