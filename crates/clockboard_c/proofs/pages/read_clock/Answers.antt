use Rattle.std.proofs.Common.{◌<◌, ap, sym, subst, ◌∙◌}
use Rattle.board_types.specs.declared.parts.BoardParts.{BoardParts}
use Rattle.board_core.specs.Lazy.{caught_up}
use Rattle.clockboard_c.specs.Kept.{CallerBoard, LaggingBoard, seen}
use Rattle.clockboard_c.specs.Pages.{clock_by, state_after_clock}
use Rattle.clockboard_c.specs.Replies.{IsReply}
use Rattle.clockboard_c.proofs.Kept.{clock-next, clock-time, with_state}
use Rattle.clockboard_c.proofs.pages.read_clock.Goals as goal

pub tell_clock-requires-clause-cpu : goal.tell_clock-requires-clause-cpu
tell_clock-requires-clause-cpu c = subst (λ (b : CallerBoard). c.args.cpu < b.state.cpus) (sym (ap seen c.board.view_is)) c.requires

pub invariant_of-board : goal.invariant_of-board
invariant_of-board c = record {
  lazy = c.tell_clock.ensures.lazy;
  next = clock-next (caught_up c.board.inside.state c.board.inside.lag) _ _ _ _ c.tell_clock.ensures.state c.board.invariant.next;
  time = clock-time (caught_up c.board.inside.state c.board.inside.lag) _ _ _ _ c.tell_clock.ensures.state c.board.invariant.time;
}

pub returns-clause-reply : goal.returns-clause-reply
returns-clause-reply c =
    subst (λ (b : CallerBoard). IsReply c.args.reply.now c.tell_clock.new.reply (clock_by b.state c.args.cpu c.args.host)) (ap seen c.board.view_is)
    c.tell_clock.ensures.reply

pub returns-clause-board : goal.returns-clause-board
returns-clause-board c =
    ap (λ (s : BoardParts). with_state c.board.inside.seal c.board.inside.shared c.board.inside.next.known s) c.tell_clock.ensures.state
    ∙ ap (λ (b : LaggingBoard). record (seen b) { state = state_after_clock (seen b).state c.args.cpu c.args.host }) c.board.view_is
