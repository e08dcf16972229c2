use Rattle.std.proofs.Common.{◌≡◌, ℕ, List, ap, subst, sym, ◌∙◌}
use Rattle.board_types.specs.declared.parts.BoardParts.{BoardParts}
use Rattle.board_core.specs.Lazy.{left_by, caught_up}
use Rattle.board_core.specs.Time.{now_of}
use Rattle.board_core.proofs.Passive.{now-left}
use Rattle.clockboard_c.specs.declared.code.TheConstants.{OK}
use Rattle.clockboard_c.specs.Call.{told_by}
use Rattle.clockboard_c.specs.Kept.{CallerBoard, seen, kept_of}
use Rattle.clockboard_c.specs.Replies.{value_words, without_edges, IsReply}
use Rattle.clockboard_c.proofs.Telling.{says-passed}
use Rattle.clockboard_c.proofs.Kept.{runs-caught, with_state, passed-next, passed-answered}
use Rattle.clockboard_c.proofs.call.count.Goals as goal

pub move_now-now_ns-requires-clause-same : goal.move_now-now_ns-requires-clause-same
move_now-now_ns-requires-clause-same c not_later = c.board.invariant.time ∙ sym (c.count-later.ensures.now not_later)

pub invariant_of-board : goal.invariant_of-board
invariant_of-board c =
    let next : BoardParts = caught_up c.count-later.new.self c.count-later.new.lag in
    let left : caught_up c.take_passive-value.new.self c.count-later.new.lag ≡ left_by c.args.access next = c.take_passive-value.ensures.state in
    record {
      lazy = c.take_passive-value.ensures.lazy;
      next = passed-next (caught_up c.board.inside.state c.board.inside.lag) next c.args.cpu c.args.host c.args.access _ c.requires.passive
          (c.count-later.ensures.passed c.args.cpu c.args.access c.requires.passive) c.board.inside.next
          (runs-caught c.board.inside.state c.board.inside.lag c.joined.ensures) c.board.invariant.next
          ∙ ap (kept_of c.board.inside.next.known) (sym left);
      time = c.move_now-now_ns.ensures.kept ∙ c.move_now-now_ns.ensures.value ∙ sym (now-left c.args.access next) ∙ ap now_of (sym left);
    }

pub returns : goal.returns
returns c = record {
  reply =
      subst (λ (b : CallerBoard). IsReply c.args.reply.now c.put_head.new.self (told_by b.state c.args.cpu c.args.host c.args.access))
      (ap seen c.board.view_is)
      (says-passed _ _ (caught_up c.board.inside.state c.board.inside.lag) _ c.args.cpu c.args.host c.args.access c.count-later.new.self.accesses
      c.move_now-now_ns.result c.take_passive-value.result
      (c.count-later.ensures.passed c.args.cpu c.args.access c.requires.passive) c.move_now-now_ns.ensures.value
      (c.take_passive-value.ensures.value c.args.cpu c.args.host)
      (subst
      (λ (n : ℕ). IsReply c.args.reply.now c.put_head.new.self
      (without_edges OK n c.move_now-now_ns.result (value_words c.take_passive-value.result))) c.accesses-number.ensures
      (subst
      (λ (ws : List ℕ). IsReply c.args.reply.now c.put_head.new.self
      (without_edges OK c.accesses-number.result c.move_now-now_ns.result ws)) c.value_words.ensures c.put_head.ensures)));
  board =
      ap (with_state c.board.inside.seal c.board.inside.shared c.board.inside.next.known) c.take_passive-value.ensures.state
      ∙ passed-answered (caught_up c.board.inside.state c.board.inside.lag) _ c.args.cpu c.args.host c.args.access _ c.requires.passive
      (c.count-later.ensures.passed c.args.cpu c.args.access c.requires.passive) c.board.inside.seal c.board.inside.shared (seen c.args.board.now)
      c.board.inside.next (ap seen c.board.view_is);
}
