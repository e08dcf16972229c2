use Rattle.std.proofs.Common.{◌≡◌, ℕ, Bool, true, false, ◌&&◌, Option, Some, None, refl, ap, subst, sym, ◌∙◌}
use Rattle.std.specs.Bool.{OnTrue, OnFalse}
use Rattle.std.proofs.lemmas.Bool.{false≢true}
use Rattle.std.specs.Prelude.{IsSome}
use Rattle.board_types.specs.declared.access.Access.{Access}
use Rattle.board_types.specs.declared.parts.BoardParts.{BoardParts}
use Rattle.board_types.specs.declared.reply.Refusal.{Refusal}
use Rattle.board_core.specs.Access.{after_run}
use Rattle.board_core.specs.Lazy.{caught_up}
use Rattle.board_core.specs.Outcome.{HasTaken, IsRefused}
use Rattle.board_core.specs.Refusals.{refusal_of}
use Rattle.board_core.specs.Time.{now_of}
use Rattle.board_core.proofs.Joins.{refusal_of-after_run}
use Rattle.clockboard_c.specs.Codes.{code_of}
use Rattle.clockboard_c.specs.declared.reply.ReplyWords.{ReplyWords}
use Rattle.clockboard_c.specs.Replies.{IsReply, refused}
use Rattle.clockboard_c.specs.Call.{IsTaken, told_unless, told_by, keeps_unless, state_unless, answered}
use Rattle.clockboard_c.specs.Kept.{CallerBoard, seen}
use Rattle.clockboard_c.proofs.Telling.{says-answer}
use Rattle.clockboard_c.proofs.Kept.{runs-caught, still-next, answered-is, with_state}
use Rattle.clockboard_c.proofs.call.run.Goals as goal

on_true : {P : Type 0} (b : Bool) → b ≡ true → OnTrue b P → P
on_true {P} b is p = subst (λ (x : Bool). OnTrue x P) is p

on_false : {P : Type 0} (b : Bool) → b ≡ false → OnFalse b P → P
on_false {P} b is p = subst (λ (x : Bool). OnFalse x P) is p

and-true : (b : Bool) → (b && true) ≡ b
and-true true = refl
and-true false = refl

-- a refusal is told by its code, and leaves the board
told-refused : (o : Option Refusal) (s : BoardParts) (cpu h : ℕ) (a : Access) (old new : ReplyWords) → IsSome o → refusal_of s cpu h a ≡ o
    → ((e : Refusal) → o ≡ Some e → IsReply old new (refused (code_of e))) → IsReply old new (told_by s cpu h a)
told-refused (Some e) s cpu h a old new some is says =
    subst (λ (x : Option Refusal). IsReply old new (told_unless x s cpu h a)) (sym is) (says e refl)
told-refused None s cpu h a old new some is says = absurd (false≢true some)

answered-refused : (o : Option Refusal) (b : CallerBoard) (cpu h : ℕ) (a : Access) → IsSome o → refusal_of b.state cpu h a ≡ o → answered b cpu h a ≡ b
answered-refused (Some e) b cpu h a some is =
    ap (λ (x : Option Refusal). record b { known = b.known && keeps_unless x b.state h a; state = state_unless x b.state cpu h a }) is
    ∙ ap (λ (k : Bool). record b { known = k }) (and-true b.known)
answered-refused None b cpu h a some is = absurd (false≢true some)

pub refuse-requires-clause-asked : goal.refuse-requires-clause-asked
unfolding after_run
refuse-requires-clause-asked c =
    let left : IsRefused _ _ _ _ _ _ _ = on_false _ c.if-not-taken.true c.take_lagging-taken.ensures.left in
    let is : IsTaken (caught_up c.take_lagging-taken.new.self c.take_lagging-taken.new.lag) c.args.cpu c.args.access =
    subst (λ (s : BoardParts). IsTaken s c.args.cpu c.args.access) (sym left.unchanged)
    (subst (λ (b : CallerBoard). IsTaken b.state c.args.cpu c.args.access) (sym (ap seen c.board.view_is)) c.requires) in
    record { there = is.there; legal = is.legal }

pub refuse-requires-clause-refused : goal.refuse-requires-clause-refused
refuse-requires-clause-refused c =
    let left : IsRefused _ _ _ _ _ _ _ = on_false _ c.if-not-taken.true c.take_lagging-taken.ensures.left in
    subst IsSome (refusal_of-after_run c.take_lagging-taken.new.self c.args.cpu c.take_lagging-taken.new.lag.host c.args.host c.args.access)
    (subst (λ (s : BoardParts). IsSome (refusal_of s c.args.cpu c.args.host c.args.access)) (sym left.unchanged) left.refused)

pub returns-then-not-taken : goal.returns-then-not-taken
returns-then-not-taken c =
    let left : IsRefused _ _ _ _ _ _ _ = on_false _ c.if-not-taken.true c.take_lagging-taken.ensures.left in
    let s : BoardParts = caught_up c.board.inside.state c.board.inside.lag in
    let same : refusal_of s c.args.cpu c.args.host c.args.access
    ≡ refusal_of c.take_lagging-taken.new.self c.args.cpu c.args.host c.args.access =
    ap (λ (x : BoardParts). refusal_of x c.args.cpu c.args.host c.args.access) (sym left.unchanged)
    ∙ refusal_of-after_run c.take_lagging-taken.new.self c.args.cpu c.take_lagging-taken.new.lag.host c.args.host c.args.access in
    record {
      reply = subst (λ (b : CallerBoard). IsReply c.args.reply.now c.refuse.new.reply (told_by b.state c.args.cpu c.args.host c.args.access))
          (ap seen c.board.view_is)
          (told-refused _ s c.args.cpu c.args.host c.args.access c.args.reply.now c.refuse.new.reply (subst IsSome same left.refused) same c.refuse.ensures);
      board = ap (with_state c.board.inside.seal c.board.inside.shared c.board.inside.next.known) left.unchanged
          ∙ sym (answered-refused _ (with_state c.board.inside.seal c.board.inside.shared c.board.inside.next.known s) c.args.cpu c.args.host c.args.access left.refused refl)
          ∙ ap (λ (b : CallerBoard). answered b c.args.cpu c.args.host c.args.access) (ap seen c.board.view_is);
    }

pub invariant_of-board-2 : goal.invariant_of-board-2
invariant_of-board-2 c =
    let is : HasTaken _ _ _ _ _ _ = on_true _ c.if-not-taken.false c.take_lagging-taken.ensures.taken in
    record {
      lazy = c.take_lagging-taken.ensures.lazy;
      next = still-next _ _ _ _ _ _ _ _ _ (runs-caught c.board.inside.state c.board.inside.lag c.joined.ensures)
          (rw (sym c.lagging_now-now_ns.ensures.value) c.lagging_now-now_ns.ensures.range)
          is.state is.reply c.board.invariant.next c.keeps_next-kept.ensures c.keep_where.ensures;
      time = c.lagging_now-now_ns.ensures.value;
    }

pub returns : goal.returns
returns c =
    let is : HasTaken _ _ _ _ _ _ = on_true _ c.if-not-taken.false c.take_lagging-taken.ensures.taken in
    record {
      reply = subst (λ (b : CallerBoard). IsReply c.args.reply.now c.take_answer.new.self (told_by b.state c.args.cpu c.args.host c.args.access))
          (ap seen c.board.view_is)
          (says-answer _ _ (caught_up c.board.inside.state c.board.inside.lag) _ _ _ _ _ is.taken is.reply
          (c.lagging_now-now_ns.ensures.value ∙ ap now_of is.state) c.take_answer.ensures);
      board = answered-is (caught_up c.board.inside.state c.board.inside.lag) _ _ _ _ _ _ _ (seen c.args.board.now) c.board.inside.next _ _ (ap seen c.board.view_is)
          is.taken is.state is.reply c.keeps_next-kept.ensures c.keep_where.ensures;
    }
