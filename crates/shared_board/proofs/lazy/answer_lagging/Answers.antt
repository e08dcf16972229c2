use Rattle.std.proofs.Common.{◌≡◌, ◌<◌, Bool, true, false, ap, sym, subst, ◌∙◌}
use Rattle.std.specs.Bool.{OnTrue, OnFalse}
use Rattle.std.specs.Prelude.{IsTrue, IsSome}
use Rattle.board_types.specs.Legal.{is_legal}
use Rattle.board_types.specs.declared.parts.BoardParts.{BoardParts}
use Rattle.board_core.specs.Access.{after_run}
use Rattle.board_core.specs.Outcome.{HasTaken, IsRefused}
use Rattle.board_core.specs.Refusals.{refusal_of}
use Rattle.board_core.proofs.Joins.{refusal_of-after_run}
use Rattle.shared_board.proofs.lazy.answer_lagging.Goals as goal

on_true : {P : Type 0} (b : Bool) → b ≡ true → OnTrue b P → P
on_true {P} b is p = subst (λ (x : Bool). OnTrue x P) is p

on_false : {P : Type 0} (b : Bool) → b ≡ false → OnFalse b P → P
on_false {P} b is p = subst (λ (x : Bool). OnFalse x P) is p

pub refusal-requires-clause-cpu : goal.refusal-requires-clause-cpu
unfolding after_run
refusal-requires-clause-cpu c =
    subst (λ (x : BoardParts). c.args.asked.cpu < x.cpus) (sym (on_false _ c.if-take_lagging.false c.take_lagging.ensures.left).unchanged)
    c.requires.asked.cpu

pub refusal-requires-clause-legal : goal.refusal-requires-clause-legal
unfolding after_run
refusal-requires-clause-legal c =
    subst (λ (x : BoardParts). IsTrue (is_legal x.cpus x.format c.args.asked.access))
    (sym (on_false _ c.if-take_lagging.false c.take_lagging.ensures.left).unchanged) c.requires.asked.legal

pub refusal-requires-clause-refused : goal.refusal-requires-clause-refused
refusal-requires-clause-refused c =
    let left : IsRefused _ _ _ _ _ _ _ = on_false _ c.if-take_lagging.false c.take_lagging.ensures.left in
    subst IsSome (refusal_of-after_run c.take_lagging.new.self c.args.asked.cpu c.take_lagging.new.lag.host c.args.asked.h c.args.asked.access)
    (subst (λ (x : BoardParts). IsSome (refusal_of x c.args.asked.cpu c.args.asked.h c.args.asked.access)) (sym left.unchanged) left.refused)

pub returns-then-take_lagging-clause-outcome : goal.returns-then-take_lagging-clause-outcome
returns-then-take_lagging-clause-outcome c =
    let is : HasTaken _ _ _ _ _ _ = on_true _ c.if-take_lagging.true c.take_lagging.ensures.taken in
    record {
      refused = tt;
      unchanged = tt;
      untouched = tt;
      taken = is.taken;
      reply = is.reply;
      state = is.state;
      of_lines = is.of_lines;
      few_run = is.few_run;
      few = is.few;
    }

pub returns-clause-outcome : goal.returns-clause-outcome
returns-clause-outcome c =
    let left : IsRefused _ _ _ _ _ _ _ = on_false _ c.if-take_lagging.false c.take_lagging.ensures.left in
    record {
      refused =
          ap (λ (x : BoardParts). refusal_of x c.args.asked.cpu c.args.asked.h c.args.asked.access) (sym left.unchanged)
          ∙ (refusal_of-after_run c.take_lagging.new.self c.args.asked.cpu c.take_lagging.new.lag.host c.args.asked.h c.args.asked.access
          ∙ c.refusal.ensures);
      unchanged = left.unchanged;
      untouched = left.untouched;
      taken = tt;
      reply = tt;
      state = tt;
      of_lines = tt;
      few_run = tt;
      few = tt;
    }
