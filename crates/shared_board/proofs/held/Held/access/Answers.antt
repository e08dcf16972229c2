use Rattle.std.proofs.Common.{refl, ap, ◌∙◌, ◌∷◌, [], subst, OnOk, IfErr}
use Rattle.clock_table.specs.declared.{view.View.View, call.Call.Call}
use Rattle.clock_table.specs.Steps.{pen_right}
use Rattle.board_history.specs.declared.entry.Entry.TheVariants.{Board}
use Rattle.shared_board.specs.declared.known.PassKnown.{PassKnown}
use Rattle.shared_board.specs.Passes.{Answered, Refused}
use Rattle.shared_board.specs.private.Seats.{known}
use Rattle.shared_board.proofs.Turns.{taken, HasPen, HasTurned, pen_taken, act_turned, act_answered, act_refused}
use Rattle.shared_board.proofs.held.Held.access.Given as given
use Rattle.shared_board.proofs.held.Held.access.Goals as goal
use Rattle.shared_board.proofs.held.Held.access.Goals.{After-take_pen, After-new}

pub take-requires : goal.take-requires
take-requires g c = (c.self.invariant.0, c.self.invariant.1)

pub take_pen-requires-clause-writer : goal.take_pen-requires-clause-writer
take_pen-requires-clause-writer g c =
    (taken g.N.Name.state g.N.Name.passes c.self.inside.board c.self.inside.writer c.take.result c.self.invariant c.take.ensures.seat).writer

-- the pass has the pen
has : (g : given.Over) (c : After-take_pen g) → HasPen g.N.Name.state g.N.Name.passes c.pass.inside.number c.self.inside.board c.take_pen.new.seat
has g c = pen_taken g.N.Name.state g.N.Name.passes c.pass.inside.number c.self.inside.board c.self.inside.writer c.pass.inside.seat c.take.result
    c.take_pen.new.seat c.self.invariant c.take.ensures.seat c.pass.invariant.0 c.pass.invariant.1 c.take_pen.ensures.moved

pub act-result-requires-clause-alike : goal.act-result-requires-clause-alike
act-result-requires-clause-alike g c = (has g (goal.at.act-result-requires-clause-alike g c).After-take_pen).alike

pub act-result-requires-clause-pen : goal.act-result-requires-clause-pen
act-result-requires-clause-pen g c = (has g (goal.at.act-result-requires-clause-pen g c).After-take_pen).pen

-- after the turn
turned : (g : given.Over) (c : After-new g) → HasPen g.N.Name.state g.N.Name.passes c.pass.inside.number c.self.inside.board c.take_pen.new.seat
    → HasTurned g.N.Name.state g.N.Name.passes c.pass.inside.number c.act-result.new.board c.act-result.new.seat
turned g c pen = act_turned c.act-result.result c.act-result.new.reply g.N.Name.state g.N.Name.passes
    (record { pass = c.pass.inside.number; asked = c.args.asked }) c.self.inside.board c.act-result.new.board c.take_pen.new.seat c.act-result.new.seat pen
    c.act-result.ensures.machine c.act-result.ensures.ok c.act-result.ensures.err

pub invariant_of-self : goal.invariant_of-self
invariant_of-self g c =
    let at = goal.at.invariant_of-self g c in (
      pen_right c.act-result.new.seat,
      c.new.ensures ∙ ap (λ (u : View). u ∷ []) c.split_pen.ensures.right,
      (turned g at.After-new (has g at.After-take_pen)).writer,
    )

pub invariant_of-pass : goal.invariant_of-pass
invariant_of-pass g c =
    let at = goal.at.invariant_of-pass g c in
    (turned g at.After-new (has g at.After-take_pen)).rests c.split_pen.new.seat c.split_pen.ensures.left

pub returns : goal.returns
returns g c =
    let n = c.pass.inside.number in
    let a = c.args.asked in
    let x = c.take_pen.new.seat in
    let z = c.split_pen.new.seat in
    let moved = c.take_pen.ensures.moved in
    let call : Call = record { pass = n; asked = a } in
    record {
      ok = subst (λ (p : PassKnown). OnOk c.act-result.result (Answered p (known n z) (Board p.number a.cpu a.h a.access c.act-result.new.reply)))
          c.pass.view_is
          (act_answered c.act-result.result c.act-result.new.reply n a.cpu a.h call c.act-result.new.board c.pass.inside.seat c.take.result
          x c.act-result.new.seat z refl c.pass.invariant.0 moved c.split_pen.ensures.left c.act-result.ensures.ok);
      err = subst (λ (p : PassKnown). IfErr c.act-result.result (λ f. Refused a.cpu a.h a.access f p (known n z))) c.pass.view_is
          (act_refused c.act-result.result n a c.self.inside.board c.act-result.new.board c.pass.inside.seat c.take.result x
          c.act-result.new.seat z c.pass.invariant.0 moved (has g (goal.at.returns g c).After-take_pen).legal c.split_pen.ensures.left c.act-result.ensures.err);
      unchanged = c.act-result.ensures.unchanged;
    }
