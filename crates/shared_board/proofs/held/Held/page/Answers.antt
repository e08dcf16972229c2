use Rattle.std.proofs.Common.{ap, ◌∙◌, ◌≡◌, ◌≤◌, ◌∷◌, [], subst, IfOk, IfErr, true}
use Rattle.board_history.specs.History.{read_of, version_after}
use Rattle.clock_table.specs.declared.view.View.{View}
use Rattle.clock_table.specs.Steps.{pen_right}
use Rattle.shared_board.specs.declared.known.PassKnown.{PassKnown}
use Rattle.shared_board.specs.Passes.{Answered, Unanswered}
use Rattle.shared_board.specs.Reads.{HadRoom}
use Rattle.shared_board.specs.Faults.{IsFull}
use Rattle.shared_board.specs.private.Seats.{known}
use Rattle.shared_board.proofs.Turns.{taken, HasPen, HasTurned, pen_taken, read_turned, read_answered, read_room, read_spent}
use Rattle.shared_board.proofs.Tables.{read_least}
use Rattle.shared_board.proofs.held.Held.page.Given as given
use Rattle.shared_board.proofs.held.Held.page.Goals as goal
use Rattle.shared_board.proofs.held.Held.page.Goals.{After-take_pen-front, After-new}

pub take-requires : goal.take-requires
take-requires g c = (c.self.invariant.0, c.self.invariant.1)

pub take_pen-front-requires-clause-writer : goal.take_pen-front-requires-clause-writer
take_pen-front-requires-clause-writer g c =
    (taken g.N.Name.state g.N.Name.passes c.self.inside.board c.self.inside.writer c.take.result c.self.invariant c.take.ensures.seat).writer

-- the pass has the pen
has : (g : given.Over) (c : After-take_pen-front g)
    → HasPen g.N.Name.state g.N.Name.passes c.pass.inside.number c.self.inside.board c.take_pen-front.new.seat
has g c = pen_taken g.N.Name.state g.N.Name.passes c.pass.inside.number c.self.inside.board c.self.inside.writer c.pass.inside.seat c.take.result
    c.take_pen-front.new.seat c.self.invariant c.take.ensures.seat c.pass.invariant.0 c.pass.invariant.1 c.take_pen-front.ensures.moved

pub read-result-requires-clause-alike : goal.read-result-requires-clause-alike
read-result-requires-clause-alike g c = (has g (goal.at.read-result-requires-clause-alike g c).After-take_pen-front).alike

pub read-result-requires-clause-pen : goal.read-result-requires-clause-pen
read-result-requires-clause-pen g c = (has g (goal.at.read-result-requires-clause-pen g c).After-take_pen-front).pen

-- after the turn
turned : (g : given.Over) (c : After-new g)
    → HasPen g.N.Name.state g.N.Name.passes c.pass.inside.number c.self.inside.board c.take_pen-front.new.seat
    → HasTurned g.N.Name.state g.N.Name.passes c.pass.inside.number c.self.inside.board c.read-result.new.seat
turned g c pen = read_turned c.read-result.result g.N.Name.state.cpus g.N.Name.state g.N.Name.passes c.pass.inside.number c.args.index c.args.h
    c.self.inside.board c.take_pen-front.new.seat c.read-result.new.seat pen c.read-result.ensures.ok c.read-result.ensures.spent

pub invariant_of-self : goal.invariant_of-self
invariant_of-self g c =
    let at = goal.at.invariant_of-self g c in (
      pen_right c.read-result.new.seat,
      c.new.ensures ∙ ap (λ (u : View). u ∷ []) c.split_pen.ensures.right,
      (turned g at.After-new (has g at.After-take_pen-front)).writer,
    )

pub invariant_of-pass : goal.invariant_of-pass
invariant_of-pass g c =
    let at = goal.at.invariant_of-pass g c in
    (turned g at.After-new (has g at.After-take_pen-front)).rests c.split_pen.new.seat c.split_pen.ensures.left

pub returns-clause-ok : goal.returns-clause-ok
returns-clause-ok g c =
    let n = c.pass.inside.number in
    let z = c.split_pen.new.seat in
    subst (λ (p : PassKnown). IfOk c.read-result.result (λ page. Answered p (known n z)
    (read_of g.N.Name.state.cpus p.number c.args.index c.args.h page true)))
    c.pass.view_is
    (read_answered c.read-result.result g.N.Name.state.cpus n c.args.index c.args.h c.pass.inside.seat
    c.take.result c.take_pen-front.new.seat c.read-result.new.seat
    z c.pass.invariant.0 c.take_pen-front.ensures.moved c.split_pen.ensures.left c.read-result.ensures.ok)

pub returns-clause-room : goal.returns-clause-room
returns-clause-room g c =
    let n = c.pass.inside.number in
    let z = c.split_pen.new.seat in
    subst (λ (p : PassKnown). IfOk c.read-result.result (λ page. HadRoom
    (read_of g.N.Name.state.cpus p.number c.args.index c.args.h page true) z.seen))
    c.pass.view_is
    (read_room c.read-result.result g.N.Name.state.cpus n c.args.index c.args.h c.take_pen-front.new.seat
    c.read-result.new.seat z c.split_pen.ensures.left
    c.read-result.ensures.ok c.read-result.ensures.room)

pub returns-clause-spent : goal.returns-clause-spent
returns-clause-spent g c =
    let n = c.pass.inside.number in
    let z = c.split_pen.new.seat in
    subst (λ (p : PassKnown). IfErr c.read-result.result (λ f. Unanswered p (known n z)
    × (z.misses ≡ p.misses) × IsFull f z.seen)) c.pass.view_is
    (read_spent c.read-result.result n c.pass.inside.seat c.take.result c.take_pen-front.new.seat c.read-result.new.seat z c.pass.invariant.0
    c.take_pen-front.ensures.moved (has g (goal.at.returns-clause-spent g c).After-take_pen-front).legal c.split_pen.ensures.left c.read-result.ensures.spent)

pub returns-clause-least : goal.returns-clause-least
returns-clause-least g c =
    subst (λ (p : PassKnown). IfOk c.read-result.result (λ page. version_after p.seen c.args.index ≤ page.version)) c.pass.view_is
    (read_least c.read-result.result c.args.index c.pass.inside.seat.seen c.take_pen-front.new.seat.seen c.take_pen-front.ensures.moved.more
    (has g (goal.at.returns-clause-least g c).After-take_pen-front).legal c.read-result.ensures.page)
