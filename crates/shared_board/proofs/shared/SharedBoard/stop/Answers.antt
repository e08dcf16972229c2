use Rattle.std.proofs.Common.{◌∙◌, ap, subst, arith}
use Rattle.board_types.specs.declared.parts.BoardParts.{BoardParts}
use Rattle.board_core.specs.Pages.{with_greatest}
use Rattle.clock_table.specs.Ends.{EndedTold}
use Rattle.shared_board.proofs.Seats.{alike_quiet}
use Rattle.shared_board.proofs.Turns.{taken}
use Rattle.shared_board.proofs.Ends.{joined_whole, passes_told, state_told}
use Rattle.shared_board.proofs.shared.SharedBoard.stop.Goals as goal

pub take-requires : goal.take-requires
take-requires g c = (c.board.invariant.0, c.board.invariant.1)

pub join_all-seat-requires : goal.join_all-seat-requires
join_all-seat-requires g c =
    (taken g.N.Name.state g.N.Name.passes c.board.inside.board c.board.inside.writer c.take.result c.board.invariant c.take.ensures.seat).writer

pub close-closed-requires : goal.close-closed-requires
close-closed-requires g c = joined_whole g.N.Name.passes c.args.passes.items c.take.result.seen c.join_all-seat.result c.join_all-seat.ensures
    (let n = c.args.self.counted in let few = c.if-len-self.false in let len = c.len.ensures in omega arith)

pub returns-clause-ok : goal.returns-clause-ok
returns-clause-ok g c =
    let h = c.join_all-seat.result.seen in
    let k = c.close-closed.ensures in
    let writer = taken g.N.Name.state g.N.Name.passes c.board.inside.board c.board.inside.writer c.take.result c.board.invariant c.take.ensures.seat in
    let alike = alike_quiet c.board.inside.board c.take.result.seen h writer.alike c.join_all-seat.ensures.quiet in (
      h,
      k.legal.0,
      k.legal.1,
      c.set_greatest.ensures
          ∙ ap (λ (b : BoardParts). with_greatest b c.close-closed.result.greatest) (c.deref_mut.ensures.value ∙ c.into_board-state.ensures)
          ∙ state_told c.board.inside.board h c.close-closed.result.greatest alike k.greatest,
      passes_told h c.args.passes.items (subst (EndedTold h) c.join_all-seat.ensures.ended k.ended),
      k.numbers,
    )
