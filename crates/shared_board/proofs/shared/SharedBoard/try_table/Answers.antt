use Rattle.std.proofs.Common.{false, subst, IfOk, IfErr, OnOk}
use Rattle.host_counter.specs.declared.Anchor.{Anchor}
use Rattle.host_counter.specs.Time.{HasTime}
use Rattle.shared_board.specs.declared.known.PassKnown.{PassKnown}
use Rattle.shared_board.specs.private.Tables.{HasReadOnce}
use Rattle.shared_board.specs.Faults.{IsPageFault}
use Rattle.shared_board.specs.private.Seats.{known}
use Rattle.shared_board.proofs.Clocks.{try_faulted}
use Rattle.shared_board.proofs.Tables.{try_answered, try_rests}
use Rattle.shared_board.proofs.shared.SharedBoard.try_table.Goals as goal

pub invariant_of-pass : goal.invariant_of-pass
invariant_of-pass g c = try_rests c.try_table_on.result c.args.self.now.host.anchor g.N.Name.state.cpus g.N.Name.passes c.pass.inside.number
    c.args.index c.args.h c.pass.inside.seat c.try_table_on.new.seat c.pass.invariant.0 c.pass.invariant.1 c.try_table_on.ensures.ok c.try_table_on.ensures.err

pub returns : goal.returns
returns g c =
    let n = c.pass.inside.number in
    record {
      time = subst (λ (a : Anchor). OnOk c.try_table_on.result (HasTime a c.args.h)) c.args.self.now.clock c.try_table_on.ensures.time;
      ok =
          subst (λ (z : PassKnown). IfOk c.try_table_on.result (λ r. HasReadOnce g.N.Name.state c.args.index c.args.h false r z (known n c.try_table_on.new.seat)))
          c.pass.view_is
          (try_answered c.try_table_on.result g.N.Name.state n c.args.index c.args.h c.pass.inside.seat c.try_table_on.new.seat
          c.pass.invariant.0 c.try_table_on.ensures.ok);
      err =
          subst (λ (z : PassKnown × Anchor). IfErr c.try_table_on.result (λ f. IsPageFault z.1 c.args.index c.args.h f z.0 (known n c.try_table_on.new.seat)))
          (λ i. (c.pass.view_is i, c.args.self.now.clock i))
          (try_faulted c.try_table_on.result c.args.self.now.host.anchor n c.args.index c.args.h c.pass.inside.seat c.try_table_on.new.seat c.pass.invariant.0
          c.try_table_on.ensures.err);
    }
