use Rattle.std.proofs.Common.{arith}
use Rattle.std.proofs.lemmas.Grind.{common_steps}
use Rattle.shared_board.proofs.Tables.{locked_late}
use Rattle.shared_board.proofs.shared.SharedBoard.read_table.Goals as goal

pub returns-in-Err-Again : goal.returns-in-Err-Again
returns-in-Err-Again g c =
    let again = rw c.in-Err-Again.field-0-is at c.in-Err-Again.ensures.err in
    record {
      time = c.table_locked.ensures.time;
      ok =
          locked_late c.table_locked.result g.N.Name.state c.args.index c.args.h c.in-Err-Again.field-0-0 c.in-Err-Again.field-0-1 c.args.pass.now
          c.try_table.new.pass c.table_locked.new.pass again.1 c.table_locked.ensures.ok;
      err = grind (arith, common_steps);
    }
