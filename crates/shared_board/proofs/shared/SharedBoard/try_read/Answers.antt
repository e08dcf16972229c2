use Rattle.shared_board.proofs.Clocks.{read_last, tried}
use Rattle.shared_board.proofs.shared.SharedBoard.try_read.Goals as goal

pub answer_by_page-requires : goal.answer_by_page-requires
answer_by_page-requires g c =
    let t = rw c.place.ensures.value at c.in-Ok.ensures.ok in
    record { read = read_last g.N.Name.state c.args.what c.args.h c.in-Ok.page c.requires.may _ c.args.pass.now c.try_table.new.pass t.read }

pub returns-in-Ok : goal.returns-in-Ok
returns-in-Ok g c =
    let t = rw c.place.ensures.value at c.in-Ok.ensures.ok in
    record {
      time = c.in-Ok.ensures.time;
      ok =
          tried g.N.Name.state c.args.what c.args.h c.in-Ok.page c.answer_by_page.result c.args.pass.now c.try_table.new.pass
          c.answer_by_page.new.pass c.requires.may t c.answer_by_page.ensures;
      err = tt;
    }
