use Rattle.save_state.proofs.Names.{ap, on_ok_weaker, passes-same, rows_size, front_rows, sizes, ◌∙◌, sym}
use Rattle.save_state.proofs.BlockRows.{front-rows}
use Rattle.save_state.proofs.front.check_front.Goals as goal

pub returns-clause-fault : goal.returns-clause-fault
returns-clause-fault c =
    let is = front-rows c.args.fields.now.bytes.now in
    let start = c.requires.start in
    let front = c.requires.front in
    cc

pub returns-clause-next : goal.returns-clause-next
unfolding front_rows
returns-clause-next c =
    on_ok_weaker c.check_rows.result (λ passes. passes-same (ap rows_size c.front_rows-rows.ensures ∙ sym sizes.0) passes) c.check_rows.ensures.next
