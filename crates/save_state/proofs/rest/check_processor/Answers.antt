use Rattle.save_state.proofs.Names.{ap, on_ok_weaker, passes-same, rows_size, processor_rows}
use Rattle.save_state.proofs.{Names.get_or, Names.no_processor, BlockRows.processor-rows}
use Rattle.save_state.proofs.rest.check_processor.Goals as goal

pub returns-clause-fault : goal.returns-clause-fault
returns-clause-fault c =
    let at = c.args.fields.now in
    let is = processor-rows c.args.k c.args.b.now (get_or c.args.b.now.processors c.args.k no_processor) at.place at.bytes.now in
    let mul = c.requires.mul in
    let shift = c.requires.shift in
    cc

pub returns-clause-next : goal.returns-clause-next
unfolding processor_rows
returns-clause-next c =
    on_ok_weaker c.check_rows.result (λ passes. passes-same (ap rows_size c.processor_rows-rows.ensures) passes) c.check_rows.ensures.next
