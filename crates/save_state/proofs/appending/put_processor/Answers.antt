use Rattle.save_state.proofs.Names.{on_ok_weaker, written-then, tsc, page}
use Rattle.save_state.proofs.appending.put_processor.Goals as goal

pub returns-clause-bytes : goal.returns-clause-bytes
returns-clause-bytes c k =
    on_ok_weaker c.put_page.result (λ e. written-then tsc page c.args.p.now _ _ _ c.in_ok-put_tsc.ensures.bytes e) c.put_page.ensures.bytes
