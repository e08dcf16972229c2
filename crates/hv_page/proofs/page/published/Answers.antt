-- Where it was published it reads the time.
use Rattle.std.proofs.Common.{rules, arith}
use Rattle.hv_page.proofs.Times.{reference_time-published, units_of-below}
use Rattle.hv_page.proofs.page.published.Goals as goal

pub returns-clause-value : goal.returns-clause-value
returns-clause-value c = search rules

pub returns-clause-reads : goal.returns-clause-reads
returns-clause-reads c =
    rw (returns-clause-value c)
    (reference_time-published c.args.page.now c.args.guest_khz c.args.tsc_offset c.args.tsc c.args.now (omega arith)
    (rw (← c.scale_of-scale.ensures.value) (units_of-below c.scale_of-scale.result c.args.tsc (omega arith) (omega arith))))
