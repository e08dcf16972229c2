-- At its own TSC a page reads its own time.
use Rattle.std.proofs.Common.{◌<◌, ◌^◌, arith}
use Rattle.pvclock_page.proofs.Times.{reading_of-zero, ticks_since-same}
use Rattle.pvclock_page.proofs.publish.published.Goals as goal

pub returns-clause-begins : goal.returns-clause-begins
returns-clause-begins c =
    let tsc : c.args.news.now.tsc < 2 ^ 64 = omega arith in
    let time : c.args.news.now.system_time < 2 ^ 64 = omega arith in
    reading_of-zero _ c.args.news.now.tsc time (ticks_since-same c.args.news.now.tsc tsc)
