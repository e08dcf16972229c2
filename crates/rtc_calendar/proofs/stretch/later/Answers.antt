use Rattle.std.proofs.Common.{◌+◌, ◌/◌, ◌%◌, arith}
use Rattle.rtc_calendar.proofs.Days.{next_seconds-at, day_number-below}
use Rattle.rtc_calendar.proofs.stretch.later.Goals as goal

pub returns-then-days-eq0 : goal.returns-then-days-eq0
returns-then-days-eq0 c =
    next_seconds-at c.args.m c.at_second.result c.args.n
    (c.args.n / 86400 + (c.second_of_day.result + c.args.n % 86400) / 86400) c.requires c.at_second.ensures.valid
    (omega arith) (omega arith) (omega (arith, day_number-below c.args.m c.requires)) (omega arith)

pub returns : goal.returns
returns c =
    next_seconds-at c.args.m c.moment_at.result c.args.n
    (c.args.n / 86400 + (c.second_of_day.result + c.args.n % 86400) / 86400) c.requires c.moment_at.ensures.valid
    (omega arith) (omega arith) (omega arith) (omega arith)
