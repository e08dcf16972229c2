use Rattle.std.proofs.Common.{refl}
use Rattle.rtc_calendar.specs.private.Days.{day_number}
use Rattle.rtc_calendar.proofs.Days.{second_of_day-at}
use Rattle.rtc_calendar.proofs.stretch.at_second.Goals as goal

pub returns-clause-second : goal.returns-clause-second
returns-clause-second c = second_of_day-at c.args.second c.args.m.weekday c.args.m.date c.args.m.month c.args.m.year c.requires.in_day

pub returns-clause-day : goal.returns-clause-day
unfolding day_number
returns-clause-day c = refl
