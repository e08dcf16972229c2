use Rattle.std.proofs.Common.{◌≡◌, ◌+◌, arith}
use Rattle.rtc_calendar.specs.private.Days.{day_number}
use Rattle.rtc_calendar.proofs.Days.{day_number-below}
use Rattle.rtc_calendar.proofs.stretch.day_number.Goals as goal

pub returns-clause-below : goal.returns-clause-below
unfolding day_number
returns-clause-below c =
    let value : c.days_of_years.result + c.days_of_months.result + c.from-2.result ≡ day_number c.args.m = cc in
    omega (arith, value, day_number-below c.args.m c.requires)
