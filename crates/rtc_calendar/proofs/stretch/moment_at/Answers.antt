use Rattle.std.proofs.Common.{◌-◌, ◌*◌, ◌/◌, ◌%◌, arith, ap, ◌∙◌}
use Rattle.rtc_calendar.proofs.Days.{year_of_day-rest, second_of_day-at, day_number-at}
use Rattle.rtc_calendar.proofs.stretch.moment_at.Goals as goal

pub overflow_sub-day : goal.overflow_sub-day
overflow_sub-day c = omega (arith, year_of_day-rest c.args.day c.requires.in_century)

pub date_in_year-date-requires : goal.date_in_year-date-requires
date_in_year-date-requires c = omega (arith, year_of_day-rest c.args.day c.requires.in_century)

pub returns-clause-second : goal.returns-clause-second
returns-clause-second c =
    second_of_day-at c.args.second c.args.weekday c.date_in_year-date.result.date c.date_in_year-date.result.month (c.args.day * 4 / 1461) c.requires.in_day

pub returns-clause-day : goal.returns-clause-day
returns-clause-day c =
    let year = year_of_day-rest c.args.day c.requires.in_century in
    day_number-at (c.args.second % 60) (c.args.second / 60 % 60)
    (c.args.second / 3600) c.args.weekday c.date_in_year-date.result.date c.date_in_year-date.result.month (c.args.day * 4 / 1461) c.args.day
    year.1 (c.date_in_year-date.ensures.day ∙ ap (λ x. c.args.day - x) c.days_of_years.ensures.value)
