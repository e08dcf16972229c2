use Rattle.std.proofs.Common.{◌≡◌, ◌+◌, ◌-◌, ap, arith}
use Rattle.rtc_calendar.specs.private.Days.{days_of_months}
use Rattle.rtc_calendar.proofs.Moments.{month_length-most}
use Rattle.rtc_calendar.proofs.Days.{days_of_months-zero, days_of_months-month}
use Rattle.rtc_calendar.proofs.stretch.date_in_year.Goals as goal

pub loop-month-init : goal.loop-month-init
loop-month-init c = omega (arith, days_of_months-zero c.args.year)

pub loop-month-preserved : goal.loop-month-preserved
loop-month-preserved c =
    let next : days_of_months c.args.year (c.loop-month.month + 1 - 1) ≡ days_of_months c.args.year c.loop-month.month =
    ap (days_of_months c.args.year) (omega arith) in
    omega (arith, next, days_of_months-month c.args.year c.loop-month.month (omega arith))

pub overflow_cast-result-2 : goal.overflow_cast-result-2
overflow_cast-result-2 c =
    let november : days_of_months c.args.year (c.loop-month.month - 1) ≡ days_of_months c.args.year 11 = ap (days_of_months c.args.year) (omega arith) in
    omega (arith, november, days_of_months-month c.args.year 12 (omega arith), month_length-most c.args.year 12)

pub overflow_add-result-2 : goal.overflow_add-result-2
overflow_add-result-2 c =
    let november : days_of_months c.args.year (c.loop-month.month - 1) ≡ days_of_months c.args.year 11 = ap (days_of_months c.args.year) (omega arith) in
    omega (arith, november, days_of_months-month c.args.year 12 (omega arith), month_length-most c.args.year 12)

pub returns-clause-last_date : goal.returns-clause-last_date
returns-clause-last_date c =
    let november : days_of_months c.args.year (c.loop-month.month - 1) ≡ days_of_months c.args.year 11 = ap (days_of_months c.args.year) (omega arith) in
    omega (arith, november, days_of_months-month c.args.year 12 (omega arith))
