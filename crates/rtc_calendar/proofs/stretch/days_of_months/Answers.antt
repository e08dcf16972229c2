use Rattle.std.proofs.Common.{arith, sym}
use Rattle.rtc_calendar.proofs.Days.{days_of_months-zero, days_of_months-more}
use Rattle.rtc_calendar.proofs.stretch.days_of_months.Goals as goal

pub loop-month-init : goal.loop-month-init
loop-month-init c = record { sum = sym (days_of_months-zero c.args.year); few = omega arith }

pub loop-month-preserved : goal.loop-month-preserved
loop-month-preserved c = record {
  sum = omega (arith, days_of_months-more c.args.year c.loop-month.month);
  few = omega arith;
}
