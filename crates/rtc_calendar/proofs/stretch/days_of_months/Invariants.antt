use Rattle.std.proofs.Common.{◌≡◌, ◌≤◌, ◌*◌}
use Rattle.rtc_calendar.specs.private.Days.{days_of_months}
use Rattle.rtc_calendar.proofs.stretch.days_of_months.Given as goal

abbrev pub invariant-loop-month : goal.invariant-loop-month
invariant-loop-month l = record {
  sum : l.days ≡ days_of_months l.year l.month;
  few : l.days ≤ 31 * l.month;
}
