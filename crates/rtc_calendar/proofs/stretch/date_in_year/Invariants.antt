use Rattle.std.proofs.Common.{◌≡◌, ◌+◌, ◌-◌}
use Rattle.rtc_calendar.specs.private.Days.{days_of_months}
use Rattle.rtc_calendar.proofs.stretch.date_in_year.Given as goal

abbrev pub invariant-loop-month : goal.invariant-loop-month
invariant-loop-month l = days_of_months l.year (l.month - 1) + l.rest ≡ l.fn.day
