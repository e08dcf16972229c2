-- Seconds counted through a day, and days through a century of 100 years.
use Rattle.std.specs.Prelude.{ℕ, zero, suc, ◌+◌, ◌-◌, ◌*◌, ◌/◌}
use Rattle.rtc_calendar.specs.declared.calendar.Moment.{Moment}
use Rattle.rtc_calendar.specs.Calendar.{month_length}

-- the seconds of the day before a moment, 0 to 86,399
unfoldable pub second_of_day : Moment → ℕ
second_of_day m = m.hour * 3600 + m.minute * 60 + m.second

-- the days of the years 0 to year - 1, every fourth of which has a day more, the first among them
unfoldable pub days_of_years : ℕ → ℕ
days_of_years year = year * 365 + (year + 3) / 4

-- the days of a year's first months
unfoldable pub days_of_months : ℕ → ℕ → ℕ
days_of_months year zero = 0
days_of_months year (suc months) = days_of_months year months + month_length year (suc months)

-- the days of the century before a date, 0 to 36,524
unfoldable pub day_number : Moment → ℕ
day_number m = days_of_years m.year + days_of_months m.year (m.month - 1) + (m.date - 1)
