-- The clock and the calendar in plain numbers, and the second that an update adds
-- (MC146818 data sheet, "Update cycle").
use Rattle.std.specs.Prelude.{ℕ, zero, suc, ◌+◌, ◌%◌, ◌≤◌, Bool, ◌&&◌, ◌||◌, ◌==◌, if◌then◌else◌}
use Rattle.rtc_calendar.specs.declared.calendar.Moment.{Moment}

-- February has 29 days in every fourth year, 00 included
unfoldable pub month_length : ℕ → ℕ → ℕ
month_length year month =
    if month == 2 then (if year % 4 == 0 then 29 else 28)
    else (if month == 4 || month == 6 || month == 9 || month == 11 then 30 else 31)

-- each number is in its range; day 1 of the week is Sunday
pub record IsMoment (m : Moment) : Type 0 where
  pub second : m.second ≤ 59
  pub minute : m.minute ≤ 59
  pub hour : m.hour ≤ 23
  pub first_weekday : 1 ≤ m.weekday
  pub last_weekday : m.weekday ≤ 7
  pub first_date : 1 ≤ m.date
  pub last_date : m.date ≤ month_length m.year m.month
  pub first_month : 1 ≤ m.month
  pub last_month : m.month ≤ 12
  pub year : m.year ≤ 99

-- the second is the last of its minute
unfoldable pub ends_minute : Moment → Bool
ends_minute m = m.second == 59

-- the second is the last of its hour
unfoldable pub ends_hour : Moment → Bool
ends_hour m = ends_minute m && m.minute == 59

-- the second is the last of its day
unfoldable pub ends_day : Moment → Bool
ends_day m = ends_hour m && m.hour == 23

-- the second is the last of its month
unfoldable pub ends_month : Moment → Bool
ends_month m = ends_day m && m.date == month_length m.year m.month

-- the second is the last of its year
unfoldable pub ends_year : Moment → Bool
ends_year m = ends_month m && m.month == 12

-- the number that follows in the range low to high, which begins again after its end
unfoldable pub next_in : ℕ → ℕ → ℕ → ℕ
next_in low high number = if number == high then low else number + 1

-- the moment a second later; after year 99 comes year 0
unfoldable pub next_second : Moment → Moment
next_second m = record {
  second = next_in 0 59 m.second;
  minute = if ends_minute m then next_in 0 59 m.minute else m.minute;
  hour = if ends_hour m then next_in 0 23 m.hour else m.hour;
  weekday = if ends_day m then next_in 1 7 m.weekday else m.weekday;
  date = if ends_day m then next_in 1 (month_length m.year m.month) m.date else m.date;
  month = if ends_month m then next_in 1 12 m.month else m.month;
  year = if ends_year m then next_in 0 99 m.year else m.year;
}

-- the moment n seconds later
abbrev pub next_seconds : ℕ → Moment → Moment
next_seconds zero m = m
next_seconds (suc n) m = next_second (next_seconds n m)

-- the moment at the same time of the next day
unfoldable pub next_day : Moment → Moment
next_day m = record m {
  weekday = next_in 1 7 m.weekday;
  date = next_in 1 (month_length m.year m.month) m.date;
  month = if m.date == month_length m.year m.month then next_in 1 12 m.month else m.month;
  year = if m.date == month_length m.year m.month && m.month == 12
      then next_in 0 99 m.year
      else m.year;
}
