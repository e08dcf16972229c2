-- Which times of the day an alarm asks for, and the next of them, for the bodies alone.
use Rattle.std.specs.Prelude.{◌≡◌, ℕ, ◌/◌, ◌%◌, ◌<◌, ◌≤◌, Bool, true, false, ◌&&◌, ◌==◌, Option}
use Rattle.std.specs.Prelude.{Some, None}
use Rattle.rtc_calendar.specs.declared.wanted.Wanted.{Wanted}
use Rattle.rtc_calendar.specs.declared.wanted.Wanted.TheVariants.{Anything, Only, Nothing}
use Rattle.rtc_calendar.specs.declared.wanted.WantedTime.{WantedTime}

-- the number is one that is asked for
abbrev pub is_wanted : Wanted → ℕ → Bool
is_wanted Anything number = true
is_wanted (Only wanted) number = number == wanted
is_wanted Nothing number = false

-- the least number that is asked for
abbrev pub lowest : Wanted → ℕ
lowest Anything = 0
lowest (Only wanted) = wanted
lowest Nothing = 0

-- a number that is asked for alone is below n
abbrev pub IsBelow : Wanted → ℕ → Type 0
IsBelow Anything n = Unit {0}
IsBelow (Only wanted) n = wanted < n
IsBelow Nothing n = Unit {0}

-- the hour, the minute, the second, counted from a midnight, is of a time that is asked for
abbrev pub is_wanted_hour : WantedTime → ℕ → Bool
is_wanted_hour w x = is_wanted w.hour (x % 24)

abbrev pub is_wanted_minute : WantedTime → ℕ → Bool
is_wanted_minute w x = is_wanted w.minute (x % 60) && is_wanted_hour w (x / 60)

abbrev pub is_wanted_second : WantedTime → ℕ → Bool
is_wanted_second w x = is_wanted w.second (x % 60) && is_wanted_minute w (x / 60)

-- each number that is asked for alone is in its range
pub record IsInDay (w : WantedTime) : Type 0 where
  pub second : IsBelow w.second 60
  pub minute : IsBelow w.minute 60
  pub hour : IsBelow w.hour 24

-- `next` is the first from x on that passes the test, or none does
abbrev pub IsNext : (ℕ → Bool) → ℕ → Option ℕ → Type 0
IsNext test x None = (y : ℕ) → x ≤ y → test y ≡ false
IsNext test x (Some y) = (x ≤ y) × (test y ≡ true) × ((z : ℕ) → x ≤ z → z < y → test z ≡ false)
