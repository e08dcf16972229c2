-- Lemmas on the clock and the calendar in plain numbers.
use Rattle.std.proofs.Common.{◌≡◌, ℕ, ◌+◌, ◌%◌, ◌≤◌, Bool, true, false, cond, eqb, ◌&&◌, ◌||◌, refl, sym}
use Rattle.std.proofs.Common.{arith}
use Rattle.std.proofs.lemmas.Bool.{cond_both, eqb-false}
use Rattle.rtc_calendar.specs.declared.calendar.Moment.{Moment}
use Rattle.rtc_calendar.specs.Calendar.{month_length, IsMoment, ends_minute, ends_hour, ends_day, ends_month}
use Rattle.rtc_calendar.specs.Calendar.{ends_year, next_in, next_second}

-- a month has 28 days at least ..
pub month_length-least : (year month : ℕ) → 28 ≤ month_length year month
unfolding month_length
month_length-least year month =
    at_least (eqb month 2) (eqb (year % 4) 0) (eqb month 4 || eqb month 6 || eqb month 9 || eqb month 11)
  where
    at_least : (a b d : Bool) → 28 ≤ cond a (cond b 29 28) (cond d 30 31)
    at_least true true d = omega arith
    at_least true false d = omega arith
    at_least false b true = omega arith
    at_least false b false = omega arith

-- .. and 31 at most
pub month_length-most : (year month : ℕ) → month_length year month ≤ 31
unfolding month_length
month_length-most year month =
    at_most (eqb month 2) (eqb (year % 4) 0) (eqb month 4 || eqb month 6 || eqb month 9 || eqb month 11)
  where
    at_most : (a b d : Bool) → cond a (cond b 29 28) (cond d 30 31) ≤ 31
    at_most true true d = omega arith
    at_most true false d = omega arith
    at_most false b true = omega arith
    at_most false b false = omega arith

-- the number that follows is in the range
pub next_in-least : (low high number : ℕ) → low ≤ number → low ≤ next_in low high number
unfolding next_in
next_in-least low high number h =
    cond_both (eqb number high) low (number + 1) (λ x. low ≤ x) (λ _. omega arith) (λ _. omega arith)

pub next_in-most : (low high number : ℕ) → low ≤ high → number ≤ high → next_in low high number ≤ high
unfolding next_in
next_in-most low high number order h =
    cond_both (eqb number high) low (number + 1) (λ x. x ≤ high) (λ _. order) (λ e. not_last (eqb-false number high e))
  where
    not_last : (number ≡ high → ⊥) → number + 1 ≤ high
    not_last other = omega arith

-- after the last of a month comes a first, which every month has
pub date_in_month : (day last end : Bool) (date year month next_year next_month : ℕ) → last ≡ eqb date (month_length year month)
    → date ≤ month_length year month
    → cond day (next_in 1 (month_length year month) date) date
    ≤ month_length (cond (day && last && end) next_year year) (cond (day && last) next_month month)
unfolding next_in
date_in_month false last end date year month next_year next_month e h = h
date_in_month true false end date year month next_year next_month e h = rw (← e) (inside (eqb-false date (month_length year month) (sym e)))
  where
    inside : (date ≡ month_length year month → ⊥) → date + 1 ≤ month_length year month
    inside other = omega arith
date_in_month true true end date year month next_year next_month e h =
    rw (← e) (omega (arith, month_length-least (cond end next_year year) next_month))

-- a second later the numbers are in their ranges again
pub IsMoment-next_second : (m : Moment) → IsMoment m → IsMoment (next_second m)
unfolding next_second ends_month ends_year
IsMoment-next_second m v = record {
  second = next_in-most 0 59 m.second (omega arith) v.second;
  minute = cond_both (ends_minute m) (next_in 0 59 m.minute) m.minute (λ x. x ≤ 59) (λ _. next_in-most 0 59 m.minute (omega arith) v.minute)
      (λ _. v.minute);
  hour = cond_both (ends_hour m) (next_in 0 23 m.hour) m.hour (λ x. x ≤ 23) (λ _. next_in-most 0 23 m.hour (omega arith) v.hour) (λ _. v.hour);
  first_weekday = cond_both (ends_day m) (next_in 1 7 m.weekday) m.weekday (λ x. 1 ≤ x) (λ _. next_in-least 1 7 m.weekday v.first_weekday)
      (λ _. v.first_weekday);
  last_weekday = cond_both (ends_day m) (next_in 1 7 m.weekday) m.weekday (λ x. x ≤ 7) (λ _. next_in-most 1 7 m.weekday (omega arith) v.last_weekday)
      (λ _. v.last_weekday);
  first_date = cond_both (ends_day m) (next_in 1 (month_length m.year m.month) m.date) m.date (λ x. 1 ≤ x)
      (λ _. next_in-least 1 (month_length m.year m.month) m.date v.first_date) (λ _. v.first_date);
  last_date = date_in_month (ends_day m) (eqb m.date (month_length m.year m.month)) (eqb m.month 12) m.date m.year m.month (next_in 0 99 m.year)
      (next_in 1 12 m.month) refl v.last_date;
  first_month = cond_both (ends_month m) (next_in 1 12 m.month) m.month (λ x. 1 ≤ x) (λ _. next_in-least 1 12 m.month v.first_month) (λ _. v.first_month);
  last_month = cond_both (ends_month m) (next_in 1 12 m.month) m.month (λ x. x ≤ 12) (λ _. next_in-most 1 12 m.month (omega arith) v.last_month)
      (λ _. v.last_month);
  year = cond_both (ends_year m) (next_in 0 99 m.year) m.year (λ x. x ≤ 99) (λ _. next_in-most 0 99 m.year (omega arith) v.year) (λ _. v.year);
}
