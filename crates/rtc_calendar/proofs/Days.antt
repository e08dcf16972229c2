-- The second of the day and the day of a century of 100 years, and how a second moves them.
use Rattle.std.proofs.Common.{◌≡◌, ℕ, zero, suc, ◌+◌, ◌-◌, ◌*◌, ◌/◌, ◌%◌, ◌<◌, ◌≤◌, Bool, true, false, cond}
use Rattle.std.proofs.Common.{eqb, ◌&&◌, refl, sym, ap, ◌∙◌, inl, inr, arith}
use Rattle.std.proofs.lemmas.Bool.{cond_both, eqb-true, eqb-false, cases_eq, cases_order, cases_Bool, eq-eqb}
use Rattle.std.proofs.lemmas.Bool.{ne_eqb}
use Rattle.rtc_calendar.specs.declared.calendar.Moment.{Moment}
use Rattle.rtc_calendar.specs.Calendar.{month_length, IsMoment, ends_minute, ends_hour, ends_day, ends_month}
use Rattle.rtc_calendar.specs.Calendar.{ends_year, next_in, next_second, next_seconds, next_day}
use Rattle.rtc_calendar.specs.private.Days.{second_of_day, days_of_years, days_of_months, day_number}
use Rattle.rtc_calendar.proofs.Moments.{month_length-least, next_in-least, next_in-most}
use Rattle.rtc_calendar.proofs.Moments.{date_in_month, IsMoment-next_second}

-- what next_in gives at the end and before it
next_in-last : (low high number : ℕ) → eqb number high ≡ true → next_in low high number ≡ low
unfolding next_in
next_in-last low high number e = rw e refl

next_in-inside : (low high number : ℕ) → eqb number high ≡ false → next_in low high number ≡ number + 1
unfolding next_in
next_in-inside low high number e = rw e refl

-- the clock of 86,400 seconds
clock : (last_second last_minute last_hour : Bool) (second minute hour : ℕ) → last_second ≡ eqb second 59 → last_minute ≡ eqb minute 59
    → last_hour ≡ eqb hour 23
    → second ≤ 59 → minute ≤ 59 → hour ≤ 23
    → cond (last_second && last_minute) (next_in 0 23 hour) hour * 3600 + cond last_second (next_in 0 59 minute) minute * 60 + next_in 0 59 second
    ≡ (hour * 3600 + minute * 60 + second + 1) % 86400
clock false last_minute last_hour second minute hour s mi h bs bm bh =
    omega (arith, next_in-inside 0 59 second (sym s), eqb-false second 59 (sym s))
clock true false last_hour second minute hour s mi h bs bm bh =
    omega (arith, next_in-last 0 59 second (sym s), eqb-true second 59 (sym s), next_in-inside 0 59 minute (sym mi), eqb-false minute 59 (sym mi))
clock true true false second minute hour s mi h bs bm bh =
    omega (
      arith,
      next_in-last 0 59 second (sym s),
      eqb-true second 59 (sym s),
      next_in-last 0 59 minute (sym mi),
      eqb-true minute 59 (sym mi),
      next_in-inside 0 23 hour (sym h),
      eqb-false hour 23 (sym h),
    )
clock true true true second minute hour s mi h bs bm bh =
    omega (
      arith,
      next_in-last 0 59 second (sym s),
      eqb-true second 59 (sym s),
      next_in-last 0 59 minute (sym mi),
      eqb-true minute 59 (sym mi),
      next_in-last 0 23 hour (sym h),
      eqb-true hour 23 (sym h),
    )

pub second_of_day-next_second : (m : Moment) → IsMoment m → second_of_day (next_second m) ≡ (second_of_day m + 1) % 86400
unfolding second_of_day next_second ends_hour ends_minute
second_of_day-next_second m v =
    clock (eqb m.second 59) (eqb m.minute 59) (eqb m.hour 23) m.second m.minute m.hour refl refl refl v.second v.minute v.hour

-- the last second of a day is second 86,399
last_second : (last_second last_minute last_hour : Bool) (second minute hour : ℕ) → last_second ≡ eqb second 59 → last_minute ≡ eqb minute 59
    → last_hour ≡ eqb hour 23
    → second ≤ 59 → minute ≤ 59 → hour ≤ 23 → (last_second && last_minute && last_hour) ≡ eqb (hour * 3600 + minute * 60 + second) 86399
last_second false last_minute last_hour second minute hour s mi h bs bm bh =
    sym (ne_eqb (hour * 3600 + minute * 60 + second) 86399 (λ e. omega (arith, eqb-false second 59 (sym s))))
last_second true false last_hour second minute hour s mi h bs bm bh =
    sym (ne_eqb (hour * 3600 + minute * 60 + second) 86399 (λ e. omega (arith, eqb-false minute 59 (sym mi))))
last_second true true false second minute hour s mi h bs bm bh =
    sym (ne_eqb (hour * 3600 + minute * 60 + second) 86399 (λ e. omega (arith, eqb-false hour 23 (sym h))))
last_second true true true second minute hour s mi h bs bm bh =
    sym (eq-eqb (hour * 3600 + minute * 60 + second) 86399 (omega (arith, eqb-true second 59 (sym s), eqb-true minute 59 (sym mi), eqb-true hour 23 (sym h))))

pub ends_day-second_of_day : (m : Moment) → IsMoment m → ends_day m ≡ eqb (second_of_day m) 86399
unfolding second_of_day ends_day ends_hour ends_minute
ends_day-second_of_day m v =
    last_second (eqb m.second 59) (eqb m.minute 59) (eqb m.hour 23) m.second m.minute m.hour refl refl refl v.second v.minute v.hour

pub second_of_day-below : (m : Moment) → IsMoment m → second_of_day m < 86400
unfolding second_of_day
second_of_day-below m v = omega arith

-- the months before a month
pub days_of_months-zero : (year : ℕ) → days_of_months year 0 ≡ 0
unfolding days_of_months
days_of_months-zero year = refl

pub days_of_months-suc : (year months : ℕ) → days_of_months year (suc months) ≡ days_of_months year months + month_length year (suc months)
unfolding days_of_months
days_of_months-suc year months = refl

pub days_of_months-more : (year months : ℕ) → days_of_months year (months + 1) ≡ days_of_months year months + month_length year (months + 1)
days_of_months-more year months = let e : months + 1 ≡ suc months = omega arith in rw e (days_of_months-suc year months)

pub days_of_months-mono : (year a b : ℕ) → a ≤ b → days_of_months year a ≤ days_of_months year b
days_of_months-mono year a zero h = let e : a ≡ 0 = omega arith in rw e (omega arith)
days_of_months-mono year a (suc b) h = elim (cases_eq a (suc b)) [
  | inl same ↦ rw same (omega arith)
  | inr other ↦ omega (arith, days_of_months-mono year a b (before other), days_of_months-suc year b)
]
  where
    before : (a ≡ suc b → ⊥) → a ≤ b
    before other = omega arith

-- a year has 365 days, and every fourth 366
pub days_of_months-year : (year : ℕ) → days_of_months year 12 ≡ cond (eqb (year % 4) 0) 366 365
unfolding days_of_months month_length
days_of_months-year year = elim (cases_Bool (eqb (year % 4) 0)) [
  | inl leap ↦ rw leap refl
  | inr other ↦ rw other refl
]

-- the years before a year, with every fourth one day longer
pub days_of_years-suc : (year : ℕ) → days_of_years (year + 1) ≡ days_of_years year + days_of_months year 12
unfolding days_of_years
days_of_years-suc year =
    rw days_of_months-year (cond_both (eqb (year % 4) 0) 366 365 (λ x. (year + 1) * 365 + (year + 1 + 3) / 4 ≡ year * 365 + (year + 3) / 4 + x)
    (λ e. omega (arith, eqb-true (year % 4) 0 e)) (λ e. not_leap (eqb-false (year % 4) 0 e)))
  where
    not_leap : (year % 4 ≡ 0 → ⊥) → (year + 1) * 365 + (year + 1 + 3) / 4 ≡ year * 365 + (year + 3) / 4 + 365
    not_leap other = omega arith

-- a month's days with those before it
pub days_of_months-month : (year month : ℕ) → 1 ≤ month → days_of_months year month ≡ days_of_months year (month - 1) + month_length year month
days_of_months-month year month first =
    let e : suc (month - 1) ≡ month = omega arith in
    ap (days_of_months year) (sym e) ∙ days_of_months-suc year (month - 1) ∙ ap (λ (x : ℕ). days_of_months year (month - 1) + month_length year x) e

-- the day of the year is below the year's length
pub day_of_year-below : (year month date : ℕ) → 1 ≤ month → month ≤ 12 → 1 ≤ date → date ≤ month_length year month
    → days_of_months year (month - 1) + (date - 1) < days_of_months year 12
day_of_year-below year month date first_month last_month first_date last_date =
    omega (arith, days_of_months-month year month first_month, days_of_months-mono year month 12 last_month)

-- a century has 36,525 days
days_of_years-below : (year : ℕ) → year ≤ 99 → days_of_years year ≤ 36160
unfolding days_of_years
days_of_years-below year h = omega arith

days_of_years-last : (year : ℕ) → year ≡ 99 → days_of_years year + days_of_months year 12 ≡ 36525
unfolding days_of_years days_of_months month_length
days_of_years-last year e = rw e refl

days_of_years-first : days_of_years 0 ≡ 0
unfolding days_of_years
days_of_years-first = refl

century : (year : ℕ) → year ≤ 99 → days_of_years year + days_of_months year 12 ≤ 36525
century year h = elim (cases_eq year 99) [
  | inl last ↦ omega (arith, days_of_years-last year last)
  | inr other ↦ before other
]
  where
    before : (year ≡ 99 → ⊥) → days_of_years year + days_of_months year 12 ≤ 36525
    before other = omega (arith, days_of_years-suc year, days_of_years-below (year + 1) (omega arith))

-- the days of a date and the day that follows
next_date : (last_date last_month : Bool) (date month year : ℕ) → last_date ≡ eqb date (month_length year month) → last_month ≡ eqb month 12
    → 1 ≤ date → date ≤ month_length year month → 1 ≤ month → month ≤ 12 → year ≤ 99
    → days_of_years (cond (last_date && last_month) (next_in 0 99 year) year)
    + days_of_months (cond (last_date && last_month) (next_in 0 99 year) year) (cond last_date (next_in 1 12 month) month - 1)
    + (next_in 1 (month_length year month) date - 1)
    ≡ (days_of_years year + days_of_months year (month - 1) + (date - 1) + 1) % 36525
next_date false last_month date month year d mo first_date fits first_month most_month bound =
    let other : date ≡ month_length year month → ⊥ = eqb-false date (month_length year month) (sym d) in
    omega (
      arith,
      next_in-inside 1 (month_length year month) date (sym d),
      day_of_year-below year month (date + 1) first_month most_month (omega arith) (omega arith),
      century year bound,
    )
next_date true false date month year d mo first_date fits first_month most_month bound =
    let other : month ≡ 12 → ⊥ = eqb-false month 12 (sym mo) in
    let next_month : days_of_months year (next_in 1 12 month - 1) ≡ days_of_months year month =
    ap (days_of_months year) (omega (arith, next_in-inside 1 12 month (sym mo))) in
    omega (
      arith,
      next_month,
      next_in-last 1 (month_length year month) date (sym d),
      eqb-true date (month_length year month) (sym d),
      days_of_months-month year month first_month,
      days_of_months-suc year month,
      days_of_months-mono year (suc month) 12 (omega arith),
      month_length-least year (suc month),
      century year bound,
    )
next_date true true date month year d mo first_date fits first_month most_month bound =
    let december : month ≡ 12 = eqb-true month 12 (sym mo) in
    let january : (y : ℕ) → days_of_months y (next_in 1 12 month - 1) ≡ 0 =
    λ y. ap (days_of_months y) (omega (arith, next_in-last 1 12 month (sym mo))) ∙ days_of_months-zero y in
    let whole : days_of_months year 12 ≡ days_of_months year (month - 1) + month_length year month =
    ap (days_of_months year) (sym december) ∙ days_of_months-month year month first_month in
    elim (cases_eq year 99) [
      | inl last ↦
          let new : days_of_years (next_in 0 99 year) ≡ 0 = ap days_of_years (next_in-last 0 99 year (eq-eqb year 99 last)) ∙ days_of_years-first in
          omega (
            arith,
            new,
            january (next_in 0 99 year),
            whole,
            next_in-last 1 (month_length year month) date (sym d),
            eqb-true date (month_length year month) (sym d),
            days_of_years-last year last,
          )
      | inr other ↦
          let new : days_of_years (next_in 0 99 year) ≡ days_of_years (year + 1) = ap days_of_years (next_in-inside 0 99 year (ne_eqb year 99 other)) in
          omega (
            arith,
            new,
            january (next_in 0 99 year),
            whole,
            next_in-last 1 (month_length year month) date (sym d),
            eqb-true date (month_length year month) (sym d),
            days_of_years-suc year,
            days_of_years-below (year + 1) (omega (arith, other)),
          )
    ]

-- a day later
pub day_number-next_day : (m : Moment) → IsMoment m → day_number (next_day m) ≡ (day_number m + 1) % 36525
unfolding day_number next_day
day_number-next_day m v =
    next_date (eqb m.date (month_length m.year m.month)) (eqb m.month 12) m.date m.month m.year refl refl
    v.first_date v.last_date v.first_month v.last_month v.year

-- a second later the date is the next day's, or the same
pub day_number-next_second : (m : Moment) → IsMoment m → day_number (next_second m) ≡ cond (ends_day m) ((day_number m + 1) % 36525) (day_number m)
unfolding day_number next_second ends_month ends_year
day_number-next_second m v = by_day (ends_day m)
  where
    by_day : (b : Bool) → days_of_years (cond (b && eqb m.date (month_length m.year m.month) && eqb m.month 12) (next_in 0 99 m.year) m.year)
        + days_of_months (cond (b && eqb m.date (month_length m.year m.month) && eqb m.month 12) (next_in 0 99 m.year) m.year)
        (cond (b && eqb m.date (month_length m.year m.month)) (next_in 1 12 m.month) m.month - 1)
        + (cond b (next_in 1 (month_length m.year m.month) m.date) m.date - 1)
        ≡ cond b ((days_of_years m.year + days_of_months m.year (m.month - 1) + (m.date - 1) + 1) % 36525)
        (days_of_years m.year + days_of_months m.year (m.month - 1) + (m.date - 1))
    by_day true = next_date (eqb m.date (month_length m.year m.month)) (eqb m.month 12) m.date m.month m.year refl refl
        v.first_date v.last_date v.first_month v.last_month v.year
    by_day false = refl

pub weekday-next_second : (m : Moment) → IsMoment m → (next_second m).weekday ≡ cond (ends_day m) (m.weekday % 7 + 1) m.weekday
unfolding next_second next_in
weekday-next_second m v = ap (λ (x : ℕ). cond (ends_day m) x m.weekday) (cond_both (eqb m.weekday 7) 1 (m.weekday + 1) (λ x. x ≡ m.weekday % 7 + 1)
    (λ e. omega (arith, eqb-true m.weekday 7 e)) (λ e. other (eqb-false m.weekday 7 e)))
  where
    other : (m.weekday ≡ 7 → ⊥) → m.weekday + 1 ≡ m.weekday % 7 + 1
    other h = omega arith

pub day_number-below : (m : Moment) → IsMoment m → day_number m < 36525
unfolding day_number
day_number-below m v =
    omega (arith, day_of_year-below m.year m.month m.date v.first_month v.last_month v.first_date v.last_date, century m.year v.year)

-- the moment n seconds later, by the second of the day, the day of the century and the day of the week
pub IsMoment-next_seconds : (n : ℕ) (m : Moment) → IsMoment m → IsMoment (next_seconds n m)
IsMoment-next_seconds zero m v = v
IsMoment-next_seconds (suc n) m v = IsMoment-next_second (next_seconds n m) (IsMoment-next_seconds n m v)

pub second_of_day-next_seconds : (n : ℕ) (m : Moment) → IsMoment m → second_of_day (next_seconds n m) ≡ (second_of_day m + n) % 86400
second_of_day-next_seconds zero m v = omega (arith, second_of_day-below m v)
second_of_day-next_seconds (suc n) m v =
    omega (arith, second_of_day-next_second (next_seconds n m) (IsMoment-next_seconds n m v), second_of_day-next_seconds n m v)

-- whether the n-th second after a moment ends its day
ends_day-next_seconds : (n : ℕ) (m : Moment) → IsMoment m → ends_day (next_seconds n m) ≡ eqb ((second_of_day m + n) % 86400) 86399
ends_day-next_seconds n m v =
    ends_day-second_of_day (next_seconds n m) (IsMoment-next_seconds n m v) ∙ ap (λ (x : ℕ). eqb x 86399) (second_of_day-next_seconds n m v)

pub day_number-next_seconds : (n : ℕ) (m : Moment) → IsMoment m → day_number (next_seconds n m) ≡ (day_number m + (second_of_day m + n) / 86400) % 36525
day_number-next_seconds zero m v = omega (arith, second_of_day-below m v, day_number-below m v)
day_number-next_seconds (suc n) m v =
    day_number-next_second (next_seconds n m) (IsMoment-next_seconds n m v)
    ∙ ap (λ (b : Bool). cond b ((day_number (next_seconds n m) + 1) % 36525) (day_number (next_seconds n m))) (ends_day-next_seconds n m v)
    ∙ step (second_of_day m + n) (day_number m) (day_number (next_seconds n m)) (day_number-next_seconds n m v)
    ∙ ap (λ (x : ℕ). (day_number m + x / 86400) % 36525) (omega arith)
  where
    step : (s d x : ℕ) → x ≡ (d + s / 86400) % 36525 → cond (eqb (s % 86400) 86399) ((x + 1) % 36525) x ≡ (d + (s + 1) / 86400) % 36525
    step s d x e = cond_both (eqb (s % 86400) 86399) ((x + 1) % 36525) x (λ y. y ≡ (d + (s + 1) / 86400) % 36525)
        (λ h. omega (arith, eqb-true (s % 86400) 86399 h)) (λ h. inside (eqb-false (s % 86400) 86399 h))
      where
        inside : (s % 86400 ≡ 86399 → ⊥) → x ≡ (d + (s + 1) / 86400) % 36525
        inside other = let same : (s + 1) / 86400 ≡ s / 86400 = omega arith in rw same e

pub weekday-next_seconds : (n : ℕ) (m : Moment) → IsMoment m → (next_seconds n m).weekday ≡ (m.weekday - 1 + (second_of_day m + n) / 86400) % 7 + 1
weekday-next_seconds zero m v = omega (arith, second_of_day-below m v)
weekday-next_seconds (suc n) m v =
    weekday-next_second (next_seconds n m) (IsMoment-next_seconds n m v)
    ∙ ap (λ (b : Bool). cond b ((next_seconds n m).weekday % 7 + 1) (next_seconds n m).weekday) (ends_day-next_seconds n m v)
    ∙ step (second_of_day m + n) (m.weekday - 1) (next_seconds n m).weekday (weekday-next_seconds n m v)
    ∙ ap (λ (x : ℕ). (m.weekday - 1 + x / 86400) % 7 + 1) (omega arith)
  where
    step : (s d x : ℕ) → x ≡ (d + s / 86400) % 7 + 1 → cond (eqb (s % 86400) 86399) (x % 7 + 1) x ≡ (d + (s + 1) / 86400) % 7 + 1
    step s d x e = cond_both (eqb (s % 86400) 86399) (x % 7 + 1) x (λ y. y ≡ (d + (s + 1) / 86400) % 7 + 1)
        (λ h. omega (arith, eqb-true (s % 86400) 86399 h)) (λ h. inside (eqb-false (s % 86400) 86399 h))
      where
        inside : (s % 86400 ≡ 86399 → ⊥) → x ≡ (d + (s + 1) / 86400) % 7 + 1
        inside other = let same : (s + 1) / 86400 ≡ s / 86400 = omega arith in rw same e

-- the year of a day of the century, by the 1,461 days of four years
pub year-of_day : (year rest : ℕ) → rest < days_of_months year 12 → (days_of_years year + rest) * 4 / 1461 ≡ year
unfolding days_of_years
year-of_day year rest h = elim (cases_Bool (eqb (year % 4) 0)) [
  | inl leap ↦ omega (arith, long leap, eqb-true (year % 4) 0 leap)
  | inr other ↦ short (eqb-false (year % 4) 0 other) (usual other)
]
  where
    long : eqb (year % 4) 0 ≡ true → days_of_months year 12 ≡ 366
    long e = days_of_months-year year ∙ ap (λ (b : Bool). cond b 366 365) e

    usual : eqb (year % 4) 0 ≡ false → days_of_months year 12 ≡ 365
    usual e = days_of_months-year year ∙ ap (λ (b : Bool). cond b 366 365) e

    short : (year % 4 ≡ 0 → ⊥) → days_of_months year 12 ≡ 365 → (year * 365 + (year + 3) / 4 + rest) * 4 / 1461 ≡ year
    short not_leap length = omega arith

-- two dates on one day of a year are in one month
month-below : (year a b i j : ℕ) → 1 ≤ a → i < month_length year a
    → days_of_months year (a - 1) + i ≡ days_of_months year (b - 1) + j → a < b → ⊥
month-below year a b i j first_month fits same less =
    omega (arith, days_of_months-month year a first_month, days_of_months-mono year a (b - 1) (omega arith))

month-one : (year a b i j : ℕ) → 1 ≤ a → 1 ≤ b → i < month_length year a → j < month_length year b
    → days_of_months year (a - 1) + i ≡ days_of_months year (b - 1) + j → a ≡ b
month-one year a b i j first_a first_b fits_a fits_b same = elim (cases_order a b) [
  | inl equal ↦ equal
  | inr other ↦ elim other [
    | inl less ↦ absurd (month-below year a b i j first_a fits_a same less)
    | inr more ↦ absurd (month-below year b a j i first_b fits_b (sym same) more)
  ]
]

-- a moment from its numbers
pub moment-equal : (a b : Moment) → a.second ≡ b.second → a.minute ≡ b.minute → a.hour ≡ b.hour → a.weekday ≡ b.weekday → a.date ≡ b.date
    → a.month ≡ b.month → a.year ≡ b.year → a ≡ b
moment-equal a b second minute hour weekday date month year =
    λ i. record { second = second i; minute = minute i; hour = hour i; weekday = weekday i; date = date i; month = month i; year = year i }

year-of_moment : (m : Moment) → IsMoment m → day_number m * 4 / 1461 ≡ m.year
unfolding day_number
year-of_moment m v =
    let grouped : days_of_years m.year + days_of_months m.year (m.month - 1) + (m.date - 1)
    ≡ days_of_years m.year + (days_of_months m.year (m.month - 1) + (m.date - 1)) =
    omega arith in
    ap (λ (x : ℕ). x * 4 / 1461) grouped
    ∙ year-of_day m.year (days_of_months m.year (m.month - 1) + (m.date - 1))
    (day_of_year-below m.year m.month m.date v.first_month v.last_month v.first_date v.last_date)

day_of_year-equal : (a b : Moment) → day_number a ≡ day_number b → a.year ≡ b.year
    → days_of_months a.year (a.month - 1) + (a.date - 1) ≡ days_of_months a.year (b.month - 1) + (b.date - 1)
unfolding day_number
day_of_year-equal a b days year =
    let years : days_of_years a.year ≡ days_of_years b.year = ap days_of_years year in
    let months : days_of_months a.year (b.month - 1) ≡ days_of_months b.year (b.month - 1) = ap (λ (y : ℕ). days_of_months y (b.month - 1)) year in
    omega arith

pub clock-equal : (a b : Moment) → IsMoment a → IsMoment b → second_of_day a ≡ second_of_day b
    → (a.second ≡ b.second) × (a.minute ≡ b.minute) × (a.hour ≡ b.hour)
unfolding second_of_day
clock-equal a b v w e = (omega arith, omega arith, omega arith)

-- the second of the day, the day of the century and the day of the week are a moment
pub one_moment : (a b : Moment) → IsMoment a → IsMoment b → second_of_day a ≡ second_of_day b
    → day_number a ≡ day_number b → a.weekday ≡ b.weekday → a ≡ b
one_moment a b v w seconds days weekday =
    let clock = clock-equal a b v w seconds in
    let year : a.year ≡ b.year = sym (year-of_moment a v) ∙ ap (λ (x : ℕ). x * 4 / 1461) days ∙ year-of_moment b w in
    let day : days_of_months a.year (a.month - 1) + (a.date - 1) ≡ days_of_months a.year (b.month - 1) + (b.date - 1) = day_of_year-equal a b days year in
    let length_a : a.date - 1 < month_length a.year a.month = omega (arith, v.last_date, v.first_date) in
    let length_b : b.date - 1 < month_length a.year b.month = rw year (omega (arith, w.last_date, w.first_date)) in
    let month : a.month ≡ b.month = month-one a.year a.month b.month (a.date - 1) (b.date - 1) v.first_month w.first_month length_a length_b day in
    let before : days_of_months a.year (a.month - 1) ≡ days_of_months a.year (b.month - 1) = ap (λ (x : ℕ). days_of_months a.year (x - 1)) month in
    moment-equal a b clock.0 clock.1 clock.2 weekday (omega (arith, v.first_date, w.first_date)) month year

-- the next day is a moment at the same time
pub IsMoment-next_day : (m : Moment) → IsMoment m → IsMoment (next_day m)
unfolding next_day
IsMoment-next_day m v = record {
  second = v.second;
  minute = v.minute;
  hour = v.hour;
  first_weekday = next_in-least 1 7 m.weekday v.first_weekday;
  last_weekday = next_in-most 1 7 m.weekday (omega arith) v.last_weekday;
  first_date = next_in-least 1 (month_length m.year m.month) m.date v.first_date;
  last_date = date_in_month true (eqb m.date (month_length m.year m.month)) (eqb m.month 12) m.date m.year m.month
      (next_in 0 99 m.year) (next_in 1 12 m.month) refl v.last_date;
  first_month = cond_both (eqb m.date (month_length m.year m.month)) (next_in 1 12 m.month) m.month (λ x. 1 ≤ x)
      (λ _. next_in-least 1 12 m.month v.first_month) (λ _. v.first_month);
  last_month = cond_both (eqb m.date (month_length m.year m.month)) (next_in 1 12 m.month) m.month (λ x. x ≤ 12)
      (λ _. next_in-most 1 12 m.month (omega arith) v.last_month) (λ _. v.last_month);
  year = cond_both (eqb m.date (month_length m.year m.month) && eqb m.month 12) (next_in 0 99 m.year) m.year (λ x. x ≤ 99)
      (λ _. next_in-most 0 99 m.year (omega arith) v.year) (λ _. v.year);
}

second_of_day-next_day : (m : Moment) → second_of_day (next_day m) ≡ second_of_day m
unfolding next_day second_of_day
second_of_day-next_day m = refl

weekday-next_day : (m : Moment) → IsMoment m → (next_day m).weekday ≡ m.weekday % 7 + 1
unfolding next_day next_in
weekday-next_day m v = cond_both (eqb m.weekday 7) 1 (m.weekday + 1) (λ x. x ≡ m.weekday % 7 + 1)
    (λ e. omega (arith, eqb-true m.weekday 7 e)) (λ e. other (eqb-false m.weekday 7 e))
  where
    other : (m.weekday ≡ 7 → ⊥) → m.weekday + 1 ≡ m.weekday % 7 + 1
    other h = omega arith

-- 86,400 seconds are a day
pub next_seconds-day : (n : ℕ) (m : Moment) → n ≡ 86400 → IsMoment m → next_seconds n m ≡ next_day m
next_seconds-day n m e v =
    one_moment (next_seconds n m) (next_day m) (IsMoment-next_seconds n m v) (IsMoment-next_day m v)
    (omega (arith, second_of_day-next_seconds n m v, second_of_day-next_day m, second_of_day-below m v))
    (omega (arith, day_number-next_seconds n m v, day_number-next_day m v, second_of_day-below m v))
    (omega (arith, weekday-next_seconds n m v, weekday-next_day m v, second_of_day-below m v))

-- the year of a day of the century, and the days of the year before the day
pub year_of_day-rest : (day : ℕ) → day < 36525
    → (day * 4 / 1461 ≤ 99) × (days_of_years (day * 4 / 1461) ≤ day) × (day - days_of_years (day * 4 / 1461) < days_of_months (day * 4 / 1461) 12)
unfolding days_of_years
year_of_day-rest day h = (
  omega arith,
  omega arith,
  elim (cases_Bool (eqb (day * 4 / 1461 % 4) 0)) [
    | inl leap ↦ omega (arith, eqb-true (day * 4 / 1461 % 4) 0 leap, days_of_months-year (day * 4 / 1461) ∙ ap (λ (b : Bool). cond b 366 365) leap)
    | inr other ↦ short (eqb-false (day * 4 / 1461 % 4) 0 other) (days_of_months-year (day * 4 / 1461) ∙ ap (λ (b : Bool). cond b 366 365) other)
  ],
)
  where
    short : (day * 4 / 1461 % 4 ≡ 0 → ⊥) → days_of_months (day * 4 / 1461) 12 ≡ 365
        → day - (day * 4 / 1461 * 365 + (day * 4 / 1461 + 3) / 4) < days_of_months (day * 4 / 1461) 12
    short not_leap length = omega arith

-- from the second of a day to the clock and back
pub second_of_day-at : (second weekday date month year : ℕ) → second < 86400
    → second_of_day (record {
      second = second % 60;
      minute = second / 60 % 60;
      hour = second / 3600;
      weekday = weekday;
      date = date;
      month = month;
      year = year;
    }) ≡ second
unfolding second_of_day
second_of_day-at second weekday date month year h = omega arith

-- from the day of the century to the date and back
pub day_number-at : (second minute hour weekday date month year day : ℕ) → days_of_years year ≤ day
    → days_of_months year (month - 1) + (date - 1) ≡ day - days_of_years year
    → day_number (record { second = second; minute = minute; hour = hour; weekday = weekday; date = date; month = month; year = year }) ≡ day
unfolding day_number
day_number-at second minute hour weekday date month year day before rest = omega arith

-- a moment is the one n seconds later where its second of the day, its day and its day of the week are
pub next_seconds-at : (m found : Moment) (n days : ℕ) → IsMoment m → IsMoment found → days ≡ n / 86400 + (second_of_day m + n % 86400) / 86400
    → second_of_day found ≡ (second_of_day m + n % 86400) % 86400 → day_number found ≡ (day_number m + days) % 36525
    → found.weekday ≡ (m.weekday - 1 + days) % 7 + 1
    → found ≡ next_seconds n m
next_seconds-at m found n days v valid e second day weekday =
    one_moment found (next_seconds n m) valid (IsMoment-next_seconds n m v)
    (omega (arith, second_of_day-next_seconds n m v))
    (omega (arith, day_number-next_seconds n m v))
    (omega (arith, weekday-next_seconds n m v))
