-- Lemmas on updates.
use Rattle.std.proofs.Common.{◌≡◌, ℕ, zero, suc, ◌+◌, ◌-◌, ◌<◌, ◌≤◌, true, cond, ◌&&◌, ◌||◌}
use Rattle.std.proofs.Common.{eqb, leb, Option, Some, refl, sym, ap, subst, ◌∙◌, arith}
use Rattle.clk_units.specs.Events.{CountsUp, IsFirst}
use Rattle.clk_units.proofs.Events.{CountsUp-by_test, IsFirst-one}
use Rattle.std.proofs.lemmas.Bool.{le-leb, or_left, and_from}
use Rattle.rtc_calendar.specs.declared.Alarm.{Alarm}
use Rattle.rtc_calendar.specs.declared.Form.{Form}
use Rattle.rtc_calendar.specs.declared.TimeBytes.{TimeBytes}
use Rattle.rtc_calendar.specs.declared.calendar.Moment.{Moment}
use Rattle.rtc_calendar.specs.Bytes.{number_in, spelling, is_spelt, hour_in, hour_spelling}
use Rattle.rtc_calendar.specs.Calendar.{IsMoment, month_length, next_second, next_seconds, next_day}
use Rattle.rtc_calendar.specs.Updates.{moment_of, bytes_of, updated, updated_times, month_in, year_in}
use Rattle.rtc_calendar.specs.Updates.{last_date_in, IsValid, IsDayLater}
use Rattle.rtc_calendar.specs.Alarms.{fits_byte, is_match, IsDontCare, alarm_next, matches_in}
use Rattle.rtc_calendar.proofs.Spellings.{number_in-least, number_in-most, hour_in-most, number_in-spelling}
use Rattle.rtc_calendar.proofs.Spellings.{hour_in-hour_spelling, is_spelt-spelling, is_hour-hour_spelling}
use Rattle.rtc_calendar.proofs.Spellings.{spelling-number_in, hour_spelling-hour_in}
use Rattle.rtc_calendar.proofs.Moments.{month_length-least, month_length-most}
use Rattle.rtc_calendar.proofs.Days.{moment-equal, IsMoment-next_seconds, IsMoment-next_day, next_seconds-day}

-- whatever the bytes, what is read is a moment
pub IsMoment-moment_of : (form : Form) (bytes : TimeBytes) → IsMoment (moment_of form bytes)
unfolding moment_of month_in year_in last_date_in
IsMoment-moment_of form bytes = record {
  second = number_in-most form.binary 0 59 bytes.sec (omega arith);
  minute = number_in-most form.binary 0 59 bytes.min (omega arith);
  hour = hour_in-most form bytes.hour;
  first_weekday = number_in-least form.binary 1 7 bytes.wday;
  last_weekday = number_in-most form.binary 1 7 bytes.wday (omega arith);
  first_date = number_in-least form.binary 1 (month_length (number_in form.binary 0 99 bytes.year) (number_in form.binary 1 12 bytes.month)) bytes.date;
  last_date = number_in-most form.binary 1 (month_length (number_in form.binary 0 99 bytes.year) (number_in form.binary 1 12 bytes.month)) bytes.date
      (omega (arith, month_length-least (number_in form.binary 0 99 bytes.year) (number_in form.binary 1 12 bytes.month)));
  first_month = number_in-least form.binary 1 12 bytes.month;
  last_month = number_in-most form.binary 1 12 bytes.month (omega arith);
  year = number_in-most form.binary 0 99 bytes.year (omega arith);
}

pub matches_in-suc : (form : Form) (alarm : Alarm) (bytes : TimeBytes) (n : ℕ)
    → matches_in form alarm bytes (suc n) ≡ cond (alarm_next form alarm (updated_times form n bytes)) (suc (matches_in form alarm bytes n))
    (matches_in form alarm bytes n)
matches_in-suc form alarm bytes n = refl

-- an update is matched once at most
pub CountsUp-matches_in : (form : Form) (alarm : Alarm) (bytes : TimeBytes) → CountsUp (matches_in form alarm bytes)
CountsUp-matches_in form alarm bytes =
    CountsUp-by_test (matches_in form alarm bytes) (λ n. alarm_next form alarm (updated_times form n bytes)) refl (matches_in-suc form alarm bytes)

-- one update more, by whether the alarm matches its bytes
pub matches_in-more : (form : Form) (alarm : Alarm) (bytes current : TimeBytes) (n : ℕ) → current ≡ updated_times form n bytes
    → matches_in form alarm bytes (n + 1) ≡ cond (is_match alarm (updated form current))
    (suc (matches_in form alarm bytes n)) (matches_in form alarm bytes n)
unfolding alarm_next
matches_in-more form alarm bytes current n e =
    let next : n + 1 ≡ suc n = omega arith in
    rw (next) (ap (λ (b : TimeBytes). cond (is_match alarm (updated form b)) (suc (matches_in form alarm bytes n)) (matches_in form alarm bytes n)) (sym e))

-- where none came before, an update that matches is the first of any number that reaches it
pub IsFirst-matches_in : (form : Form) (alarm : Alarm) (bytes current : TimeBytes) (n all : ℕ) → current ≡ updated_times form n bytes
    → matches_in form alarm bytes n ≡ 0 → is_match alarm (updated form current) ≡ true
    → n + 1 ≤ all → IsFirst (matches_in form alarm bytes) all (Some (n + 1))
IsFirst-matches_in form alarm bytes current n all e none here reached =
    let before : n + 1 - 1 ≡ n = omega arith in
    let more : matches_in form alarm bytes (n + 1) ≡ suc (matches_in form alarm bytes n) = rw here at (matches_in-more form alarm bytes current n e) in
    (omega arith, reached, ap (matches_in form alarm bytes) before ∙ none, omega arith)

-- an alarm that asks for no value matches all bytes
pub is_match-any : (alarm : Alarm) (bytes : TimeBytes) → IsDontCare alarm → is_match alarm bytes ≡ true
unfolding is_match fits_byte
is_match-any alarm bytes any =
    let sec : leb 192 alarm.sec ≡ true = le-leb 192 alarm.sec any.sec in
    let min : leb 192 alarm.min ≡ true = le-leb 192 alarm.min any.min in
    let hour : leb 192 alarm.hour ≡ true = le-leb 192 alarm.hour any.hour in
    and_from ((leb 192 alarm.sec || eqb alarm.sec bytes.sec) && (leb 192 alarm.min || eqb alarm.min bytes.min))
    (leb 192 alarm.hour || eqb alarm.hour bytes.hour)
    (and_from (leb 192 alarm.sec || eqb alarm.sec bytes.sec) (leb 192 alarm.min || eqb alarm.min bytes.min)
    (or_left (leb 192 alarm.sec) (eqb alarm.sec bytes.sec) sec)
    (or_left (leb 192 alarm.min) (eqb alarm.min bytes.min) min))
    (or_left (leb 192 alarm.hour) (eqb alarm.hour bytes.hour) hour)

-- so its first match is the first update
pub IsFirst-any : (form : Form) (alarm : Alarm) (bytes : TimeBytes) (n : ℕ) (first : Option ℕ) → IsDontCare alarm → 0 < n
    → IsFirst (matches_in form alarm bytes) n first → first ≡ Some 1
IsFirst-any form alarm bytes n first any some h =
    IsFirst-one (matches_in form alarm bytes) (CountsUp-matches_in form alarm bytes) n first (Some 1) h
    (IsFirst-matches_in form alarm bytes bytes 0 n refl refl (is_match-any alarm (updated form bytes) any) (omega arith))

-- a moment that was written reads back
pub moment_of-bytes_of : (form : Form) (m : Moment) → IsMoment m → moment_of form (bytes_of form m) ≡ m
unfolding moment_of bytes_of last_date_in month_in year_in
moment_of-bytes_of form m v =
    let month : number_in form.binary 1 12 (spelling form.binary m.month) ≡ m.month =
    number_in-spelling form.binary 1 12 m.month v.first_month v.last_month (omega arith) in
    let year : number_in form.binary 0 99 (spelling form.binary m.year) ≡ m.year =
    number_in-spelling form.binary 0 99 m.year (omega arith) v.year (omega arith) in
    let date : number_in form.binary 1
    (month_length (number_in form.binary 0 99 (spelling form.binary m.year)) (number_in form.binary 1 12 (spelling form.binary m.month)))
    (spelling form.binary m.date) ≡ m.date =
    ap (λ (y : ℕ). number_in form.binary 1 (month_length y (number_in form.binary 1 12 (spelling form.binary m.month))) (spelling form.binary m.date)) year
    ∙ ap (λ (x : ℕ). number_in form.binary 1 (month_length m.year x) (spelling form.binary m.date)) month
    ∙ number_in-spelling form.binary 1 (month_length m.year m.month) m.date v.first_date v.last_date (omega (arith, month_length-most m.year m.month)) in
    moment-equal
    (record {
      second = number_in form.binary 0 59 (spelling form.binary m.second);
      minute = number_in form.binary 0 59 (spelling form.binary m.minute);
      hour = hour_in form (hour_spelling form m.hour);
      weekday = number_in form.binary 1 7 (spelling form.binary m.weekday);
      date = number_in form.binary 1
          (month_length (number_in form.binary 0 99 (spelling form.binary m.year)) (number_in form.binary 1 12 (spelling form.binary m.month)))
          (spelling form.binary m.date);
      month = number_in form.binary 1 12 (spelling form.binary m.month);
      year = number_in form.binary 0 99 (spelling form.binary m.year);
    })
    m
    (number_in-spelling form.binary 0 59 m.second (omega arith) v.second (omega arith))
    (number_in-spelling form.binary 0 59 m.minute (omega arith) v.minute (omega arith))
    (hour_in-hour_spelling form m.hour v.hour)
    (number_in-spelling form.binary 1 7 m.weekday v.first_weekday v.last_weekday (omega arith))
    date month year

-- the last date of a moment's bytes is its month's
last_date_in-bytes_of : (form : Form) (m : Moment) → IsMoment m → last_date_in form (bytes_of form m) ≡ month_length m.year m.month
unfolding bytes_of last_date_in month_in year_in
last_date_in-bytes_of form m v =
    let month : number_in form.binary 1 12 (spelling form.binary m.month) ≡ m.month =
    number_in-spelling form.binary 1 12 m.month v.first_month v.last_month (omega arith) in
    let year : number_in form.binary 0 99 (spelling form.binary m.year) ≡ m.year =
    number_in-spelling form.binary 0 99 m.year (omega arith) v.year (omega arith) in
    ap (λ (y : ℕ). month_length y (number_in form.binary 1 12 (spelling form.binary m.month))) year ∙ ap (month_length m.year) month

-- and its bytes are valid
IsValid-parts : (form : Form) (m : Moment) → IsMoment m
    → is_spelt form.binary 1 (last_date_in form (bytes_of form m)) (spelling form.binary m.date) ≡ true → IsValid form (bytes_of form m)
unfolding bytes_of
IsValid-parts form m v date = record {
  sec = is_spelt-spelling form.binary 0 59 m.second (omega arith) v.second (omega arith);
  min = is_spelt-spelling form.binary 0 59 m.minute (omega arith) v.minute (omega arith);
  hour = is_hour-hour_spelling form m.hour v.hour;
  wday = is_spelt-spelling form.binary 1 7 m.weekday v.first_weekday v.last_weekday (omega arith);
  date = date;
  month = is_spelt-spelling form.binary 1 12 m.month v.first_month v.last_month (omega arith);
  year = is_spelt-spelling form.binary 0 99 m.year (omega arith) v.year (omega arith);
}

pub IsValid-bytes_of : (form : Form) (m : Moment) → IsMoment m → IsValid form (bytes_of form m)
IsValid-bytes_of form m v =
    IsValid-parts form m v (ap (λ (x : ℕ). is_spelt form.binary 1 x (spelling form.binary m.date)) (last_date_in-bytes_of form m v)
    ∙ is_spelt-spelling form.binary 1 (month_length m.year m.month) m.date v.first_date v.last_date (omega (arith, month_length-most m.year m.month)))

-- updates add seconds to what was read first
pub updated_times-bytes_of : (form : Form) (n : ℕ) (bytes : TimeBytes)
    → updated_times form (suc n) bytes ≡ bytes_of form (next_seconds (suc n) (moment_of form bytes))
unfolding updated
updated_times-bytes_of form zero bytes = refl
updated_times-bytes_of form (suc n) bytes =
    ap (updated form) (updated_times-bytes_of form n bytes)
    ∙ ap (λ (m : Moment). bytes_of form (next_second m))
    (moment_of-bytes_of form (next_seconds (suc n) (moment_of form bytes))
    (IsMoment-next_seconds (suc n) (moment_of form bytes) (IsMoment-moment_of form bytes)))

pub updated_times-some : (form : Form) (n : ℕ) (bytes : TimeBytes) → 0 < n
    → updated_times form n bytes ≡ bytes_of form (next_seconds n (moment_of form bytes))
updated_times-some form zero bytes h = absurd (omega arith)
updated_times-some form (suc n) bytes h = updated_times-bytes_of form n bytes

-- after an update the bytes are valid
pub IsValid-updated_times : (form : Form) (n : ℕ) (bytes : TimeBytes) → 0 < n → IsValid form (updated_times form n bytes)
IsValid-updated_times form n bytes h =
    subst (λ (b : TimeBytes). IsValid form b) (sym (updated_times-some form n bytes h))
    (IsValid-bytes_of form (next_seconds n (moment_of form bytes)) (IsMoment-next_seconds n (moment_of form bytes) (IsMoment-moment_of form bytes)))

-- so valid bytes stay valid
pub IsValid-kept : (form : Form) (n : ℕ) (bytes : TimeBytes) → IsValid form bytes → IsValid form (updated_times form n bytes)
IsValid-kept form zero bytes valid = valid
IsValid-kept form (suc n) bytes valid = IsValid-updated_times form (suc n) bytes (omega arith)

-- the time bytes of a moment at the same time of day as valid bytes are theirs
time-bytes_of : (form : Form) (bytes : TimeBytes) (m : Moment) → IsValid form bytes → bytes.hour < 256 → m.second ≡ (moment_of form bytes).second
    → m.minute ≡ (moment_of form bytes).minute → m.hour ≡ (moment_of form bytes).hour
    → ((bytes_of form m).sec ≡ bytes.sec) × ((bytes_of form m).min ≡ bytes.min) × ((bytes_of form m).hour ≡ bytes.hour)
unfolding bytes_of moment_of
time-bytes_of form bytes m valid small second minute hour = (
  ap (spelling form.binary) second ∙ spelling-number_in form.binary 0 59 bytes.sec valid.sec,
  ap (spelling form.binary) minute ∙ spelling-number_in form.binary 0 59 bytes.min valid.min,
  ap (hour_spelling form) hour ∙ hour_spelling-hour_in form bytes.hour small valid.hour,
)

same_time-next_day : (m : Moment) → ((next_day m).second ≡ m.second) × ((next_day m).minute ≡ m.minute) × ((next_day m).hour ≡ m.hour)
unfolding next_day
same_time-next_day m = (refl, refl, refl)

-- a day of updates keeps the time, and moves the date on by a day
pub IsDayLater-updated_times : (form : Form) (n : ℕ) (bytes : TimeBytes) → n ≡ 86400 → bytes.hour < 256 → IsValid form bytes
    → IsDayLater form bytes (updated_times form n bytes)
IsDayLater-updated_times form n bytes day small valid =
    let moment : IsMoment (moment_of form bytes) = IsMoment-moment_of form bytes in
    let same = same_time-next_day (moment_of form bytes) in
    let time = time-bytes_of form bytes (next_day (moment_of form bytes)) valid small same.0 same.1 same.2 in
    let later : updated_times form n bytes ≡ bytes_of form (next_day (moment_of form bytes)) =
    updated_times-some form n bytes (omega arith) ∙ ap (bytes_of form) (next_seconds-day n (moment_of form bytes) day moment) in
    subst (λ (b : TimeBytes). IsDayLater form bytes b) (sym later) (record {
      sec = time.0;
      min = time.1;
      hour = time.2;
      day = moment_of-bytes_of form (next_day (moment_of form bytes)) (IsMoment-next_day (moment_of form bytes) moment);
    })
