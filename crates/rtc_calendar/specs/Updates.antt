-- One update of the seven time bytes, and n of them (MC146818 data sheet, "Update cycle").
use Rattle.std.specs.Prelude.{◌≡◌, ℕ, zero, suc, IsTrue}
use Rattle.rtc_calendar.specs.declared.Form.{Form}
use Rattle.rtc_calendar.specs.declared.TimeBytes.{TimeBytes}
use Rattle.rtc_calendar.specs.declared.calendar.Moment.{Moment}
use Rattle.rtc_calendar.specs.Bytes.{number_in, is_spelt, spelling, hour_in, is_hour, hour_spelling}
use Rattle.rtc_calendar.specs.Calendar.{month_length, next_second, next_day}

-- the month that the bytes are read as
unfoldable pub month_in : Form → TimeBytes → ℕ
month_in form bytes = number_in form.binary 1 12 bytes.month

-- the year of the century that the bytes are read as
unfoldable pub year_in : Form → TimeBytes → ℕ
year_in form bytes = number_in form.binary 0 99 bytes.year

-- how many days the month that the bytes stand for has
unfoldable pub last_date_in : Form → TimeBytes → ℕ
last_date_in form bytes = month_length (year_in form bytes) (month_in form bytes)

-- the moment that the seven bytes stand for; a date above the month's length is invalid
unfoldable pub moment_of : Form → TimeBytes → Moment
moment_of form bytes = record {
  second = number_in form.binary 0 59 bytes.sec;
  minute = number_in form.binary 0 59 bytes.min;
  hour = hour_in form bytes.hour;
  weekday = number_in form.binary 1 7 bytes.wday;
  date = number_in form.binary 1 (last_date_in form bytes) bytes.date;
  month = month_in form bytes;
  year = year_in form bytes;
}

-- the seven bytes of a moment
unfoldable pub bytes_of : Form → Moment → TimeBytes
bytes_of form m = record {
  sec = spelling form.binary m.second;
  min = spelling form.binary m.minute;
  hour = hour_spelling form m.hour;
  wday = spelling form.binary m.weekday;
  date = spelling form.binary m.date;
  month = spelling form.binary m.month;
  year = spelling form.binary m.year;
}

-- the bytes after one update
unfoldable pub updated : Form → TimeBytes → TimeBytes
updated form bytes = bytes_of form (next_second (moment_of form bytes))

-- the bytes after n updates
abbrev pub updated_times : Form → ℕ → TimeBytes → TimeBytes
updated_times form zero bytes = bytes
updated_times form (suc n) bytes = updated form (updated_times form n bytes)

-- each byte is valid in the form, the date at most the month's length
pub record IsValid (form : Form) (bytes : TimeBytes) : Type 0 where
  pub sec : IsTrue (is_spelt form.binary 0 59 bytes.sec)
  pub min : IsTrue (is_spelt form.binary 0 59 bytes.min)
  pub hour : IsTrue (is_hour form bytes.hour)
  pub wday : IsTrue (is_spelt form.binary 1 7 bytes.wday)
  pub date : IsTrue (is_spelt form.binary 1 (last_date_in form bytes) bytes.date)
  pub month : IsTrue (is_spelt form.binary 1 12 bytes.month)
  pub year : IsTrue (is_spelt form.binary 0 99 bytes.year)

-- the bytes of the next day: the same time, and the date and day of the week that follow
pub record IsDayLater (form : Form) (old new : TimeBytes) : Type 0 where
  pub sec : new.sec ≡ old.sec
  pub min : new.min ≡ old.min
  pub hour : new.hour ≡ old.hour
  pub day : moment_of form new ≡ next_day (moment_of form old)
