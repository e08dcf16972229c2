-- The time bytes of a setup (MC146818 data sheet, "Time, calendar, and alarm locations").
use Rattle.std.specs.Prelude.{ℕ, true, false, nat_lt, if◌then◌else◌}
use Rattle.rtc_calendar.specs.declared.Form.{Form}
use Rattle.rtc_calendar.specs.declared.TimeBytes.{TimeBytes}
use Rattle.rtc_calendar.specs.Updates.{updated_times}
use Rattle.clockboard_c.specs.declared.calendar.TheConstants.{MARCH_2100}
use Rattle.clockboard_c.specs.declared.code.TheConstants.{OK, OUT_OF_RANGE}
use Rattle.clockboard_c.specs.declared.power_on.SetupWords.{SetupWords}

-- how the bytes spell numbers at power on: in BCD, hours of 24 (own)
abbrev pub form_at_power_on : Form
form_at_power_on = record { binary = false; hours24 = true }

-- midnight of 1 January 1970, a Thursday
abbrev pub epoch : TimeBytes
epoch = record {
  sec = 0;
  min = 0;
  hour = 0;
  wday = 5;
  date = 1;
  month = 1;
  year = 0x70;
}

-- a setup with these time bytes
abbrev pub with_time : TimeBytes → SetupWords → SetupWords
with_time t s = record s {
  sec = t.sec;
  min = t.min;
  hour = t.hour;
  wday = t.wday;
  date = t.date;
  month = t.month;
  year = t.year;
}

-- a setup with the time so many updates after that midnight, one a second; up to March 2100, whose
-- February has a leap day by the clock alone
abbrev pub setup_at_code : ℕ → ℕ
setup_at_code seconds = if nat_lt seconds MARCH_2100 then OK else OUT_OF_RANGE

abbrev pub setup_at : ℕ → SetupWords → SetupWords
setup_at seconds s =
    if nat_lt seconds MARCH_2100 then
    with_time (updated_times form_at_power_on seconds epoch) s
    else s
