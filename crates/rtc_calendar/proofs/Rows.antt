-- Small rows that pin the definitions.
use Rattle.std.proofs.Common.{◌≡◌, ℕ, Bool, true, false, [], ◌∷◌, refl}
use Rattle.rtc_calendar.specs.Bytes.{spelt, has_digits, is_spelt, number_in, spelling, is_hour, hour_meant}
use Rattle.rtc_calendar.specs.Bytes.{hour_in, hour_of_twelve, hour_spelling}
use Rattle.rtc_calendar.specs.Calendar.{month_length, ends_minute, ends_hour, ends_day, ends_month}
use Rattle.rtc_calendar.specs.Calendar.{ends_year, next_in, next_second, next_day}
use Rattle.rtc_calendar.specs.Updates.{month_in, year_in, last_date_in, moment_of, bytes_of, updated}
use Rattle.rtc_calendar.specs.private.Days.{days_of_years, days_of_months, day_number}
use Rattle.rtc_calendar.specs.Alarms.{fits_byte, is_match}

-- the number of a byte, in BCD and in binary; of an invalid byte it is the least one
numbers : number_in false 0 59 0x59 ∷ number_in false 0 59 0x5a ∷ number_in true 0 59 60 ∷ number_in true 1 31 0 ∷ [] ≡ 59 ∷ 0 ∷ 0 ∷ 1 ∷ []
unfolding number_in is_spelt has_digits spelt
numbers = refl

-- 12 am is hour 0 and 12 pm hour 12; 13 of twelve hours and 24 of 24 are invalid
hours : hour_in (record { binary = false; hours24 = false }) 0x12
    ∷ hour_in (record { binary = false; hours24 = false }) 0x92
    ∷ hour_in (record { binary = true; hours24 = false }) 0x8d
    ∷ hour_in (record { binary = false; hours24 = true }) 0x24 ∷ []
    ≡ 0 ∷ 12 ∷ 0 ∷ 0 ∷ []
unfolding hour_in is_hour hour_meant is_spelt has_digits spelt
hours = refl

eleven_pm_is_hour_23 : hour_spelling (record { binary = false; hours24 = false }) 23 ≡ 0x91
unfolding hour_spelling hour_of_twelve spelling
eleven_pm_is_hour_23 = refl

-- February of years 00 and 99, April and December
month_lengths : month_length 0 2 ∷ month_length 99 2 ∷ month_length 1 4 ∷ month_length 1 12 ∷ [] ≡ 29 ∷ 28 ∷ 30 ∷ 31 ∷ []
unfolding month_length
month_lengths = refl

-- a new century, and a date past its month
updates : updated (record { binary = false; hours24 = false })
    (record { sec = 0x59; min = 0x59; hour = 0x91; wday = 7; date = 0x31; month = 0x12; year = 0x99 })
    ∷ updated (record { binary = true; hours24 = true }) (record { sec = 0; min = 0; hour = 0; wday = 3; date = 29; month = 2; year = 99 }) ∷ []
    ≡ record { sec = 0; min = 0; hour = 0x12; wday = 1; date = 1; month = 1; year = 0 }
    ∷ record { sec = 1; min = 0; hour = 0; wday = 3; date = 1; month = 2; year = 99 } ∷ []
unfolding updated bytes_of moment_of last_date_in month_in year_in number_in is_spelt has_digits spelt hour_in is_hour hour_meant
    hour_spelling hour_of_twelve spelling next_second ends_year ends_month ends_day ends_hour ends_minute next_in month_length
updates = refl

-- an alarm at 6:00:00 needs its second, its minute and its hour
abbrev at_six : ℕ → ℕ → ℕ → Bool
at_six sec min hour = is_match (record { sec = sec; min = min; hour = hour })
    (record { sec = 0; min = 0; hour = 6; wday = 1; date = 1; month = 1; year = 0 })

alarms : at_six 1 0xff 0xff ∷ at_six 0 1 6 ∷ at_six 0xc0 0xff 5 ∷ [] ≡ false ∷ false ∷ false ∷ []
unfolding is_match fits_byte
alarms = refl

-- an alarm byte from c0 on matches anything
any_from_c0 : fits_byte 0xbf 0 ∷ fits_byte 0xc0 0x59 ∷ [] ≡ false ∷ true ∷ []
unfolding fits_byte
any_from_c0 = refl

-- a leap day and the last day of the century
abbrev day : ℕ → ℕ → ℕ → ℕ
day date month year = day_number (record { second = 0; minute = 0; hour = 0; weekday = 1; date = date; month = month; year = year })

day_numbers : day 29 2 0 ∷ day 31 12 99 ∷ [] ≡ 59 ∷ 36524 ∷ []
unfolding day_number days_of_years days_of_months month_length
day_numbers = refl

saturday_is_followed_by_sunday :
    (next_day (record { second = 0; minute = 0; hour = 0; weekday = 7; date = 31; month = 12; year = 99 }))
    ≡ record { second = 0; minute = 0; hour = 0; weekday = 1; date = 1; month = 1; year = 0 }
unfolding next_day next_in month_length
saturday_is_followed_by_sunday = refl
