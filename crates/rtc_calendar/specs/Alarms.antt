-- The alarm, and the updates that it matches (MC146818 data sheet, "Alarm").
use Rattle.std.specs.Prelude.{ℕ, zero, suc, Bool, ◌&&◌, ◌||◌, ◌==◌, ◌≤◌, nat_le, if◌then◌else◌}
use Rattle.rtc_calendar.specs.declared.Alarm.{Alarm}
use Rattle.rtc_calendar.specs.declared.Form.{Form}
use Rattle.rtc_calendar.specs.declared.TimeBytes.{TimeBytes}
use Rattle.rtc_calendar.specs.Updates.{updated, updated_times}

-- an alarm byte of C0h to FFh, both top bits set, matches anything, and another an equal time byte
unfoldable pub fits_byte : ℕ → ℕ → Bool
fits_byte alarm byte = nat_le 192 alarm || alarm == byte

-- all three alarm bytes match
unfoldable pub is_match : Alarm → TimeBytes → Bool
is_match alarm bytes =
    fits_byte alarm.sec bytes.sec
    && fits_byte alarm.min bytes.min
    && fits_byte alarm.hour bytes.hour

-- no alarm byte asks for a value: each is of C0h to FFh
pub record IsDontCare (alarm : Alarm) : Type 0 where
  pub sec : 192 ≤ alarm.sec
  pub min : 192 ≤ alarm.min
  pub hour : 192 ≤ alarm.hour

-- the alarm matches the bytes of the next update
unfoldable pub alarm_next : Form → Alarm → TimeBytes → Bool
alarm_next form alarm bytes = is_match alarm (updated form bytes)

-- how many of the first n updates the alarm matches
abbrev pub matches_in : Form → Alarm → TimeBytes → ℕ → ℕ
matches_in form alarm bytes zero = 0
matches_in form alarm bytes (suc n) =
    if alarm_next form alarm (updated_times form n bytes)
    then suc (matches_in form alarm bytes n)
    else matches_in form alarm bytes n
