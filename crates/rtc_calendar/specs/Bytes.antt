-- What a time byte stands for in the form of register B, and the byte that stands for a number
-- (MC146818 data sheet, "Time, calendar, and alarm locations").
use Rattle.std.specs.Prelude.{ℕ, ◌+◌, ◌*◌, ◌/◌, ◌%◌, Bool, ◌&&◌, ◌||◌, ◌==◌, nat_le, if◌then◌else◌}
use Rattle.rtc_calendar.specs.declared.Form.{Form}

-- the number that a byte spells: itself in binary, and else a decimal digit in each half
unfoldable pub spelt : Bool → ℕ → ℕ
spelt binary byte = if binary then byte else byte / 16 * 10 + byte % 16

-- both halves of the byte are decimal digits
unfoldable pub has_digits : ℕ → Bool
has_digits byte = nat_le (byte / 16) 9 && nat_le (byte % 16) 9

-- the byte spells a number of low to high; in BCD its digits are at most 9
unfoldable pub is_spelt : Bool → ℕ → ℕ → ℕ → Bool
is_spelt binary low high byte =
    let number = spelt binary byte in
    (binary || has_digits byte) && nat_le low number && nat_le number high

-- the number read from a byte of the range low to high; an invalid byte counts as low (own)
unfoldable pub number_in : Bool → ℕ → ℕ → ℕ → ℕ
number_in binary low high byte = if is_spelt binary low high byte then spelt binary byte else low

-- the byte that spells a number below 100
unfoldable pub spelling : Bool → ℕ → ℕ
spelling binary number = if binary then number else number / 10 * 16 + number % 10

-- the byte is an hour: 0 to 23, or in 12-hour form 1 to 12 with bit 7 for PM
unfoldable pub is_hour : Form → ℕ → Bool
is_hour form byte =
    if form.hours24 then is_spelt form.binary 0 23 byte
    else is_spelt form.binary 1 12 (byte % 128)

-- the hour of the day that a byte stands for; in 12-hour form hour 12 opens its half of the day
unfoldable pub hour_meant : Form → ℕ → ℕ
hour_meant form byte =
    if form.hours24 then spelt form.binary byte
    else spelt form.binary (byte % 128) % 12 + (if nat_le 128 byte then 12 else 0)

-- the hour of the day, 0 to 23, read from its byte; an invalid byte counts as hour 0 (own)
unfoldable pub hour_in : Form → ℕ → ℕ
hour_in form byte = if is_hour form byte then hour_meant form byte else 0

-- the hour as a clock of twelve hours shows it, 1 to 12
unfoldable pub hour_of_twelve : ℕ → ℕ
hour_of_twelve hour = if hour % 12 == 0 then 12 else hour % 12

-- the byte of an hour of the day
unfoldable pub hour_spelling : Form → ℕ → ℕ
hour_spelling form hour =
    if form.hours24 then spelling form.binary hour
    else spelling form.binary (hour_of_twelve hour) + (if nat_le 12 hour then 128 else 0)
