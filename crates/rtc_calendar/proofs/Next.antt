-- Lemmas on the times that an alarm asks for, and on the next of them.
use Rattle.std.proofs.Common.{◌≡◌, ℕ, zero, suc, ◌+◌, ◌-◌, ◌/◌, ◌%◌, ◌<◌, ◌≤◌, Bool, true, false, ◌&&◌, eqb}
use Rattle.std.proofs.Common.{Some, None, inl, inr, refl, sym, ap, ◌∙◌, arith}
use Rattle.std.proofs.lemmas.Bool.{cases_eq, eq-eqb, ne_eqb, le-leb, lt-leb, both_ways}
use Rattle.clk_units.specs.Events.{IsFirst}
use Rattle.rtc_calendar.specs.declared.Alarm.{Alarm}
use Rattle.rtc_calendar.specs.declared.Form.{Form}
use Rattle.rtc_calendar.specs.declared.TimeBytes.{TimeBytes}
use Rattle.rtc_calendar.specs.declared.calendar.Moment.{Moment}
use Rattle.rtc_calendar.specs.declared.wanted.WantedTime.{WantedTime}
use Rattle.rtc_calendar.specs.Bytes.{is_spelt, number_in, spelling, is_hour, hour_in, hour_spelling}
use Rattle.rtc_calendar.specs.Calendar.{IsMoment, next_seconds}
use Rattle.rtc_calendar.specs.Updates.{moment_of, bytes_of, updated, updated_times}
use Rattle.rtc_calendar.specs.Alarms.{fits_byte, is_match, alarm_next, matches_in}
use Rattle.rtc_calendar.specs.private.Days.{second_of_day}
use Rattle.rtc_calendar.specs.private.Wanted.{is_wanted, is_wanted_second, IsNext}
use Rattle.rtc_calendar.proofs.Spellings.{number_in-spelling, is_spelt-spelling, spelling-number_in}
use Rattle.rtc_calendar.proofs.Spellings.{hour_in-hour_spelling, is_hour-hour_spelling}
use Rattle.rtc_calendar.proofs.Spellings.{hour_spelling-hour_in}
use Rattle.rtc_calendar.proofs.Days.{IsMoment-next_seconds, second_of_day-next_seconds}
use Rattle.rtc_calendar.proofs.Times.{IsMoment-moment_of, updated_times-some}

-- an alarm byte with both top bits set matches any byte
pub fits_byte-any : (alarm byte : ℕ) → 192 ≤ alarm → true ≡ fits_byte alarm byte
unfolding fits_byte
fits_byte-any alarm byte any = rw (le-leb 192 alarm any) refl

fits_byte-equal : (alarm byte : ℕ) → alarm < 192 → fits_byte alarm byte ≡ eqb alarm byte
unfolding fits_byte
fits_byte-equal alarm byte less = rw (lt-leb 192 alarm less) refl

eqb-alike : (a b c d : ℕ) → (a ≡ b → c ≡ d) → (c ≡ d → a ≡ b) → eqb a b ≡ eqb c d
eqb-alike a b c d there back = elim (cases_eq a b) [
  | inl same ↦ eq-eqb a b same ∙ sym (eq-eqb c d (there same))
  | inr other ↦ ne_eqb a b other ∙ sym (ne_eqb c d (λ e. other (back e)))
]

-- another that is valid asks for the number that it spells ..
pub fits_byte-number : (binary : Bool) (alarm number : ℕ) → alarm < 192 → is_spelt binary 0 59 alarm ≡ true → number ≤ 59
    → eqb number (number_in binary 0 59 alarm) ≡ fits_byte alarm (spelling binary number)
fits_byte-number binary alarm number less valid most =
    eqb-alike number (number_in binary 0 59 alarm) alarm (spelling binary number)
    (λ e. sym (ap (spelling binary) e ∙ spelling-number_in binary 0 59 alarm valid))
    (λ e. sym (ap (number_in binary 0 59) e ∙ number_in-spelling binary 0 59 number (omega arith) most (omega arith)))
    ∙ sym (fits_byte-equal alarm (spelling binary number) less)

pub fits_byte-hour : (form : Form) (alarm hour : ℕ) → alarm < 192 → is_hour form alarm ≡ true → hour ≤ 23
    → eqb hour (hour_in form alarm) ≡ fits_byte alarm (hour_spelling form hour)
fits_byte-hour form alarm hour less valid most =
    eqb-alike hour (hour_in form alarm) alarm (hour_spelling form hour)
    (λ e. sym (ap (hour_spelling form) e ∙ hour_spelling-hour_in form alarm (omega arith) valid))
    (λ e. sym (ap (hour_in form) e ∙ hour_in-hour_spelling form hour most))
    ∙ sym (fits_byte-equal alarm (hour_spelling form hour) less)

-- .. and one that is invalid asks for none
pub fits_byte-no_number : (binary : Bool) (alarm number : ℕ) → alarm < 192 → is_spelt binary 0 59 alarm ≡ false → number ≤ 59
    → false ≡ fits_byte alarm (spelling binary number)
fits_byte-no_number binary alarm number less invalid most =
    sym (fits_byte-equal alarm (spelling binary number) less ∙ ne_eqb alarm (spelling binary number)
    (λ e. both_ways (is_spelt binary 0 59 alarm) invalid (ap (is_spelt binary 0 59) e
    ∙ is_spelt-spelling binary 0 59 number (omega arith) most (omega arith))))

pub fits_byte-no_hour : (form : Form) (alarm hour : ℕ) → alarm < 192 → is_hour form alarm ≡ false → hour ≤ 23
    → false ≡ fits_byte alarm (hour_spelling form hour)
fits_byte-no_hour form alarm hour less invalid most =
    sym (fits_byte-equal alarm (hour_spelling form hour) less ∙ ne_eqb alarm (hour_spelling form hour)
    (λ e. both_ways (is_hour form alarm) invalid (ap (is_hour form) e ∙ is_hour-hour_spelling form hour most)))

-- the clock of a second of the day
pub clock-of_day : (m : Moment) (y : ℕ) → IsMoment m → second_of_day m ≡ y % 86400
    → (m.second ≡ y % 60) × (m.minute ≡ y / 60 % 60) × (m.hour ≡ y / 60 / 60 % 24)
unfolding second_of_day
clock-of_day m y v e = (omega arith, omega arith, omega arith)

and-assoc : (a b c : Bool) → (a && b && c) ≡ (a && (b && c))
and-assoc true b c = refl
and-assoc false b c = refl

-- what an alarm asks for, number by number
pub record AsksFor (form : Form) (alarm : Alarm) (w : WantedTime) : Type 0 where
  pub second : (number : ℕ) → number ≤ 59 → is_wanted w.second number ≡ fits_byte alarm.sec (spelling form.binary number)
  pub minute : (number : ℕ) → number ≤ 59 → is_wanted w.minute number ≡ fits_byte alarm.min (spelling form.binary number)
  pub hour : (hour : ℕ) → hour ≤ 23 → is_wanted w.hour hour ≡ fits_byte alarm.hour (hour_spelling form hour)

is_match-moment : (form : Form) (alarm : Alarm) (w : WantedTime) (m : Moment) (y : ℕ) → AsksFor form alarm w
    → IsMoment m → second_of_day m ≡ y % 86400
    → is_match alarm (bytes_of form m) ≡ is_wanted_second w y
unfolding is_match bytes_of
is_match-moment form alarm w m y asks v e =
    let clock : (m.second ≡ y % 60) × (m.minute ≡ y / 60 % 60) × (m.hour ≡ y / 60 / 60 % 24) = clock-of_day m y v e in
    let second : fits_byte alarm.sec (spelling form.binary m.second) ≡ is_wanted w.second (y % 60) =
    sym (asks.second m.second v.second) ∙ ap (is_wanted w.second) clock.0 in
    let minute : fits_byte alarm.min (spelling form.binary m.minute) ≡ is_wanted w.minute (y / 60 % 60) =
    sym (asks.minute m.minute v.minute) ∙ ap (is_wanted w.minute) clock.1 in
    let hour : fits_byte alarm.hour (hour_spelling form m.hour) ≡ is_wanted w.hour (y / 60 / 60 % 24) =
    sym (asks.hour m.hour v.hour) ∙ ap (is_wanted w.hour) clock.2 in
    rw (second, minute, hour) (and-assoc (is_wanted w.second (y % 60)) (is_wanted w.minute (y / 60 % 60)) (is_wanted w.hour (y / 60 / 60 % 24)))

-- whether the alarm matches after n updates
pub is_match-updated_times : (form : Form) (alarm : Alarm) (w : WantedTime) (bytes : TimeBytes) (n : ℕ) → AsksFor form alarm w → 0 < n
    → is_match alarm (updated_times form n bytes) ≡ is_wanted_second w (second_of_day (moment_of form bytes) + n)
is_match-updated_times form alarm w bytes n asks some =
    ap (is_match alarm) (updated_times-some form n bytes some)
    ∙ is_match-moment form alarm w (next_seconds n (moment_of form bytes)) (second_of_day (moment_of form bytes) + n) asks
    (IsMoment-next_seconds n (moment_of form bytes) (IsMoment-moment_of form bytes))
    (second_of_day-next_seconds n (moment_of form bytes) (IsMoment-moment_of form bytes))

-- where none of n updates is matched the count is 0
matches_in-none : (form : Form) (alarm : Alarm) (bytes : TimeBytes) (n : ℕ)
    → ((i : ℕ) → 0 < i → i ≤ n → is_match alarm (updated_times form i bytes) ≡ false) → matches_in form alarm bytes n ≡ 0
unfolding alarm_next
matches_in-none form alarm bytes zero none = refl
matches_in-none form alarm bytes (suc n) none =
    let here : is_match alarm (updated form (updated_times form n bytes)) ≡ false = none (suc n) (omega arith) (omega arith) in
    rw here (matches_in-none form alarm bytes n (λ i some few. none i some (omega arith)))

matches_in-here : (form : Form) (alarm : Alarm) (bytes : TimeBytes) (n : ℕ) → 0 < n → is_match alarm (updated_times form n bytes) ≡ true
    → 0 < matches_in form alarm bytes n
unfolding alarm_next
matches_in-here form alarm bytes zero some here = absurd (omega arith)
matches_in-here form alarm bytes (suc n) some here =
    let now : is_match alarm (updated form (updated_times form n bytes)) ≡ true = here in
    rw now (omega arith)

-- no time that is asked for is no match
pub matches_in-no_next : (form : Form) (alarm : Alarm) (w : WantedTime) (bytes : TimeBytes) (n start : ℕ) → AsksFor form alarm w
    → start ≡ second_of_day (moment_of form bytes) + 1
    → IsNext (is_wanted_second w) start None → matches_in form alarm bytes n ≡ 0
matches_in-no_next form alarm w bytes n start asks e none =
    matches_in-none form alarm bytes n
    (λ i some few. is_match-updated_times form alarm w bytes i asks some ∙ none (second_of_day (moment_of form bytes) + i) (omega arith))

-- nor is there one before the next of them
pub matches_in-before : (form : Form) (alarm : Alarm) (w : WantedTime) (bytes : TimeBytes) (n start next : ℕ) → AsksFor form alarm w
    → start ≡ second_of_day (moment_of form bytes) + 1
    → IsNext (is_wanted_second w) start (Some next) → n < next - start + 1 → matches_in form alarm bytes n ≡ 0
matches_in-before form alarm w bytes n start next asks e found early =
    matches_in-none form alarm bytes n
    (λ i some few. is_match-updated_times form alarm w bytes i asks some
    ∙ found.2 (second_of_day (moment_of form bytes) + i) (omega arith) (omega (arith, found.0)))

-- and there it is
pub IsFirst-next : (form : Form) (alarm : Alarm) (w : WantedTime) (bytes : TimeBytes) (n start next : ℕ) → AsksFor form alarm w
    → start ≡ second_of_day (moment_of form bytes) + 1
    → IsNext (is_wanted_second w) start (Some next) → next - start + 1 ≤ n → IsFirst (matches_in form alarm bytes) n (Some (next - start + 1))
IsFirst-next form alarm w bytes n start next asks e found few =
    let at : second_of_day (moment_of form bytes) + (next - start + 1) ≡ next = omega (arith, found.0) in
    let here : is_match alarm (updated_times form (next - start + 1) bytes) ≡ true =
    is_match-updated_times form alarm w bytes (next - start + 1) asks (omega arith) ∙ ap (is_wanted_second w) at ∙ found.1 in (
      omega arith,
      few,
      matches_in-before form alarm w bytes (next - start + 1 - 1) start next asks e found (omega arith),
      matches_in-here form alarm bytes (next - start + 1) (omega arith) here,
    )
