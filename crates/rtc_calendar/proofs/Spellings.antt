-- Lemmas on the bytes of numbers: what was written reads back, and what is valid is written again.
use Rattle.std.proofs.Common.{◌≡◌, ℕ, ◌+◌, ◌*◌, ◌/◌, ◌%◌, ◌<◌, ◌≤◌, Bool, true, false, cond, eqb, leb, ◌&&◌}
use Rattle.std.proofs.Common.{◌||◌, refl, ap, ◌∙◌, arith}
use Rattle.std.proofs.lemmas.Bool.{cond_both, cond-true, and_parts, and_from, leb-true, leb-false, le-leb}
use Rattle.std.proofs.lemmas.Bool.{lt-leb, eqb-true, eqb-false}
use Rattle.rtc_calendar.specs.declared.Form.{Form}
use Rattle.rtc_calendar.specs.Bytes.{spelt, has_digits, is_spelt, number_in, spelling, is_hour, hour_meant}
use Rattle.rtc_calendar.specs.Bytes.{hour_in, hour_of_twelve, hour_spelling}

-- a valid byte spells a number of the range
pub is_spelt-range : (binary : Bool) (low high byte : ℕ) → is_spelt binary low high byte ≡ true
    → (low ≤ spelt binary byte) × (spelt binary byte ≤ high)
unfolding is_spelt
is_spelt-range binary low high byte h =
    let outer = and_parts ((binary || has_digits byte) && leb low (spelt binary byte)) (leb (spelt binary byte) high) h in
    let inner = and_parts (binary || has_digits byte) (leb low (spelt binary byte)) outer.0 in
    (leb-true low (spelt binary byte) inner.1, leb-true (spelt binary byte) high outer.1)

-- what is read is in the range
pub number_in-least : (binary : Bool) (low high byte : ℕ) → low ≤ number_in binary low high byte
unfolding number_in
number_in-least binary low high byte =
    cond_both (is_spelt binary low high byte) (spelt binary byte) low (λ x. low ≤ x) (λ h. (is_spelt-range binary low high byte h).0) (λ _. omega arith)

pub number_in-most : (binary : Bool) (low high byte : ℕ) → low ≤ high → number_in binary low high byte ≤ high
unfolding number_in
number_in-most binary low high byte order =
    cond_both (is_spelt binary low high byte) (spelt binary byte) low (λ x. x ≤ high) (λ h. (is_spelt-range binary low high byte h).1) (λ _. order)

pub hour_in-most : (form : Form) (byte : ℕ) → hour_in form byte ≤ 23
unfolding hour_in hour_meant is_hour
hour_in-most form byte = by_form form.hours24 form.binary
  where
    half : (b : Bool) (hour : ℕ) → hour % 12 + cond b 12 0 ≤ 23
    half true hour = omega arith
    half false hour = omega arith

    by_form : (hours24 binary : Bool)
        → cond (cond hours24 (is_spelt binary 0 23 byte) (is_spelt binary 1 12 (byte % 128)))
        (cond hours24 (spelt binary byte) (spelt binary (byte % 128) % 12 + cond (leb 128 byte) 12 0)) 0 ≤ 23
    by_form true binary = cond_both (is_spelt binary 0 23 byte) (spelt binary byte) 0 (λ x. x ≤ 23)
        (λ h. (is_spelt-range binary 0 23 byte h).1) (λ _. omega arith)
    by_form false binary = cond_both (is_spelt binary 1 12 (byte % 128)) (spelt binary (byte % 128) % 12 + cond (leb 128 byte) 12 0) 0
        (λ x. x ≤ 23) (λ _. half (leb 128 byte) (spelt binary (byte % 128))) (λ _. omega arith)

-- a number that was written is spelt by its byte
pub spelt-spelling : (binary : Bool) (number : ℕ) → number ≤ 99 → spelt binary (spelling binary number) ≡ number
unfolding spelt spelling
spelt-spelling true number h = refl
spelt-spelling false number h = omega arith

-- and its byte has two decimal digits
has_digits-spelling : (number : ℕ) → number ≤ 99 → has_digits (spelling false number) ≡ true
unfolding has_digits spelling
has_digits-spelling number h =
    and_from (leb ((number / 10 * 16 + number % 10) / 16) 9) (leb ((number / 10 * 16 + number % 10) % 16) 9)
    (le-leb ((number / 10 * 16 + number % 10) / 16) 9 (omega arith))
    (le-leb ((number / 10 * 16 + number % 10) % 16) 9 (omega arith))

-- a number of the range is written as a valid byte ..
pub is_spelt-spelling : (binary : Bool) (low high number : ℕ) → low ≤ number → number ≤ high → high ≤ 99
    → is_spelt binary low high (spelling binary number) ≡ true
unfolding is_spelt
is_spelt-spelling binary low high number least most small =
    let e : spelt binary (spelling binary number) ≡ number = spelt-spelling binary number (omega arith) in
    rw e (and_from ((binary || has_digits (spelling binary number)) && leb low number) (leb number high)
    (and_from (binary || has_digits (spelling binary number)) (leb low number) (digits binary) (le-leb low number least))
    (le-leb number high most))
  where
    digits : (b : Bool) → (b || has_digits (spelling b number)) ≡ true
    digits true = refl
    digits false = has_digits-spelling number (omega arith)

-- .. that reads back
pub number_in-spelling : (binary : Bool) (low high number : ℕ) → low ≤ number → number ≤ high → high ≤ 99
    → number_in binary low high (spelling binary number) ≡ number
unfolding number_in
number_in-spelling binary low high number least most small =
    cond-true (is_spelt binary low high (spelling binary number)) (spelt binary (spelling binary number)) low
    (is_spelt-spelling binary low high number least most small)
    ∙ spelt-spelling binary number (omega arith)

-- two decimal digits are written again
spelling-digits : (byte : ℕ) → has_digits byte ≡ true → spelling false (spelt false byte) ≡ byte
unfolding has_digits spelling spelt
spelling-digits byte h =
    let digits = and_parts (leb (byte / 16) 9) (leb (byte % 16) 9) h in
    omega (arith, leb-true (byte / 16) 9 digits.0, leb-true (byte % 16) 9 digits.1)

-- a binary number is its own byte
spelling-binary : (byte : ℕ) → spelling true (spelt true byte) ≡ byte
unfolding spelling spelt
spelling-binary byte = refl

-- a valid byte is written again
pub spelling-spelt : (binary : Bool) (low high byte : ℕ) → is_spelt binary low high byte ≡ true → spelling binary (spelt binary byte) ≡ byte
unfolding is_spelt
spelling-spelt true low high byte h = spelling-binary byte
spelling-spelt false low high byte h =
    spelling-digits byte (and_parts (has_digits byte) (leb low (spelt false byte))
    (and_parts (has_digits byte && leb low (spelt false byte)) (leb (spelt false byte) high) h).0).0

pub spelling-number_in : (binary : Bool) (low high byte : ℕ) → is_spelt binary low high byte ≡ true
    → spelling binary (number_in binary low high byte) ≡ byte
unfolding number_in
spelling-number_in binary low high byte h =
    ap (spelling binary) (cond-true (is_spelt binary low high byte) (spelt binary byte) low h) ∙ spelling-spelt binary low high byte h

-- the hour that a clock of twelve hours shows
hour_of_twelve-range : (hour : ℕ) → (1 ≤ hour_of_twelve hour) × (hour_of_twelve hour ≤ 12) × (hour_of_twelve hour % 12 ≡ hour % 12)
unfolding hour_of_twelve
hour_of_twelve-range hour =
    cond_both (eqb (hour % 12) 0) 12 (hour % 12) (λ x. (1 ≤ x) × (x ≤ 12) × (x % 12 ≡ hour % 12))
    (λ e. (omega arith, omega arith, omega (arith, eqb-true (hour % 12) 0 e)))
    (λ e. (other (eqb-false (hour % 12) 0 e), omega arith, omega arith))
  where
    other : (hour % 12 ≡ 0 → ⊥) → 1 ≤ hour % 12
    other h = omega arith

-- bit 7 is apart from the number of a byte
spelling-small : (binary : Bool) (number : ℕ) → number ≤ 12 → spelling binary number < 128
unfolding spelling
spelling-small true number h = omega arith
spelling-small false number h = omega arith

bit_7-rest : (late : Bool) (number : ℕ) → number < 128 → (number + cond late 128 0) % 128 ≡ number
bit_7-rest true number h = omega arith
bit_7-rest false number h = omega arith

bit_7-set : (late : Bool) (number : ℕ) → number < 128 → leb 128 (number + cond late 128 0) ≡ late
bit_7-set true number h = le-leb 128 (number + 128) (omega arith)
bit_7-set false number h = lt-leb 128 (number + 0) (omega arith)

-- an hour of the day is written as a valid byte ..
pub is_hour-hour_spelling : (form : Form) (hour : ℕ) → hour ≤ 23 → is_hour form (hour_spelling form hour) ≡ true
unfolding is_hour hour_spelling
is_hour-hour_spelling form hour h = by_form form.hours24
  where
    range : (1 ≤ hour_of_twelve hour) × (hour_of_twelve hour ≤ 12) × (hour_of_twelve hour % 12 ≡ hour % 12)
    range = hour_of_twelve-range hour

    rest : (spelling form.binary (hour_of_twelve hour) + cond (leb 12 hour) 128 0) % 128 ≡ spelling form.binary (hour_of_twelve hour)
    rest = bit_7-rest (leb 12 hour) (spelling form.binary (hour_of_twelve hour)) (spelling-small form.binary (hour_of_twelve hour) range.1)

    by_form : (hours24 : Bool)
        → cond hours24 (is_spelt form.binary 0 23
        (cond hours24 (spelling form.binary hour) (spelling form.binary (hour_of_twelve hour) + cond (leb 12 hour) 128 0)))
        (is_spelt form.binary 1 12
        (cond hours24 (spelling form.binary hour) (spelling form.binary (hour_of_twelve hour) + cond (leb 12 hour) 128 0) % 128)) ≡ true
    by_form true = is_spelt-spelling form.binary 0 23 hour (omega arith) h (omega arith)
    by_form false = rw rest (is_spelt-spelling form.binary 1 12 (hour_of_twelve hour) range.0 range.1 (omega arith))

-- .. that reads back
hour_meant-hour_spelling : (form : Form) (hour : ℕ) → hour ≤ 23 → hour_meant form (hour_spelling form hour) ≡ hour
unfolding hour_meant hour_spelling
hour_meant-hour_spelling form hour h = by_form form.hours24
  where
    range : (1 ≤ hour_of_twelve hour) × (hour_of_twelve hour ≤ 12) × (hour_of_twelve hour % 12 ≡ hour % 12)
    range = hour_of_twelve-range hour

    small : spelling form.binary (hour_of_twelve hour) < 128
    small = spelling-small form.binary (hour_of_twelve hour) range.1

    rest : (spelling form.binary (hour_of_twelve hour) + cond (leb 12 hour) 128 0) % 128 ≡ spelling form.binary (hour_of_twelve hour)
    rest = bit_7-rest (leb 12 hour) (spelling form.binary (hour_of_twelve hour)) small

    late : leb 128 (spelling form.binary (hour_of_twelve hour) + cond (leb 12 hour) 128 0) ≡ leb 12 hour
    late = bit_7-set (leb 12 hour) (spelling form.binary (hour_of_twelve hour)) small

    halves : hour % 12 + cond (leb 12 hour) 12 0 ≡ hour
    halves = cond_both (leb 12 hour) 12 0 (λ x. hour % 12 + x ≡ hour) (λ e. omega (arith, leb-true 12 hour e)) (λ e. omega (arith, leb-false 12 hour e))

    by_form : (hours24 : Bool)
        → cond hours24 (spelt form.binary (cond hours24 (spelling form.binary hour) (spelling form.binary (hour_of_twelve hour) + cond (leb 12 hour) 128 0)))
        (spelt form.binary (cond hours24 (spelling form.binary hour) (spelling form.binary (hour_of_twelve hour) + cond (leb 12 hour) 128 0) % 128) % 12
        + cond (leb 128 (cond hours24 (spelling form.binary hour) (spelling form.binary (hour_of_twelve hour) + cond (leb 12 hour) 128 0))) 12 0) ≡ hour
    by_form true = spelt-spelling form.binary hour (omega arith)
    by_form false = rw (rest, late, spelt-spelling form.binary (hour_of_twelve hour) (omega (arith, range.1)), range.2) halves

pub hour_in-hour_spelling : (form : Form) (hour : ℕ) → hour ≤ 23 → hour_in form (hour_spelling form hour) ≡ hour
unfolding hour_in
hour_in-hour_spelling form hour h =
    cond-true (is_hour form (hour_spelling form hour)) (hour_meant form (hour_spelling form hour)) 0 (is_hour-hour_spelling form hour h)
    ∙ hour_meant-hour_spelling form hour h

-- a valid hour is written again
half_day-late : (late : Bool) (number : ℕ) → 1 ≤ number → number ≤ 12 → leb 12 (number % 12 + cond late 12 0) ≡ late
half_day-late true number least most = le-leb 12 (number % 12 + 12) (omega arith)
half_day-late false number least most = lt-leb 12 (number % 12 + 0) (omega arith)

half_day-hour : (late : Bool) (number : ℕ) → 1 ≤ number → number ≤ 12 → hour_of_twelve (number % 12 + cond late 12 0) ≡ number
unfolding hour_of_twelve
half_day-hour late number least most = rw (rest late) (by_hour (eqb-true (number % 12) 0) (eqb-false (number % 12) 0))
  where
    rest : (b : Bool) → (number % 12 + cond b 12 0) % 12 ≡ number % 12
    rest true = omega arith
    rest false = omega arith

    noon : number % 12 ≡ 0 → 12 ≡ number
    noon e = omega arith

    other : (number % 12 ≡ 0 → ⊥) → number % 12 ≡ number
    other e = omega arith

    by_hour : (eqb (number % 12) 0 ≡ true → number % 12 ≡ 0) → (eqb (number % 12) 0 ≡ false → number % 12 ≡ 0 → ⊥)
        → cond (eqb (number % 12) 0) 12 (number % 12) ≡ number
    by_hour zero some = cond_both (eqb (number % 12) 0) 12 (number % 12) (λ x. x ≡ number) (λ e. noon (zero e)) (λ e. other (some e))

hour_spelling-hour_meant : (form : Form) (byte : ℕ) → byte < 256 → is_hour form byte ≡ true → hour_spelling form (hour_meant form byte) ≡ byte
unfolding hour_spelling hour_meant is_hour
hour_spelling-hour_meant form byte small = by_form form.hours24
  where
    bit_7 : byte % 128 + cond (leb 128 byte) 128 0 ≡ byte
    bit_7 = cond_both (leb 128 byte) 128 0 (λ x. byte % 128 + x ≡ byte)
        (λ e. omega (arith, leb-true 128 byte e)) (λ e. omega (arith, leb-false 128 byte e))

    half : is_spelt form.binary 1 12 (byte % 128) ≡ true
        → spelling form.binary (hour_of_twelve (spelt form.binary (byte % 128) % 12 + cond (leb 128 byte) 12 0))
        + cond (leb 12 (spelt form.binary (byte % 128) % 12 + cond (leb 128 byte) 12 0)) 128 0 ≡ byte
    half valid =
        let range = is_spelt-range form.binary 1 12 (byte % 128) valid in
        rw (
          half_day-hour (leb 128 byte) (spelt form.binary (byte % 128)) range.0 range.1,
          half_day-late (leb 128 byte) (spelt form.binary (byte % 128)) range.0 range.1,
          spelling-spelt form.binary 1 12 (byte % 128) valid,
        ) bit_7

    by_form : (hours24 : Bool) → cond hours24 (is_spelt form.binary 0 23 byte) (is_spelt form.binary 1 12 (byte % 128)) ≡ true
        → cond hours24 (spelling form.binary (cond hours24 (spelt form.binary byte) (spelt form.binary (byte % 128) % 12 + cond (leb 128 byte) 12 0)))
        (spelling form.binary (hour_of_twelve (cond hours24 (spelt form.binary byte) (spelt form.binary (byte % 128) % 12 + cond (leb 128 byte) 12 0)))
        + cond (leb 12 (cond hours24 (spelt form.binary byte) (spelt form.binary (byte % 128) % 12 + cond (leb 128 byte) 12 0))) 128 0) ≡ byte
    by_form true valid = spelling-spelt form.binary 0 23 byte valid
    by_form false valid = half valid

pub hour_spelling-hour_in : (form : Form) (byte : ℕ) → byte < 256 → is_hour form byte ≡ true → hour_spelling form (hour_in form byte) ≡ byte
unfolding hour_in
hour_spelling-hour_in form byte small h =
    ap (hour_spelling form) (cond-true (is_hour form byte) (hour_meant form byte) 0 h) ∙ hour_spelling-hour_meant form byte small h
