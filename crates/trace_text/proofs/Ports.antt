-- Ports, by the two decimal digits that name them.
use Rattle.std.proofs.Common.{◌≡◌, ℕ, ◌+◌, ◌-◌, ◌*◌, ◌<◌, ◌≤◌, true, length, drop, get_or, List, Some, refl, ap, ◌∙◌, inl, inr, arith}
use Rattle.std.specs.Char.{digit_value}
use Rattle.std.proofs.lemmas.Bool.{cases_eq, lt-ltb, le-ltb, le-leb}
use Rattle.board_types.specs.Legal.{is_port}
use Rattle.trace_text.specs.private.Spelled.{spelled, words_from}
use Rattle.trace_text.proofs.Spells.{two_digits}

decimal_digit : (b : ℕ) → 48 ≤ b → b ≤ 57 → digit_value b ≡ b - 48
decimal_digit b h k = rw (le-ltb b 48 h, lt-ltb b 58 (omega arith)) refl

pub two_decimals : (at a b n : ℕ) (line : List ℕ) → get_or line at 0 ≡ a → 48 ≤ a → a ≤ 57
    → get_or line (at + 1) 0 ≡ b → 48 ≤ b → b ≤ 57 → 16 * (a - 48) + (b - 48) ≡ n
    → at + 2 ≤ length line → (at + 2 < length line → get_or line (at + 2) 0 ≡ 32)
    → spelled 16 0 0 (drop at line)
    ≡ Some (record { count = at + 2 - at; value = n; left = words_from (at + 2 + 1) line })
two_decimals at a b n line ea a0 a9 eb b0 b9 value inside space =
    let high : digit_value (get_or line at 0) ≡ a - 48 = ap digit_value ea ∙ decimal_digit a a0 a9 in
    let low : digit_value (get_or line (at + 1) 0) ≡ b - 48 = ap digit_value eb ∙ decimal_digit b b0 b9 in
    rw (← value) (two_digits 16 at (a - 48) (b - 48) line (omega arith) high (omega arith) low (omega arith) (omega arith) inside space)

-- the ports of the 8254, and of the MC146818
pub pit_port : (n : ℕ) → 64 ≤ n → n ≤ 67 → is_port n ≡ true
pit_port n h k = rw (le-leb 64 n h) (rw (le-leb n 67 k) refl)

pub rtc_port : (n : ℕ) → 112 ≤ n → n ≤ 113 → is_port n ≡ true
rtc_port n h k = elim (cases_eq n 112) [
  | inl e ↦ rw e refl
  | inr a ↦ let e : n ≡ 113 = omega arith in rw e refl
]
