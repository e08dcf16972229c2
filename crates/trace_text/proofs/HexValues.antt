-- The table of hexadecimal digits.
use Rattle.std.proofs.Common.{◌≡◌, ℕ, zero, suc, ◌-◌, ◌<◌, Bool, true, ◌&&◌, T, eqb, min, get_or, inl, inr, arith, eq-zero-or-pos, eqb→eq}
use Rattle.std.specs.Char.{digit_value}
use lib.Ieee.Fits.{and_l, and_r}
use Rattle.trace_text.specs.declared.bytes.TheConstants.{HEX_VALUES}

-- the first bytes have their values
abbrev are_values : ℕ → Bool
are_values zero = true
are_values (suc b) = eqb (get_or HEX_VALUES b 0) (min (digit_value b) 16) && are_values b

HEX_VALUES_below : (n b : ℕ) → T (are_values n) → b < n → get_or HEX_VALUES b 0 ≡ min (digit_value b) 16
HEX_VALUES_below zero b t h = absurd (omega arith)
HEX_VALUES_below (suc n) b t h =
    elim (eq-zero-or-pos (n - b)) [
      | inl z ↦ let e : b ≡ n = omega arith in rw e (eqb→eq _ _ (and_l _ (are_values n) t))
      | inr g ↦ HEX_VALUES_below n b (and_r _ (are_values n) t) (omega arith)
    ]

pub HEX_VALUES_at : (b : ℕ) → b < 256 → get_or HEX_VALUES b 0 ≡ min (digit_value b) 16
HEX_VALUES_at b h = HEX_VALUES_below 256 b tt h
