-- The fields of a timer of the HPET, what its configuration says, and the conditions. Sections are
-- those of the IA-PC HPET specification 1.0a; (own) marks what it leaves open and this project
-- chose.
use Rattle.std.specs.Prelude.{◌≡◌, ℕ, ◌/◌, ◌%◌, ◌^◌, ◌<◌, ◌≤◌, Bool, ◌&&◌, ◌==◌, nat_lt, nat_le}
use Rattle.std.specs.Prelude.{if◌then◌else◌, bit_and, Option, Some, None}
use Rattle.clk_units.specs.Bits.{bit}
use Rattle.hpet_comparator.specs.declared.parts.TimerParts.{TimerParts}
use Rattle.hpet_comparator.specs.declared.parts.TimerField.{TimerField}
use Rattle.hpet_comparator.specs.declared.parts.TimerField.TheVariants.{Config, Comparator, Period}

-- Tn_INT_TYPE_CNF: level type, else edge type (2.3.8)
abbrev pub is_level : TimerParts → Bool
is_level t = bit 1 t.config

-- Tn_INT_ENB_CNF (2.3.8)
abbrev pub is_enabled : TimerParts → Bool
is_enabled t = bit 2 t.config

-- Tn_TYPE_CNF: periodic, else one-shot (2.3.8)
abbrev pub is_periodic : TimerParts → Bool
is_periodic t = bit 3 t.config

-- Tn_VAL_SET_CNF: the next write takes the comparator of a periodic timer too (2.3.8)
abbrev pub takes_comparator : TimerParts → Bool
takes_comparator t = bit 6 t.config

-- Tn_32MODE_CNF (2.3.8)
abbrev pub is_32_bit : TimerParts → Bool
is_32_bit t = bit 8 t.config

-- Tn_INT_ROUTE_CNF, bits 13 to 9 of a configuration (2.3.8)
abbrev pub route_of : ℕ → ℕ
route_of config = config / 2 ^ 9 % 2 ^ 5

-- how many values the timer's counter has: 2^32 in 32-bit mode, else 2^64
abbrev pub modulus : TimerParts → ℕ
modulus t = if is_32_bit t then 2 ^ 32 else 2 ^ 64

-- the writable bits: 1, 2, 3, 6, 8 and 13 to 9 (2.3.8)
abbrev pub writable_bits : ℕ
writable_bits = 0x3f4e

-- the condition on the configuration: writable bits alone, and a route to one of the lines 20 to 23
-- (own)
abbrev pub config_valid : TimerParts → Bool
config_valid t = bit_and t.config writable_bits == t.config
    && (nat_le 20 (route_of t.config) && nat_le (route_of t.config) 23)

-- the condition on the comparator: 32 bits in 32-bit mode (own)
abbrev pub comparator_valid : TimerParts → Bool
comparator_valid t = nat_lt t.comparator (modulus t)

-- the condition on the period: 32 bits in 32-bit mode (own)
abbrev pub period_valid : TimerParts → Bool
period_valid t = nat_lt t.period (modulus t)

-- the first field whose condition fails
abbrev pub timer_fault : TimerParts → Option TimerField
timer_fault t =
    if config_valid t then
    if comparator_valid t then
    if period_valid t then None else Some Period
    else Some Comparator
    else Some Config

-- a timer's conditions, all of them
pub record IsTimer (t : TimerParts) : Type 0 where
  pub bits : bit_and t.config writable_bits ≡ t.config
  pub low_route : 20 ≤ route_of t.config
  pub high_route : route_of t.config ≤ 23
  pub comparator : t.comparator < modulus t
  pub period : t.period < modulus t

-- the timer at power on: a one-shot of edge type and 64 bits, disabled, on line 20, comparator and
-- period 0 (own)
abbrev pub timer_at_power_on : TimerParts
timer_at_power_on = record { config = 0x2800; comparator = 0; period = 0 }
