-- The configuration register of a timer (IA-PC HPET specification 1.0a, section 2.3.8).
use Rattle.std.specs.Prelude.{ℕ, ◌+◌, ◌*◌, ◌%◌, ◌^◌, ◌&&◌, nat_le, if◌then◌else◌, bit_and}
use Rattle.hpet_comparator.specs.declared.parts.TimerParts.{TimerParts}
use Rattle.hpet_comparator.specs.Parts.{route_of, modulus}

-- the configuration register: bits 4 and 5 (periodic and 64-bit capable) are 1, and bits 63 to 32,
-- the lines that it may be routed to, are those of lines 20 to 23 (2.3.8)
abbrev pub config_register : TimerParts → ℕ
config_register t = 0x00f0000000000030 + t.config

-- the writable bits that aren't the route: 1, 2, 3, 6 and 8 (2.3.8)
abbrev pub switch_bits : ℕ
switch_bits = 0x14e

-- the route that a write of another leaves: one of the lines 20 to 23, else as it was (own)
abbrev pub chosen_route : ℕ → ℕ → ℕ
chosen_route new old = if nat_le 20 new && nat_le new 23 then new else old

-- comparator and period in the timer's width: 32-bit mode cuts them (own)
abbrev pub narrowed : TimerParts → TimerParts
narrowed t = record t { comparator = t.comparator % modulus t; period = t.period % modulus t }

-- a write of v to the configuration register (2.3.8)
unfoldable pub config_written : ℕ → TimerParts → TimerParts
config_written v t = narrowed (record t {
  config = bit_and v switch_bits + chosen_route (route_of v) (route_of t.config) * 2 ^ 9;
})
