-- What the HPET's outputs are made of (IA-PC HPET specification 1.0a, sections 2.3.6, 2.3.8 and
-- 2.3.10).
use Rattle.std.specs.Prelude.{ℕ, zero, suc, ◌/◌, ◌%◌, ◌^◌, Bool, false, ◌&&◌, ◌||◌, not, nat_lt, if◌then◌else◌, Option}
use Rattle.std.specs.Prelude.{Some, None}
use Rattle.clk_units.specs.Bits.{bit}
use Rattle.hpet_comparator.specs.Parts.{is_level, is_enabled}
use Rattle.hpet_registers.specs.declared.parts.HpetParts.{HpetParts}
use Rattle.hpet_registers.specs.Parts.{timer_at, message_bit_at, message_word_at, is_legacy}

-- the status bit of timer k, with its interrupt enabled: the output of a timer of level type
-- (2.3.6)
abbrev pub level_output : ℕ → HpetParts → Bool
level_output k h = bit k h.status && is_enabled (timer_at k h)

-- a timer of edge type with its interrupt enabled (2.3.8)
abbrev pub has_edge_ticks : ℕ → HpetParts → Bool
has_edge_ticks k h = is_enabled (timer_at k h) && not (is_level (timer_at k h))

-- a timer whose matches are messages: bit 14, enabled, of edge type, and not timer 0 or 1 under
-- legacy replacement (own)
abbrev pub is_message : ℕ → HpetParts → Bool
is_message k h = message_bit_at k h && (has_edge_ticks k h && not (is_legacy h && nat_lt k 2))

-- whether one of the timers below k is one
unfoldable pub has_message_below : ℕ → HpetParts → Bool
has_message_below zero h = false
has_message_below (suc k) h = has_message_below k h || is_message k h

-- a timer whose matches are ticks of its line: of edge type, enabled, and no message timer
abbrev pub has_ticks : ℕ → HpetParts → Bool
has_ticks k h = has_edge_ticks k h && not (is_message k h)

-- the address and the data of a timer's messages (2.3.10)
abbrev pub message_of : ℕ → HpetParts → Option (ℕ × ℕ)
message_of k h =
    let word = message_word_at k h in
    if is_message k h then Some (word / 2 ^ 32, word % 2 ^ 32) else None
