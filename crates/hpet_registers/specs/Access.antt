-- What a register holds, and accesses (IA-PC HPET specification 1.0a, sections 2.3.4 to 2.3.10 and
-- 2.4).
use Rattle.std.specs.Prelude.{ℕ, ◌+◌, ◌-◌, ◌*◌, ◌/◌, ◌%◌, ◌^◌, Bool, true, false, ◌&&◌, ◌||◌, ◌==◌}
use Rattle.std.specs.Prelude.{if◌then◌else◌, slice_set, bit_and}
use Rattle.hpet_comparator.specs.Part.{part_written, is_register_width}
use Rattle.clk_units.specs.Bits.{bit, bit_value}
use Rattle.hpet_comparator.specs.Config.{config_register, config_written}
use Rattle.hpet_comparator.specs.Comparator.{comparator_written}
use Rattle.hpet_registers.specs.declared.parts.HpetParts.{HpetParts}
use Rattle.hpet_registers.specs.declared.register.Register.{Register}
use Rattle.hpet_registers.specs.declared.register.Register.TheVariants.{Capabilities, Configuration}
use Rattle.hpet_registers.specs.declared.register.Register.TheVariants.{Status, MainCounter}
use Rattle.hpet_registers.specs.declared.register.Register.TheVariants.{TimerConfig}
use Rattle.hpet_registers.specs.declared.register.Register.TheVariants.{TimerComparator}
use Rattle.hpet_registers.specs.declared.register.Register.TheVariants.{TimerMessage, Reserved}
use Rattle.hpet_registers.specs.Parts.{timer_at, message_bit_at, message_word_at}
use Rattle.hpet_registers.specs.Register.{register_at}

-- the configuration register of timer k: with messages bit 15, FSB capable, is 1, and bit 14 is
-- kept here (2.3.8)
abbrev pub timer_config_register : ℕ → HpetParts → ℕ
timer_config_register k h =
    config_register (timer_at k h) + bit_value (message_bit_at k h) 14 + bit_value h.messages 15

-- what a register holds. Capabilities: 10 ns in bits 63 to 32, vendor 8086h, LEG_RT_CAP, 64-bit
-- counter, the last timer in bits 12 to 8, revision 1 (2.3.4)
abbrev pub register_value : Register → HpetParts → ℕ
register_value Capabilities h = 0x009896808086a001 + (h.timers - 1) * 2 ^ 8
register_value Configuration h = h.config
register_value Status h = h.status
register_value MainCounter h = h.counter
register_value (TimerConfig k) h = timer_config_register k h
register_value (TimerComparator k) h = (timer_at k h).comparator
register_value (TimerMessage k) h = message_word_at k h
register_value Reserved h = 0

-- a write of v to the configuration register of timer k (2.3.8)
abbrev pub timer_config_written : ℕ → ℕ → HpetParts → HpetParts
timer_config_written k v h = record h {
  timer = slice_set h.timer k (config_written v (timer_at k h));
  message_bit = if h.messages then slice_set h.message_bit k (bit 14 v) else h.message_bit;
}

-- a write to a register, whole or to one half. Status: a written 1 clears its bit, and a half that
-- isn't written clears none (2.3.6). Every other half that isn't written stays as it reads; fixed
-- bits, capabilities and reserved places take no write; the main counter takes one at any time,
-- also while it runs (own)
abbrev pub register_written : Register → ℕ → Bool → ℕ → HpetParts → HpetParts
register_written Capabilities width high v h = h
register_written Configuration width high v h =
    record h { config = part_written width high v h.config % 2 ^ 2 }
register_written Status width high v h =
    record h { status = bit_and h.status (0xff - part_written width high v 0 % 2 ^ 8) }
register_written MainCounter width high v h =
    record h { counter = part_written width high v h.counter }
register_written (TimerConfig k) width high v h =
    timer_config_written k (part_written width high v (timer_config_register k h)) h
register_written (TimerComparator k) width high v h =
    record h { timer = slice_set h.timer k (comparator_written width high v (timer_at k h)) }
register_written (TimerMessage k) width high v h =
    record h {
      message_word = slice_set h.message_word k (part_written width high v (message_word_at k h));
    }
register_written Reserved width high v h = h

-- a register of which a whole write is the writes of its low and then of its high half. A timer's
-- configuration is one: its high half is fixed, and VAL_SET stays as the low half wrote it. A
-- comparator isn't: the first of its halves clears VAL_SET, so that the second may leave the
-- comparator (comparator_written)
abbrev pub is_plain : Register → Bool
is_plain (TimerComparator k) = false
is_plain _ = true

-- an access that reaches a register: 4 or 8 bytes, aligned to its width (2.4; others are own)
abbrev pub is_effective : ℕ → ℕ → Bool
is_effective offset width = is_register_width width && (offset % width == 0)

-- the widths of an access
abbrev pub is_access_width : ℕ → Bool
is_access_width width = width == 1 || width == 2 || width == 4 || width == 8

-- what an access of a width reads of a register
abbrev pub part_of : ℕ → Bool → ℕ → ℕ
part_of width high v = if width == 8 then v else if high then v / 2 ^ 32 else v % 2 ^ 32

-- a read: one that reaches no register gives all ones of its width (own)
abbrev pub hpet_read : ℕ → ℕ → HpetParts → ℕ
hpet_read offset width h =
    let register = register_at h.timers h.messages (offset - offset % 8) in
    if is_effective offset width then part_of width (offset % 8 == 4) (register_value register h)
    else 2 ^ (8 * width) - 1

-- a write: one that reaches no register does nothing (own)
abbrev pub hpet_written : ℕ → ℕ → ℕ → HpetParts → HpetParts
hpet_written offset width v h =
    let register = register_at h.timers h.messages (offset - offset % 8) in
    if is_effective offset width then register_written register width (offset % 8 == 4) v h else h
