-- Writes to a register of 64 bits (IA-PC HPET specification 1.0a, section 2.4).
use Rattle.std.specs.Prelude.{ℕ, ◌+◌, ◌-◌, ◌*◌, ◌%◌, ◌^◌, Bool, ◌||◌, ◌==◌, if◌then◌else◌}

-- the widths, in bytes, of an access that reaches a register (2.4)
abbrev pub is_register_width : ℕ → Bool
is_register_width width = width == 4 || width == 8

-- a register after a write of v: the whole of it, or one half beside the other as it was (2.4)
abbrev pub part_written : ℕ → Bool → ℕ → ℕ → ℕ
part_written width high v old =
    if width == 8 then v
    else if high then v * 2 ^ 32 + old % 2 ^ 32
    else old - old % 2 ^ 32 + v
