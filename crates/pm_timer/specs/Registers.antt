-- The registers of the power management timer, as a block of twelve bytes. Sections are those of
-- the ACPI specification, version 6; (own) marks what it leaves open and this project chose.
use Rattle.std.specs.Prelude.{ℕ, ◌+◌, ◌*◌, ◌/◌, ◌%◌, ◌^◌, Bool, false, not, ◌&&◌, ◌||◌, ◌==◌}
use Rattle.std.specs.Prelude.{nat_lt, nat_le, if◌then◌else◌}
use Rattle.clk_units.specs.Bits.{bit, bit_value}
use Rattle.pm_timer.specs.declared.parts.PmParts.{PmParts}

-- the widths of an access, in bytes
abbrev pub is_pm_width : ℕ → Bool
is_pm_width width = width == 1 || width == 2 || width == 4

-- the block as one number, its byte 0 the lowest: TMR_STS is bit 0 of PM1_STS at byte 0
-- (4.8.3.1.1), TMR_EN is bit 0 of PM1_EN at byte 2 (4.8.3.1.2), and PM_TMR, the count, is at byte 8
-- (4.8.3.3); the places are those of Intel's PIIX4, and all other bits are 0 (own)
abbrev pub pm_block : PmParts → ℕ
pm_block p = bit_value p.status 0 + bit_value p.enable 16 + p.count * 2 ^ 64

-- what a read of `width` bytes from byte `offset` on gives, at any alignment; bytes past the block
-- are 0 (own)
unfoldable pub pm_read : ℕ → ℕ → PmParts → ℕ
pm_read offset width p = pm_block p / 2 ^ (8 * offset) % 2 ^ (8 * width)

-- what a write brings to the block's bits: its value at the place of its bytes
abbrev pub pm_placed : ℕ → ℕ → ℕ
pm_placed offset value = value * 2 ^ (8 * offset)

-- TMR_STS after a write: a written 1 clears it (4.8.3.1.1)
abbrev pub status_written : ℕ → ℕ → PmParts → Bool
status_written offset value p = p.status && not (bit 0 (pm_placed offset value))

-- TMR_EN after a write: what is written over it, if byte 2 is written (4.8.3.1.2)
abbrev pub enable_written : ℕ → ℕ → ℕ → PmParts → Bool
enable_written offset width value p =
    if nat_le offset 2 && nat_lt 2 (offset + width) then bit 16 (pm_placed offset value)
    else p.enable

-- a write of `width` bytes from byte `offset` on; all other bits ignore it, and without a timer
-- nothing changes (own)
unfoldable pub pm_written : ℕ → ℕ → ℕ → PmParts → PmParts
pm_written offset width value p = if p.bits == 0 then p else record p {
  status = status_written offset value p;
  enable = enable_written offset width value p;
}

-- a reset of the PC: TMR_STS and TMR_EN are 0; the count goes on (own)
abbrev pub pm_reset : PmParts → PmParts
pm_reset p = record p { status = false; enable = false }
