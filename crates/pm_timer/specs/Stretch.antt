-- The pulses of the power management timer, one and many, and its line. Sections are those of the
-- ACPI specification, version 6.
use Rattle.std.specs.Prelude.{ℕ, zero, suc, ◌+◌, ◌-◌, ◌%◌, ◌^◌, Bool, not, ◌&&◌, ◌||◌, ◌==◌}
use Rattle.std.specs.Prelude.{nat_le, if◌then◌else◌, Option, Some, None}
use Rattle.clk_units.specs.Bits.{bit}
use Rattle.pm_timer.specs.declared.parts.PmParts.{PmParts}

-- the count after a pulse of a timer: it counts up, and on from 0 (4.8.3.3)
abbrev pub pm_count_next : PmParts → ℕ
pm_count_next p = (p.count + 1) % 2 ^ p.bits

-- the most significant bit of a count (4.8.3.1.1, TMR_STS)
abbrev pub top_bit : PmParts → ℕ → Bool
top_bit p count = bit (p.bits - 1) count

-- whether the next pulse changes the most significant bit, from 0 to 1 or from 1 to 0
abbrev pub top_changes : PmParts → Bool
top_changes p = if top_bit p p.count then not (top_bit p (pm_count_next p))
    else top_bit p (pm_count_next p)

-- one pulse of 3,579,545 Hz: the count goes up by one, and TMR_STS is set where the most
-- significant bit changes (4.8.3.3 and 4.8.3.1.1); without a timer it changes nothing (own)
unfoldable pub pm_pulsed : PmParts → PmParts
pm_pulsed p = if p.bits == 0 then p else record p {
  count = pm_count_next p;
  status = p.status || top_changes p;
}

-- n pulses
abbrev pub pm_pulsed_times : ℕ → PmParts → PmParts
pm_pulsed_times zero p = p
pm_pulsed_times (suc n) p = pm_pulsed (pm_pulsed_times n p)

-- whether line 9 is up: TMR_STS with TMR_EN raises the interrupt (4.8.3.1.1, TMR_STS)
abbrev pub line_9_up : PmParts → Bool
line_9_up p = p.status && p.enable

-- whether line 9 rises at the next pulse
unfoldable pub pm_rises_next : PmParts → Bool
pm_rises_next p = not (line_9_up p) && line_9_up (pm_pulsed p)

-- how often line 9 rises in n pulses
abbrev pub pm_rises_in : PmParts → ℕ → ℕ
pm_rises_in p zero = 0
pm_rises_in p (suc n) =
    if pm_rises_next (pm_pulsed_times n p) then suc (pm_rises_in p n) else pm_rises_in p n

-- a first pulse as the first of n pulses: none where it comes later
abbrev pub first_within : ℕ → Option ℕ → Option ℕ
first_within n None = None
first_within n (Some k) = if nat_le k n then Some k else None
