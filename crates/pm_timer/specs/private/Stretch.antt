-- A stretch of pulses at once: what the pulses of specs/Stretch.antt come to, for the bodies alone.
use Rattle.std.specs.Prelude.{ℕ, ◌+◌, ◌-◌, ◌%◌, ◌^◌, ◌||◌, ◌&&◌, not, ◌==◌, nat_le, if◌then◌else◌}
use Rattle.std.specs.Prelude.{Option, Some, None}
use Rattle.pm_timer.specs.declared.parts.PmParts.{PmParts}

-- the pulses from one change of the most significant bit to the next: half of the count's values
abbrev pub half_of : PmParts → ℕ
half_of p = 2 ^ (p.bits - 1)

-- the pulses up to the next such change
abbrev pub to_change : PmParts → ℕ
to_change p = half_of p - p.count % half_of p

-- the fields after n pulses
abbrev pub pm_stretched : ℕ → PmParts → PmParts
pm_stretched n p = if p.bits == 0 then p else record p {
  count = (p.count + n) % 2 ^ p.bits;
  status = p.status || nat_le (to_change p) n;
}

-- the pulse at which line 9 rises, if one does
abbrev pub rise_of : PmParts → Option ℕ
rise_of p = if p.enable && not p.status then Some (to_change p) else None
