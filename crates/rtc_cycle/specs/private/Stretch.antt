-- A stretch of pulses at once: what the pulses of specs/Divider.antt come to, for the bodies alone.
use Rattle.std.specs.Prelude.{ℕ, ◌+◌, ◌-◌, ◌/◌, ◌%◌, not, ◌&&◌, ◌||◌, ◌==◌, nat_le, nat_lt}
use Rattle.std.specs.Prelude.{if◌then◌else◌, Option, Some, None}
use Rattle.rtc_cycle.specs.declared.parts.DividerParts.{DividerParts}

-- how many of n steps bring an event: the first at step `next`, each other a period later
abbrev pub recurs : ℕ → ℕ → ℕ → ℕ
recurs next period n = if nat_lt n next then 0 else (n - next) / period + 1

-- the first of them
abbrev pub first_recurs : ℕ → ℕ → Option ℕ
first_recurs next n = if nat_lt n next then None else Some next

-- the pulses up to the end of the cycle in progress, or of the next second's
abbrev pub pulses_to_end : DividerParts → ℕ
pulses_to_end p = if p.cycle then 65 - p.d else 32833 - p.d

-- the fields after n pulses
abbrev pub stretched : ℕ → DividerParts → DividerParts
stretched n p = record p {
  d = if p.dv == 2 then (p.d + n) % 32768 else p.d;
  cycle = if p.dv == 2
      then not p.set && (nat_le ((p.d + n) % 32768) 64 && (p.cycle || nat_le 32768 (p.d + n)))
      else p.cycle;
}
