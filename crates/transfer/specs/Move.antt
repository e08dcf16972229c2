-- A board moved to another host (own, after what KVM's users do with a guest's TSC and kvmclock).
use Rattle.std.specs.Prelude.{
  ℕ,
  zero,
  suc,
  ◌+◌,
  ◌*◌,
  ◌/◌,
  ◌%◌,
  ◌^◌,
  List,
  Option,
}
use Rattle.irq_edges.specs.declared.bursts.Burst.{Burst}
use Rattle.hpet_bursts.specs.Bursts.{bursts_of}
use Rattle.tsc_scale.specs.declared.Tsc.{Tsc}
use Rattle.tsc_scale.specs.Ratio.{ratio_of}
use Rattle.tsc_scale.specs.Offset.{tsc_by}
use Rattle.tsc_scale.specs.Tsc.{difference}
use Rattle.board_types.specs.declared.parts.BoardParts.{BoardParts}
use Rattle.board_core.specs.Time.{now_of}
use Rattle.board_core.specs.Tsc.{processor_at, tsc_read}
use Rattle.board_core.specs.Pages.{published_at_host}
use Rattle.board_core.specs.Hv.{hv_published_at_host}
use Rattle.board_core.specs.Reanchor.{reanchored}
use Rattle.board_meters.specs.declared.meters.MoveFault.{MoveFault}
use Rattle.board_meters.specs.Meters.{move_fault_in}
use Rattle.board_core.specs.Refusals.{meters_of}

-- the counts of the guest's TSC in a gap of nanoseconds, rounded down
abbrev pub counts_in : ℕ → ℕ → ℕ
counts_in guest_khz gap = gap * guest_khz / 1000000

-- the TSC of a processor after the gap: it goes on from its value at the greatest count
abbrev pub tsc_after_gap : BoardParts → ℕ → ℕ → ℕ
tsc_after_gap b gap cpu =
    (tsc_read b.anchor b.guest_khz b.host (processor_at b cpu) + counts_in b.guest_khz gap) % 2 ^ 64

-- the offset with which a TSC is v at count h
abbrev pub offset_for : ℕ → ℕ → ℕ → ℕ
offset_for v h ratio = difference v (tsc_by 0 h ratio)

-- the TSC of a processor on the new host: at count `start` it goes on, and TSC_ADJUST is kept
abbrev pub tsc_moved : BoardParts → ℕ → ℕ → ℕ → ℕ → Tsc
tsc_moved b khz start gap cpu = record {
  offset = offset_for (tsc_after_gap b gap cpu) start (ratio_of b.guest_khz khz);
  adjust = (processor_at b cpu).adjust;
}

-- the processors below n have their TSC go on, and their pages, enabled or not, are published at
-- `start`: with a stable TSC, and with the guest stopped
unfoldable pub published_below : BoardParts → ℕ → ℕ → ℕ → ℕ → BoardParts → BoardParts
published_below b khz start gap zero moved = moved
published_below b khz start gap (suc n) moved =
    published_at_host n (tsc_moved b khz start gap n) 3
    (published_below b khz start gap n moved)

-- the board moved: it runs gap nanoseconds, count `start` of the new host's counter has the new
-- time, and each processor goes on; then the reference page, written or not, is published by the new
-- TSC of its processor. All else is kept, the greatest reading and TSC_ADJUST among it
unfoldable pub moved_to : ℕ → ℕ → ℕ → BoardParts → BoardParts
moved_to khz start gap b =
    hv_published_at_host (published_below b khz start gap b.cpus (reanchored khz start gap b))

-- the messages of the gap, by its timers
abbrev pub gap_bursts : ℕ → BoardParts → List Burst
gap_bursts gap b = bursts_of (now_of b) gap b.hpet

-- why a move is refused: by the board's meters
abbrev pub move_fault : ℕ → BoardParts → Option MoveFault
move_fault gap b = move_fault_in gap (meters_of b)
