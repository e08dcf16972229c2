-- What a guest's accesses make of the timers and lines.
use Rattle.std.specs.Prelude.{ℕ, slice_set}
use Rattle.tick_policy.specs.Line.{acked}
use Rattle.lapic_timer.specs.declared.registers.ApicRegister.{ApicRegister}
use Rattle.lapic_timer.specs.Registers.{register_written}
use Rattle.local_apics.specs.declared.parts.ApicsParts.{ApicsParts}
use Rattle.local_apics.specs.Places.{timer_at, line_at}

-- a write of a register of a processor's timer
abbrev pub written_at : ℕ → ApicRegister → ℕ → ApicsParts → ApicsParts
written_at k register v a = record a {
  timers = slice_set a.timers k (register_written register v (timer_at k a));
}

-- the end of the interrupt on a processor: its line is acknowledged (own)
abbrev pub eoi_at : ℕ → ApicsParts → ApicsParts
eoi_at k a = record a { lines = slice_set a.lines k (acked (line_at k a)) }
