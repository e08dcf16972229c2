-- The messages of a timer, nanosecond by nanosecond (IA-PC HPET specification 1.0a, section
-- 2.3.10).
use Rattle.std.specs.Prelude.{ℕ, zero, suc, ◌+◌, Bool, ◌&&◌, if◌then◌else◌, List, [], ◌∷◌, ◌++◌}
use Rattle.clk_units.specs.Pulses.{falls_at, pulses_from}
use Rattle.hpet_registers.specs.declared.hpet.TheConstants.{HPET_HZ}
use Rattle.hpet_registers.specs.declared.parts.HpetParts.{HpetParts}
use Rattle.hpet_registers.specs.Outputs.{is_message}
use Rattle.hpet_registers.specs.Stretch.{matches_next, hpet_pulsed_times}

-- whether the next pulse sends a message of timer k: a match of a message timer
abbrev pub message_next : ℕ → HpetParts → Bool
message_next k h = is_message k h && matches_next k h

-- whether nanosecond u, the next after t + n, sends one, of an HPET that was h at t
abbrev pub message_at : ℕ → ℕ → ℕ → HpetParts → Bool
message_at k t n h =
    falls_at HPET_HZ (t + n + 1)
    && message_next k (hpet_pulsed_times (pulses_from HPET_HZ t n) h)

-- the nanoseconds at which timer k sends messages, of the n after t
abbrev pub message_times : ℕ → ℕ → ℕ → HpetParts → List ℕ
message_times k t zero h = []
message_times k t (suc n) h =
    message_times k t n h ++ (if message_at k t n h then (t + n + 1) ∷ [] else [])
