-- When a message is sent next, if no access comes.
use Rattle.std.specs.Prelude.{ℕ, zero, suc, ◌+◌, Bool, false, ◌||◌, if◌then◌else◌, Option, Some, None}
use Rattle.std.specs.Option.{option_or}
use Rattle.hpet_registers.specs.declared.parts.HpetParts.{HpetParts}
use Rattle.hpet_bursts.specs.Messages.{message_at}

-- the first of the n nanoseconds after t of which the test holds, by how many came before it
unfoldable pub first_where : (ℕ → Bool) → ℕ → ℕ → Option ℕ
first_where test t zero = None
first_where test t (suc n) =
    option_or (first_where test t n) (if test n then Some (t + n + 1) else None)

-- whether one of the timers below k sends a message in the nanosecond after t + n
unfoldable pub sends_below : ℕ → ℕ → HpetParts → ℕ → Bool
sends_below zero t h n = false
sends_below (suc k) t h n = sends_below k t h n || message_at k t n h

-- the first of the n nanoseconds after t in which a timer sends a message
abbrev pub next_message : ℕ → ℕ → HpetParts → Option ℕ
next_message t n h = first_where (sends_below 8 t h) t n
