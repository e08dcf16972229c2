-- Time that passes on a board without an access: nanosecond by nanosecond, and all at once.
use Rattle.std.specs.Prelude.{ℕ, zero, suc, ◌+◌, []}
use Rattle.local_apics.specs.declared.parts.ApicsParts.{ApicsParts}
use Rattle.local_apics.specs.Nanosecond.{at_nanosecond, run as run_apics}
use Rattle.board_types.specs.declared.parts.BoardParts.{BoardParts}
use Rattle.board_devices.specs.Run.{Ran, onward, run}
use Rattle.board_core.specs.Apics.{apics_in, with_apics, tscs_by_time}
use Rattle.board_core.specs.Rises.{rises_after}
use Rattle.board_core.specs.Time.{devices_in, with_devices, now_of}

-- nanosecond t: that of the devices, with its edges, and then that of each processor's timer
unfoldable pub passed : ℕ → BoardParts → BoardParts
passed t b =
    let r : Ran = onward t (record { state = devices_in b; edges = [] }) in
    let a : ApicsParts = at_nanosecond (λ k. tscs_by_time b k t) (apics_in b) in
    record (with_apics a (with_devices r.state b)) {
      rises = rises_after b.format r.edges b.rises;
    }

-- the n nanoseconds after nanosecond t
abbrev pub passed_times : ℕ → ℕ → BoardParts → BoardParts
passed_times t zero b = b
passed_times t (suc n) b = passed (t + n + 1) (passed_times t n b)

-- the board after n nanoseconds: those of the devices, with their edges, and those of local APICs' timers.
-- Its anchor and its greatest count stay
abbrev pub ran_for : ℕ → BoardParts → BoardParts
ran_for n b =
    let r : Ran = run (now_of b) n (devices_in b) in
    let a : ApicsParts = run_apics (tscs_by_time b) (now_of b) n (apics_in b) in
    record (with_apics a (with_devices r.state b)) { rises = rises_after b.format r.edges b.rises }
