-- The run of an access is single nanoseconds of the whole board, one after the other.
use Rattle.std.proofs.Common.{◌≡◌, ℕ, zero, suc, ◌+◌, ◌-◌, max, List, ap, sym, ◌∙◌}
use Rattle.local_apics.specs.Nanosecond.{run as run_apics}
use Rattle.board_types.specs.declared.access.Access.{Access}
use Rattle.board_types.specs.declared.parts.BoardParts.{BoardParts}
use Rattle.board_devices.specs.Run.{run, onward}
use Rattle.board_core.specs.Access.{after_run, after_nanoseconds, after_act, after_access}
use Rattle.board_core.specs.Apics.{apics_in, tscs_by_time}
use Rattle.board_core.specs.Nanosecond.{passed, passed_times}
use Rattle.board_core.specs.Rises.{rises_after}
use Rattle.board_core.specs.Time.{devices_in, now_of, time_of_access}
use Rattle.board_core.proofs.Counted.{rises_after-none, rises_after-append}
use Rattle.board_core.proofs.Steps.{with_run}

-- a board after n nanoseconds of its devices and of its timers
abbrev ran : ℕ → ℕ → BoardParts → List ℕ → BoardParts
ran t n b rises = with_run b b.host (run t n (devices_in b)).state rises (run_apics (tscs_by_time b) t n (apics_in b))

passed_times-ran : (t n : ℕ) (b : BoardParts) → passed_times t n b ≡ ran t n b (rises_after b.format (run t n (devices_in b)).edges b.rises)
unfolding run onward passed
passed_times-ran t zero b = ap (λ (rises : List ℕ). record b { rises = rises }) (sym (rises_after-none b.format b.rises))
passed_times-ran t (suc n) b =
    ap (passed (t + n + 1)) (passed_times-ran t n b)
    ∙ ap (ran t (suc n) b) (sym (rises_after-append b.format (run t n (devices_in b)).edges _ b.rises))

pub after_run-nanoseconds : (b : BoardParts) (h : ℕ)
    → after_run b h ≡ after_nanoseconds b h
unfolding after_run
after_run-nanoseconds b h =
    sym (ap (λ (x : BoardParts). record x { host = max b.host h }) (passed_times-ran (now_of b) (time_of_access b h - now_of b) b))

pub after_access_nanoseconds : (b : BoardParts) (cpu h : ℕ) (a : Access) → after_access b cpu h a ≡ after_act (after_nanoseconds b h) cpu h a
unfolding after_access
after_access_nanoseconds b cpu h a = ap (λ (x : BoardParts). after_act x cpu h a) (after_run-nanoseconds b h)
