-- Looks at the deadlines that find none.
use Rattle.std.proofs.Common.{◌≡◌, ◌≢◌, ℕ, suc, ◌+◌, ◌-◌, ◌<◌, false, List, sym, ap, ◌∙◌, arith}
use Rattle.local_apics.specs.declared.parts.ApicsParts.{ApicsParts}
use Rattle.local_apics.specs.Parts.{AreApicsOf}
use Rattle.local_apics.specs.Nanosecond.{run as run_apics, at_nanosecond, looked_all}
use Rattle.local_apics.proofs.Joins.{look-again}
use Rattle.local_apics.proofs.Keeps.{AreApicsOf-run}
use Rattle.board_types.specs.declared.access.Access.{Access}
use Rattle.board_types.specs.declared.parts.BoardParts.{BoardParts}
use Rattle.board_types.specs.declared.parts.ProcessorParts.{ProcessorParts}
use Rattle.board_core.specs.Time.{now_of, time_of_access}
use Rattle.board_core.specs.Apics.{apics_of, apics_in, with_apics, tscs_by_time, apics_acted, after_look}
use Rattle.board_core.specs.private.Calls.{apics_ran_to}
use Rattle.board_core.specs.Access.{after_run, before_look}
use Rattle.board_core.specs.private.Kinds.{writes}
use Rattle.board_core.proofs.ApicTimers.{tscs_read}
use Rattle.board_core.proofs.Times.{time_at_max}
use Rattle.board_core.proofs.Kept.{processors-kept, apics-kept}

-- a run looks at them in its last nanosecond
pub look-ran : (b : BoardParts) (h : ℕ) → AreApicsOf (apics_of b.format b.cpus) (apics_in b) → 0 < b.anchor.khz → now_of b ≢ time_of_access b h
    → after_look (after_run b h) ≡ after_run b h
unfolding after_look after_run
look-ran b h valid runs passes =
    let tsc : ℕ → ℕ → ℕ = tscs_by_time b in
    let m : ℕ = time_of_access b h - now_of b - 1 in
    let more : time_of_access b h - now_of b ≡ suc m = omega (arith, passes) in
    let before : ApicsParts = run_apics tsc (now_of b) m (apics_in b) in
    let last : ℕ → ℕ = λ k. tsc k (now_of b + m + 1) in
    let kept : AreApicsOf (apics_of b.format b.cpus) before = AreApicsOf-run (apics_of b.format b.cpus) tsc (now_of b) m (apics_in b) valid in
    let ran : apics_ran_to b h ≡ at_nanosecond last before = ap (λ (n : ℕ). run_apics tsc (now_of b) n (apics_in b)) more in
    let to : now_of b + m + 1 ≡ time_of_access b h = omega (arith, passes) in
    let again : looked_all last (at_nanosecond last before) ≡ at_nanosecond last before =
    look-again last before (λ k less. (kept.place k (omega (arith, less, kept.timers))).timer) in
    ap (λ (t : ℕ). with_apics (looked_all (λ k. tsc k t) (apics_ran_to b h)) (after_run b h)) (time_at_max b.anchor b.host h runs ∙ sym to)
    ∙ ap (λ (a : ApicsParts). with_apics a (after_run b h)) (ap (looked_all last) ran ∙ again ∙ sym ran)

-- an access that writes nothing moves no TSC and no deadline
pub look-kept : (b : BoardParts) (cpu h : ℕ) (a : Access) → writes a ≡ false → after_look b ≡ b
    → after_look (before_look b cpu h a) ≡ before_look b cpu h a
unfolding after_look before_look
look-kept b cpu h a quiet looked =
    let same : apics_acted cpu a (apics_in b) ≡ apics_in b = apics-kept cpu a (apics_in b) quiet in
    ap (λ (ps : List ProcessorParts). with_apics (looked_all (λ k. tscs_read b.anchor b.guest_khz ps k (now_of b)) (apics_acted cpu a (apics_in b)))
    (before_look b cpu h a)) (processors-kept b.anchor b.guest_khz cpu h a b.processors quiet)
    ∙ ap (λ (x : ApicsParts). with_apics x (before_look b cpu h a))
    (ap (looked_all (λ k. tscs_by_time b k (now_of b))) same ∙ ap apics_in looked ∙ sym same)
