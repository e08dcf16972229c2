-- The edges of a run of the devices, and the next of them.
use Rattle.std.proofs.Common.{◌≡◌, ◌≢◌, ℕ, ◌+◌, ◌-◌, ◌≤◌, Bool, true, false, cond, refl, ap, subst, sym, ◌∙◌, arith, List, [], length, Option, Some, None}
use Rattle.irq_edges.specs.declared.edges.Edge.{Edge}
use Rattle.irq_edges.specs.Lines.{line_numbers}
use Rattle.irq_edges.specs.Rises.{levels_at, rises_of, IsNextRise}
use Rattle.irq_edges.proofs.RisesOf.{run-edges, rises_of-next, rises_of-none, rises_of-before}
use Rattle.irq_edges.proofs.UpFrom.{changes-some}
use Rattle.board_devices.specs.declared.parts.DeviceParts.{DeviceParts}
use Rattle.board_devices.specs.Lines.{levels}
use Rattle.board_devices.specs.Run.{run, onward}
use Rattle.board_devices.specs.private.Runs.{IsEdgeBy}
use Rattle.board_devices.specs.private.Stretch.{told_levels}

module _ (d : DeviceParts) (us : List (Option ℕ)) (t to : ℕ) (levels_are : (j : ℕ) → t + j ≤ to → levels (run t j d).state ≡ levels_at (t + j) us) where
  pub edges-run : (n : ℕ) → t + n ≤ to → (run t n d).edges ≡ rises_of line_numbers us t n
  unfolding run onward
  edges-run n h = run-edges line_numbers us t (λ j. levels (run t j d).state) (λ j. (run t j d).edges) refl (λ j. refl) n (λ j le. levels_are j (omega arith))

  pub next-is : (next : Option ℕ) → t ≤ to → length us ≤ 6 → IsNextRise us t to next → IsEdgeBy t to d next
  next-is None order few is_next = edges-run (to - t) (omega arith) ∙ rises_of-none line_numbers us t to (to - t) is_next (omega arith)
  next-is (Some r) order few is_next = (
    is_next.0,
    is_next.1,
    edges-run (r - 1 - t) (omega (arith, is_next.1)) ∙ rises_of-before line_numbers us t to r (r - 1 - t) is_next (omega (arith, is_next.0)),
    subst (λ (es : List Edge). es ≢ []) (sym (edges-run (r - t) (omega (arith, is_next.1, is_next.0)) ∙ rises_of-next line_numbers us t to r is_next))
        (changes-some r t r r line_numbers us few is_next.2 is_next.0 (omega arith)),
  )

-- no nanoseconds
pub run_none_state : (t u : ℕ) (d : DeviceParts) → t ≡ u → (run t (u - t) d).state ≡ d
unfolding run
run_none_state t u d e = let none : u - t ≡ 0 = omega arith in subst (λ (n : ℕ). (run t n d).state ≡ d) (sym none) refl

pub run_none_edges : (t u : ℕ) (d : DeviceParts) → t ≡ u → (run t (u - t) d).edges ≡ []
unfolding run
run_none_edges t u d e = let none : u - t ≡ 0 = omega arith in subst (λ (n : ℕ). (run t n d).edges ≡ []) (sym none) refl

-- the levels that a run told, where something came and where nothing did
pub told-moved : (d : DeviceParts) (us : List (Option ℕ)) (t to : ℕ) (came : Bool) → came ≡ true
    → ((j : ℕ) → t + j ≤ to → levels (run t j d).state ≡ told_levels (t + j) (levels d) (cond came (Some us) None))
    → (j : ℕ) → t + j ≤ to → levels (run t j d).state ≡ levels_at (t + j) us
told-moved d us t to came is told = λ j le. told j le ∙ ap (λ (b : Bool). told_levels (t + j) (levels d) (cond b (Some us) None)) is

pub told-still : (d : DeviceParts) (us : List (Option ℕ)) (t to : ℕ) (came : Bool) → came ≡ false
    → ((j : ℕ) → t + j ≤ to → levels (run t j d).state ≡ told_levels (t + j) (levels d) (cond came (Some us) None))
    → (j : ℕ) → t + j ≤ to → levels (run t j d).state ≡ levels d
told-still d us t to came is told = λ j le. told j le ∙ ap (λ (b : Bool). told_levels (t + j) (levels d) (cond b (Some us) None)) is
