-- What a worker has taken of a trace's parts, and what it did with them.
use Rattle.std.specs.Prelude.{◌≡◌, ℕ, ◌<◌, List, [], ◌∷◌, length, All, Vec, Option, None, Some, Result, IfOk, Box}
use Rattle.trace_blocks.specs.declared.deliveries.Deliveries.{Deliveries}
use Rattle.board_types.specs.declared.parts.BoardParts.{BoardParts}
use Rattle.shared_board.specs.declared.known.PassKnown.{PassKnown}
use Rattle.trace_blocks.specs.declared.ends.End.{End}
use Rattle.race_phase.specs.declared.phases.Phase.{Phase}
use Rattle.race_phase.specs.declared.piece.Part.{Part}
use Rattle.race_phase.specs.Parts.{phases_in, open_in}
use Rattle.race_phase.specs.declared.phase.Gathered.{Gathered}
use Rattle.race_phase.specs.declared.work.Worked.{Worked}
use Rattle.shared_board.specs.Passes.{mine}
use Rattle.race_phase.specs.Order.{after_records, records_refusal}
use Rattle.race_phase.specs.Phases.{IsPhase, phase_refusal}
use Rattle.board_core.specs.Refusals.{meters_of}
use Rattle.race_phase.specs.private.Ran.{PhaseRan, PhaseTold}
use Rattle.race_phase.specs.private.Workers.{AllWorked, HasWorked}

-- the board that a phase left, or the first one
abbrev pub board_or : {A : Type 0} → BoardParts → Option (Box BoardParts A) → BoardParts
board_or first None = first
board_or first (Some board) = board.value

-- these parts are one phase, which has this end and fits the board
pub record ArePhase (s : BoardParts) (ps : List Part) (end : End) (v : Phase) : Type 0 where
  pub one : phases_in [] ps ≡ v ∷ []
  pub none_left : open_in [] ps ≡ []
  pub fits : IsPhase s.cpus s.format v
  pub ends : v.end ≡ end

-- a pass has answered its records of a phase in these parts, or has stopped
abbrev pub HasRun : BoardParts → Deliveries → List Part → End → ℕ → PassKnown → List ℕ → Type 0
HasRun s ds ps end n p out =
    (v : Phase) × ArePhase s ps end v × HasWorked s ds v.records n p out

-- a worker has run the records of its pass
abbrev pub HasRunOwn : {N F : Type 0} → BoardParts → Deliveries → Worked N F → Type 0
HasRunOwn s ds w = HasRun s ds w.taken.items w.end w.pass.number w.pass w.text.items

abbrev pub HaveRun : {N F : Type 0} → BoardParts → Deliveries → List (Worked N F) → Type 0
HaveRun s ds ws = All (HasRunOwn s ds) ws

-- the workers of each team that ended well have
abbrev pub AllRan : {N F A E : Type 0} → List (Result (Vec (Worked N F) A) E) → BoardParts → Deliveries → Type 0
AllRan xs s ds = All (λ x. IfOk x (λ ws. HaveRun s ds ws.items)) xs

-- what the workers of a phase gave: they have all run the same phase
pub record GatheredAll (s : BoardParts) (ds : Deliveries) (ps : List Part) (end : End)
    (passes : List PassKnown) (out : List ℕ) : Type 0 where
  pub v : Phase
  pub phase : ArePhase s ps end v
  pub worked : AllWorked s ds v.records 0 passes out

-- .. and before the first of them, nothing
pub record Gathers {N F : Type 0} (s : BoardParts) (ds : Deliveries) (g : Gathered N F) : Type 0 where
  pub none : length g.passes.items ≡ 0 → g.text ≡ []
  pub all : 0 < length g.passes.items → GatheredAll s ds g.taken.items g.end g.passes.items g.text

-- a pass that has made nothing, of a processor of the board
abbrev pub IsFresh : BoardParts → PassKnown → Type 0
IsFresh s p = (p.number < s.cpus) × (mine p ≡ []) × (p.misses ≡ [])

abbrev pub AreFresh : BoardParts → List PassKnown → Type 0
AreFresh s ps = All (IsFresh s) ps

-- a phase whose records were run on a board, which they left so, with this text
pub record PhaseRun (s : BoardParts) (ds : Deliveries) (ps : List Part) (end : End)
    (mid : BoardParts) (out : List ℕ) : Type 0 where
  pub v : Phase
  pub phase : ArePhase s ps end v
  pub told : records_refusal (meters_of s) v.records ≡ None → PhaseTold s ds v.records mid out
  pub alike : records_refusal (meters_of s) v.records ≡ None
      → after_records (meters_of s) v.records ≡ meters_of mid

-- a phase that was run after a text: it is one that these parts make, and it was run as a race runs
-- it if it isn't refused
pub record PhaseHasEnded (s : BoardParts) (ds : Deliveries) (ps : List Part) (end : End)
    (next : BoardParts) (old new : List ℕ) : Type 0 where
  pub v : Phase
  pub phase : ArePhase s ps end v
  pub ran : phase_refusal (meters_of s) v ≡ None → PhaseRan ds s v next old new
