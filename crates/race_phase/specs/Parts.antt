-- A trace in parts, and the phases that they make.
use Rattle.std.specs.Prelude.{
  ℕ,
  ◌≤◌,
  List,
  [],
  ◌∷◌,
  ◌++◌,
  All,
  Option,
  Some,
  None,
  IfSome,
  length,
  slice_index_or,
}
use Rattle.std.specs.Sync.OnceLock.{Named}
use Rattle.race_phase.specs.declared.opening.Opening.{Opening}
use Rattle.trace_blocks.specs.declared.ends.End.{End}
use Rattle.race_phase.specs.declared.phases.Phase.{Phase}
use Rattle.race_phase.specs.declared.piece.Part.{Part}
use Rattle.trace_blocks.specs.declared.records.Record.{Record}
use Rattle.race_phase.specs.Calls.{IsFitting}
use Rattle.trace_blocks.specs.Ends.{IsEnd}

-- the name of a place
abbrev pub id_of : Named → ℕ
id_of l = l.id

-- a part that a board of this many processors and this format takes: it has at most 2048 records
pub record IsPart (cpus format : ℕ) (p : Part) : Type 0 where
  pub records : All (IsFitting cpus format) p.records
  pub few : length p.records ≤ 2048
  pub end : IfSome p.end (IsEnd cpus)

-- the parts of a piece, and which boards they fit
pub record PieceParts : Type 0 where
  pub cpus : ℕ
  pub format : ℕ
  pub parts : List Part

-- a piece, and its place in the row
pub record ShownPiece : Type 0 where
  pub at : ℕ
  pub piece : PieceParts

-- a part of a piece, by its place there
abbrev pub part_at : PieceParts → ℕ → Part
part_at p k = slice_index_or p.parts k (record { records = []; end = None })

-- the phase of these records that ends, if it does; and the records that are left waiting
abbrev pub phase_by : Option End → List Record → List Phase
phase_by None rs = []
phase_by (Some e) rs = record { records = rs; end = e } ∷ []

abbrev pub left_open : Option End → List Record → List Record
left_open None rs = rs
left_open (Some e) rs = []

-- the phases that these parts end, where records wait before them; and the records that wait after them
abbrev pub phases_in : List Record → List Part → List Phase
phases_in rs [] = []
phases_in rs (p ∷ ps) =
    phase_by p.end (rs ++ p.records) ++ phases_in (left_open p.end (rs ++ p.records)) ps

abbrev pub open_in : List Record → List Part → List Record
open_in rs [] = rs
open_in rs (p ∷ ps) = open_in (left_open p.end (rs ++ p.records)) ps

-- a whole trace in a feed: what it begins with, unless the feed was closed before, and its phases
pub record WrittenTrace : Type 0 where
  pub opened : Option Opening
  pub phases : List Phase

-- a trace that is put: which boards its records are to fit, what it began with, the phases so far,
-- and the records after the last of them
pub record WriterParts : Type 0 where
  pub cpus : ℕ
  pub format : ℕ
  pub opened : Option (Option Opening)
  pub phases : List Phase
  pub last : List Record

-- the same before its first record
abbrev pub emptied : WriterParts → WriterParts
emptied w = record w { opened = None; phases = []; last = [] }
