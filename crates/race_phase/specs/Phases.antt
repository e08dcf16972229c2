-- A trace of phases: what ends one, what it is refused, and what it prints.
use Rattle.std.specs.Prelude.{◌≡◌, ℕ, ◌≤◌, ◌^◌, List, [], ◌∷◌, ◌++◌, length, All, Option, None}
use Rattle.std.specs.Option.{option_or}
use Rattle.trace_blocks.specs.declared.deliveries.Deliveries.{Deliveries}
use Rattle.board_types.specs.declared.access.Access.TheVariants.{Step}
use Rattle.board_types.specs.declared.parts.BoardParts.{BoardParts}
use Rattle.board_core.specs.Access.{reply_of}
use Rattle.board_meters.specs.declared.meters.Meters.{Meters}
use Rattle.board_history.specs.History.{IsLegal, Opens, board_after, entries_of}
use Rattle.board_history.specs.declared.entry.Entry.{Entry}
use Rattle.board_history.specs.declared.entry.Entry.TheVariants.{Board}
use Rattle.reply_text.specs.declared.ends.Refused.{Refused}
use Rattle.trace_blocks.specs.declared.ends.End.{End}
use Rattle.trace_blocks.specs.declared.ends.End.TheVariants.{Finish, Save, Move}
use Rattle.race_phase.specs.declared.phases.Phase.{Phase}
use Rattle.trace_blocks.specs.Ends.{IsEnd, end_refusal, end_text, next_board, next_meters}
use Rattle.race_phase.specs.Calls.{IsFitting, Shown}
use Rattle.race_phase.specs.Order.{after_records, records_refusal}

-- a board of this many processors and this format takes a phase: its records, at most 2^62, and its end
pub record IsPhase (cpus format : ℕ) (v : Phase) : Type 0 where
  pub records : All (IsFitting cpus format) v.records
  pub few : length v.records ≤ 2 ^ 62
  pub end : IsEnd cpus v.end

-- the first fault of a trace in file order
abbrev pub after_phase : Meters → Phase → Meters
after_phase m v = next_meters v.end (after_records m v.records)

-- .. of a phase: that of its records, or else of its end
abbrev pub phase_refusal : Meters → Phase → Option Refused
phase_refusal m v = option_or (records_refusal m v.records) (end_refusal (after_records m v.records) v.end)

-- .. of phases, one after another
abbrev pub trace_refusal : Meters → List Phase → Option Refused
trace_refusal m [] = None
trace_refusal m (v ∷ vs) = option_or (phase_refusal m v) (trace_refusal (after_phase m v) vs)

-- the entry of what ends a phase, if that is an access: it is in its processor's pass
abbrev pub end_entries : End → BoardParts → List Entry
end_entries Finish b = []
end_entries (Save line cpu h) b = Board cpu cpu h Step (reply_of b cpu h Step) ∷ []
end_entries (Move line cpu h host) b = Board cpu cpu h Step (reply_of b cpu h Step) ∷ []

-- a phase that was run, with the access that ends it: there is one legal history, which opens with
-- the opening state. It has the entries of the records and no others, and the access as its last.
-- The text is the blocks of processor 0 in their order, then those of 1, and so on, and the end's
pub record PhaseEnded (opening : BoardParts) (ds : Deliveries) (v : Phase)
    (next : BoardParts) (out : List ℕ) : Type 0 where
  pub h : List Entry
  pub block : List ℕ
  pub legal : IsLegal (h ++ end_entries v.end (board_after h))
  pub opens : Opens opening h
  pub none_else : (n : ℕ) → opening.cpus ≤ n → entries_of n h ≡ []
  pub shown : Shown opening ds v.records h 0 opening.cpus block
  pub leaves : next ≡ next_board v.end (board_after h)
  pub text : out ≡ block ++ end_text ds v.end (board_after h)

-- the text of these phases from a state on, and the state that they leave. Each phase opens with
-- the board that the one before it left
abbrev pub race_text : Deliveries → BoardParts → List Phase → BoardParts → List ℕ → Type 0
race_text ds s [] state out = (state ≡ s) × (out ≡ [])
race_text ds s (v ∷ vs) state out =
    (next : BoardParts) × (first : List ℕ) × (rest : List ℕ) × (out ≡ first ++ rest)
    × PhaseEnded s ds v next first × race_text ds next vs state rest
