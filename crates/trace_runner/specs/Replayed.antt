-- The board of a replay, worked out from the records that a check has kept.
use Rattle.std.specs.Prelude.{ℕ, List, [], ◌∷◌}
use Rattle.board_types.specs.declared.access.Access.TheVariants.{Step}
use Rattle.board_types.specs.declared.parts.BoardParts.{BoardParts}
use Rattle.board_core.specs.Access.{after_access}
use Rattle.board_core.specs.Pages.{after_clock}
use Rattle.transfer.specs.Move.{moved_to}
use Rattle.trace_records.specs.declared.Job.{Job}
use Rattle.trace_records.specs.declared.Job.TheVariants.{Ask, Save, Move}
use Rattle.trace_blocks.specs.Ends.{next_board}
use Rattle.trace_records.specs.declared.Call.{Call}
use Rattle.trace_records.specs.declared.Call.TheVariants.{Act, ReadPage, ReadClock, ReadHv}
use Rattle.trace_blocks.specs.declared.records.Record.{Record}
use Rattle.trace_runner.specs.Checking.{Checking}
use Rattle.race_phase.specs.declared.phases.Phase.{Phase}

-- the board after a call that is answered
abbrev pub board_after_phases : BoardParts → ℕ → ℕ → Call → BoardParts
board_after_phases b cpu h (Act a) = after_access b cpu h a
board_after_phases b cpu h (ReadPage page) = b
board_after_phases b cpu h (ReadClock page) = after_clock b page h
board_after_phases b cpu h ReadHv = b

-- after records, in order
abbrev pub records_after : BoardParts → List Record → BoardParts
records_after b [] = b
records_after b (r ∷ rs) = records_after (board_after_phases b r.cpu r.h r.call) rs

-- after these phases, and the records that stand after the last of them
abbrev pub replayed : BoardParts → List Phase → List Record → BoardParts
replayed b [] rs = records_after b rs
replayed b (v ∷ vs) rs = replayed (next_board v.end (records_after b v.records)) vs rs

-- a check with another board
abbrev pub on_board : BoardParts → Checking → Checking
on_board b s = record s { replay = record s.replay { board = b } }

-- the board after a record that is answered
abbrev pub job_after : ℕ → ℕ → Job → BoardParts → BoardParts
job_after cpu h (Ask call) b = board_after_phases b cpu h call
job_after cpu h Save b = after_access b cpu h Step
job_after cpu h (Move khz start gap) b = moved_to khz start gap (after_access b cpu h Step)
