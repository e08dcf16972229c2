-- What is true of a replay before each line, so that its calls' conditions are met.
use Rattle.std.specs.Prelude.{◌≡◌, ℕ, ◌+◌, ◌<◌}
use Rattle.clk_units.specs.Ranges.{IsKhz}
use Rattle.board_types.specs.declared.parts.BoardParts.{BoardParts}
use Rattle.trace_text.specs.Header.{IsBegin}
use Rattle.trace_text.specs.declared.reading.Item.{Item}
use Rattle.trace_text.specs.declared.reading.Item.TheVariants.{Skipped, Part, Begun, Next, End}
use Rattle.trace_text.specs.declared.reading.Stage.{Stage}
use Rattle.trace_text.specs.declared.reading.Stage.TheVariants.{
  Opening,
  Heading,
  Running,
  Ended,
  Refused,
}
use Rattle.trace_records.specs.Calls.{IsFittingCall}
use Rattle.trace_records.specs.declared.Job.{Job}
use Rattle.trace_records.specs.declared.Job.TheVariants.{Ask, Save, Move}
use Rattle.trace_replay.specs.declared.replay.Replay.{Replay}

-- a trace that goes on, and the board of its records
abbrev pub IsRound : Stage → BoardParts → Type 0
IsRound Opening b = Unit {0}
IsRound (Heading head) b = Unit {0}
IsRound (Running body) b = (body.cpus ≡ b.cpus) × (body.format ≡ b.format)
IsRound Ended b = ⊥
IsRound (Refused fault) b = ⊥

-- the reader has taken the lines before this one, and none that ended the trace
pub record IsReady (line : ℕ) (r : Replay) : Type 0 where
  pub count : r.reading.lines + 1 ≡ line
  pub round : IsRound r.reading.stage r.board

-- a board of this many processors and this format takes what a record does
abbrev pub JobSuits : ℕ → ℕ → Job → Type 0
JobSuits cpus format (Ask call) = IsFittingCall cpus format call
JobSuits cpus format Save = Unit {0}
JobSuits cpus format (Move khz start gap) = IsKhz khz

-- and a line
abbrev pub Suits : Item → BoardParts → Type 0
Suits Skipped b = Unit {0}
Suits Part b = Unit {0}
Suits (Begun header) b = IsBegin header.begin header.routes
Suits (Next rec) b = (rec.cpu < b.cpus) × JobSuits b.cpus b.format rec.job
Suits End b = Unit {0}
