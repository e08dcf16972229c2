-- Why a record of a trace is refused, in the words that are printed for it: a function of the meters of the board.
use Rattle.std.specs.Prelude.{ℕ, Option}
use Rattle.std.specs.Option.{option_or, option_map}
use Rattle.host_counter.specs.declared.Anchor.{Anchor}
use Rattle.host_counter.specs.declared.TimeFault.{TimeFault}
use Rattle.host_counter.specs.declared.TimeFault.TheVariants.{BeforeStart, OutOfRange}
use Rattle.board_types.specs.declared.access.Access.TheVariants.{Step}
use Rattle.board_types.specs.declared.reply.Refusal.{Refusal}
use Rattle.board_types.specs.declared.reply.Refusal.TheVariants.{
  NoTime,
  VersionsSpent,
  Spent as AccessesSpent,
}
use Rattle.board_meters.specs.declared.meters.Meters.{Meters}
use Rattle.board_meters.specs.declared.meters.MoveFault.{MoveFault}
use Rattle.board_meters.specs.declared.meters.MoveFault.TheVariants.{
  OutOfRange as GapOutOfRange,
  VersionsSpent as PageSpent,
}
use Rattle.board_meters.specs.Meters.{refusal_in, counted, move_fault_in}
use Rattle.host_counter.specs.Time.{time_fault}
use Rattle.reply_text.specs.declared.ends.Reason.TheVariants.{CounterFell}
use Rattle.reply_text.specs.declared.ends.Refused.{Refused}
use Rattle.reply_text.specs.declared.ends.Refused.TheVariants.{Invalid, Range, Versions, Spent}
use Rattle.trace_records.specs.declared.Call.{Call}
use Rattle.trace_records.specs.declared.Call.TheVariants.{Act, ReadPage, ReadClock, ReadHv}
use Rattle.trace_records.specs.declared.Job.{Job}
use Rattle.trace_records.specs.declared.Job.TheVariants.{Ask, Save, Move}

-- a count of the host's counter that has no time; one before the anchor's fell below it
abbrev pub refused_fault : TimeFault → Refused
refused_fault (BeforeStart start) = Invalid (CounterFell start)
refused_fault (OutOfRange ns) = Range ns

-- an access that the board refuses
abbrev pub refused_access : Refusal → Refused
refused_access (NoTime fault) = refused_fault fault
refused_access (VersionsSpent version) = Versions version
refused_access (AccessesSpent number) = Spent number

-- a move that is refused: the time after the gap, or the version of a page
abbrev pub refused_move : MoveFault → Refused
refused_move (GapOutOfRange ns) = Range ns
refused_move (PageSpent cpu version) = Versions version

-- why a count of the host's counter has no time, if it has none
unfoldable pub count_refusal : Anchor → ℕ → Option Refused
count_refusal anchor h = option_map refused_fault (time_fault anchor h)

-- why a call is refused: an access by the meters, a reading where its count has no time
abbrev pub call_refusal : Meters → ℕ → ℕ → Call → Option Refused
call_refusal m cpu h (Act a) = option_map refused_access (refusal_in m cpu h a)
call_refusal m cpu h (ReadPage page) = count_refusal m.anchor h
call_refusal m cpu h (ReadClock page) = count_refusal m.anchor h
call_refusal m cpu h ReadHv = count_refusal m.anchor h

-- why a save is refused: by its access
abbrev pub save_refusal : Meters → ℕ → ℕ → Option Refused
save_refusal m cpu h = option_map refused_access (refusal_in m cpu h Step)

-- why a move over a gap is refused: by its access, or then by the gap and the versions
abbrev pub move_refusal : Meters → ℕ → ℕ → ℕ → Option Refused
move_refusal m cpu h gap =
    option_or (save_refusal m cpu h)
    (option_map refused_move (move_fault_in gap (counted cpu h Step m)))

-- why a record is refused, by what it does
abbrev pub job_refusal : Meters → ℕ → ℕ → Job → Option Refused
job_refusal m cpu h (Ask call) = call_refusal m cpu h call
job_refusal m cpu h Save = save_refusal m cpu h
job_refusal m cpu h (Move khz start gap) = move_refusal m cpu h gap
