-- What records ask of a board.
use Rattle.std.specs.Prelude.{ℕ, ◌≡◌, ◌<◌, ◌≤◌, true}
use Rattle.board_types.specs.Legal.{is_legal}
use Rattle.board_types.specs.declared.setup.TheConstants.{HV_FORMAT}
use Rattle.trace_records.specs.declared.Asked.{Asked}
use Rattle.trace_records.specs.declared.Call.{Call}
use Rattle.trace_records.specs.declared.Call.TheVariants.{Act, ReadPage, ReadClock, ReadHv}
use Rattle.trace_records.specs.declared.ClockRead.{ClockRead}
use Rattle.trace_records.specs.declared.Job.TheVariants.{Ask}
use Rattle.trace_records.specs.declared.Record.{Record}

-- the record that asks for an access
abbrev pub asking : Asked → Record
asking a = record { cpu = a.cpu; h = a.h; job = Ask (Act a.access) }

-- .. and the one that reads the clock
abbrev pub reading : ClockRead → Record
reading r = record { cpu = r.cpu; h = r.h; job = Ask (ReadClock r.page) }

-- a board of this many processors and this format takes the access, or has the page
abbrev pub IsFittingCall : ℕ → ℕ → Call → Type 0
IsFittingCall cpus format (Act a) = is_legal cpus format a ≡ true
IsFittingCall cpus format (ReadPage page) = page < cpus
IsFittingCall cpus format (ReadClock page) = page < cpus
IsFittingCall cpus format ReadHv = HV_FORMAT ≤ format
