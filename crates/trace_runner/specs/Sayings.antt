-- What commands say that read no trace.
use Rattle.std.specs.Prelude.{ℕ, Bool, true, false, List, Option, Some, None}
use Rattle.command_line.specs.declared.command.Command.{Command}
use Rattle.command_line.specs.declared.command.Command.TheVariants.{
  Replay,
  Race,
  Gen,
  Soak,
  Help,
  Version,
  Unknown,
}
use Rattle.trace_gen.specs.Text.{gen_text}
use Rattle.trace_replay.specs.Soak.{soak_of}
use Rattle.trace_runner.specs.declared.texts.TheConstants.{USAGE, VERSION}
use Rattle.trace_runner.specs.Text.{help_text}
use Rattle.trace_replay.specs.Status.{verdict_status}
use Rattle.trace_replay.specs.declared.status.Status.{Status}
use Rattle.trace_replay.specs.declared.status.Status.TheVariants.{Ok, Usage}

-- whether a command reads a trace from the source
abbrev pub reads_trace : Command → Bool
reads_trace (Replay shows_state) = true
reads_trace (Race shows_state) = true
reads_trace command = false

-- how a command ends, and its text
pub record Saying : Type 0 where
  pub status : Status
  pub text : List ℕ

-- what a command says that reads no trace: a generated trace, the sum of a soak over one, a page of
-- the help, the version, and the usage for words that are no command
abbrev pub saying_of : Command → Option Saying
saying_of (Replay shows_state) = None
saying_of (Race shows_state) = None
saying_of (Gen size) =
    Some (record { status = Ok; text = gen_text size.key size.records size.cpus })
saying_of (Soak size) =
    Some (record { status = verdict_status (soak_of size).end; text = (soak_of size).text })
saying_of (Help page) = Some (record { status = Ok; text = help_text page })
saying_of Version = Some (record { status = Ok; text = VERSION.now })
saying_of Unknown = Some (record { status = Usage; text = USAGE.now })
