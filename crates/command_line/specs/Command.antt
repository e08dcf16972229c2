-- What words ask for: they are read as the crate clap reads a command with four positionals and a flag.
use Rattle.std.specs.Prelude.{
  ℕ,
  ◌^◌,
  ◌-◌,
  ◌<◌,
  ◌≤◌,
  ◌&&◌,
  nat_le,
  nat_lt,
  Bool,
  true,
  false,
  List,
  [],
  ◌∷◌,
  Option,
  Some,
  None,
  option_and_then,
  if◌then◌else◌,
  codes,
}
use Rattle.std.specs.Option.{option_map_or}
use Rattle.std.specs.Str.{bytes_eq}
use Rattle.std.specs.Str.Parse.{digits_value, without_leading_plus}
use Rattle.clap.specs.ValueTests.{is_unsigned_in}
use Rattle.clap.specs.Words.{
  App,
  Kinds,
  Row,
  Rule,
  Text,
  fault_of,
  first_of,
  matches_of,
  new_app,
  new_rule,
  with_rule,
}
use Rattle.clap.specs.declared.builder.action.ArgAction.TheVariants.{SetTrue}
use Rattle.clap.specs.declared.builder.value_parser.ValueParser.TheVariants.{Unsigned}
use Rattle.clap.specs.declared.error.kind.ErrorKind.{ErrorKind}
use Rattle.clap.specs.declared.error.kind.ErrorKind.TheVariants.{DisplayHelp, DisplayVersion}
use Rattle.command_line.specs.declared.command.Command.{Command}
use Rattle.command_line.specs.declared.command.Command.TheVariants.{
  Replay,
  Race,
  Gen,
  Soak,
  Help,
  Version,
  Unknown,
}
use Rattle.command_line.specs.declared.command.Page.{Page}
use Rattle.command_line.specs.declared.command.Page.TheVariants.{
  Overview,
  OfReplay,
  OfRace,
  OfGen,
  OfSoak,
}
use Rattle.command_line.specs.declared.command.Size.{Size}
use Rattle.trace_gen.specs.declared.generator.TheConstants.{RECORDS_MAX, CPUS_MAX}

-- a positional of a number in a range
abbrev pub number_rule : Text → ℕ → ℕ → Rule
number_rule id least most = record (new_rule id) { parser = Some (Unsigned least most) }

-- the positional of the job's name, which is needed
abbrev pub job_rule : Rule
job_rule = record (new_rule (codes "job")) { required = true }

-- the flag `--state`
abbrev pub state_rule : Rule
state_rule =
    record (new_rule (codes "state")) { long = Some (codes "state"); action = Some SetTrue }

-- a command that has a version, and no word of its own name
abbrev pub bare : App
bare =
    record (new_app (codes "clockboard")) {
      top = record (new_app (codes "clockboard")).top { no_binary_name = true; has_version = true };
    }

-- the command: a job, which is needed, a key, records and processors in their ranges, `--state`
abbrev pub app : App
app = with_rule (with_rule (with_rule (with_rule (with_rule bare job_rule)
    (number_rule (codes "key") 0 (2 ^ 64 - 1))) (number_rule (codes "records") 0 RECORDS_MAX))
    (number_rule (codes "cpus") 1 CPUS_MAX)) state_rule

-- a number of 64 bits, maybe after a plus
abbrev pub number_of : Text → Option ℕ
number_of text =
    if is_unsigned_in 0 (2 ^ 64 - 1) text then Some (digits_value 10 (without_leading_plus text))
    else None

-- the number that was given for a positional
abbrev pub number_in : Text → List Row → Option ℕ
number_in id rows = option_and_then number_of (first_of id rows)

-- whether a flag was used
abbrev pub is_used : Text → List Row → Bool
is_used id rows = option_map_or (λ text. bytes_eq text (codes "true")) (first_of id rows) false

-- `replay` and `race` take no number
abbrev pub trace_job : Command → Option ℕ → Option ℕ → Option ℕ → Command
trace_job command None None None = command
trace_job command key records cpus = Unknown

-- how large a trace may be that is generated
pub record IsSize (size : Size) : Type 0 where
  pub records : size.records ≤ RECORDS_MAX
  pub some_cpu : 0 < size.cpus
  pub cpus : size.cpus ≤ CPUS_MAX

-- the same as a test
abbrev pub in_range : ℕ → ℕ → Bool
in_range records cpus = nat_le records RECORDS_MAX && (nat_lt 0 cpus && nat_le cpus CPUS_MAX)

-- `gen` and `soak` take three, and no flag
abbrev pub size_of : Option ℕ → Option ℕ → Option ℕ → Bool → Option Size
size_of (Some key) (Some records) (Some cpus) false =
    if in_range records cpus then Some (record { key = key; records = records; cpus = cpus })
    else None
size_of key records cpus shows_state = None

-- the job of this name; `gen` and `soak` need the size of a generated trace
abbrev pub job_named : Text → Option ℕ → Option ℕ → Option ℕ → Bool → Command
job_named name key records cpus shows_state =
    if bytes_eq name (codes "replay") then trace_job (Replay shows_state) key records cpus
    else if bytes_eq name (codes "race") then trace_job (Race shows_state) key records cpus
    else if bytes_eq name (codes "gen") then option_map_or Gen (size_of key records cpus shows_state) Unknown
    else if bytes_eq name (codes "soak") then option_map_or Soak (size_of key records cpus shows_state) Unknown
    else Unknown

-- the job of these words, if one is named
abbrev pub asked_for : Option Text → Option ℕ → Option ℕ → Option ℕ → Bool → Command
asked_for None key records cpus shows_state = Unknown
asked_for (Some name) key records cpus shows_state = job_named name key records cpus shows_state

-- what clap's matches ask for
abbrev pub by_rows : List Row → Command
by_rows rows = asked_for (first_of (codes "job") rows) (number_in (codes "key") rows)
    (number_in (codes "records") rows) (number_in (codes "cpus") rows)
    (is_used (codes "state") rows)

-- a page of the help has the name of its job
abbrev pub page_named : Text → Page
page_named name =
    if bytes_eq name (codes "replay") then OfReplay
    else if bytes_eq name (codes "race") then OfRace
    else if bytes_eq name (codes "gen") then OfGen
    else if bytes_eq name (codes "soak") then OfSoak
    else Overview

-- the page that words ask for: that of the first word
abbrev pub page_of : List Text → Page
page_of [] = Overview
page_of (word ∷ words) = page_named word

-- what words ask for that clap refuses for this cause
abbrev pub refused_for : List Text → ErrorKind → Command
refused_for words DisplayHelp = Help (page_of words)
refused_for words DisplayVersion = Version
refused_for words kind = Unknown

-- what words ask for, by the errors that clap finds in them and its matches
abbrev pub by_kinds : List Text → Kinds → List Row → Command
by_kinds words [] rows = by_rows rows
by_kinds words (kind ∷ kinds) rows = refused_for words kind

-- what words ask for
unfoldable pub command_of : List Text → Command
command_of words = by_kinds words (fault_of app words) (matches_of app words)

-- a command with a size has one that may be
abbrev pub HasSize : Command → Type 0
HasSize (Gen size) = IsSize size
HasSize (Soak size) = IsSize size
HasSize command = Unit {0}
