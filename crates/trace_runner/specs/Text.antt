-- The pages of the help, which are constants of the program.
use Rattle.std.specs.Prelude.{ℕ, List}
use Rattle.command_line.specs.declared.command.Page.{Page}
use Rattle.command_line.specs.declared.command.Page.TheVariants.{
  Overview,
  OfReplay,
  OfRace,
  OfGen,
  OfSoak,
}
use Rattle.trace_runner.specs.declared.texts.TheConstants.{
  HELP,
  REPLAY_HELP,
  RACE_HELP,
  GEN_HELP,
  SOAK_HELP,
}

abbrev pub help_text : Page → List ℕ
help_text Overview = HELP.now
help_text OfReplay = REPLAY_HELP.now
help_text OfRace = RACE_HELP.now
help_text OfGen = GEN_HELP.now
help_text OfSoak = SOAK_HELP.now
