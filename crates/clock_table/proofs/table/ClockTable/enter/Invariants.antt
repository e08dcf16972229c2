use Rattle.clock_table.specs.Calls.{entry_of}
use Rattle.clock_table.proofs.table.ClockTable.enter.Given as goal

abbrev pub ghosts-enter_as : goal.ghosts-enter_as
ghosts-enter_as g a = record { entry = entry_of a.call.now a.reply.now }
