use Rattle.clock_table.proofs.table.ClockTable.bump_read.Given as goal

abbrev pub ghosts-bump_read_as : goal.ghosts-bump_read_as
ghosts-bump_read_as g a = record { entry = a.entry.now }
