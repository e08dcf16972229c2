use Rattle.bench.proofs.shared.rate.Given as goal

abbrev pub ghosts-crowded : goal.ghosts-crowded
ghosts-crowded g a = record { table = a.blank.0; state = a.blank.1; passes = a.passes }
