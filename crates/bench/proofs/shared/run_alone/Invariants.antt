use Rattle.bench.proofs.shared.run_alone.Given as goal

abbrev pub ghosts-on_shared : goal.ghosts-on_shared
ghosts-on_shared g a = record { table = a.blank.0; state = a.blank.1; passes = 1 }
