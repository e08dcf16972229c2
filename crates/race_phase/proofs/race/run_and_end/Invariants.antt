use Rattle.race_phase.proofs.race.run_and_end.Given as goal

abbrev pub ghosts-run_phase : goal.ghosts-run_phase
ghosts-run_phase g a = record { table = a.blank.0; state = a.blank.1; passes = a.state.now.cpus }
