use Rattle.race_tests.proofs.shared_board_tests.setups.test_on.Given as goal

abbrev pub ghosts-test_blank : goal.ghosts-test_blank
ghosts-test_blank g a = record { table = a.blank.0; state = a.blank.1; passes = a.passes }
