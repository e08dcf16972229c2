use Rattle.race_tests.proofs.shared_board_tests.words.a_try_meets_an_open_page.Given as goal

abbrev pub ghosts-tried_while_open : goal.ghosts-tried_while_open
ghosts-tried_while_open g a = record { table = a.blank.0; state = a.blank.1; passes = 2 }
