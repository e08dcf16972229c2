use Rattle.std.proofs.Common.{refl, sym, subst}
use Rattle.clock_table.specs.Calls.{IsPass}
use Rattle.race_tests.proofs.shared_board_tests.words.tried_while_open.Goals as goal

pub try_table_on-tried-requires-clause-pass : goal.try_table_on-tried-requires-clause-pass
try_table_on-tried-requires-clause-pass g c = subst IsPass (sym c.split_pass-two.ensures.right) (record { number = (_, refl); meet = refl })
