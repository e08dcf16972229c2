use Rattle.std.proofs.Common.{map}
use Rattle.race_phase.specs.Parts.{id_of}
use Rattle.trace_runner.proofs.race.race.Given as goal

abbrev pub ghosts-race_in : goal.ghosts-race_in
ghosts-race_in g a = record { opening = a.row.opening.id; pieces = map id_of a.row.pieces.items }
