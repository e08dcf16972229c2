use Rattle.std.proofs.Common.{refl, arith}
use Rattle.clock_table.proofs.EndSteps.{no_page-everywhere}
use Rattle.clock_table.proofs.closed.pages_of.Goals as goal

pub loop-page-init : goal.loop-page-init
loop-page-init c = record { long = refl; done = λ k a b. absurd (omega arith); rest = λ k a. no_page-everywhere 65 k }
