use Rattle.hpet_comparator.proofs.Rounds.{matches_in-every}
use Rattle.hpet_comparator.proofs.parts.TimerParts.spacing.Goals as goal

pub returns-then-self-gt0-clause-every : goal.returns-then-self-gt0-clause-every
returns-then-self-gt0-clause-every c = λ from j. matches_in-every from j c.args.self.now

pub returns-then-is_32_bit-clause-every : goal.returns-then-is_32_bit-clause-every
returns-then-is_32_bit-clause-every c = λ from j. matches_in-every from j c.args.self.now

pub returns-else-is_32_bit-clause-every : goal.returns-else-is_32_bit-clause-every
returns-else-is_32_bit-clause-every c = λ from j. matches_in-every from j c.args.self.now
