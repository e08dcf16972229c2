use Rattle.std.proofs.Common.{rules}
use Rattle.hpet_comparator.specs.Stretch.{pulses_before}
use Rattle.hpet_comparator.proofs.Rounds.{matches_in-before}
use Rattle.hpet_comparator.proofs.parts.TimerParts.pulses_before.Goals as goal

pub returns-clause-value : goal.returns-clause-value
unfolding pulses_before
returns-clause-value c = search rules

pub returns-clause-quiet : goal.returns-clause-quiet
returns-clause-quiet c = λ n valid. matches_in-before c.args.from c.within.result n c.args.self.now valid (returns-clause-value c)
