use Rattle.trace_text.proofs.Eights.{eight_joined}
use Rattle.trace_text.proofs.digits.joined.Goals as goal

pub returns : goal.returns
returns c = λ ds long fit e. eight_joined ds c.args.digits long fit e
