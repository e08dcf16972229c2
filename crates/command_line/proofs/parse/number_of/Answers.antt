use Rattle.std.proofs.Common.{◌∙◌}
use Rattle.command_line.proofs.Numbers.{read}
use Rattle.command_line.proofs.parse.number_of.Goals as goal

pub returns : goal.returns
returns c = c.ok.ensures.value ∙ read c.args.text.now c.parse.result c.parse.ensures.value.0
