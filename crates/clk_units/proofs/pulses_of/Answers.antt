use Rattle.std.proofs.Common.{◌∙◌, sym}
use Rattle.clk_units.proofs.Pulses.{pulses_by-split, falls_up_to-is}
use Rattle.clk_units.proofs.pulses_of.Goals as goal

pub returns-clause-value : goal.returns-clause-value
returns-clause-value c = pulses_by-split c.args.hz c.args.ns

pub returns-clause-counted : goal.returns-clause-counted
returns-clause-counted c = pulses_by-split c.args.hz c.args.ns ∙ sym (falls_up_to-is c.args.hz c.args.ns c.requires.slow)
