use Rattle.std.proofs.Common.{◌≡◌, ◌+◌, ◌-◌, arith, ap}
use Rattle.clk_units.specs.Pulses.{pulses_by, pulses_from}
use Rattle.clk_units.proofs.Pulses.{pulses_by-mono, pulses_from-joins, pulses_from_le}
use Rattle.clk_units.proofs.pulses_between.Goals as goal

pub overflow_sub-result : goal.overflow_sub-result
overflow_sub-result c =
    omega (arith, pulses_by-mono c.args.hz c.args.from c.args.to c.requires.forward, c.pulses_of.ensures.value, c.pulses_of-2.ensures.value)

pub returns-clause-value : goal.returns-clause-value
unfolding pulses_from
returns-clause-value c =
    let e : pulses_by c.args.hz (c.args.from + (c.args.to - c.args.from)) ≡ pulses_by c.args.hz c.args.to = ap (pulses_by c.args.hz) (omega arith) in
    omega (arith, e, c.pulses_of.ensures.value, c.pulses_of-2.ensures.value)

pub returns-clause-joins : goal.returns-clause-joins
returns-clause-joins c =
    omega (arith, pulses_by-mono c.args.hz c.args.from c.args.to c.requires.forward, c.pulses_of.ensures.value, c.pulses_of-2.ensures.value)

pub returns-clause-few : goal.returns-clause-few
returns-clause-few c =
    let e : pulses_by c.args.hz (c.args.from + (c.args.to - c.args.from)) ≡ pulses_by c.args.hz c.args.to = ap (pulses_by c.args.hz) (omega arith) in
    omega (
      arith,
      e,
      pulses_from_le c.args.hz c.args.from (c.args.to - c.args.from) c.requires.slow,
      pulses_from-joins c.args.hz c.args.from (c.args.to - c.args.from),
      c.pulses_of.ensures.value,
      c.pulses_of-2.ensures.value,
    )
