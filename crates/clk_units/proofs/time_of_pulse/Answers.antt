use Rattle.std.proofs.Common.{◌≡◌, ◌+◌, ◌*◌, ◌/◌, subst, arith, ℕ}
use Rattle.clk_units.specs.Pulses.{IsTimeOf, time_of}
use Rattle.clk_units.proofs.Pulses.{time_of-split, IsTimeOf-time_of}
use Rattle.clk_units.proofs.time_of_pulse.Goals as goal

pub returns-clause-value : goal.returns-clause-value
returns-clause-value c = omega (arith, c.div_ceil.ensures, time_of-split c.args.hz c.args.n c.requires.runs)

pub returns-clause-time : goal.returns-clause-time
returns-clause-time c =
    let value : time_of c.args.hz c.args.n ≡ c.args.n / c.args.hz * 1000000000 + c.div_ceil.result =
    omega (arith, c.div_ceil.ensures, time_of-split c.args.hz c.args.n c.requires.runs) in
    subst (λ (t : ℕ). IsTimeOf c.args.hz c.args.n t) value (IsTimeOf-time_of c.args.hz c.args.n c.requires.runs c.requires.slow)

pub overflow_mul-result : goal.overflow_mul-result
overflow_mul-result c = omega (arith, c.requires.fits, time_of-split c.args.hz c.args.n c.requires.runs)

pub overflow_add-result : goal.overflow_add-result
overflow_add-result c = omega (arith, c.requires.fits, c.div_ceil.ensures, time_of-split c.args.hz c.args.n c.requires.runs)
