use Rattle.std.proofs.Common.{◌+◌, ℕ, sym, arith, subst, zero-le}
use Rattle.pit_counter.specs.Parts.{IsCounter}
use Rattle.pit_counter.specs.declared.parts.CounterParts.{CounterParts}
use Rattle.pit_counter.specs.private.Taken.{HasTaken}
use Rattle.pit_counter.proofs.Times.{pulsed_times-zero, rises_in-zero, rises_in-le}
use Rattle.pit_counter.proofs.Joins.{HasTaken-joined, IfSome-first, IsCounter-pulsed_times}
use Rattle.pit_counter.proofs.stretch.leaps.Goals as goal

pub loop-pulses-init : goal.loop-pulses-init
loop-pulses-init c = record {
  within = zero-le;
  valid = c.requires;
  taken = record {
    state = sym (pulsed_times-zero c.args.p.now);
    count = sym (rises_in-zero c.args.p.now);
    first = rises_in-zero c.args.p.now;
  };
}

pub joined-rises-requires-clause-fits : goal.joined-rises-requires-clause-fits
joined-rises-requires-clause-fits c =
    omega (
      arith,
      rises_in-le c.args.p.now c.loop-pulses.pulses,
      rises_in-le c.loop-pulses.parts c.next_leap-next.result.pulses,
      c.loop-pulses.invariant.taken.count,
      c.next_leap-next.ensures.taken.count,
      c.next_leap-next.ensures.within,
    )

pub joined-rises-requires-clause-first_fits : goal.joined-rises-requires-clause-first_fits
joined-rises-requires-clause-first_fits c =
    IfSome-first c.loop-pulses.parts c.loop-pulses.pulses c.next_leap-next.result.pulses c.next_leap-next.result.rises.first
    c.next_leap-next.ensures.taken.first (omega (arith, c.next_leap-next.ensures.within))

pub loop-pulses-preserved : goal.loop-pulses-preserved
loop-pulses-preserved c =
    let taken : HasTaken (c.loop-pulses.pulses + c.next_leap-next.result.pulses) c.args.p.now c.next_leap-next.result.parts c.joined-rises.result =
    HasTaken-joined c.loop-pulses.pulses c.next_leap-next.result.pulses c.args.p.now c.loop-pulses.parts c.next_leap-next.result.parts
    c.loop-pulses.rises c.next_leap-next.result.rises c.joined-rises.result c.loop-pulses.invariant.taken c.next_leap-next.ensures.taken
    c.joined-rises.ensures.count c.joined-rises.ensures.first in
    record {
      within = omega (arith, c.next_leap-next.ensures.within);
      valid = subst (λ (d : CounterParts). IsCounter d) (sym taken.state)
          (IsCounter-pulsed_times c.args.p.now (c.loop-pulses.pulses + c.next_leap-next.result.pulses) c.requires);
      taken = taken;
    }

pub returns : goal.returns
returns c =
    subst (λ (n : ℕ). HasTaken n c.args.p.now c.loop-pulses.parts c.loop-pulses.rises) (omega (arith, c.loop-pulses.invariant.within))
    c.loop-pulses.invariant.taken
