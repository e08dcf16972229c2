use Rattle.std.proofs.Common.{subst, ap, ◌∙◌}
use Rattle.rtc_registers.specs.Parts.{IsRtc}
use Rattle.rtc_registers.specs.Registers.{time_of}
use Rattle.rtc_registers.specs.Pulses.{rtc_pulsed_times}
use Rattle.rtc_registers.proofs.Times.{IsRtc-rtc_pulsed_times, time_of-while_set}
use Rattle.rtc_registers.proofs.rtc.Rtc.pulses.Goals as goal

pub invariant_of-self : goal.invariant_of-self
invariant_of-self c = record {
  valid = rw c.pulses.ensures.taken.state (IsRtc-rtc_pulsed_times c.args.n _ c.self.invariant.valid);
  planned = c.pulses.ensures.planned;
}

pub returns-clause-still : goal.returns-clause-still
returns-clause-still c = λ on.
    let valid : IsRtc c.args.self.now = subst IsRtc c.self.view_is c.self.invariant.valid in
    ap time_of (c.pulses.ensures.taken.state ∙ ap (rtc_pulsed_times c.args.n) c.self.view_is) ∙ time_of-while_set c.args.n c.args.self.now valid on
