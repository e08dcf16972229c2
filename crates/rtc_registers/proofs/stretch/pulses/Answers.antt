use Rattle.std.proofs.Common.{◌≡◌, refl, sym, zero-le}
use Rattle.rtc_cycle.specs.Divider.{ticks_in, updates_in}
use Rattle.rtc_registers.specs.declared.parts.RtcParts.{RtcParts}
use Rattle.rtc_registers.specs.Registers.{divider_of}
use Rattle.rtc_registers.proofs.Times.{alarms_in-no_update}
use Rattle.rtc_registers.proofs.stretch.pulses.Goals as goal

pub take_planned-requires-clause-within : goal.take_planned-requires-clause-within
take_planned-requires-clause-within c = c.if-is_quiet.ensures.within refl

pub returns-then-is_quiet-clause-taken : goal.returns-then-is_quiet-clause-taken
returns-then-is_quiet-clause-taken c =
    let r : RtcParts = c.args.r.now in
    let no_tick : ticks_in (divider_of r) c.args.n ≡ 0 = c.if-is_quiet.ensures.ticks refl in
    let no_update : updates_in (divider_of r) c.args.n ≡ 0 = c.if-is_quiet.ensures.updates refl in
    record {
      state = c.take_planned.ensures.state;
      ticks = sym no_tick;
      few_ticks = zero-le;
      first_tick = no_tick;
      updates = sym no_update;
      few_updates = zero-le;
      first_update = no_update;
      first_alarm = alarms_in-no_update c.args.n r c.requires.valid no_update;
    }
