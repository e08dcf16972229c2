use Rattle.std.proofs.Common.{◌≡◌, false, ◌∙◌, sym, ap}
use Rattle.rtc_cycle.specs.Divider.{updates_in}
use Rattle.rtc_cycle.specs.declared.parts.DividerParts.{DividerParts}
use Rattle.rtc_registers.specs.Registers.{divider_of}
use Rattle.rtc_registers.proofs.Times.{time_of-no_update}
use Rattle.rtc_registers.proofs.Flags.{uip-low}
use Rattle.rtc_registers.proofs.access.rtc_read.Goals as goal

pub returns-in-10-clause-still : goal.returns-in-10-clause-still
returns-in-10-clause-still c = λ here low n few.
    let uip : c.uip.result ≡ false = uip-low c.uip.result _ c.byte_if.result c.byte_if.ensures.value low in
    let none : updates_in (divider_of c.args.r.now) n ≡ 0 = ap (λ (d : DividerParts). updates_in d n) (sym c.divider.ensures) ∙ c.uip.ensures.quiet uip n few in
    time_of-no_update n c.args.r.now c.requires none
