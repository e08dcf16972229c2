use Rattle.std.proofs.Common.{◌∙◌, sym, ap, subst}
use Rattle.rtc_cycle.specs.Divider.{uip_of}
use Rattle.rtc_cycle.specs.Parts.{IsDivider}
use Rattle.rtc_cycle.proofs.Times.{uip-early, uip-quiet}
use Rattle.rtc_cycle.proofs.divider.Divider.uip.Goals as goal

pub returns-clause-early : goal.returns-clause-early
returns-clause-early c = λ h k few.
    let valid : IsDivider c.args.self.now = subst IsDivider c.self.view_is c.self.invariant in
    uip-early k c.args.self.now valid.below (ap uip_of (sym c.self.view_is) ∙ sym c.is_updating.ensures ∙ h) few

pub returns-clause-quiet : goal.returns-clause-quiet
returns-clause-quiet c = λ h n few.
    let valid : IsDivider c.args.self.now = subst IsDivider c.self.view_is c.self.invariant in
    uip-quiet n c.args.self.now valid.below (ap uip_of (sym c.self.view_is) ∙ sym c.is_updating.ensures ∙ h) few
