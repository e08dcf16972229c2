use Rattle.std.proofs.Common.{◌^◌, ◌<◌, ap, sym, subst, ◌∙◌, arith}
use Rattle.clk_units.specs.Bits.{bit}
use Rattle.hpet_registers.specs.declared.parts.HpetParts.{HpetParts}
use Rattle.hpet_registers.specs.Parts.{IsHpet, timer_at}
use Rattle.hpet_registers.proofs.Conditions.{IsHpet-hpet_pulsed_times}
use Rattle.hpet_registers.proofs.Product.{kept-hpet_pulsed_times, matches_of-seen, status_bit-hpet_pulsed_times, timer_config-hpet_pulsed_times}
use Rattle.hpet_registers.proofs.hpet.Hpet.pulses.Goals as goal

pub invariant_of-self : goal.invariant_of-self
invariant_of-self c = record {
  valid = subst IsHpet (sym c.pulse.ensures.taken.state) (IsHpet-hpet_pulsed_times c.args.n c.self.inside.parts c.self.invariant.valid);
  planned = c.pulse.ensures.planned;
}

pub returns-clause-alone : goal.returns-clause-alone
returns-clause-alone c = rw (← c.self.view_is) (λ k inside.
    let fits : c.self.inside.parts.counter < 2 ^ 64 = omega arith in
    matches_of-seen k c.args.n c.self.inside.parts fits inside)

pub returns-clause-status : goal.returns-clause-status
returns-clause-status c = rw (← c.self.view_is) (λ k small.
    ap (λ (h : HpetParts). bit k h.status) c.pulse.ensures.taken.state ∙ status_bit-hpet_pulsed_times k c.args.n c.self.inside.parts small)

pub returns-clause-config : goal.returns-clause-config
returns-clause-config c = rw (← c.self.view_is) (λ k.
    ap (λ (h : HpetParts). (timer_at k h).config) c.pulse.ensures.taken.state ∙ timer_config-hpet_pulsed_times k c.args.n c.self.inside.parts)

pub returns-clause-kept : goal.returns-clause-kept
returns-clause-kept c = rw (← c.self.view_is) (
    c.pulse.ensures.taken.state
    ∙ (kept-hpet_pulsed_times c.args.n c.self.inside.parts
    ∙ ap (λ (h : HpetParts). record c.self.inside.parts { counter = h.counter; status = h.status; timer = h.timer }) (sym c.pulse.ensures.taken.state)))
