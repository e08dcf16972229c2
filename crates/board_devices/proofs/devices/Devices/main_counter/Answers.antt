use Rattle.std.proofs.Common.{◌≡◌, ◌-◌, ◌+◌, ◌%◌, ◌^◌, ◌<◌, ℕ, ap, sym, subst, ◌∙◌, arith}
use Rattle.hpet_registers.specs.declared.parts.HpetParts.{HpetParts}
use Rattle.board_devices.specs.declared.parts.DeviceParts.{DeviceParts}
use Rattle.board_devices.proofs.MainCounter.{counter-standing, counter-running}
use Rattle.board_devices.proofs.devices.Devices.main_counter.Goals as goal

pub returns-then-hpet-eq0 : goal.returns-then-hpet-eq0
returns-then-hpet-eq0 c =
    let same : c.parts-hpet.result ≡ c.args.self.now.hpet = c.parts-hpet.ensures.parts ∙ ap (λ (d : DeviceParts). d.hpet) c.self.view_is in
    ap (λ (h : HpetParts). h.counter) same
    ∙ counter-standing c.args.from (c.args.to - c.args.from) c.args.self.now (subst (λ (h : HpetParts). h.config % 2 ≡ 0) same c.if-hpet-eq0.true)

pub returns : goal.returns
returns c =
    let same : c.parts-hpet.result ≡ c.args.self.now.hpet = c.parts-hpet.ensures.parts ∙ ap (λ (d : DeviceParts). d.hpet) c.self.view_is in
    ap (λ (h : HpetParts). (h.counter + c.hpet_pulses.result) % 2 ^ 64) same
    ∙ ap (λ (n : ℕ). (c.args.self.now.hpet.counter + n) % 2 ^ 64) c.hpet_pulses.ensures.value
    ∙ counter-running c.args.from (c.args.to - c.args.from) c.args.self.now
    (λ even. c.if-hpet-eq0.false (subst (λ (h : HpetParts). h.config % 2 ≡ 0) (sym same) even))
    (subst (λ (h : HpetParts). h.counter < 2 ^ 64) same (omega (arith, c.parts-hpet.type_inv.1.1.0)))
