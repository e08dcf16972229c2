use Rattle.std.proofs.Common.{◌≡◌, ◌+◌, List, map, cond, ltb, get_or, ap, sym, subst, ◌∙◌}
use Rattle.hpet_registers.specs.declared.parts.HpetParts.{HpetParts}
use Rattle.hpet_registers.specs.Parts.{IsHpet}
use Rattle.tick_policy.specs.declared.parts.TickParts.{TickParts}
use Rattle.tick_policy.specs.Line.{line_at_power_on}
use Rattle.board_devices.specs.declared.parts.DeviceParts.{DeviceParts}
use Rattle.board_devices.specs.Places.{each, no_line}
use Rattle.board_devices.specs.Lines.{levels}
use Rattle.board_devices.specs.Parts.{IsDevices, line_upgraded, devices_upgraded}
use Rattle.board_devices.specs.View.{parts_of}
use Rattle.board_devices.specs.private.Stretch.{ten}
use Rattle.board_devices.proofs.Upgrade.{each-ten, IsDevices-upgraded, levels-upgraded}
use Rattle.board_devices.proofs.devices.Devices.upgraded.Goals as goal

before : (c : goal.After-lines_upgraded) → c.parts-before.result ≡ parts_of c.self.inside
before c = c.parts-before.ensures.value ∙ sym c.self.view_is

hpet : (c : goal.After-lines_upgraded) → IsHpet c.self.inside.hpet
hpet c = subst (λ (d : DeviceParts). IsHpet d.hpet) (before c) c.parts-before.ensures.valid.hpet

lines : (c : goal.After-lines_upgraded) → c.lines_upgraded.result ≡ each (line_upgraded (parts_of c.self.inside)) 0 c.self.inside.ticks
lines c =
    c.lines_upgraded.ensures
    ∙ ap (λ (d : DeviceParts). map (λ k. cond (ltb k (d.hpet.timers + 2)) (get_or c.self.inside.ticks k no_line)
    (line_at_power_on (get_or c.self.inside.ticks 2 no_line).policy)) ten) (before c)
    ∙ each-ten (line_upgraded (parts_of c.self.inside)) c.self.inside.ticks c.self.invariant.places

state : (c : goal.After-lines_upgraded)
    → parts_of (record {
      pit = c.self.inside.pit;
      rtc = c.self.inside.rtc;
      hpet = c.with_eight_timers.result;
      ticks = c.lines_upgraded.result;
      slew_ns = c.self.inside.slew_ns;
    }) ≡ devices_upgraded c.args.messages (parts_of c.self.inside)
unfolding devices_upgraded
state c =
    ap (λ (ls : List TickParts). record (parts_of c.self.inside) { hpet = c.with_eight_timers.result; ticks = ls }) (lines c)
    ∙ ap (λ (h : HpetParts). record
    (parts_of c.self.inside) { hpet = h; ticks = each (line_upgraded (parts_of c.self.inside)) 0 c.self.inside.ticks }) c.with_eight_timers.ensures

pub invariant_of-result : goal.invariant_of-result
invariant_of-result c = subst IsDevices (sym (state c)) (IsDevices-upgraded c.args.messages (parts_of c.self.inside) (hpet c) c.self.invariant)

pub returns-clause-value : goal.returns-clause-value
returns-clause-value c = state c ∙ ap (devices_upgraded c.args.messages) c.self.view_is

pub returns-clause-levels : goal.returns-clause-levels
returns-clause-levels c =
    ap levels (state c) ∙ levels-upgraded c.args.messages (parts_of c.self.inside) (hpet c) c.self.invariant.places ∙ ap levels c.self.view_is
