use Rattle.std.proofs.Common.{◌≡◌, Bool, ◌&&◌, not, List, get_or, ◌++◌, ap, sym, refl, ◌∙◌}
use Rattle.irq_edges.specs.declared.edges.Edge.{Edge}
use Rattle.irq_edges.specs.Lines.{change}
use Rattle.rtc_registers.specs.declared.parts.RtcParts.{RtcParts}
use Rattle.rtc_registers.specs.Registers.{pf_of, irqf_of}
use Rattle.rtc_registers.specs.Access.{rtc_written}
use Rattle.hpet_registers.specs.Parts.{is_legacy}
use Rattle.tick_policy.specs.declared.parts.TickParts.{TickParts}
use Rattle.board_devices.specs.declared.parts.DeviceParts.{DeviceParts}
use Rattle.board_devices.specs.declared.act.Act.TheVariants.{ClockWrite}
use Rattle.board_devices.specs.Places.{each, no_line}
use Rattle.board_devices.specs.Nanosecond.{counts_rtc}
use Rattle.board_devices.specs.Act.{acted, act_edges, rtc_set}
use Rattle.board_devices.specs.View.{parts_of}
use Rattle.board_devices.proofs.Masks.{due-set, line_of_clock}
use Rattle.board_devices.proofs.Keeps.{IsDevices-each, KeepsLines-rtc_set}
use Rattle.board_devices.proofs.ActEdges.{edges-clock_write, shown}
use Rattle.board_devices.proofs.devices.Devices.write_clock.Goals as goal

-- the devices after the write, their lines as before
moved : (c : goal.After-push_change) → DeviceParts
moved c = record { pit = c.self.inside.pit; rtc = c.write.new.self; hpet = c.self.inside.hpet; ticks = c.self.inside.ticks; slew_ns = c.self.inside.slew_ns }

lines : (c : goal.After-push_change) → c.set_clock_line.new.ticks ≡ each (rtc_set (counts_rtc (moved c) && pf_of (moved c).rtc)) 0 c.self.inside.ticks
unfolding moved
lines c = c.set_clock_line.ensures ∙ ap (λ (up : Bool). each (rtc_set up) 0 c.self.inside.ticks) c.clock_up.ensures

pub invariant_of-self : goal.invariant_of-self
unfolding moved
invariant_of-self c = IsDevices-each
    (parts_of c.self.inside) c.self.inside.pit c.write.new.self c.self.inside.hpet c.set_clock_line.new.ticks _ c.self.invariant (lines c)
    (KeepsLines-rtc_set (counts_rtc (moved c) && pf_of (moved c).rtc) c.self.inside.hpet.timers) refl
    (ap (λ (ls : List TickParts). (get_or ls 1 no_line).up) (lines c)
    ∙ line_of_clock (counts_rtc (moved c) && pf_of (moved c).rtc) c.self.inside.ticks c.self.invariant.places)

pub returns-clause-state : goal.returns-clause-state
unfolding acted moved
returns-clause-state c =
    ap (λ (ls : List TickParts). record (moved c) { ticks = ls }) (lines c)
    ∙ ap (λ (x : RtcParts). record (parts_of c.self.inside) {
      rtc = x;
      ticks = each
          (rtc_set (counts_rtc (record (parts_of c.self.inside) { rtc = x }) && pf_of x)) 0 c.self.inside.ticks;
    }) c.write.ensures
    ∙ ap (acted (ClockWrite c.args.byte)) c.self.view_is

pub returns-clause-edges : goal.returns-clause-edges
returns-clause-edges c = c.push_change.ensures.appended
    ∙ ap (λ (es : List Edge). c.args.edges.now ++ es) (
    ap (λ (b : Bool). change c.args.at 8 b c.where_plain-after.result) (before c)
    ∙ ap (change c.args.at 8 (shown (parts_of c.self.inside) c.self.inside.rtc)) (after c)
    ∙ sym (edges-clock_write c.args.at c.args.byte (parts_of c.self.inside)))
    ∙ ap (λ (d : DeviceParts). c.args.edges.now ++ act_edges c.args.at (ClockWrite c.args.byte) d) c.self.view_is
  where
    before : (c : goal.After-push_change) → c.where_plain-before.result ≡ shown (parts_of c.self.inside) c.self.inside.rtc
    before c = rw (c.where_plain-before.ensures, c.legacy-legacy.ensures, c.irqf.ensures) refl

    after : (c : goal.After-push_change) → c.where_plain-after.result ≡ shown (parts_of c.self.inside) (rtc_written c.args.byte c.self.inside.rtc)
    after c = rw (c.where_plain-after.ensures, c.legacy-legacy.ensures, c.irqf-2.ensures)
        (ap (λ (r : RtcParts). not (is_legacy c.self.inside.hpet) && irqf_of r) c.write.ensures)

pub returns-clause-due : goal.returns-clause-due
returns-clause-due c = λ k less. rw (← c.self.view_is)
    (due-set (counts_rtc (moved c) && pf_of (moved c).rtc) c.self.inside.ticks c.set_clock_line.new.ticks c.self.invariant.places (lines c) k less)
