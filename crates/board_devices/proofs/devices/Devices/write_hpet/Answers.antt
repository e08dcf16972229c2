use Rattle.std.proofs.Common.{◌≡◌, Bool, ◌&&◌, List, get_or, ◌++◌, append-nil, ap, sym, ◌∙◌}
use Rattle.rtc_registers.specs.Registers.{pf_of}
use Rattle.hpet_registers.specs.declared.parts.HpetParts.{HpetParts}
use Rattle.tick_policy.specs.declared.parts.TickParts.{TickParts}
use Rattle.board_devices.specs.declared.parts.DeviceParts.{DeviceParts}
use Rattle.board_devices.specs.declared.act.Act.TheVariants.{HpetWrite}
use Rattle.board_devices.specs.Places.{each, no_line}
use Rattle.board_devices.specs.Nanosecond.{counts_rtc}
use Rattle.board_devices.specs.Act.{acted, first_part, act_edges, rtc_set}
use Rattle.board_devices.specs.Lines.{levels}
use Rattle.board_devices.specs.View.{parts_of}
use Rattle.board_devices.proofs.Keeps.{IsDevices-each, KeepsLines-rtc_set, timers-hpet_written}
use Rattle.board_devices.proofs.Masks.{one_part, due-set, line_of_clock}
use Rattle.irq_edges.specs.declared.edges.Edge.{Edge}
use Rattle.board_devices.proofs.QuietWrites.{acted-quiet, edges-quiet, IsDevices-quiet}
use Rattle.board_devices.proofs.devices.Devices.write_hpet.Goals as goal

-- the devices after the write, their lines as before
moved : (c : goal.After-changes) → DeviceParts
moved c = record { pit = c.self.inside.pit; rtc = c.self.inside.rtc; hpet = c.write-2.new.self; ticks = c.self.inside.ticks; slew_ns = c.self.inside.slew_ns }

lines : (c : goal.After-changes) → c.set_clock_line.new.ticks ≡ each (rtc_set (counts_rtc (moved c) && pf_of (moved c).rtc)) 0 c.self.inside.ticks
unfolding moved
lines c = c.set_clock_line.ensures ∙ ap (λ (up : Bool). each (rtc_set up) 0 c.self.inside.ticks) c.clock_up.ensures

state : (c : goal.After-changes)
    → parts_of (record {
      pit = c.self.inside.pit;
      rtc = c.self.inside.rtc;
      hpet = c.write-2.new.self;
      ticks = c.set_clock_line.new.ticks;
      slew_ns = c.self.inside.slew_ns;
    }) ≡ acted (HpetWrite c.args.offset c.args.width c.args.v) (parts_of c.self.inside)
unfolding acted moved
state c =
    ap (λ (ls : List TickParts). record (moved c) { ticks = ls }) (lines c)
    ∙ ap (λ (x : HpetParts). record
    (parts_of c.self.inside) {
      hpet = x;
      ticks = each
          (rtc_set (counts_rtc (record (parts_of c.self.inside) { hpet = x }) && pf_of c.self.inside.rtc)) 0 c.self.inside.ticks;
    }) c.write-2.ensures.value

pub invariant_of-self-2 : goal.invariant_of-self-2
unfolding moved
invariant_of-self-2 c = IsDevices-each
    (parts_of c.self.inside) c.self.inside.pit c.self.inside.rtc c.write-2.new.self c.set_clock_line.new.ticks _ c.self.invariant (lines c)
    (KeepsLines-rtc_set (counts_rtc (moved c) && pf_of (moved c).rtc) c.self.inside.hpet.timers)
    (ap (λ (h : HpetParts). h.timers) c.write-2.ensures.value ∙ timers-hpet_written c.args.offset c.args.width c.args.v c.self.inside.hpet)
    (ap (λ (ls : List TickParts). (get_or ls 1 no_line).up) (lines c)
    ∙ line_of_clock (counts_rtc (moved c) && pf_of (moved c).rtc) c.self.inside.ticks c.self.invariant.places)

pub returns-clause-state : goal.returns-clause-state
returns-clause-state c = state c ∙ ap (acted (HpetWrite c.args.offset c.args.width c.args.v)) c.self.view_is

pub returns-clause-edges : goal.returns-clause-edges
unfolding first_part
returns-clause-edges c =
    one_part c.args.at c.args.edges.now c.changes.new.into c.lines_of-before.result.levels c.lines_of-after.result.levels (parts_of c.self.inside)
    (acted (HpetWrite c.args.offset c.args.width c.args.v) (parts_of c.self.inside))
    c.changes.ensures.appended (c.lines_of-before.ensures c.self.inside.pit c.self.inside.slew_ns)
    (c.lines_of-after.ensures c.self.inside.pit c.self.inside.slew_ns ∙ ap levels (state c))
    ∙ ap (λ (d : DeviceParts). c.args.edges.now ++ act_edges c.args.at (HpetWrite c.args.offset c.args.width c.args.v) d) c.self.view_is

pub returns-clause-due : goal.returns-clause-due
returns-clause-due c = λ k less. rw (← c.self.view_is)
    (due-set (counts_rtc (moved c) && pf_of (moved c).rtc) c.self.inside.ticks c.set_clock_line.new.ticks c.self.invariant.places (lines c) k less)

-- a write that moves no line
whole : (c : goal.After-write) → parts_of (record {
  pit = c.self.inside.pit;
  rtc = c.self.inside.rtc;
  hpet = c.write.new.self;
  ticks = c.self.inside.ticks;
  slew_ns = c.self.inside.slew_ns;
}) ≡ acted (HpetWrite c.args.offset c.args.width c.args.v) (parts_of c.self.inside)
whole c = ap (λ (h : HpetParts). record (parts_of c.self.inside) { hpet = h }) c.write.ensures.value
    ∙ acted-quiet c.args.offset c.args.width c.args.v (parts_of c.self.inside) c.self.invariant (sym c.moves_lines.ensures ∙ c.if-not-moves_lines.true)

pub invariant_of-self : goal.invariant_of-self
invariant_of-self c = IsDevices-quiet c.args.offset c.args.width c.args.v (parts_of c.self.inside) c.write.new.self c.self.invariant
    (sym c.moves_lines.ensures ∙ c.if-not-moves_lines.true) c.write.ensures.value

pub returns-then-not-moves_lines-clause-state : goal.returns-then-not-moves_lines-clause-state
returns-then-not-moves_lines-clause-state c = whole c ∙ ap (acted (HpetWrite c.args.offset c.args.width c.args.v)) c.self.view_is

pub returns-then-not-moves_lines-clause-edges : goal.returns-then-not-moves_lines-clause-edges
returns-then-not-moves_lines-clause-edges c =
    sym (ap (λ (d : DeviceParts). c.args.edges.now ++ act_edges c.args.at (HpetWrite c.args.offset c.args.width c.args.v) d) (sym c.self.view_is)
    ∙ ap (λ (es : List Edge). c.args.edges.now ++ es) (edges-quiet c.args.at c.args.offset c.args.width c.args.v (parts_of c.self.inside) c.self.invariant
    (sym c.moves_lines.ensures ∙ c.if-not-moves_lines.true))
    ∙ append-nil c.args.edges.now)
