use Rattle.std.proofs.Common.{rules, ◌≡◌, ◌==◌, false, ◌++◌, append-nil, List, ap, sym, subst, ◌∙◌}
use Rattle.std.proofs.lemmas.Bool.{ne_eqb}
use Rattle.irq_edges.specs.declared.edges.Edge.{Edge}
use Rattle.rtc_registers.specs.declared.parts.RtcParts.{RtcParts}
use Rattle.board_devices.specs.declared.parts.DeviceParts.{DeviceParts}
use Rattle.board_devices.specs.declared.act.Act.TheVariants.{ClockRead}
use Rattle.board_devices.specs.Act.{acted, act_edges}
use Rattle.board_devices.specs.Parts.{IsDevices}
use Rattle.board_devices.specs.View.{parts_of}
use Rattle.board_devices.proofs.ActEdges.{acted-other, edges-clock_other}
use Rattle.rtc_registers.proofs.Flags.{after_rtc_read-other}
use Rattle.board_devices.proofs.devices.Devices.read_clock.Goals as goal

other : (c : goal.After-read) → (c.self.inside.rtc.index == 12) ≡ false
other c = ne_eqb c.self.inside.rtc.index 12 (λ e. c.if-index-eq12.false (c.index.ensures.value ∙ e))

-- the read leaves the clock
rtc_is : (c : goal.After-read) → c.read.new.self ≡ c.self.inside.rtc
rtc_is c = c.read.ensures.state ∙ after_rtc_read-other c.self.inside.rtc (other c)

same : (c : goal.After-read) → parts_of
    (record { pit = c.self.inside.pit; rtc = c.read.new.self; hpet = c.self.inside.hpet; ticks = c.self.inside.ticks; slew_ns = c.self.inside.slew_ns })
    ≡ parts_of c.self.inside
same c = ap (λ (r : RtcParts). record (parts_of c.self.inside) { rtc = r }) (rtc_is c)

pub invariant_of-self : goal.invariant_of-self
invariant_of-self c = subst IsDevices (sym (same c)) c.self.invariant

pub returns-else-index-eq12 : goal.returns-else-index-eq12
returns-else-index-eq12 c = record {
  state = same c ∙ sym (acted-other (parts_of c.self.inside) (other c)) ∙ ap (acted ClockRead) c.self.view_is;
  value = search rules;
  edges = sym (ap (λ (d : DeviceParts). c.args.edges.now ++ act_edges c.args.at ClockRead d) (sym c.self.view_is)
      ∙ ap (λ (es : List Edge). c.args.edges.now ++ es) (edges-clock_other c.args.at (parts_of c.self.inside) (other c)) ∙ append-nil c.args.edges.now);
  few = search rules;
  due = search rules;
}
