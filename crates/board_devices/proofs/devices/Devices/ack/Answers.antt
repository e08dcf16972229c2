use Rattle.std.proofs.Common.{◌≡◌, ℕ, Bool, List, get_or, refl, ◌++◌, append_assoc, ap, sym, ◌∙◌, arith}
use Rattle.irq_edges.specs.declared.edges.Edge.{Edge}
use Rattle.irq_edges.specs.Lines.{change}
use Rattle.hpet_registers.specs.Parts.{is_legacy}
use Rattle.tick_policy.specs.declared.parts.TickParts.{TickParts}
use Rattle.board_devices.specs.declared.parts.DeviceParts.{DeviceParts}
use Rattle.board_devices.specs.declared.act.Act.TheVariants.{Ack}
use Rattle.board_devices.specs.Places.{each, no_line}
use Rattle.board_devices.specs.Act.{acks, acked_where, down_where, acted, act_edges}
use Rattle.board_devices.specs.View.{parts_of}
use Rattle.board_devices.specs.private.Acks.{level_by}
use Rattle.board_devices.proofs.Places.{each-at}
use Rattle.board_devices.proofs.Keeps.{IsDevices-each, KeepsLines-acked}
use Rattle.board_devices.proofs.Masks.{due-acked}
use Rattle.board_devices.proofs.AckEdges.{edges-ack}
use Rattle.board_devices.proofs.devices.Devices.ack.Goals as goal

again : (c : goal.After-push_change-2)
    → c.ack_lines-levels.new.ticks ≡ each (λ k l. acked_where (acks c.args.line c.self.inside.hpet k) l) 0 c.self.inside.ticks
again c = c.ack_lines-levels.ensures.state

pub invariant_of-self : goal.invariant_of-self
invariant_of-self c =
    let d : DeviceParts = parts_of c.self.inside in
    IsDevices-each d d.pit d.rtc d.hpet c.ack_lines-levels.new.ticks (λ k l. acked_where (acks c.args.line d.hpet k) l) c.self.invariant (again c)
    (KeepsLines-acked (acks c.args.line d.hpet) d.hpet.timers) refl
    (ap (λ (ls : List TickParts). (get_or ls 1 no_line).up) (again c)
    ∙ ap (λ (l : TickParts). l.up) (each-at (λ k l. acked_where (acks c.args.line d.hpet k) l) 0 1 d.ticks no_line
    (omega (arith, c.self.invariant.places))) ∙ c.self.invariant.flag)

pub returns-clause-state : goal.returns-clause-state
unfolding acted
returns-clause-state c = ap (λ (ls : List TickParts). record (parts_of c.self.inside) { ticks = ls }) (again c) ∙ ap (acted (Ack c.args.line)) c.self.view_is

pub returns-clause-due : goal.returns-clause-due
returns-clause-due c = λ k less. rw (← c.self.view_is)
    (due-acked (acks c.args.line c.self.inside.hpet) c.self.inside.ticks c.ack_lines-levels.new.ticks c.self.invariant.places (again c) k less)

pub returns-clause-edges : goal.returns-clause-edges
returns-clause-edges c =
    let d : DeviceParts = parts_of c.self.inside in
    let t = c.args.at in
    let x = c.ack_lines-levels.result in
    let before : x.before ≡ level_by (is_legacy d.hpet) c.args.line d.hpet d.ticks = c.ack_lines-levels.ensures.before in
    let between : x.between ≡ level_by (is_legacy d.hpet) c.args.line d.hpet (each (λ k l. down_where (acks c.args.line d.hpet k) l) 0 d.ticks) =
    c.ack_lines-levels.ensures.between in
    let after : x.after ≡ level_by (is_legacy d.hpet) c.args.line d.hpet (each (λ k l. acked_where (acks c.args.line d.hpet k) l) 0 d.ticks) =
    c.ack_lines-levels.ensures.after in
    c.push_change-2.ensures.appended
    ∙ ap (λ (es : List Edge). es ++ change t c.args.line x.between x.after) c.push_change.ensures.appended
    ∙ append_assoc c.args.edges.now (change t c.args.line x.before x.between) (change t c.args.line x.between x.after)
    ∙ ap (λ (es : List Edge). c.args.edges.now ++ es) (same t c.args.line before between after ∙ sym (edges-ack t c.args.line d c.self.invariant.places))
    ∙ ap (λ (e : DeviceParts). c.args.edges.now ++ act_edges t (Ack c.args.line) e) c.self.view_is
  where
    same : (t line : ℕ) {a b e f i j : Bool} → a ≡ b → e ≡ f → i ≡ j → change t line a e ++ change t line e i ≡ change t line b f ++ change t line f j
    same t line x y z = rw (x, y, z) refl
