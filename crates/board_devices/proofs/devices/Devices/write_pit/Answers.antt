use Rattle.std.proofs.Common.{◌≡◌, Bool, ◌||◌, List, get_or, ◌++◌, ap, sym, refl, ◌∙◌, arith}
use Rattle.std.proofs.lemmas.List.{get_or_default}
use Rattle.irq_edges.specs.Lines.{change}
use Rattle.irq_edges.specs.declared.edges.Edge.{Edge}
use Rattle.pit_readback.specs.declared.parts.PitParts.{PitParts}
use Rattle.tick_policy.specs.declared.parts.TickParts.{TickParts}
use Rattle.board_devices.specs.declared.parts.DeviceParts.{DeviceParts}
use Rattle.board_devices.specs.declared.act.Act.TheVariants.{PitWrite}
use Rattle.board_devices.specs.Places.{line_at, no_line, ticked_at}
use Rattle.board_devices.specs.Act.{acted, act_edges, pit_ticked, ticks_on_write}
use Rattle.board_devices.specs.View.{parts_of}
use Rattle.board_devices.proofs.Places.{each-at}
use Rattle.board_devices.proofs.Masks.{due-ticked}
use Rattle.board_devices.proofs.Keeps.{IsDevices-each, KeepsLines-pit_ticked}
use Rattle.board_devices.proofs.ActEdges.{edges-pit_write}
use Rattle.board_devices.proofs.devices.Devices.write_pit.Goals as goal

rises : (c : goal.After-push_change) → Bool
rises c = ticks_on_write c.args.port c.args.byte (parts_of c.self.inside)

counted : (c : goal.After-push_change) → c.is_counted-counted.result ≡ rises c
unfolding rises
counted c = rw (c.is_counted-counted.ensures, c.write.ensures.rose, c.legacy-legacy.ensures) refl

lines : (c : goal.After-push_change) → c.tick_first.new.ticks ≡ ticked_at (pit_ticked (rises c)) c.self.inside.ticks
lines c = c.tick_first.ensures ∙ ap (λ (b : Bool). ticked_at (pit_ticked b) c.self.inside.ticks) (counted c)

pub invariant_of-self : goal.invariant_of-self
unfolding rises
invariant_of-self c = IsDevices-each (parts_of c.self.inside) c.write.new.self c.self.inside.rtc c.self.inside.hpet c.tick_first.new.ticks _ c.self.invariant
    (lines c) (KeepsLines-pit_ticked (rises c) c.self.inside.hpet.timers) refl
    (ap (λ (ls : List TickParts). (get_or ls 1 no_line).up) (lines c)
    ∙ ap (λ (l : TickParts). l.up) (each-at _ 0 1 c.self.inside.ticks no_line (omega (arith, c.self.invariant.places))) ∙ c.self.invariant.flag)

pub returns-clause-state : goal.returns-clause-state
unfolding acted rises
returns-clause-state c =
    ap (λ (ls : List TickParts). record (parts_of c.self.inside) { pit = c.write.new.self; ticks = ls }) (lines c)
    ∙ ap (λ (x : PitParts). record (parts_of c.self.inside) { pit = x; ticks = ticked_at (pit_ticked (rises c)) c.self.inside.ticks }) c.write.ensures.state
    ∙ ap (acted (PitWrite c.args.port c.args.byte)) c.self.view_is

before : (c : goal.After-push_change) → c.is_up-before.result ≡ (line_at 0 (parts_of c.self.inside)).up
before c = c.is_up-before.ensures
    ∙ ap (λ (l : TickParts). l.up) (get_or_default c.self.inside.ticks 0 c.index-self-0.result no_line (omega (arith, c.self.invariant.places)))

pub returns-clause-edges : goal.returns-clause-edges
unfolding rises
returns-clause-edges c = c.push_change.ensures.appended
    ∙ ap (λ (es : List Edge). c.args.edges.now ++ es) (
    ap (change c.args.at 0 c.is_up-before.result) c.either.ensures
    ∙ ap (λ (b : Bool). change c.args.at 0 b (b || c.is_counted-counted.result)) (before c)
    ∙ ap (λ (b : Bool). change c.args.at 0 (line_at 0 (parts_of c.self.inside)).up ((line_at 0 (parts_of c.self.inside)).up || b)) (counted c)
    ∙ sym (edges-pit_write c.args.at c.args.port c.args.byte (parts_of c.self.inside) c.self.invariant.places))
    ∙ ap (λ (d : DeviceParts). c.args.edges.now ++ act_edges c.args.at (PitWrite c.args.port c.args.byte) d) c.self.view_is

pub returns-clause-due : goal.returns-clause-due
returns-clause-due c = λ k less. rw (← c.self.view_is)
    (due-ticked (pit_ticked (rises c)) c.self.inside.ticks c.tick_first.new.ticks c.self.invariant.places (lines c) k less)
