use Rattle.std.proofs.Common.{◌≡◌, ℕ, ◌+◌, ◌-◌, ◌≤◌, ◌++◌, ◌∙◌, ap, sym, List, append-nil, arith}
use Rattle.irq_edges.specs.declared.edges.Edge.{Edge}
use Rattle.irq_edges.specs.Lines.{line_numbers, level_of}
use Rattle.irq_edges.proofs.RisesOf.{rises_of-none}
use Rattle.board_devices.specs.declared.parts.DeviceParts.{DeviceParts}
use Rattle.board_devices.specs.Lines.{levels}
use Rattle.board_devices.specs.Run.{run}
use Rattle.board_devices.specs.Rises.{one_if}
use Rattle.board_devices.proofs.Rises.{lifts-of_run}
use Rattle.board_devices.proofs.Still.{edges-still}
use Rattle.board_devices.proofs.TickRuns.{still-lifts}
use Rattle.board_devices.proofs.Edges.{edges-run, told-moved, told-still}
use Rattle.board_devices.proofs.devices.Devices.run_to.Goals as goal

-- where nothing came
still : (c : goal.Then-not-advance) (j : ℕ) → c.args.from + j ≤ c.args.to → levels (run c.args.from j c.args.self.now).state ≡ levels c.args.self.now
still c = told-still c.args.self.now c.advance.new.times c.args.from c.args.to c.advance.result c.if-not-advance.true c.advance.ensures.levels

pub returns-then-not-advance-clause-edges : goal.returns-then-not-advance-clause-edges
returns-then-not-advance-clause-edges c =
    sym (ap (λ (es : List Edge). c.args.edges.now ++ es)
    (edges-still c.args.self.now c.args.from c.args.to (still c) (c.args.to - c.args.from) (omega (arith, c.requires.stretch.order)))
    ∙ append-nil c.args.edges.now)

pub returns-then-not-advance-clause-lifts : goal.returns-then-not-advance-clause-lifts
returns-then-not-advance-clause-lifts c = λ n.
    still-lifts n c.args.from c.args.to c.args.self.now c.requires.stretch.order (still c)
    ∙ ap (λ (d : DeviceParts). one_if (level_of line_numbers (levels d) n)) (sym c.advance.ensures.state)

-- where something came
pub returns-clause-edges : goal.returns-clause-edges
returns-clause-edges c =
    c.emit.ensures.appended ∙ ap (λ (es : List Edge). c.args.edges.now ++ es)
    (sym (edges-run c.args.self.now c.advance.new.times c.args.from c.args.to
    (told-moved c.args.self.now c.advance.new.times c.args.from c.args.to c.advance.result c.if-not-advance.false c.advance.ensures.levels)
    (c.args.to - c.args.from) (omega (arith, c.requires.stretch.order))))

pub returns-clause-lifts : goal.returns-clause-lifts
returns-clause-lifts c = λ n.
    lifts-of_run n c.args.from c.args.to c.args.self.now c.advance.new.times c.requires.stretch.order (omega arith)
    (told-moved c.args.self.now c.advance.new.times c.args.from c.args.to c.advance.result c.if-not-advance.false c.advance.ensures.levels)
    ∙ ap (λ (d : DeviceParts). one_if (level_of line_numbers (levels d) n)) (sym c.advance.ensures.state)

-- .. and no line goes up
pub returns-then-not-goes_up-clause-edges : goal.returns-then-not-goes_up-clause-edges
returns-then-not-goes_up-clause-edges c =
    sym (ap (λ (es : List Edge). c.args.edges.now ++ es)
    (edges-run c.args.self.now c.advance.new.times c.args.from c.args.to
    (told-moved c.args.self.now c.advance.new.times c.args.from c.args.to c.advance.result c.if-not-advance.false c.advance.ensures.levels)
    (c.args.to - c.args.from) (omega (arith, c.requires.stretch.order))
    ∙ rises_of-none line_numbers c.advance.new.times c.args.from c.args.to (c.args.to - c.args.from)
    (c.goes_up.ensures c.if-not-goes_up.true c.args.to) (omega (arith, c.requires.stretch.order)))
    ∙ append-nil c.args.edges.now)

pub returns-then-not-goes_up-clause-lifts : goal.returns-then-not-goes_up-clause-lifts
returns-then-not-goes_up-clause-lifts c = λ n.
    lifts-of_run n c.args.from c.args.to c.args.self.now c.advance.new.times c.requires.stretch.order (omega arith)
    (told-moved c.args.self.now c.advance.new.times c.args.from c.args.to c.advance.result c.if-not-advance.false c.advance.ensures.levels)
    ∙ ap (λ (d : DeviceParts). one_if (level_of line_numbers (levels d) n)) (sym c.advance.ensures.state)

-- where only the 8254 ticked
pub returns-then-is_quiet_beside_pit-clause-edges : goal.returns-then-is_quiet_beside_pit-clause-edges
returns-then-is_quiet_beside_pit-clause-edges c =
    c.push_rise.ensures.edges ∙ ap (λ (es : List Edge). c.args.edges.now ++ es) (sym c.run_ticks-rise.ensures.edges)
