use Rattle.std.proofs.Common.{◌≡◌, ◌+◌, None, arith, sym, subst}
use Rattle.board_meters.specs.declared.meters.Meters.{Meters}
use Rattle.board_meters.specs.Meters.{move_fault_in}
use Rattle.board_meters.proofs.Moves.{move_fault-none}
use Rattle.board_meters.proofs.Times.{set_time}
use Rattle.board_meters.proofs.tally.Tally.count_move.Goals as goal

pub overflow_add-base_ns : goal.overflow_add-base_ns
overflow_add-base_ns c =
    let free = subst (λ (m : Meters). move_fault_in c.args.gap m ≡ None) (sym c.self.view_is) c.requires.free in
    let less = (move_fault-none c.args.gap c.self.inside.meters free).0 in
    omega (arith, c.time_of.ensures)

pub raise_all-requires-clause-free : goal.raise_all-requires-clause-free
raise_all-requires-clause-free c =
    let free = subst (λ (m : Meters). move_fault_in c.args.gap m ≡ None) (sym c.self.view_is) c.requires.free in
    (move_fault-none c.args.gap c.self.inside.meters free).1

pub hv_version_moved-meters-requires : goal.hv_version_moved-meters-requires
hv_version_moved-meters-requires c =
    let free = subst (λ (m : Meters). move_fault_in c.args.gap m ≡ None) (sym c.self.view_is) c.requires.free in
    (move_fault-none c.args.gap c.self.inside.meters free).2

pub invariant_of-self : goal.invariant_of-self
invariant_of-self c =
    let free = subst (λ (m : Meters). move_fault_in c.args.gap m ≡ None) (sym c.self.view_is) c.requires.free in
    let less = (move_fault-none c.args.gap c.self.inside.meters free).0 in
    record {
      rate = c.requires.rate;
      time = set_time c.args.khz c.args.start (c.time_of.result + c.args.gap) (omega (arith, less, c.time_of.ensures));
      few = c.self.invariant.few;
    }
