use Rattle.std.proofs.Common.{arith, sym}
use Rattle.board_meters.proofs.Moves.{raised_below-zero, raised_below-fresh, raised_below-more}
use Rattle.board_meters.proofs.tally.raise_all.Goals as goal

pub loop-cpu-init : goal.loop-cpu-init
loop-cpu-init c = sym (raised_below-zero c.args.versions.now)

pub overflow_add-versions : goal.overflow_add-versions
overflow_add-versions c =
    let fresh =
    raised_below-fresh c.loop-cpu.cpu c.args.cpus c.args.versions.now c.loop-cpu.versions c.loop-cpu.invariant c.requires.free c.loop-cpu-test.true in
    omega arith

pub loop-cpu-preserved : goal.loop-cpu-preserved
loop-cpu-preserved c = raised_below-more c.loop-cpu.cpu c.args.versions.now c.loop-cpu.versions c.loop-cpu.invariant
