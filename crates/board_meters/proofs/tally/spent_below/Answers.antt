use Rattle.std.proofs.Common.{sym, ◌∙◌}
use Rattle.board_meters.proofs.Moves.{spent_in-zero, spent_in-more, spent_in-is}
use Rattle.board_meters.proofs.tally.spent_below.Goals as goal

pub loop-cpu-init : goal.loop-cpu-init
loop-cpu-init c = spent_in-zero c.args.versions.now

pub returns-in-Some : goal.returns-in-Some
returns-in-Some c =
    sym (spent_in-is c.args.versions.now c.loop-cpu.cpu c.args.cpus c.in-Some.fault c.loop-cpu.invariant c.loop-cpu-test.true
    (sym c.spent_page.ensures ∙ c.in-Some.is))

pub loop-cpu-preserved : goal.loop-cpu-preserved
loop-cpu-preserved c = spent_in-more c.args.versions.now c.loop-cpu.cpu c.loop-cpu.invariant (sym c.spent_page.ensures ∙ c.in_default.is)
