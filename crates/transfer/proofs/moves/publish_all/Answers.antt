use Rattle.std.proofs.Common.{refl}
use Rattle.transfer.specs.Move.{published_below}
use Rattle.transfer.proofs.Publishing.{is_there, is_fresh, one_more}
use Rattle.transfer.proofs.moves.publish_all.Goals as goal

pub loop-cpu-init : goal.loop-cpu-init
unfolding published_below
loop-cpu-init c = refl

pub publish-requires-clause-cpu : goal.publish-requires-clause-cpu
publish-requires-clause-cpu c =
    is_there c.args.from.now c.args.khz c.args.start c.args.gap c.args.board.now c.loop-cpu.board c.loop-cpu.cpu c.requires.board c.loop-cpu.invariant
    c.loop-cpu-test.true

pub publish-requires-clause-version : goal.publish-requires-clause-version
publish-requires-clause-version c =
    is_fresh c.args.from.now c.args.khz c.args.start c.args.gap c.args.board.now c.loop-cpu.board c.loop-cpu.cpu c.requires.board c.loop-cpu.invariant
    c.requires.fresh c.loop-cpu-test.true

pub loop-cpu-preserved : goal.loop-cpu-preserved
loop-cpu-preserved c =
    one_more c.args.from.now c.args.khz c.args.start c.args.gap c.args.board.now c.loop-cpu.board c.loop-cpu.cpu c.requires.board c.loop-cpu.invariant
    c.publish.new.self c.tsc_moved-tsc.result c.publish.ensures c.tsc_moved-tsc.ensures
