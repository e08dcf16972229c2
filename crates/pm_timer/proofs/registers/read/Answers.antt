use Rattle.std.proofs.Common.{refl, sym}
use Rattle.pm_timer.specs.Registers.{pm_read}
use Rattle.pm_timer.proofs.Writes.{pm_read-past, width_4}
use Rattle.pm_timer.proofs.registers.read.Goals as goal

pub returns-then-offset-ge-BLOCK_BYTES-clause-value : goal.returns-then-offset-ge-BLOCK_BYTES-clause-value
returns-then-offset-ge-BLOCK_BYTES-clause-value c = sym (pm_read-past c.args.offset c.args.width c.args.p
    (rw (← c.block-block.ensures.value) c.block-block.ensures.small) c.if-offset-ge-BLOCK_BYTES.true)

pub returns-then-width-eq1-clause-value : goal.returns-then-width-eq1-clause-value
unfolding pm_read
returns-then-width-eq1-clause-value c = rw (c.block-block.ensures.value, c.if-width-eq1.true) refl

pub returns-then-width-eq2-clause-value : goal.returns-then-width-eq2-clause-value
unfolding pm_read
returns-then-width-eq2-clause-value c = rw (c.block-block.ensures.value, c.if-width-eq2.true) refl

pub returns-else-width-eq2-clause-value : goal.returns-else-width-eq2-clause-value
unfolding pm_read
returns-else-width-eq2-clause-value c =
    rw (c.block-block.ensures.value, width_4 c.args.width c.requires c.if-width-eq1.false c.if-width-eq2.false) refl
