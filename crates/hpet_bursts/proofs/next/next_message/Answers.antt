use Rattle.std.proofs.Common.{◌-◌, ap, ◌∙◌}
use Rattle.hpet_bursts.specs.private.Earlier.{first_of}
use Rattle.hpet_bursts.proofs.Nexts.{never, next-more}
use Rattle.hpet_bursts.proofs.next.next_message.Goals as goal

pub loop-k-init : goal.loop-k-init
loop-k-init c = never c.args.from (c.args.to - c.args.from) c.args.h.now

pub loop-k-preserved : goal.loop-k-preserved
loop-k-preserved c =
    c.earlier-next.ensures
    ∙ next-more c.loop-k.k c.args.from (c.args.to - c.args.from) c.args.h.now c.loop-k.next c.first_of.result c.loop-k.invariant
    (c.first_of.ensures ∙ ap first_of c.burst_of-burst.ensures.value)
