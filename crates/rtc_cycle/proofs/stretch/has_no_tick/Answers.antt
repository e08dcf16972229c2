use Rattle.std.proofs.lemmas.Bool.{eqb-true}
use Rattle.rtc_cycle.proofs.Quiet.{ticks_in-passed}
use Rattle.rtc_cycle.proofs.stretch.has_no_tick.Goals as goal

pub returns-then-n-le65535 : goal.returns-then-n-le65535
returns-then-n-le65535 c = λ same.
    ticks_in-passed c.args.p c.requires c.period_bits-bits.result c.args.n c.period_bits-bits.ensures.value (eqb-true _ _ same)
