use Rattle.std.proofs.Common.{ℕ, ◌-◌, ◌%◌, ◌<◌, sym, ap, ◌∙◌, arith}
use Rattle.rtc_cycle.specs.private.Stretch.{recurs}
use Rattle.rtc_cycle.proofs.Recurs.{ticks_in-stopped, ticks_in-recurs, IsFirst-ticks_in}
use Rattle.rtc_cycle.proofs.stretch.ticks.Goals as goal

pub returns-then-p-ne-RUNNING-clause-count : goal.returns-then-p-ne-RUNNING-clause-count
returns-then-p-ne-RUNNING-clause-count c = sym (ticks_in-stopped c.args.n c.args.p c.then-p-ne-RUNNING.either)

pub returns-then-p-ne-RUNNING-clause-first : goal.returns-then-p-ne-RUNNING-clause-first
returns-then-p-ne-RUNNING-clause-first c = ticks_in-stopped c.args.n c.args.p c.then-p-ne-RUNNING.either

pub returns-clause-count : goal.returns-clause-count
returns-clause-count c =
    let some : 0 < c.args.p.rs = omega arith in
    c.of.ensures.count
    ∙ ap (λ (m : ℕ). recurs (m - c.args.p.d % m) m c.args.n) c.period_of-period.ensures
    ∙ ticks_in-recurs c.args.p c.requires c.if-p-ne-RUNNING.false some c.args.n

pub returns-clause-first : goal.returns-clause-first
returns-clause-first c =
    let some : 0 < c.args.p.rs = omega arith in
    rw (c.of.ensures.first, c.period_of-period.ensures) (IsFirst-ticks_in c.args.p c.requires c.if-p-ne-RUNNING.false some c.args.n)
