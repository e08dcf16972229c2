use Rattle.std.proofs.Common.{◌-◌, ℕ, ap, ◌∙◌}
use Rattle.pit_counter.proofs.Planned.{plan_of-last, plan_of-running}
use Rattle.pit_counter.proofs.plan.rate_plan.Goals as goal

pub returns-then-p-eq1 : goal.returns-then-p-eq1
returns-then-p-eq1 c =
    ap (λ (q : ℕ). record { quiet = q; period = 0; step = 0 }) c.saturating_sub-quiet.ensures
    ∙ plan_of-last c.args.p.now c.requires.runs c.if-p-eq1.true

pub returns : goal.returns
returns c =
    ap (λ (q : ℕ). record { quiet = q; period = c.args.period; step = 1 }) c.saturating_sub-quiet.ensures
    ∙ ap (λ (m : ℕ). record { quiet = c.args.p.now.ce - 3; period = m; step = 1 }) c.requires.period
    ∙ plan_of-running c.args.p.now c.requires.runs c.if-p-eq1.false
