use Rattle.std.proofs.Common.{◌+◌, sym, ap, ◌∙◌}
use Rattle.irq_edges.specs.Rises.{is_up_at}
use Rattle.tick_policy.specs.Line.{ticked_times}
use Rattle.tick_policy.specs.declared.parts.TickParts.{TickParts}
use Rattle.tick_policy.proofs.Stretches.{line_end-is, up_from-is}
use Rattle.tick_policy.proofs.Orders.{line_after_points-is}
use Rattle.tick_policy.proofs.Kept.{due-line_end, policy-line_end}
use Rattle.tick_policy.proofs.stretch.run_line.Goals as goal

pub returns-clause-due : goal.returns-clause-due
returns-clause-due c =
    ap (λ (l : TickParts). l.counts.due) (c.due.ensures ∙ ap (ticked_times c.args.ticks) c.catch_up_first.ensures)
    ∙ due-line_end c.args.point c.args.to c.args.first c.args.ticks c.args.line.now

pub returns-clause-policy : goal.returns-clause-policy
returns-clause-policy c =
    ap (λ (l : TickParts). l.policy) (c.due.ensures ∙ ap (ticked_times c.args.ticks) c.catch_up_first.ensures)
    ∙ policy-line_end c.args.point c.args.to c.args.first c.args.ticks c.args.line.now

pub returns-clause-each_nanosecond : goal.returns-clause-each_nanosecond
returns-clause-each_nanosecond c = λ source slew n length stretch.
    c.due.ensures ∙ ap (ticked_times c.args.ticks) c.catch_up_first.ensures
    ∙ line_end-is source slew c.args.from c.args.to n c.args.point c.args.ticks c.args.first c.args.line.now length stretch

pub returns-clause-each_level : goal.returns-clause-each_level
returns-clause-each_level c = λ source slew n length stretch j h.
    up_from-is source slew c.args.from c.args.to n c.args.point c.args.ticks c.args.first c.args.line.now length stretch j h
    ∙ ap (is_up_at (c.args.from + j)) (sym c.up_from-since.ensures)

pub returns-clause-each_nanosecond_points : goal.returns-clause-each_nanosecond_points
returns-clause-each_nanosecond_points c = λ source slew n length stretch.
    returns-clause-each_nanosecond c source slew n length stretch ∙ sym (line_after_points-is source slew c.args.from n c.args.line.now)

pub returns-clause-each_level_points : goal.returns-clause-each_level_points
returns-clause-each_level_points c = λ source slew n length stretch j h.
    ap (λ (l : TickParts). l.up) (line_after_points-is source slew c.args.from j c.args.line.now) ∙ returns-clause-each_level c source slew n length stretch j h
