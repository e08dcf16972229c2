use Rattle.std.proofs.Common.{refl, sym, subst}
use Rattle.race_phase.specs.Parts.{WriterParts}
use Rattle.trace_runner.specs.private.Counted.{IsCounted}
use Rattle.trace_runner.proofs.Counted.{counted_emptied, counted_end}
use Rattle.trace_runner.proofs.Replayed.{replayed-end, ended}
use Rattle.trace_runner.proofs.check.Check.end_phase.Goals as goal

pub invariant_of-self : goal.invariant_of-self
invariant_of-self g c =
    let i = c.self.inside in
    subst (λ (w : WriterParts). IsCounted i.opening i.deliveries w c.recount.new.tally) (sym c.in_default.ensures.err)
    (counted_emptied i.opening i.deliveries c.self.invariant c.recount.ensures.after)

pub invariant_of-self-2 : goal.invariant_of-self-2
invariant_of-self-2 g c =
    let i = c.self.inside in
    subst (λ (w : WriterParts). IsCounted i.opening i.deliveries w c.count_end.new.tally) (sym c.in-Ok.ensures.ok)
    (counted_end i.opening i.deliveries c.args.end c.self.invariant c.count_end.ensures)

pub returns : goal.returns
returns g c =
    let i = c.self.inside in
    rw c.in-Ok.ensures.ok (ended c.self.view_is c.args.end _ _ _ (replayed-end i.opening i.writer.phases (record { records = i.writer.last; end = c.args.end })) refl refl)
