use Rattle.std.proofs.Common.{List, refl, sym, subst}
use Rattle.race_phase.specs.Parts.{WriterParts}
use Rattle.trace_blocks.specs.declared.records.Record.{Record}
use Rattle.race_phase.specs.declared.phases.Phase.{Phase}
use Rattle.trace_runner.specs.private.Counted.{IsCounted}
use Rattle.trace_runner.proofs.Counted.{counted_emptied, counted_record}
use Rattle.trace_runner.proofs.Replayed.{replayed-record, pushed}
use Rattle.trace_runner.proofs.check.Check.push.Goals as goal

pub invariant_of-self : goal.invariant_of-self
invariant_of-self g c =
    let i = c.self.inside in
    subst (λ (w : WriterParts). IsCounted i.opening i.deliveries w c.recount.new.tally) (sym c.in_default.ensures.err)
    (counted_emptied i.opening i.deliveries c.self.invariant c.recount.ensures.after)

pub invariant_of-self-2 : goal.invariant_of-self-2
invariant_of-self-2 g c =
    let i = c.self.inside in
    let r : Record = record { line = c.args.line; cpu = c.args.given.now.cpu; h = c.args.given.now.h; call = c.args.call } in
    subst (λ (w : WriterParts). IsCounted i.opening i.deliveries w c.count_call.new.tally) (sym c.in-Ok.ensures.ok)
    (counted_record i.opening i.deliveries r c.self.invariant c.count_call.ensures)

pub returns : goal.returns
returns g c =
    let i = c.self.inside in
    let vs : List Phase = i.writer.phases in
    let rec = c.args.given.now in
    let r : Record = record { line = c.args.line; cpu = rec.cpu; h = rec.h; call = c.args.call } in
    rw c.in-Ok.ensures.ok (pushed c.self.view_is c.args.line rec c.args.call _ _ (replayed-record i.opening vs i.writer.last r) refl)
