use Rattle.std.proofs.Common.{arith, ◌+◌, ◌<◌, ◌^◌, ℕ, ap, sym, subst, refl, List, length}
use Rattle.std.proofs.lemmas.List.Elements.{All-nil}
use Rattle.trace_blocks.specs.declared.records.Record.{Record}
use Rattle.race_phase.specs.declared.piece.Part.{Part}
use Rattle.race_phase.specs.Calls.{IsFitting}
use Rattle.race_phase.specs.Parts.{IsPart}
use Rattle.race_phase.specs.private.Feed.{HasRun}
use Rattle.race_phase.proofs.Runs.{HasTaken, taken_last, taken_more}
use Rattle.race_phase.proofs.work.work.Given as given
use Rattle.race_phase.proofs.work.work.Goals as goal
use Rattle.race_phase.proofs.work.work.Goals.{In_ok-part}

pub loop-done-init : goal.loop-done-init
loop-done-init g c =
    let s = g.N.Name.state in
    let ds = c.args.worker.now.deliveries.now in
    let w = c.in_ok-working.working in
    let none = c.in_ok-working.ensures.none in
    subst (λ (ts : List Part). HasTaken s ds c.args.pass.number 0 ts w) (sym c.new-taken.ensures.items) (record {
      ready = c.in_ok-working.ensures.ready;
      few = (let a = none.0 in let b = ap (λ (rs : List Record). length rs) none.1 in omega arith);
      left = refl;
      fits = All-nil (IsFitting s.cpus s.format);
      short = omega arith;
      worked = c.in_ok-working.ensures.working ds;
    })

fits : (g : given.Over) (c : In_ok-part g) → IsPart g.N.Name.state.cpus g.N.Name.state.format c.in_ok-part.part.now
fits g c = subst (λ (z : ℕ × ℕ). IsPart z.0 z.1 c.in_ok-part.part.now) (λ i. (c.requires.cpus i, c.requires.format i)) c.in_ok-part.ensures.fits

pub take_part-requires : goal.take_part-requires
take_part-requires g c =
    let before = c.loop-done.invariant in
    let part = fits g (goal.at.take_part-requires g c).In_ok-part in record {
      ready = before.ready;
      fitting = part.records;
      few = (let old = before.few in let most = part.few in let below = c.loop-done-test.true in omega (arith, old, most, below));
    }

pub loop-done-preserved : goal.loop-done-preserved
loop-done-preserved g c =
    let s = g.N.Name.state in
    let ds = c.args.worker.now.deliveries.now in
    let n = c.args.pass.number in
    let k = c.loop-done.done in
    let e = c.in_ok-take_part.ensures in
    let part = fits g (goal.at.loop-done-preserved g c).In_ok-part in
    subst (λ (ts : List Part). HasTaken s ds n (k + 1) ts c.take_part.new.self) (sym c.in_ok-part.ensures.more)
    (taken_more s ds n k c.loop-done.taken.items c.loop-done.working c.loop-done.invariant c.in_ok-part.part.now part c.take_part.new.self e.done
    c.in_default.is e.ready e.few)

pub returns-in-Some : goal.returns-in-Some
returns-in-Some g c =
    let s = g.N.Name.state in
    let ds = c.args.worker.now.deliveries.now in
    let n = c.args.pass.number in
    let k = c.loop-done.done in
    let e = c.in_ok-take_part.ensures in
    let y = c.take_part.new.self in
    let end = c.in-Some.end in
    let part = fits g (goal.at.returns-in-Some g c).In_ok-part in
    let below : k < 2 ^ 20 = let l = c.loop-done-test.true in omega (arith, l) in
    subst (λ (ts : List Part). HasRun s ds ts end n y.pass y.text.items) (sym c.in_ok-part.ensures.more)
    (taken_last s ds n k c.loop-done.taken.items c.loop-done.working c.loop-done.invariant c.in_ok-part.part.now part y e.done end c.in-Some.is below
    (rw c.in-Some.is at e.none))
