use Rattle.std.proofs.Common.{◌<◌, length, refl, arith, rules}
use Rattle.race_phase.proofs.Workers.{batch_step, stopped_at}
use Rattle.race_phase.proofs.batch.answer_run.Goals as goal

pub returns-in-Err-clause-told : goal.returns-in-Err-clause-told
returns-in-Err-clause-told g c =
    stopped_at _ g.N.Name.state c.args.records.now c.loop-done.done c.args.from _ c.args.places.now _ _ c.args.pass.now c.loop-done.pass
    c.answer_access.new.pass c.loop-done-test.true c.requires.fit.fitting (search rules) c.loop-done.invariant.all c.in-Err.ensures.err

pub loop-done-preserved : goal.loop-done-preserved
loop-done-preserved g c =
    let made = c.in-Ok.ensures.ok in
    let k = c.loop-done.auto.places in
    let few = c.requires.fit.places in
    let below = c.loop-done-test.true in
    let room : c.loop-done.done < length c.loop-done.places = omega arith in record {
      from = let f = c.loop-done.invariant.from in omega arith;
      behind = omega arith;
      legal = made.2.legal;
      all = λ p x.
          batch_step g.N.Name.state c.args.records.now c.loop-done.places _ c.loop-done.done _ c.answer_access.new.place p c.loop-done.pass
          c.answer_access.new.pass below room refl (c.loop-done.invariant.all p x) made;
    }
