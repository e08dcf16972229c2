use Rattle.std.proofs.Common.{◌<◌, length, refl, arith, rules}
use Rattle.race_phase.proofs.Workers.{batch_step, stopped_at}
use Rattle.race_phase.proofs.batch.answer_next.Goals as goal

pub returns-in-Ok-clause-told : goal.returns-in-Ok-clause-told
returns-in-Ok-clause-told g c = record {
  places = search rules;
  ok = λ p x.
      let few = c.requires.fit.places in
      let end = c.requires.from in
      let other = c.if-from-records.false in
      let below : c.args.from < length c.args.records.now = omega arith in
      let room : c.args.from < length c.args.places.now = omega arith in
      batch_step g.N.Name.state c.args.records.now c.args.places.now _ c.args.from _ c.held.new.place p c.args.pass.now c.held.new.pass below room refl x
      c.in-Ok.ensures.ok;
  legal = c.in-Ok.ensures.ok.2.legal;
  err = tt;
}

pub returns-in-Err-clause-told : goal.returns-in-Err-clause-told
returns-in-Err-clause-told g c =
    let end = c.requires.from in
    let other = c.if-from-records.false in
    let below : c.args.from < length c.args.records.now = omega arith in
    stopped_at _ g.N.Name.state c.args.records.now c.args.from c.args.from _ c.args.places.now _ _ c.args.pass.now c.args.pass.now c.held.new.pass
    below c.requires.fit.fitting (search rules) (λ p x. x) c.in-Err.ensures.err
