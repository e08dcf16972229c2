use Rattle.std.proofs.Common.{inl, inr, arith}
use Rattle.race_phase.proofs.batch.answer_all.Goals as goal

pub answer_run-requires-clause-fit : goal.answer_run-requires-clause-fit
answer_run-requires-clause-fit g c = record {
  places = (let e = c.loop-done.auto.places in let l = c.requires.places in omega (arith, e, l));
  small = c.requires.small;
  fitting = c.requires.fitting;
  legal = c.loop-done.invariant.legal;
}

pub answer_next-requires-clause-fit : goal.answer_next-requires-clause-fit
answer_next-requires-clause-fit g c = record {
  places = (let e = c.loop-done.auto.places in let l = c.requires.places in let k = c.in-Ok.ensures.told.places in omega (arith, e, l, k));
  small = c.requires.small;
  fitting = c.requires.fitting;
  legal = c.in-Ok.ensures.told.legal;
}

pub returns-in-Err-clause-err : goal.returns-in-Err-clause-err
returns-in-Err-clause-err g c = c.in-Err.ensures.told.err c.args.pass.now c.loop-done.invariant.all

pub returns-in-Err-answer_next-clause-err : goal.returns-in-Err-answer_next-clause-err
returns-in-Err-answer_next-clause-err g c =
    c.in-Err-answer_next.ensures.told.err c.args.pass.now (c.in-Ok.ensures.told.ok c.args.pass.now c.loop-done.invariant.all)

pub loop-done-preserved : goal.loop-done-preserved
loop-done-preserved g c = record {
  end = elim c.in-Ok-answer_next.ensures.place [
    | inl x ↦ omega (arith, x.1)
    | inr x ↦ omega (arith, x.1)
  ];
  legal = c.in-Ok-answer_next.ensures.told.legal;
  all = c.in-Ok-answer_next.ensures.told.ok c.args.pass.now (c.in-Ok.ensures.told.ok c.args.pass.now c.loop-done.invariant.all);
}
