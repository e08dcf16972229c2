use Rattle.save_state.proofs.Names.{refl, arith, on_ok_weaker, passes-same, references_of, references-none, references-one, references-take}
use Rattle.save_state.proofs.reference.check_references.Goals as goal

pub returns-then-b-lt-HV_FORMAT-clause-next : goal.returns-then-b-lt-HV_FORMAT-clause-next
returns-then-b-lt-HV_FORMAT-clause-next c =
    let f = c.args.b.now.format in
    record {
      past = record { bytes = refl; place = omega (arith, references-take (references_of f), references-none f c.if-b-lt-HV_FORMAT.true) };
      there = c.requires.there;
    }

pub returns-clause-next : goal.returns-clause-next
returns-clause-next c =
    let f = c.args.b.now.format in
    on_ok_weaker c.check_reference.result
    (λ passes. passes-same (omega (arith, references-take (references_of f), references-one f c.if-b-lt-HV_FORMAT.false)) passes) c.check_reference.ensures.next
