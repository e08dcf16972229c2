use Rattle.std.proofs.Common.{sym, subst}
use Rattle.race_phase.specs.declared.told.Told.{Told}
use Rattle.race_phase.specs.private.Told.{answer_with}
use Rattle.race_phase.specs.private.Workers.{IsMade}
use Rattle.race_phase.proofs.Answered.{access_made}
use Rattle.race_phase.proofs.batch.answer_access.Goals as goal

pub returns-in-Ok : goal.returns-in-Ok
returns-in-Ok g c =
    let s = g.N.Name.state in
    let r = c.args.given.now in
    let q = c.answer.new.pass in
    record {
      ok = subst (λ (told : Told). IsMade s r (answer_with told c.answer.new.reply) c.args.pass.now q) (sym c.note_act.ensures)
          (access_made s r c.args.pass.now q c.args.access c.answer.new.reply c.requires.call c.in-Ok.ensures.ok);
      err = tt;
    }
