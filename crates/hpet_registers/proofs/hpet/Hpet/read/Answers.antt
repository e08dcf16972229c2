use Rattle.std.proofs.Common.{◌∙◌}
use Rattle.hpet_registers.proofs.ThreeTimersLaw.{read-three}
use Rattle.hpet_registers.proofs.hpet.Hpet.read.Goals as goal

pub returns-clause-three : goal.returns-clause-three
returns-clause-three c = rw (← c.self.view_is) (λ three. c.read_at.ensures
    ∙ read-three c.args.offset c.args.width c.self.inside.parts c.self.invariant.valid three c.requires.offset)
