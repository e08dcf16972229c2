use Rattle.std.proofs.Common.{◌^◌, ◌<◌, arith}
use Rattle.std.proofs.lemmas.Bool.{leb-true}
use Rattle.hpet_registers.proofs.Planned.{matches_of-planned}
use Rattle.hpet_registers.proofs.hpet.Hpet.is_quiet.Goals as goal

pub returns : goal.returns
returns c = rw (← c.self.view_is) (λ quiet k inside enabled.
    let fits : c.self.inside.parts.counter < 2 ^ 64 = omega arith in
    matches_of-planned c.args.n c.self.inside.parts c.self.invariant.valid fits c.self.inside.quiet c.self.invariant.planned (leb-true _ _ quiet) k)
