use Rattle.std.proofs.Common.{refl}
use Rattle.std.proofs.lemmas.Bool.{eq-eqb, ne_eqb}
use Rattle.pm_timer.proofs.Writes.{bit_0-placed}
use Rattle.pm_timer.proofs.registers.status_after.Goals.{then-offset-eq0, else-offset-eq0}
use Rattle.pm_timer.proofs.registers.status_after.Goals as goal

pub returns-after-offset-eq0 : goal.returns-after-offset-eq0
returns-after-offset-eq0 c = rw (c.if-p.true, bit_0-placed c.args.offset c.args.value) (elim c.if-offset-eq0.branch [
  | then-offset-eq0 w ↦ rw (w.result-is, w.bit.ensures, eq-eqb c.args.offset 0 w.if-offset-eq0.true) refl
  | else-offset-eq0 w ↦ rw (w.result-is, ne_eqb c.args.offset 0 w.if-offset-eq0.false) refl
])
