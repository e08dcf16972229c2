use Rattle.std.proofs.Common.{◌<◌, ◌+◌, ap, sym, ◌∙◌, arith}
use Rattle.clock_table.proofs.ReadSteps.{firsts}
use Rattle.clock_table.proofs.table.ClockTable.first.Goals as goal

pub load-requires : goal.load-requires
load-requires g c = let t = c.args.self.now in
    let inside : c.args.page < t.table.shared.key.cpus + 1 = let l = c.requires.page in let b = ap (λ b. b.cpus) t.opened in omega arith in (
      c.seat.invariant.0 ∙ sym t.named,
      (let w = t.sized in let b = ap (λ b. b.cpus) t.opened in let p = c.place.ensures in let l = c.requires.page in omega arith),
      rw c.place.ensures (firsts t.table.shared.key _ c.args.page _ c.seat.inside.seat.me inside (rw c.seat.view_is c.requires.pass)),
    )
