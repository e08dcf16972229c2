use Rattle.std.proofs.Common.{◌<◌, ◌+◌, ap, sym, ◌∙◌, arith}
use Rattle.clock_table.specs.Steps.{begun}
use Rattle.clock_table.proofs.WriteSteps.{begins}
use Rattle.clock_table.proofs.table.ClockTable.begin.Goals as goal

pub fetch_add-requires : goal.fetch_add-requires
fetch_add-requires g c = let t = c.args.self.now in
    let inside : c.args.page < t.table.shared.key.cpus + 1 = let l = c.requires.page in let b = ap (λ b. b.cpus) t.opened in omega arith in (
      c.seat.invariant.0 ∙ sym t.named,
      (let w = t.sized in let b = ap (λ b. b.cpus) t.opened in let p = c.place.ensures in let l = c.requires.page in omega arith),
      rw c.place.ensures (begins t.table.shared.key _ c.args.page _ c.seat.inside.seat.me inside (rw c.seat.view_is c.requires.pen)
          (rw c.seat.view_is c.requires.shut) (rw c.seat.view_is c.requires.room)),
    )

pub returns : goal.returns
returns g c = c.fetch_add.ensures.2.1 c.args.page c.place.ensures ∙ ap (λ v. begun c.args.page v) c.seat.view_is
