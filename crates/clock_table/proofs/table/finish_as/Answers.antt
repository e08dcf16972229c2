use Rattle.std.proofs.Common.{ap, sym, ◌∙◌, arith}
use Rattle.clock_table.proofs.WriteSteps.{finishes}
use Rattle.clock_table.proofs.table.finish_as.Goals as goal

pub fetch_add-requires : goal.fetch_add-requires
fetch_add-requires g c = let t = c.args.table.now in
    let there = c.requires.may.there in
    let cpus = ap (λ b. b.cpus) t.opened in (
      c.seat.invariant.0 ∙ sym t.named,
      (let w = t.sized in let at = c.place.ensures in omega arith),
      rw c.place.ensures (finishes t.table.shared.key _ c.args.page _ c.seat.inside.seat.me g.E.Ask.entry
          (rw (cpus, c.seat.view_is, ← c.requires.entry) c.requires.may) c.seat.invariant.2),
    )
