use Rattle.std.proofs.Common.{◌<◌, ◌+◌, ◌≡◌, suc, ap, sym, ◌∙◌, arith}
use Rattle.clock_table.specs.Steps.{put_in}
use Rattle.clock_table.specs.Words.{place}
use Rattle.clock_table.proofs.WriteSteps.{puts}
use Rattle.clock_table.proofs.table.ClockTable.put.Goals as goal

pub store-requires : goal.store-requires
store-requires g c = let t = c.args.self.now in
    let k = c.number.result in
    let small : k < 4 = c.number.ensures.small in
    let at : c.place.result ≡ place c.args.page (suc k) = let p = c.place.ensures in omega arith in
    let inside : c.args.page < t.table.shared.key.cpus + 1 = let l = c.requires.page in let b = ap (λ b. b.cpus) t.opened in omega arith in (
      c.seat.invariant.0 ∙ sym t.named,
      (let w = t.sized in let b = ap (λ b. b.cpus) t.opened in omega arith),
      rw at (puts t.table.shared.key _ c.args.page k c.args.word _ c.seat.inside.seat.me inside small (rw c.seat.view_is c.requires.pen)
          (rw c.seat.view_is c.requires.open)),
    )

pub returns : goal.returns
returns g c =
    let at : c.place.result ≡ place c.args.page (suc c.number.result) = let p = c.place.ensures in omega arith in
    c.store.ensures.2.1 c.args.page c.number.result c.number.ensures.small at
    ∙ (λ i. put_in (c.number.ensures.value i) c.args.word (c.seat.view_is i))
