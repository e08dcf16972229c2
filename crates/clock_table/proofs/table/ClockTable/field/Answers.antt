use Rattle.std.proofs.Common.{◌≡◌, suc, ap, sym, ◌∙◌, arith}
use Rattle.clock_table.specs.Steps.{noted_in}
use Rattle.clock_table.specs.Words.{place}
use Rattle.clock_table.proofs.ReadSteps.{fields}
use Rattle.clock_table.proofs.table.ClockTable.field.Goals as goal

pub load-requires : goal.load-requires
load-requires g c = let t = c.args.self.now in
    let k = c.number.result in
    let small = c.number.ensures.small in
    let at : c.place.result ≡ place c.args.page (suc k) = let p = c.place.ensures in omega arith in (
      c.seat.invariant.0 ∙ sym t.named,
      (let w = t.sized in let b = ap (λ b. b.cpus) t.opened in let l = c.requires.page in omega arith),
      rw at (fields t.table.shared.key _ c.args.page k _ c.seat.inside.seat.me small (rw c.seat.view_is c.requires.pass) (rw c.seat.view_is c.requires.read)),
    )

pub returns : goal.returns
returns g c =
    let at : c.place.result ≡ place c.args.page (suc c.number.result) = let p = c.place.ensures in omega arith in
    c.load.ensures.2.1 c.args.page c.number.result c.number.ensures.small at
    ∙ (λ i. noted_in (c.number.ensures.value i) c.load.result (c.seat.view_is i))
