use Rattle.std.proofs.Common.{◌≡◌, ℕ, List, take, Option, None, subst, arith}
use Rattle.std.proofs.lemmas.List.{take_more, take_all}
use Rattle.irq_edges.specs.Rises.{IsNextRise}
use Rattle.irq_edges.proofs.NextRise.{IsNextRise-push}
use Rattle.irq_edges.proofs.rises.next_rise.Goals as goal

pub loop-time-preserved : goal.loop-time-preserved
loop-time-preserved c =
    rw (take_more c.args.times.now c.loop-time.time-index None c.loop-time-test.true, c.earlier_rise-next.ensures)
    (IsNextRise-push _ c.args.at c.args.to c.loop-time.next _ c.loop-time.invariant)

pub returns : goal.returns
returns c =
    let all : take c.loop-time.time-index c.args.times.now ≡ c.args.times.now = take_all c.loop-time.time-index c.args.times.now (omega arith) in
    subst (λ (us : List (Option ℕ)). IsNextRise us c.args.at c.args.to c.loop-time.next) all c.loop-time.invariant
