use Rattle.std.proofs.Common.{◌≡◌, ◌∙◌, refl, sym, ap, length-set, take, map, arith, None}
use Rattle.std.proofs.lemmas.List.{take_more_set, map_more, take_all}
use Rattle.irq_edges.specs.Rises.{is_up_at}
use Rattle.irq_edges.proofs.rises.lines_at.Goals as goal

pub loop-place-preserved : goal.loop-place-preserved
loop-place-preserved c =
    let levels = c.loop-place.levels in
    let times = c.args.times.now in
    let place = c.loop-place.place in
    record {
      six = length-set levels place c.is_up_at.result ∙ c.loop-place.invariant.six;
      done =
          rw (
            take_more_set levels place c.is_up_at.result (omega arith),
            map_more (is_up_at c.args.t) times place None (omega arith),
            c.loop-place.invariant.done,
            c.is_up_at.ensures,
          ) refl;
    }

pub returns : goal.returns
returns c =
    let levels : take c.loop-place.place c.loop-place.levels ≡ c.loop-place.levels = take_all c.loop-place.place c.loop-place.levels (omega arith) in
    let times : take c.loop-place.place c.args.times.now ≡ c.args.times.now = take_all c.loop-place.place c.args.times.now (omega arith) in
    sym levels ∙ c.loop-place.invariant.done ∙ ap (map (is_up_at c.args.t)) times
