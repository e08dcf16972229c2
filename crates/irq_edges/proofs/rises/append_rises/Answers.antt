use Rattle.std.proofs.Common.{◌≡◌, ℕ, ◌+◌, ◌<◌, Option, Bool, true, false, cond, List, [], ◌∷◌, ◌++◌, length, get_or, drop, take}
use Rattle.std.proofs.Common.{None, ap, sym, subst, ◌∙◌, arith}
use Rattle.std.proofs.lemmas.List.{append-nil, take_more, take_all}
use Rattle.irq_edges.specs.Rises.{IsNextRise}
use Rattle.irq_edges.proofs.NextRise.{IsNextRise-push}
use Rattle.irq_edges.specs.Lines.{line_numbers}
use Rattle.irq_edges.specs.private.Rises.{rises_at, rising}
use Rattle.irq_edges.proofs.EdgesOf.{room_for, joined}
use Rattle.irq_edges.proofs.Rising.{rising-drop}
use Rattle.irq_edges.proofs.rises.append_rises.Goals as goal
use Rattle.irq_edges.proofs.rises.append_rises.Goals.{then-rises_at, else-rises_at}

-- the edge of a line, by the test
first : (b : Bool) (t : ℕ) (us : List (Option ℕ)) (place : ℕ) → place < 6 → length us ≡ 6 → rises_at t (get_or us place None) ≡ b
    → rising t (drop place line_numbers) (drop place us)
    ≡ cond b (record { at = t; line = get_or line_numbers place 0; up = true } ∷ []) [] ++ rising t (drop (place + 1) line_numbers) (drop (place + 1) us)
first b t us place less long e = rising-drop t line_numbers us place None less long
    ∙ ap (λ (x : Bool). cond x (record { at = t; line = get_or line_numbers place 0; up = true } ∷ []) []
    ++ rising t (drop (place + 1) line_numbers) (drop (place + 1) us)) e

pub push-requires : goal.push-requires
push-requires c = (
  omega arith,
  room_for c.loop-place.into _ c.args.into.now _ _ _ _ c.loop-place.invariant.edges
      (first true c.args.t c.args.times.now c.loop-place.place c.loop-place-test.true c.told-times (sym c.rises_at.ensures ∙ c.if-rises_at.true)) c.requires,
)

pub returns-clause-next : goal.returns-clause-next
returns-clause-next c =
    let all : take c.loop-place.place c.args.times.now ≡ c.args.times.now = take_all c.loop-place.place c.args.times.now (omega arith) in
    subst (λ (us : List (Option ℕ)). IsNextRise us c.args.t c.args.to c.loop-place.next) all c.loop-place.invariant.next

pub loop-place-preserved : goal.loop-place-preserved
loop-place-preserved c = record {
  edges = elim c.if-rises_at.branch [
    | then-rises_at w ↦ rw (w.into-is, w.push.ensures)
        (joined c.loop-place.into _ _ _ _ c.loop-place.invariant.edges
        (first true c.args.t c.args.times.now c.loop-place.place c.loop-place-test.true c.told-times (sym c.rises_at.ensures ∙ w.if-rises_at.true)))
    | else-rises_at w ↦ rw (w.into-is, ← append-nil c.loop-place.into)
        (joined c.loop-place.into _ _ _ _ c.loop-place.invariant.edges
        (first false c.args.t c.args.times.now c.loop-place.place c.loop-place-test.true c.told-times (sym c.rises_at.ensures ∙ w.if-rises_at.false)))
  ];
  next =
      rw (take_more c.args.times.now c.loop-place.place None (omega (arith, c.told-times, c.loop-place-test.true)), c.earlier_rise-next.ensures)
      (IsNextRise-push _ c.args.t c.args.to c.loop-place.next _ c.loop-place.invariant.next);
}
