use Rattle.std.proofs.Common.{◌≡◌, ℕ, ◌<◌, ◌++◌, ◌∙◌, List, ap, get_or, length, arith}
use Rattle.trace_blocks.specs.declared.deliveries.Deliveries.{Deliveries}
use Rattle.race_phase.specs.declared.batch.Place.{Place}
use Rattle.trace_blocks.specs.declared.records.Record.{Record}
use Rattle.race_phase.specs.private.Workers.{place_text}
use Rattle.race_phase.proofs.Workers.{blocks_more}
use Rattle.race_phase.proofs.batch.append_blocks.Goals as goal

-- the block of a record that was read at its place
at_place : (ds : Deliveries) (rs : List Record) (k : ℕ) (d : Record) (xs ys : List ℕ) (t u : Place) → t ≡ u
    → ys ≡ xs ++ place_text ds (get_or rs k d) t
    → ys ≡ xs ++ place_text ds (get_or rs k d) u
at_place ds rs k d xs ys t u e is = is ∙ ap (λ (z : Place). xs ++ place_text ds (get_or rs k d) z) e

pub loop-k-preserved : goal.loop-k-preserved
loop-k-preserved c =
    let ds = c.args.deliveries.now in
    let rs = c.args.records.now in
    let ts = c.args.places.now in
    let k = c.loop-k.k in
    let room : k < length ts = let e = c.requires in let l = c.loop-k-test.true in omega arith in
    blocks_more ds rs ts k _ _ c.args.out.now.items c.loop-k.out.items _ c.loop-k-test.true room c.loop-k.invariant
    (at_place ds rs k _ c.loop-k.out.items _ c.index-places-k.result _ c.index-places-k.is c.in_ok-append_block.ensures)
