use Rattle.std.proofs.Common.{false, arith}
use Rattle.std.proofs.lemmas.List.{append-nil}
use Rattle.irq_edges.proofs.EdgesOf.{changes-drop, change-differs, change-same, room_for, joined}
use Rattle.irq_edges.proofs.lines.append_changes.Goals as goal
use Rattle.irq_edges.proofs.lines.append_changes.Goals.{then-before-place, else-before-place}

pub push-requires : goal.push-requires
push-requires c =
    let first =
    changes-drop c.args.at c.args.lines.now c.args.before.now c.args.after.now c.loop-place.place false false
    c.loop-place-test.true c.requires.levels_before c.requires.levels_after in (
      omega arith,
      room_for c.loop-place.into _ c.args.into.now _ _ _ _ c.loop-place.invariant
          (rw (change-differs c.args.at _ _ _ c.if-before-place.true) at first) c.requires.room,
    )

pub loop-place-preserved : goal.loop-place-preserved
loop-place-preserved c =
    let first =
    changes-drop c.args.at c.args.lines.now c.args.before.now c.args.after.now c.loop-place.place false false
    c.loop-place-test.true c.requires.levels_before c.requires.levels_after in
    elim c.if-before-place.branch [
      | then-before-place w ↦ rw (w.into-is, w.push.ensures)
          (joined c.loop-place.into _ _ _ _ c.loop-place.invariant (rw (change-differs c.args.at _ _ _ w.if-before-place.true) at first))
      | else-before-place w ↦ rw (w.into-is, ← append-nil c.loop-place.into)
          (joined c.loop-place.into _ _ _ _ c.loop-place.invariant (rw (change-same c.args.at _ _ _ w.if-before-place.false) at first))
    ]
