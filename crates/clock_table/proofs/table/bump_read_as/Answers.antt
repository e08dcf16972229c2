use Rattle.std.proofs.Common.{sym, ◌∙◌, arith}
use Rattle.clock_table.proofs.WriteSteps.{bumps}
use Rattle.clock_table.proofs.table.bump_read_as.Goals as goal

pub fetch_add-requires : goal.fetch_add-requires
fetch_add-requires g c = let t = c.args.table.now in (
  c.seat.invariant.0 ∙ sym t.named,
  (let w = t.sized in omega arith),
  bumps t.table.shared.key _ _ c.seat.inside.seat.me g.E.Ask.entry (rw (c.seat.view_is, ← c.requires.entry) c.requires.may) c.seat.invariant.2
      (rw (c.seat.view_is, ← c.requires.entry) c.requires.bump),
)
