use Rattle.std.proofs.Common.{◌≡◌, Bool, sym, subst}
use Rattle.board_devices.specs.Act.{pit_ticked}
use Rattle.board_devices.specs.Places.{ticked_at}
use Rattle.board_devices.proofs.Masks.{ticked_none}
use Rattle.board_devices.proofs.act.tick_first.Goals as goal

pub returns-else-b : goal.returns-else-b
returns-else-b c = subst (λ (b : Bool). c.args.ticks.now ≡ ticked_at (pit_ticked b) c.args.ticks.now) (sym c.if-b.false) (ticked_none c.args.ticks.now)
