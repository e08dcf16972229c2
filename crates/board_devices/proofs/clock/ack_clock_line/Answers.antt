use Rattle.std.proofs.Common.{Bool, set, sym, ap, ◌∙◌, arith}
use Rattle.std.proofs.lemmas.List.{get_or_default}
use Rattle.tick_policy.specs.declared.parts.TickParts.{TickParts}
use Rattle.tick_policy.specs.Line.{acked}
use Rattle.board_devices.specs.Act.{acked_where}
use Rattle.board_devices.specs.Places.{each, no_line}
use Rattle.board_devices.specs.private.Stretch.{clock_place}
use Rattle.board_devices.proofs.Masks.{acked_second, acked_none}
use Rattle.board_devices.proofs.clock.ack_clock_line.Goals as goal

pub returns-then-b : goal.returns-then-b
returns-then-b c =
    ap (λ (l : TickParts). set c.args.ticks.now 1 l) (c.ack.ensures.state ∙ ap acked (get_or_default c.args.ticks.now 1 _ no_line (omega arith)))
    ∙ acked_second c.args.ticks.now (omega arith)
    ∙ ap (λ (b : Bool). each (λ k l. acked_where (clock_place b k) l) 0 c.args.ticks.now) (sym c.if-b.true)

pub returns-else-b : goal.returns-else-b
returns-else-b c = acked_none c.args.ticks.now ∙ ap (λ (b : Bool). each (λ k l. acked_where (clock_place b k) l) 0 c.args.ticks.now) (sym c.if-b.false)
