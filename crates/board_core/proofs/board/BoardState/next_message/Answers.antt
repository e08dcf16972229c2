use Rattle.std.proofs.Common.{ℕ, ◌-◌, ap, ◌∙◌}
use Rattle.clk_units.specs.declared.ranges.TheConstants.{RANGE_NS}
use Rattle.hpet_bursts.specs.Next.{next_message}
use Rattle.board_core.specs.Next.{next_message_of}
use Rattle.board_core.proofs.board.BoardState.next_message.Goals as goal

pub returns : goal.returns
returns c =
    c.next_message.ensures
    ∙ ap (λ (t : ℕ). next_message t (RANGE_NS - 1 - t) c.self.inside.devices.hpet) c.self.invariant.time
    ∙ ap next_message_of c.self.view_is
