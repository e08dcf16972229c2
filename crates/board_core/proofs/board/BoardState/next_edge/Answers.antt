use Rattle.std.proofs.Common.{ℕ, ap, ◌∙◌}
use Rattle.board_types.specs.declared.parts.BoardParts.{BoardParts}
use Rattle.board_core.specs.Time.{devices_in, now_of}
use Rattle.board_core.specs.Next.{next_of}
use Rattle.board_core.proofs.Nexts.{next_of-is}
use Rattle.board_core.proofs.board.BoardState.next_edge.Goals as goal

pub returns : goal.returns
returns c =
    next_of-is c.self.inside.time_ns c.self.inside.devices c.next_edge.result c.next_edge.ensures
    ∙ ap (λ (t : ℕ). next_of t c.self.inside.devices) c.self.invariant.time
    ∙ ap (λ (b : BoardParts). next_of (now_of b) (devices_in b)) c.self.view_is
