-- The meters of the board with which the next phase opens.
use Rattle.std.proofs.Common.{◌≡◌, refl, ap, ◌∙◌}
use Rattle.board_types.specs.declared.access.Access.TheVariants.{Step}
use Rattle.board_types.specs.declared.parts.BoardParts.{BoardParts}
use Rattle.board_meters.specs.Meters.{moved_in}
use Rattle.board_core.specs.Access.{after_access}
use Rattle.board_core.specs.Refusals.{meters_of}
use Rattle.board_core.proofs.Laws.{meters_of-access}
use Rattle.transfer.proofs.Metered.{meters_of-moved}
use Rattle.trace_blocks.specs.declared.ends.End.{End}
use Rattle.trace_blocks.specs.declared.ends.End.TheVariants.{Finish, Save, Move}
use Rattle.trace_blocks.specs.Ends.{next_board, next_meters}

pub meters_of-next : (e : End) (b : BoardParts) → meters_of (next_board e b) ≡ next_meters e (meters_of b)
meters_of-next Finish b = refl
meters_of-next (Save line cpu h) b = meters_of-access b cpu h Step
meters_of-next (Move line cpu h host) b =
    meters_of-moved host.khz host.start host.gap (after_access b cpu h Step) ∙ ap (moved_in host.khz host.start host.gap) (meters_of-access b cpu h Step)
