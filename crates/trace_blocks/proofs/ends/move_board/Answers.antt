use Rattle.std.proofs.Common.{◌≡◌, ℕ, None, Option, IfOk, option_map, ap, sym, ◌∙◌, subst}
use Rattle.std.specs.Option.{option_or}
use Rattle.board_types.specs.declared.access.Access.TheVariants.{Step}
use Rattle.board_types.specs.declared.parts.BoardParts.{BoardParts}
use Rattle.board_types.specs.declared.reply.Refusal.{Refusal}
use Rattle.board_meters.specs.declared.meters.Meters.{Meters}
use Rattle.board_meters.specs.Meters.{counted, move_fault_in}
use Rattle.board_core.specs.Access.{after_access}
use Rattle.board_core.specs.Refusals.{meters_of, refusal_of}
use Rattle.board_core.proofs.Laws.{meters_of-access}
use Rattle.transfer.specs.Move.{move_fault}
use Rattle.trace_blocks.specs.declared.ends.End.TheVariants.{Move}
use Rattle.trace_blocks.specs.declared.ends.NewHost.{NewHost}
use Rattle.reply_text.specs.declared.ends.Refused.{Refused}
use Rattle.trace_blocks.specs.Ends.{end_refusal}
use Rattle.trace_blocks.specs.Refusals.{refused_access, refused_move}
use Rattle.trace_blocks.proofs.ends.move_board.Goals as goal

-- a move whose access is taken is refused by its gap alone
by_gap : (b after : BoardParts) (line cpu h : ℕ) (host : NewHost) → refusal_of b cpu h Step ≡ None → after ≡ after_access b cpu h Step
    → option_map refused_move (move_fault host.gap after) ≡ end_refusal (meters_of b) (Move line cpu h host)
by_gap b after line cpu h host taken is =
    ap (λ (m : Meters). option_map refused_move (move_fault_in host.gap m)) (ap meters_of is ∙ meters_of-access b cpu h Step)
    ∙ ap (λ (o : Option Refusal). option_or (option_map refused_access o) (option_map refused_move (move_fault_in host.gap (counted cpu h Step (meters_of b)))))
    (sym taken)

pub returns-in-Ok-clause-cause : goal.returns-in-Ok-clause-cause
returns-in-Ok-clause-cause c =
    subst (λ (x : Option Refused). IfOk c.cross_gap.result (λ f. f ≡ x))
    (by_gap c.args.board.now c.access.new.self c.args.line c.args.cpu c.args.h c.args.host c.in-Ok.ensures.taken c.in-Ok.ensures.state)
    c.cross_gap.ensures.cause
