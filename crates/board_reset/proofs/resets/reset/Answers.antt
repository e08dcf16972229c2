use Rattle.std.proofs.Common.{ℕ, Bool, List, ◌++◌, ap, ◌∙◌}
use Rattle.std.proofs.lemmas.Bool.{false≢true}
use Rattle.irq_edges.specs.declared.edges.Edge.{Edge}
use Rattle.irq_edges.specs.Lines.{line_numbers, changes}
use Rattle.board_types.specs.declared.parts.BoardParts.{BoardParts}
use Rattle.board_devices.specs.Lines.{levels}
use Rattle.board_core.specs.Time.{devices_in, now_of}
use Rattle.board_reset.proofs.resets.reset.Goals.{in-Some, in_default}
use Rattle.board_reset.proofs.resets.reset.Goals as goal

pub returns-clause-edges : goal.returns-clause-edges
returns-clause-edges c =
    c.changes.ensures.appended
    ∙ ap (λ (es : List Edge). es ++ changes c.now-now.result line_numbers c.lines-lines.result.levels c.lines.result.levels) c.new-edges.ensures
    ∙ ap (λ (at : ℕ). changes at line_numbers c.lines-lines.result.levels c.lines.result.levels) c.now-now.ensures.value
    ∙ ap (λ (ls : List Bool). changes (now_of c.args.board.now) line_numbers ls c.lines.result.levels) c.lines-lines.ensures
    ∙ ap (λ (ls : List Bool). changes (now_of c.args.board.now) line_numbers (levels (devices_in c.args.board.now)) ls) c.lines.ensures

pub returns-clause-down : goal.returns-clause-down
returns-clause-down c =
    elim c.match-of_parts.branch [
      | in-Some w ↦
          ap (λ (b : BoardParts). levels (devices_in b)) (w.board-is ∙ w.in-Some.ensures.value) ∙ c.after_reset.ensures.down
      | in_default w ↦ absurd (false≢true (w.in_default.ensures.valid.1 c.after_reset.ensures.valid))
    ]
