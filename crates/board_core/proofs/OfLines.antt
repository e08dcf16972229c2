-- The edges that a board hands out are of the six lines.
use Rattle.std.proofs.Common.{ℕ, ◌-◌}
use Rattle.std.specs.List.{All}
use Rattle.std.proofs.lemmas.List.Elements.{All-append}
use Rattle.irq_edges.specs.Lines.{IsOfLine}
use Rattle.board_types.specs.declared.access.Access.{Access}
use Rattle.board_types.specs.declared.parts.BoardParts.{BoardParts}
use Rattle.board_devices.proofs.OfLines.{of_lines_run, of_lines_act}
use Rattle.board_core.specs.Time.{devices_in, now_of, time_of_access}
use Rattle.board_core.specs.Access.{ran_to, own_edges, act_of, after_run, edges_of}

pub of_lines_edges : (b : BoardParts) (h : ℕ) (a : Access) → All IsOfLine (edges_of b h a)
unfolding edges_of
of_lines_edges b h a =
    All-append IsOfLine (ran_to b h).edges (own_edges (after_run b h) a)
    (of_lines_run (now_of b) (time_of_access b h - now_of b) (devices_in b))
    (of_lines_act (now_of (after_run b h)) (act_of a) (devices_in (after_run b h)))
