-- The edges of runs and accesses are of the six lines.
use Rattle.std.proofs.Common.{ℕ, zero, suc, ◌+◌}
use Rattle.std.specs.List.{All}
use Rattle.std.proofs.lemmas.List.Elements.{All-nil, All-append}
use Rattle.irq_edges.specs.Lines.{changes, line_numbers, IsOfLine}
use Rattle.irq_edges.proofs.OfLines.{IsOfLine-changes}
use Rattle.board_devices.specs.declared.parts.DeviceParts.{DeviceParts}
use Rattle.board_devices.specs.declared.act.Act.{Act}
use Rattle.board_devices.specs.Lines.{levels}
use Rattle.board_devices.specs.Nanosecond.{at_nanosecond}
use Rattle.board_devices.specs.Run.{run, onward}
use Rattle.board_devices.specs.Act.{acted, first_part, act_edges}

pub of_lines_run : (t n : ℕ) (d : DeviceParts) → All IsOfLine (run t n d).edges
unfolding run onward
of_lines_run t zero d = All-nil IsOfLine
of_lines_run t (suc n) d =
    let before : DeviceParts = (run t n d).state in
    let after : DeviceParts = at_nanosecond (t + n + 1) before in
    All-append IsOfLine (run t n d).edges (changes (t + n + 1) line_numbers (levels before) (levels after)) (of_lines_run t n d)
    (IsOfLine-changes (t + n + 1) (levels before) (levels after))

pub of_lines_act : (t : ℕ) (a : Act) (d : DeviceParts) → All IsOfLine (act_edges t a d)
of_lines_act t a d =
    All-append IsOfLine (changes t line_numbers (levels d) (levels (first_part a d))) (changes t line_numbers (levels (first_part a d)) (levels (acted a d)))
    (IsOfLine-changes t (levels d) (levels (first_part a d))) (IsOfLine-changes t (levels (first_part a d)) (levels (acted a d)))
