use Rattle.std.proofs.Common.{◌+◌, ◌≤◌, ap, sym, subst, ◌∙◌}
use Rattle.irq_edges.specs.Lines.{line_numbers, level_of}
use Rattle.rtc_registers.specs.Parts.{IsRtc}
use Rattle.board_devices.specs.declared.parts.DeviceParts.{DeviceParts}
use Rattle.board_devices.specs.Act.{act_edges}
use Rattle.board_devices.specs.Lines.{levels}
use Rattle.board_devices.specs.Rises.{one_if, lifts}
use Rattle.board_devices.proofs.OfLines.{of_lines_act}
use Rattle.board_devices.proofs.Rises.{lifts-act}
use Rattle.board_devices.proofs.devices.Devices.act.Goals as goal

pub returns-clause-lifts : goal.returns-clause-lifts
returns-clause-lifts c = λ n.
    let valid : IsRtc c.args.self.now.rtc = subst IsRtc
    (c.parts-clock.ensures.value ∙ ap (λ (d : DeviceParts). d.rtc) c.self.view_is) c.parts-clock.ensures.valid in
    subst (λ (d : DeviceParts). lifts n (act_edges c.args.at c.args.a c.args.self.now) + one_if (level_of line_numbers (levels c.args.self.now) n) ≤ 1 + one_if
    (level_of line_numbers (levels d) n)) (sym c.act_parts.ensures.state) (lifts-act n c.args.at c.args.a c.args.self.now valid)

pub returns-clause-of_lines : goal.returns-clause-of_lines
returns-clause-of_lines c = of_lines_act c.args.at c.args.a c.args.self.now
