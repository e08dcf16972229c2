use Rattle.std.proofs.Common.{set, ap, ◌∙◌, arith}
use Rattle.std.proofs.lemmas.List.{get_or_default}
use Rattle.tick_policy.specs.declared.parts.TickParts.{TickParts}
use Rattle.tick_policy.specs.Line.{set_up_to}
use Rattle.board_devices.specs.Places.{no_line}
use Rattle.board_devices.proofs.Masks.{rtc_set_second}
use Rattle.board_devices.proofs.clock.set_clock_line.Goals as goal

pub returns : goal.returns
returns c =
    ap (λ (l : TickParts). set c.args.ticks.now 1 l) (c.set_up.ensures ∙ ap (set_up_to c.args.up) (get_or_default c.args.ticks.now 1 _ no_line (omega arith)))
    ∙ rtc_set_second c.args.up c.args.ticks.now (omega arith)
