use Rattle.std.proofs.Common.{◌≡◌, true, ap, sym, get_or, ◌∙◌, arith}
use Rattle.std.proofs.lemmas.List.{get_or_default}
use Rattle.clk_units.specs.Events.{first_at}
use Rattle.rtc_registers.specs.declared.TheConstants.{RTC_HZ}
use Rattle.tick_policy.specs.declared.parts.TickParts.{TickParts}
use Rattle.board_devices.specs.Places.{no_line}
use Rattle.board_devices.proofs.Idle.{end-up_where}
use Rattle.board_devices.proofs.stretch.run_clock.Goals as goal

up : (c : goal.After-count_ticks) → (get_or c.args.lines.now 1 no_line).up ≡ true
up c =
    ap (λ (l : TickParts). l.up) (sym (get_or_default c.args.lines.now 1 c.index-lines-1.result no_line (omega (arith, c.told-lines))))
    ∙ sym c.is_up.ensures ∙ c.if-is_up.true

pub returns-then-is_up-clause-here : goal.returns-then-is_up-clause-here
returns-then-is_up-clause-here c =
    c.count_ticks.ensures.here
    ∙ sym (end-up_where c.args.span.point c.args.span.to c.args.events.now.cycle.ticks c.args.b
    (first_at RTC_HZ c.args.span.from c.args.events.now.cycle.first_tick) (get_or c.args.lines.now 1 no_line) (up c))
