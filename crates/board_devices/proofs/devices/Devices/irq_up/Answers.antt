use Rattle.std.proofs.Common.{◌≡◌, ◌&&◌, Bool, true, false, not, ap, sym, refl, ◌∙◌}
use Rattle.std.proofs.lemmas.Bool.{true≢false}
use Rattle.rtc_cycle.specs.Divider.{updates_in}
use Rattle.rtc_registers.specs.Registers.{divider_of}
use Rattle.rtc_registers.specs.Pulses.{alarms_in}
use Rattle.board_devices.specs.View.{parts_of}
use Rattle.board_devices.specs.private.Ahead.{first_of, clock_line_up, irq_up}
use Rattle.board_devices.specs.private.Stretch.{either_from}
use Rattle.board_devices.proofs.FirstOf.{first_alarm, first_update}
use Rattle.board_devices.proofs.Ahead.{irq-alone, irq-by_events}
use Rattle.board_devices.proofs.devices.Devices.irq_up.Goals as goal

both_off : (a b : Bool) → (not a && not b) ≡ true → (a ≡ false) × (b ≡ false)
both_off false false h = (refl, refl)
both_off true b h = absurd (true≢false (sym h))
both_off false true h = absurd (true≢false (sym h))

pub returns-then-is_tick_line : goal.returns-then-is_tick_line
returns-then-is_tick_line c =
    let off : (c.shown_of-shown.result.aie ≡ false) × (c.shown_of-shown.result.uie ≡ false) =
    both_off c.shown_of-shown.result.aie c.shown_of-shown.result.uie (sym c.is_tick_line.ensures ∙ c.if-is_tick_line.true) in
    c.clock_line_up-line.ensures
    ∙ ap (clock_line_up c.args.span) (sym c.self.view_is)
    ∙ irq-alone c.args.span (parts_of c.self.inside) (sym c.shown_of-shown.ensures.aie ∙ off.0) (sym c.shown_of-shown.ensures.uie ∙ off.1)
    ∙ ap (irq_up c.args.span) c.self.view_is

pub returns : goal.returns
returns c =
    c.either_from.ensures ∙ ap (either_from c.clock_line_up-line.result) c.flags_up.ensures
    ∙ irq-by_events c.args.span (parts_of c.self.inside) c.clock_line_up-line.result c.pulses-events.result.first_alarm
    c.pulses-events.result.cycle.first_update
    (c.clock_line_up-line.ensures ∙ ap (clock_line_up c.args.span) (sym c.self.view_is))
    c.shown_of-shown.ensures.aie c.shown_of-shown.ensures.af c.shown_of-shown.ensures.uie c.shown_of-shown.ensures.uf
    (first_alarm c.self.inside.rtc c.args.n c.pulses-events.result.first_alarm c.pulses-events.ensures.first_alarm
    ∙ ap (first_of (alarms_in c.self.inside.rtc)) c.requires.pulses)
    (first_update (divider_of c.self.inside.rtc) c.args.n c.pulses-events.result.cycle.first_update c.pulses-events.ensures.first_update
    ∙ ap (first_of (updates_in (divider_of c.self.inside.rtc))) c.requires.pulses)
    ∙ ap (irq_up c.args.span) c.self.view_is
