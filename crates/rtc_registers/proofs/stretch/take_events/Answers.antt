use Rattle.std.proofs.Common.{◌≡◌, ℕ, ◌<◌, false, true, refl, sym, ap, ◌∙◌, arith}
use Rattle.std.proofs.Math.Bool.{or-true, or-false}
use Rattle.std.proofs.lemmas.Bool.{lt-ltb}
use Rattle.rtc_calendar.specs.Updates.{updated_times}
use Rattle.rtc_cycle.specs.declared.events.CycleEvents.{CycleEvents}
use Rattle.rtc_registers.specs.declared.parts.RtcParts.{RtcParts}
use Rattle.rtc_registers.specs.Registers.{register_c, flags_byte, pf_of, af_of, uf_of, form_of, time_of}
use Rattle.rtc_registers.specs.Parts.{IsRtc}
use Rattle.rtc_registers.specs.Pulses.{moved}
use Rattle.rtc_registers.specs.private.Stretch.{flags_left}
use Rattle.rtc_registers.proofs.Times.{moved-flag, moved-quiet}
use Rattle.rtc_registers.proofs.stretch.take_events.Goals as goal

-- register C after ticks alone, and after no event
flags_ticked : (events : CycleEvents) (r : RtcParts) → 0 < events.ticks → events.updates ≡ 0 → flags_byte true (af_of r) (uf_of r) ≡ flags_left events false r
flags_ticked events r ticks none = rw (lt-ltb 0 events.ticks ticks, none, or-true (pf_of r), or-false (af_of r), or-false (uf_of r)) refl

flags_still : (events : CycleEvents) (r : RtcParts) → IsRtc r → events.ticks ≡ 0 → events.updates ≡ 0 → register_c r ≡ flags_left events false r
flags_still events r valid no_tick none = rw (no_tick, none, or-false (pf_of r), or-false (af_of r), or-false (uf_of r)) valid.register_c

pub returns-then-cycle-gt0-2-clause-state : goal.returns-then-cycle-gt0-2-clause-state
returns-then-cycle-gt0-2-clause-state c =
    let r : RtcParts = c.args.r.now in
    let none : c.args.cycle.now.updates ≡ 0 = omega (arith, c.if-cycle-gt0.false) in
    c.take_ticks.ensures
    ∙ moved-flag c.args.divider r (omega (arith, c.requires.places))
    ∙ ap (λ (f : ℕ). moved c.args.divider (time_of r) f r) (flags_ticked c.args.cycle.now r c.if-cycle-gt0-2.true none)
    ∙ ap (λ (u : ℕ). moved c.args.divider (updated_times (form_of r) u (time_of r)) (flags_left c.args.cycle.now false r) r) (sym none)

pub returns-else-cycle-gt0-2-clause-state : goal.returns-else-cycle-gt0-2-clause-state
returns-else-cycle-gt0-2-clause-state c =
    let r : RtcParts = c.args.r.now in
    let none : c.args.cycle.now.updates ≡ 0 = omega (arith, c.if-cycle-gt0.false) in
    let no_tick : c.args.cycle.now.ticks ≡ 0 = omega (arith, c.if-cycle-gt0-2.false) in
    c.move_divider.ensures
    ∙ moved-quiet c.args.divider r (omega (arith, c.requires.places))
    ∙ ap (λ (f : ℕ). moved c.args.divider (time_of r) f r) (flags_still c.args.cycle.now r c.requires no_tick none)
    ∙ ap (λ (u : ℕ). moved c.args.divider (updated_times (form_of r) u (time_of r)) (flags_left c.args.cycle.now false r) r) (sym none)
