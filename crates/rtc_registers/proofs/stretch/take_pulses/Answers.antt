use Rattle.std.proofs.Common.{◌≡◌, ◌+◌, ◌-◌, ◌*◌, ◌≤◌, Some, ap, ◌∙◌, arith}
use Rattle.clk_units.specs.Events.{IsFirst}
use Rattle.rtc_calendar.specs.Updates.{updated_times}
use Rattle.rtc_calendar.specs.Alarms.{matches_in}
use Rattle.rtc_cycle.specs.declared.parts.DividerParts.{DividerParts}
use Rattle.rtc_cycle.specs.Divider.{pulsed_times, ticks_in, updates_in}
use Rattle.rtc_cycle.proofs.Times.{updates_in-apart}
use Rattle.rtc_registers.specs.declared.parts.RtcParts.{RtcParts}
use Rattle.rtc_registers.specs.Registers.{divider_of, form_of, time_of, alarm_of}
use Rattle.rtc_registers.proofs.Times.{moved-is, flags_in-is, is_some-match, IsFirst-alarms_in}
use Rattle.rtc_registers.proofs.stretch.take_pulses.Goals as goal

pub update_pulse-requires : goal.update_pulse-requires
update_pulse-requires c = λ f k is_f is_k.
    let r : RtcParts = c.args.r.now in
    let updates : c.pulses-cycle.result.updates ≡ updates_in (divider_of r) c.args.n =
    c.pulses-cycle.ensures.updates ∙ ap (λ (d : DividerParts). updates_in d c.args.n) c.divider-divider.ensures in
    let first : IsFirst (updates_in (divider_of r)) c.args.n (Some f) = rw (c.divider-divider.ensures, is_f) at c.pulses-cycle.ensures.first_update in
    let match : IsFirst (matches_in (form_of r) (alarm_of r) (time_of r)) c.pulses-cycle.result.updates (Some k) =
    rw is_k at c.take_events-matched.ensures.matched in
    let apart : (f + (k - 1) * 32768 ≤ c.args.n) × (updates_in (divider_of r) (f + (k - 1) * 32768) ≡ k)
    × (updates_in (divider_of r) (f + (k - 1) * 32768 - 1) ≡ k - 1) =
    updates_in-apart (divider_of r) c.requires.divider c.args.n f k first match.0 (omega (arith, match.1, updates)) in
    (match.0, omega (arith, apart.0, c.ranges.n.fits))

pub returns : goal.returns
returns c =
    let r : RtcParts = c.args.r.now in
    let divider : c.parts.result ≡ pulsed_times c.args.n (divider_of r) =
    c.parts.ensures.value ∙ c.pulses-cycle.ensures.state ∙ ap (pulsed_times c.args.n) c.divider-divider.ensures in
    let ticks : c.pulses-cycle.result.ticks ≡ ticks_in (divider_of r) c.args.n =
    c.pulses-cycle.ensures.ticks ∙ ap (λ (d : DividerParts). ticks_in d c.args.n) c.divider-divider.ensures in
    let updates : c.pulses-cycle.result.updates ≡ updates_in (divider_of r) c.args.n =
    c.pulses-cycle.ensures.updates ∙ ap (λ (d : DividerParts). updates_in d c.args.n) c.divider-divider.ensures in
    let match : IsFirst (matches_in (form_of r) (alarm_of r) (time_of r)) (updates_in (divider_of r) c.args.n) c.take_events-matched.result =
    rw updates at c.take_events-matched.ensures.matched in
    let first : IsFirst (updates_in (divider_of r)) c.args.n c.pulses-cycle.result.first_update =
    rw c.divider-divider.ensures at c.pulses-cycle.ensures.first_update in
    record {
      state =
          c.take_events-matched.ensures.state
          ∙ moved-is c.args.n r c.requires _ _ _ divider (ap (λ u. updated_times (form_of r) u (time_of r)) updates)
          (flags_in-is c.args.n r _ _ _ ticks (is_some-match c.args.n r c.requires c.take_events-matched.result match) updates);
      ticks = ticks;
      few_ticks = c.pulses-cycle.ensures.few_ticks;
      first_tick = rw c.divider-divider.ensures at c.pulses-cycle.ensures.first_tick;
      updates = updates;
      few_updates = c.pulses-cycle.ensures.few_updates;
      first_update = rw c.divider-divider.ensures at c.pulses-cycle.ensures.first_update;
      first_alarm =
          rw c.update_pulse.ensures (IsFirst-alarms_in c.args.n r c.requires c.pulses-cycle.result.first_update c.take_events-matched.result first match);
    }
