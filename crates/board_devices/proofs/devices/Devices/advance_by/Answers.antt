use Rattle.std.proofs.Common.{◌≡◌, ℕ, zero, suc, ◌+◌, ◌-◌, ◌*◌, ◌/◌, ◌<◌, ◌≤◌, ◌^◌, ◌&&◌, Bool, true, not, cond}
use Rattle.std.proofs.Common.{◌⊎◌, get_or, List, Option, Some, None, ap, sym, subst, refl, ◌∙◌, inl, inr, false, arith}
use Rattle.std.proofs.lemmas.List.{get_or_default}
use Rattle.std.proofs.lemmas.Bool.{cases_lt, true≢false}
use Rattle.clk_units.specs.Bits.{bit}
use Rattle.clk_units.specs.Pulses.{pulses_from}
use Rattle.clk_units.specs.Events.{IsFirst, first_at}
use Rattle.pit_readback.specs.declared.TheConstants.{PIT_HZ}
use Rattle.pit_counter.specs.Table.{rises_in}
use Rattle.pit_readback.specs.Pit.{counter_of}
use Rattle.rtc_cycle.specs.Divider.{ticks_in}
use Rattle.hpet_comparator.specs.Parts.{is_level, is_enabled}
use Rattle.hpet_registers.proofs.Product.{is_level-hpet_pulsed_times, timers-hpet_pulsed_times}
use Rattle.rtc_cycle.specs.Divider.{updates_in}
use Rattle.rtc_registers.specs.declared.parts.RtcParts.{RtcParts}
use Rattle.rtc_registers.specs.Parts.{IsRtc}
use Rattle.rtc_registers.specs.Registers.{divider_of, pf_of, pie_of, register_b}
use Rattle.rtc_registers.proofs.Times.{pf_of-rtc_pulsed_times, IsRtc-rtc_pulsed_times, register_b-rtc_pulsed_times}
use Rattle.board_devices.specs.private.Pulses.{is_unheard, heard_pulses, left_pulses}
use Rattle.board_devices.specs.private.Runs.{passed}
use Rattle.board_devices.proofs.Unheard.{heard-all, heard-few, heard-pie, heard-aie, heard-uie, left-none, passed-flagged, unheard-counts, unheard-pie}
use Rattle.board_devices.proofs.Unheard.{IsDevices-unpassed, IsRtc-flagged_where}
use Rattle.hpet_registers.specs.Parts.{is_legacy}
use Rattle.hpet_registers.specs.Outputs.{has_ticks}
use Rattle.tick_policy.specs.Line.{ticked_times}
use Rattle.board_devices.specs.declared.stretch.Ticks.{Ticks}
use Rattle.std.specs.Option.{IfSome}
use Rattle.rtc_registers.specs.declared.TheConstants.{RTC_HZ}
use Rattle.rtc_registers.specs.Pulses.{rtc_pulsed_times, alarms_in}
use Rattle.hpet_registers.specs.declared.hpet.TheConstants.{HPET_HZ}
use Rattle.hpet_registers.specs.declared.parts.HpetParts.{HpetParts}
use Rattle.hpet_registers.specs.Parts.{IsHpet, timer_at}
use Rattle.hpet_registers.specs.Stretch.{hpet_pulsed_times, matches_of, timer_matches}
use Rattle.tick_policy.specs.declared.parts.TickParts.{TickParts}
use Rattle.tick_policy.proofs.Stretches.{next_point}
use Rattle.board_devices.specs.declared.parts.DeviceParts.{DeviceParts}
use Rattle.board_devices.specs.declared.stretch.Span.{Span}
use Rattle.hpet_comparator.specs.declared.stretch.Matches.{Matches}
use Rattle.board_devices.specs.Lines.{levels}
use Rattle.board_devices.specs.Nanosecond.{counts_rtc}
use Rattle.board_devices.specs.Parts.{IsDevices}
use Rattle.board_devices.specs.Places.{line_at, no_line}
use Rattle.board_devices.specs.Run.{run}
use Rattle.board_devices.specs.View.{parts_of}
use Rattle.board_devices.specs.private.Stretch.{source, counted, timer_ticks, ticks_at, end_of, up_of, flagged_where, either_from}
use Rattle.board_devices.specs.private.Stretch.{flag_from, output_up, slots_from}
use Rattle.board_devices.proofs.Product.{Sound, run-parted, register_b-flagged_where}
use Rattle.board_devices.proofs.Advance.{Brought, Known, ran-state, ran-levels, up-is, IsDevices-parted, due-few, enabled_of, up_at, irq_at, lines_from, outs}
use Rattle.board_devices.proofs.Timers.{ends-timers, times-are}
use Rattle.hpet_registers.proofs.After.{has_ticks-hpet_pulsed_times}
use Rattle.board_devices.proofs.Idle.{end-early, end-unseen}
use Rattle.board_devices.proofs.Still.{QuietFrom, levels-still, flag-again}
use Rattle.board_devices.proofs.devices.Devices.advance_by.Goals as goal
use Rattle.board_devices.proofs.devices.Devices.advance_by.Goals.{After-pulses-events}

-- first events come in the stretch
inside : (count : ℕ → ℕ) (n most : ℕ) (first : Option ℕ) → n ≤ most → IsFirst count n first → IfSome first (λ j. j ≤ most)
inside count n most None few h = tt
inside count n most (Some j) few h = omega (arith, few, h.1)

-- no timer matched from the reach on
pub finds_up-requires : goal.finds_up-requires
finds_up-requires c = record { places = c.pulses-reach.ensures.places; none = c.pulses-reach.ensures.reach }

pub take_matches-requires-clause-reach : goal.take_matches-requires-clause-reach
take_matches-requires-clause-reach c = record { places = c.pulses-reach.ensures.places; none = c.pulses-reach.ensures.reach }

-- there is room for the ticks
pub run_pit-pit_up-requires-clause-room : goal.run_pit-pit_up-requires-clause-room
run_pit-pit_up-requires-clause-room c =
    let room : (line_at 0 (parts_of c.self.inside)).counts.due + (c.args.to - c.args.from) < 2 ^ 63 =
    rw (← c.self.view_is) at (c.requires.stretch.room 0 (omega arith)) in
    omega (arith, room, c.pulses-rises.ensures.few, c.requires.pulses.few_pit)

pub run_clock-rtc_up-requires-clause-room : goal.run_clock-rtc_up-requires-clause-room
run_clock-rtc_up-requires-clause-room c =
    let room : (line_at 1 (parts_of c.self.inside)).counts.due + (c.args.to - c.args.from) < 2 ^ 63 =
    rw (← c.self.view_is) at (c.requires.stretch.room 1 (omega arith)) in
    let same : (get_or c.run_pit-pit_up.new.lines 1 no_line).counts.due ≡ (line_at 1 (parts_of c.self.inside)).counts.due =
    ap (λ (l : TickParts). l.counts.due) (c.run_pit-pit_up.ensures.others 1 (λ e. absurd (omega (arith, e)))) in
    omega (arith, room, same, c.pulses-events.ensures.few_ticks, c.requires.pulses.few_rtc)

pub run_timers-requires : goal.run_timers-requires
run_timers-requires c = record {
  order = c.requires.stretch.order;
  range = c.requires.stretch.range;
  inside = λ k less. rw c.requires.pulses.hpet at
      (inside (matches_of k c.self.inside.hpet) c.args.pulses.hpet c.args.pulses.hpet (timer_matches c.pulses-reach.new.matches k).first
      (omega arith) (c.pulses-reach.ensures.first k));
  room = λ k less.
      let place : k + 2 ≡ suc (suc k) = omega arith in
      let room : (line_at (k + 2) (parts_of c.self.inside)).counts.due + (c.args.to - c.args.from) < 2 ^ 63 =
      rw (← c.self.view_is) at (c.requires.stretch.room (k + 2) (omega arith)) in
      let same : (get_or c.run_clock-rtc_up.new.lines (k + 2) no_line).counts.due ≡ (line_at (k + 2) (parts_of c.self.inside)).counts.due =
      ap (λ (l : TickParts). l.counts.due) (c.run_clock-rtc_up.ensures.others (k + 2) (λ e. absurd (omega (arith, e)))
      ∙ c.run_pit-pit_up.ensures.others (k + 2) (λ e. absurd (omega (arith, e)))) in
      omega (arith, room, same, c.pulses-reach.ensures.few k, c.requires.pulses.few_hpet);
}

-- what is known where the devices have had their pulses
sound : (c : After-pulses-events) → Sound (parts_of c.self.inside)
sound c = record {
  rtc = rw c.parts-clock.ensures.value at c.parts-clock.ensures.valid;
  joined = c.self.invariant;
}

valid : (c : After-pulses-events) → IsHpet c.self.inside.hpet
valid c = subst IsHpet c.parts-status.ensures.parts c.parts-status.ensures.valid

-- the clock has all its pulses where somebody hears it
heard : (c : After-pulses-events) → is_unheard c.self.inside.rtc ≡ false
    → c.args.pulses.rtc ≡ pulses_from RTC_HZ c.args.from (c.args.to - c.args.from)
heard c e = c.requires.pulses.rtc ∙ ap (λ (d : DeviceParts). heard_pulses c.args.from c.args.to d.rtc) (sym c.self.view_is)
    ∙ heard-all c.args.from c.args.to c.self.inside.rtc e

heard_counts : (c : After-pulses-events) → counts_rtc (parts_of c.self.inside) ≡ true → is_unheard c.self.inside.rtc ≡ false
heard_counts c on = heard-pie c.self.inside.rtc (first (pie_of c.self.inside.rtc) (not (is_legacy c.self.inside.hpet)) on)
  where
    first : (a b : Bool) → (a && b) ≡ true → a ≡ true
    first true b h = refl
    first false b h = absurd (true≢false (sym h))

brought : (c : After-pulses-events)
    → Brought (parts_of c.self.inside) c.args.from (c.args.to - c.args.from) c.pulses-rises.result c.pulses-events.result c.pulses-reach.new.matches
brought c = record {
  pit_count = rw c.requires.pulses.pit at c.pulses-rises.ensures.count;
  pit_first = rw c.requires.pulses.pit at c.pulses-rises.ensures.first;
  rtc_count = λ on. rw (heard c (heard_counts c on)) at c.pulses-events.ensures.ticks;
  rtc_first = λ on. rw (heard c (heard_counts c on)) at c.pulses-events.ensures.first_tick;
  update_first = λ on. rw (heard c (heard-uie c.self.inside.rtc on)) at c.pulses-events.ensures.first_update;
  alarm_first = λ on. rw (heard c (heard-aie c.self.inside.rtc on)) at c.pulses-events.ensures.first_alarm;
  timer_count = λ k on. rw c.requires.pulses.hpet at (c.pulses-reach.ensures.count k);
  timer_first = λ k on. rw c.requires.pulses.hpet at (c.pulses-reach.ensures.first k);
}

few_heard : (c : After-pulses-events) → c.args.pulses.rtc ≤ pulses_from RTC_HZ c.args.from (c.args.to - c.args.from)
few_heard c = omega (arith, c.requires.pulses.rtc, heard-few c.args.from c.args.to c.args.self.now.rtc)

pub irq_up-irq-requires-clause-alarm : goal.irq_up-irq-requires-clause-alarm
irq_up-irq-requires-clause-alarm c = inside (alarms_in c.self.inside.rtc) c.args.pulses.rtc _ c.pulses-events.result.first_alarm
    (few_heard (goal.at.irq_up-irq-requires-clause-alarm c).After-pulses-events) c.pulses-events.ensures.first_alarm

pub irq_up-irq-requires-clause-update : goal.irq_up-irq-requires-clause-update
irq_up-irq-requires-clause-update c = inside (updates_in (divider_of c.self.inside.rtc)) c.args.pulses.rtc _ c.pulses-events.result.cycle.first_update
    (few_heard (goal.at.irq_up-irq-requires-clause-update c).After-pulses-events) c.pulses-events.ensures.first_update

-- the ticks of the 8254 and of the MC146818
abbrev pit_of : (c : After-pulses-events) → Ticks
pit_of c = counted true (not c.legacy-legacy.result) c.pulses-rises.result.count (first_at PIT_HZ c.args.from c.pulses-rises.result.first)

abbrev rtc_of : (c : After-pulses-events) → Ticks
rtc_of c = counted (counts_rtc (parts_of c.self.inside)) (counts_rtc (parts_of c.self.inside)) c.pulses-events.result.cycle.ticks
    (first_at RTC_HZ c.args.from c.pulses-events.result.cycle.first_tick)

-- the first catch-up point
ahead : (c : After-pulses-events) → ℕ
ahead c = (c.args.from / c.self.inside.slew_ns + 1) * c.self.inside.slew_ns - c.args.from

known : (c : After-pulses-events)
    → Known (parts_of c.self.inside) c.args.from (c.args.to - c.args.from) (ahead c)
    c.pulses-rises.result c.pulses-events.result c.pulses-reach.new.matches (pit_of c) (rtc_of c)
unfolding ahead
known c = record {
  sound = sound c;
  point = next_point c.self.inside.slew_ns c.args.from (omega (arith, c.self.invariant.slew_low));
  brought = brought c;
  pit_is = rw c.legacy-legacy.ensures refl;
  rtc_is = refl;
}

point_is : (c : After-pulses-events) → c.next_point-point.result ≡ c.args.from + ahead c
unfolding ahead
point_is c = omega (arith, (known c).point.later, c.next_point-point.ensures)

end_is : (c : After-pulses-events) → c.args.to ≡ c.args.from + (c.args.to - c.args.from)
end_is c = omega (arith, c.requires.stretch.order)

hpet_is : (c : After-pulses-events)
    → c.pulses-reach.new.self ≡ hpet_pulsed_times (pulses_from HPET_HZ c.args.from (c.args.to - c.args.from)) c.self.inside.hpet
hpet_is c = rw c.requires.pulses.hpet at c.pulses-reach.ensures.state

-- the clock has the pulses that are heard
taken : (c : After-pulses-events) → c.pulses-events.new.self
    ≡ rtc_pulsed_times (heard_pulses c.args.from c.args.to c.self.inside.rtc) c.self.inside.rtc
taken c = c.pulses-events.ensures.state
    ∙ ap (λ (n : ℕ). rtc_pulsed_times n c.self.inside.rtc)
    (c.requires.pulses.rtc ∙ ap (λ (d : DeviceParts). heard_pulses c.args.from c.args.to d.rtc) (sym c.self.view_is))

abbrev heard_rtc : (c : After-pulses-events) → RtcParts
heard_rtc c = rtc_pulsed_times (heard_pulses c.args.from c.args.to c.self.inside.rtc) c.self.inside.rtc

valid_rtc : (c : After-pulses-events) → IsRtc (heard_rtc c)
valid_rtc c = IsRtc-rtc_pulsed_times (heard_pulses c.args.from c.args.to c.self.inside.rtc) c.self.inside.rtc (sound c).rtc

b_heard : (c : After-pulses-events) → register_b (heard_rtc c) ≡ register_b c.self.inside.rtc
b_heard c = register_b-rtc_pulsed_times (heard_pulses c.args.from c.args.to c.self.inside.rtc) c.self.inside.rtc (sound c).rtc

-- what is left to it changes nothing that joins the devices
unpassed : (c : After-pulses-events) (d : DeviceParts) → d.hpet ≡ c.pulses-reach.new.self
    → register_b d.rtc ≡ register_b c.self.inside.rtc → IsRtc d.rtc
    → IsDevices (passed (left_pulses c.args.from c.args.to c.self.inside.rtc) d) → IsDevices d
unpassed c d hpet b valid joined = by_test (is_unheard c.self.inside.rtc) refl
  where
    by_test : (u : Bool) → is_unheard c.self.inside.rtc ≡ u → IsDevices d
    by_test false e = subst (λ (n : ℕ). IsDevices (passed n d)) (left-none c.args.from c.args.to c.self.inside.rtc e) joined
    by_test true e =
        let n : ℕ = left_pulses c.args.from c.args.to c.self.inside.rtc in
        let off : pie_of d.rtc ≡ false = ap (bit 6) b ∙ unheard-pie c.self.inside.rtc e in
        IsDevices-unpassed n d joined (ap (λ (p : Bool). p && not (is_legacy d.hpet)) off)
        (ap (λ (p : Bool). p && not (is_legacy d.hpet)) (ap (bit 6) (register_b-rtc_pulsed_times n d.rtc valid) ∙ off))

-- where the lines were taken over the stretch
abbrev pulsed : (c : goal.After-run_timers) → After-pulses-events
pulsed c = (goal.at.returns-clause-ran c).After-pulses-events

counts_is : (c : goal.After-run_timers) → c.counts_rtc-counts.result ≡ counts_rtc (parts_of c.self.inside)
counts_is c = rw (c.counts_rtc-counts.ensures, c.legacy-legacy.ensures, c.shown_of-shown.ensures.pie) refl

-- the lines after those of the 8254 and the MC146818
behind : (c : goal.After-run_timers) → (k : ℕ) → k < 8 → get_or c.run_clock-rtc_up.new.lines (k + 2) no_line ≡ line_at (suc (suc k)) (parts_of c.self.inside)
behind c k less =
    let place : k + 2 ≡ suc (suc k) = omega arith in
    c.run_clock-rtc_up.ensures.others (k + 2) (λ e. absurd (omega (arith, e)))
    ∙ c.run_pit-pit_up.ensures.others (k + 2) (λ e. absurd (omega (arith, e)))
    ∙ ap (λ (i : ℕ). get_or c.self.inside.ticks i no_line) place

-- the lines at the end
first_line : (c : goal.After-run_timers) → get_or c.run_clock-rtc_up.new.lines 1 no_line
    ≡ end_of c.next_point-point.result c.args.to (rtc_of (pulsed c)) (line_at 1 (parts_of c.self.inside))
first_line c =
    c.run_clock-rtc_up.ensures.here
    ∙ ap (λ (b : Bool). end_of c.next_point-point.result c.args.to (counted b b c.pulses-events.result.cycle.ticks
    (first_at RTC_HZ c.args.from c.pulses-events.result.cycle.first_tick)) (get_or c.run_pit-pit_up.new.lines 1 no_line)) (counts_is c)
    ∙ ap (end_of c.next_point-point.result c.args.to (rtc_of (pulsed c))) (c.run_pit-pit_up.ensures.others 1 (λ e. absurd (omega (arith, e))))

ends : (c : goal.After-run_timers) → (k : ℕ) → k < 10 → get_or c.run_timers.new.lines k no_line
    ≡ end_of c.next_point-point.result c.args.to
    (ticks_at c.args.from c.self.inside.hpet c.pulses-reach.new.matches (pit_of (pulsed c)) (rtc_of (pulsed c)) k) (line_at k (parts_of c.self.inside))
ends c zero less =
    c.run_timers.ensures.lines.front 0 (omega arith) ∙ c.run_clock-rtc_up.ensures.others 0 (λ e. absurd (omega (arith, e))) ∙ c.run_pit-pit_up.ensures.here
ends c (suc zero) less = c.run_timers.ensures.lines.front 1 (omega arith) ∙ first_line c
ends c (suc (suc k)) less = ends-timers (known (pulsed c)) c.next_point-point.result c.args.to c.run_clock-rtc_up.new.lines c.run_timers.new.lines (behind c)
    (λ j inside. subst (λ (h : HpetParts). get_or c.run_timers.new.lines (j + 2) no_line ≡ end_of c.next_point-point.result c.args.to
    (timer_ticks c.args.from j h (timer_matches c.pulses-reach.new.matches j)) (get_or c.run_clock-rtc_up.new.lines (j + 2) no_line)) (hpet_is (pulsed c))
    (c.run_timers.ensures.lines.done j (subst (λ (h : HpetParts). j < h.timers) (sym (hpet_is (pulsed c))) inside)))
    (λ j past. c.run_timers.ensures.lines.rest j (subst (λ (h : HpetParts). h.timers + 2 ≤ j) (sym (hpet_is (pulsed c))) past))
    c.pulses-reach.ensures.none k (omega arith)

-- the clock, with PF where its line set it
abbrev flag_of : (c : goal.After-run_timers) → Bool
flag_of c = c.counts_rtc_up-flag.result

flagged_rtc : (c : goal.After-run_timers) → c.set_flag.new.rtc ≡ flagged_where (flag_of c) (heard_rtc (pulsed c))
flagged_rtc c = c.set_flag.ensures ∙ ap (flagged_where (flag_of c)) (taken (pulsed c))

-- PF follows its line
rtc_is : (c : goal.After-run_timers) → rtc_pulsed_times (left_pulses c.args.from c.args.to c.self.inside.rtc) c.set_flag.new.rtc
    ≡ flagged_where (counts_rtc (parts_of c.self.inside) && (get_or c.run_timers.new.lines 1 no_line).up)
    (rtc_pulsed_times (pulses_from RTC_HZ c.args.from (c.args.to - c.args.from)) c.self.inside.rtc)
rtc_is c =
    let one : get_or c.run_clock-rtc_up.new.lines 1 c.index-self-1.result ≡ get_or c.run_timers.new.lines 1 no_line =
    get_or_default c.run_clock-rtc_up.new.lines 1 c.index-self-1.result no_line (omega arith) ∙ sym (c.run_timers.ensures.lines.front 1 (omega arith)) in
    let flag : c.counts_rtc_up-flag.result ≡ (counts_rtc (parts_of c.self.inside) && (get_or c.run_timers.new.lines 1 no_line).up) =
    c.counts_rtc_up-flag.ensures
    ∙ ap (λ (b : Bool). b && c.is_up.result) (counts_is c)
    ∙ ap (λ (b : Bool). counts_rtc (parts_of c.self.inside) && b) (c.is_up.ensures ∙ ap (λ (l : TickParts). l.up) one) in
    ap (rtc_pulsed_times (left_pulses c.args.from c.args.to c.self.inside.rtc))
    (c.set_flag.ensures ∙ ap (λ (b : Bool). flagged_where b c.pulses-events.new.self) flag
    ∙ ap (flagged_where (counts_rtc (parts_of c.self.inside) && (get_or c.run_timers.new.lines 1 no_line).up)) (taken (pulsed c)))
    ∙ passed-flagged c.args.from c.args.to (counts_rtc (parts_of c.self.inside) && (get_or c.run_timers.new.lines 1 no_line).up) c.self.inside.rtc
    (λ e. ap (λ (b : Bool). b && (get_or c.run_timers.new.lines 1 no_line).up) (unheard-counts (parts_of c.self.inside) e))

state : (c : goal.After-run_timers)
    → parts_of (record {
      pit = c.pulses-rises.new.self;
      rtc = rtc_pulsed_times (left_pulses c.args.from c.args.to c.self.inside.rtc) c.set_flag.new.rtc;
      hpet = c.pulses-reach.new.self;
      ticks = c.run_timers.new.lines;
      slew_ns = c.self.inside.slew_ns;
    }) ≡ (run c.args.from (c.args.to - c.args.from) (parts_of c.self.inside)).state
state c = ran-state (known (pulsed c)) c.next_point-point.result c.args.to c.run_timers.new.lines c.pulses-rises.new.self
    (rtc_pulsed_times (left_pulses c.args.from c.args.to c.self.inside.rtc) c.set_flag.new.rtc)
    c.pulses-reach.new.self (point_is (pulsed c)) (end_is (pulsed c)) c.run_timers.ensures.lines.places (ends c)
    (rw c.requires.pulses.pit at c.pulses-rises.ensures.state) (rtc_is c) (hpet_is (pulsed c))

joined : (c : goal.After-run_timers)
    → IsDevices (parts_of (record {
      pit = c.pulses-rises.new.self;
      rtc = rtc_pulsed_times (left_pulses c.args.from c.args.to c.self.inside.rtc) c.set_flag.new.rtc;
      hpet = c.pulses-reach.new.self;
      ticks = c.run_timers.new.lines;
      slew_ns = c.self.inside.slew_ns;
    }))
joined c = subst IsDevices (sym (state c ∙ run-parted c.args.from (c.args.to - c.args.from) (parts_of c.self.inside) (sound (pulsed c))))
    (IsDevices-parted (known (pulsed c)) (c.args.to - c.args.from))

pub invariant_of-self-2 : goal.invariant_of-self-2
invariant_of-self-2 c = unpassed (pulsed c) _ refl
    (ap register_b (flagged_rtc c) ∙ register_b-flagged_where (flag_of c) (heard_rtc (pulsed c)) (valid_rtc (pulsed c)) ∙ b_heard (pulsed c))
    (subst IsRtc (sym (flagged_rtc c)) (IsRtc-flagged_where (flag_of c) (heard_rtc (pulsed c)) (valid_rtc (pulsed c))))
    (joined c)

-- from when on the lines of the 8254 and of the MC146818 are up
pit_up : (c : goal.After-run_timers) → c.run_pit-pit_up.result ≡ up_at (known (pulsed c)) 0
pit_up c = c.run_pit-pit_up.ensures.up ∙ up-is (known (pulsed c)) c.next_point-point.result c.args.to 0 (point_is (pulsed c)) (end_is (pulsed c))

irq_up : (c : goal.After-run_timers) → c.irq_up-irq.result ≡ irq_at (known (pulsed c))
irq_up c =
    let line : c.run_clock-rtc_up.result ≡ up_at (known (pulsed c)) 1 =
    c.run_clock-rtc_up.ensures.up
    ∙ ap (λ (b : Bool). up_of c.args.from c.next_point-point.result c.args.to (counted b b c.pulses-events.result.cycle.ticks
    (first_at RTC_HZ c.args.from c.pulses-events.result.cycle.first_tick)) (get_or c.run_pit-pit_up.new.lines 1 no_line)) (counts_is c)
    ∙ ap (up_of c.args.from c.next_point-point.result c.args.to (rtc_of (pulsed c))) (c.run_pit-pit_up.ensures.others 1 (λ e. absurd (omega (arith, e))))
    ∙ up-is (known (pulsed c)) c.next_point-point.result c.args.to 1 (point_is (pulsed c)) (end_is (pulsed c)) in
    c.irq_up-irq.ensures
    ∙ by_parts c.args.from _ _ line c.shown_of-shown.ensures.aie c.shown_of-shown.ensures.af c.shown_of-shown.ensures.uie c.shown_of-shown.ensures.uf
  where
    by_parts : (from : ℕ) (alarm update : Option ℕ) {p q : Option ℕ} {a b e f i j k l : Bool} → p ≡ q → a ≡ b → e ≡ f → i ≡ j → k ≡ l
        → either_from p (either_from (flag_from a e from alarm) (flag_from i k from update))
        ≡ either_from q (either_from (flag_from b f from alarm) (flag_from j l from update))
    by_parts from alarm update x y z v w = rw (x, y, z, v, w) refl

-- from when on all lines are up
times : (c : goal.After-run_timers) → c.run_timers.new.times ≡ lines_from (known (pulsed c)) (outs (known (pulsed c)))
times c =
    let status : ℕ = c.parts-status.result.status in
    let before : List TickParts = c.run_clock-rtc_up.new.lines in
    let ms : List Matches = c.pulses-reach.new.matches in
    let h : HpetParts = hpet_pulsed_times (pulses_from HPET_HZ c.args.from (c.args.to - c.args.from)) c.self.inside.hpet in
    let span : Span = record { from = c.args.from; to = c.args.to; point = c.next_point-point.result } in
    c.run_timers.ensures.times
    ∙ ap (λ (g : HpetParts). slots_from g.timers g
    (λ k. output_up span k g (bit k status) (timer_matches ms k) (get_or before (k + 2) no_line)) c.front_times.result) (hpet_is (pulsed c))
    ∙ ap (λ (i : ℕ). slots_from h.timers h (λ k. output_up (record { from = c.args.from; to = i; point = c.next_point-point.result }) k h (bit k status)
    (timer_matches ms k) (get_or before (k + 2) no_line)) c.front_times.result) (end_is (pulsed c))
    ∙ ap (λ (i : ℕ). slots_from h.timers h (λ k. output_up (record { from = c.args.from; to = c.args.from + (c.args.to - c.args.from); point = i }) k h
    (bit k status) (timer_matches ms k) (get_or before (k + 2) no_line)) c.front_times.result) (point_is (pulsed c))
    ∙ ap (slots_from h.timers h (λ k. output_up (record {
      from = c.args.from;
      to = c.args.from + (c.args.to - c.args.from);
      point = c.args.from + ahead (pulsed c);
    }) k h (bit k status) (timer_matches ms k) (get_or before (k + 2) no_line))) c.front_times.ensures
    ∙ times-are (known (pulsed c)) status before c.run_pit-pit_up.result c.irq_up-irq.result c.legacy-legacy.result (valid (pulsed c))
    (ap (λ (g : HpetParts). g.status) c.parts-status.ensures.parts) (behind c) (pit_up c) (irq_up c) c.legacy-legacy.ensures

-- what a run leaves, by what the devices were
abbrev leaves : (c : After-pulses-events) → DeviceParts → DeviceParts → Type 0
leaves c after d = passed (left_pulses c.args.from c.args.to d.rtc) after ≡ (run c.args.from (c.args.to - c.args.from) d).state

pub returns-clause-ran : goal.returns-clause-ran
returns-clause-ran c = record {
  state = subst (leaves (pulsed c) _) c.self.view_is (state c);
  levels = λ j le.
      ap (λ (d : DeviceParts). levels (run c.args.from j d).state) (sym c.self.view_is)
      ∙ ran-levels (known (pulsed c)) c.run_timers.new.times (times c) j (omega (arith, le, end_is (pulsed c)));
  due = λ k less. rw (← c.self.view_is) (due-few (known (pulsed c)) c.next_point-point.result c.args.to c.run_timers.new.lines (ends c) k less);
}

-- where their ticks alone were counted
abbrev still_pulsed : (c : goal.After-take_matches) → After-pulses-events
still_pulsed c = (goal.at.returns-then-finds_up-clause-ran c).After-pulses-events

-- where no line moved: there is room for the ticks
pub count_ticks-requires-clause-room : goal.count_ticks-requires-clause-room
count_ticks-requires-clause-room c =
    let room : (line_at 0 (parts_of c.self.inside)).counts.due + (c.args.to - c.args.from) < 2 ^ 63 =
    rw (← c.self.view_is) at (c.requires.stretch.room 0 (omega arith)) in
    omega (arith, room, c.pulses-rises.ensures.few, c.requires.pulses.few_pit)

-- the lines of the timers, as they were
timer_lines : (c : goal.After-take_matches) (k : ℕ) → get_or c.count_ticks.new.lines (k + 2) no_line ≡ get_or c.self.inside.ticks (k + 2) no_line
timer_lines c k = c.count_ticks.ensures.others (k + 2) (λ e. absurd (omega (arith, e)))

pub take_matches-requires-clause-rooms : goal.take_matches-requires-clause-rooms
take_matches-requires-clause-rooms c = λ k less.
    let same : (get_or c.count_ticks.new.lines (k + 2) no_line).counts.due ≡ (line_at (k + 2) (parts_of c.self.inside)).counts.due =
    ap (λ (l : TickParts). l.counts.due) (c.count_ticks.ensures.others (k + 2) (λ e. absurd (omega (arith, e)))) in
    let room : (line_at (k + 2) (parts_of c.self.inside)).counts.due + (c.args.to - c.args.from) < 2 ^ 63 =
    rw (← c.self.view_is) at (c.requires.stretch.room (k + 2) (omega arith)) in
    omega (arith, room, same, c.pulses-reach.ensures.few k, c.requires.pulses.few_hpet)

-- .. and the timers that matched are there
pub take_matches-requires-clause-inside : goal.take_matches-requires-clause-inside
take_matches-requires-clause-inside c =
    let same : c.pulses-reach.new.self.timers ≡ c.self.inside.hpet.timers =
    ap (λ (h : HpetParts). h.timers) c.pulses-reach.ensures.state ∙ timers-hpet_pulsed_times c.args.pulses.hpet c.self.inside.hpet in
    omega (arith, same, c.pulses-reach.ensures.inside)

-- nothing came of the MC146818
still_ticks : (c : goal.After-take_matches) → c.pulses-events.result.cycle.ticks ≡ 0
still_ticks c = c.if-brought_nothing.ensures.ticks refl

still_updates : (c : goal.After-take_matches) → c.pulses-events.result.cycle.updates ≡ 0
still_updates c = c.if-brought_nothing.ensures.updates refl

-- the lines at the end: each has its ticks
early : (c : goal.After-take_matches) → c.args.to < c.next_point-point.result
early c = c.if-to-point.true

clock_line : (c : goal.After-take_matches) → get_or c.take_matches.new.lines 1 no_line ≡ get_or c.self.inside.ticks 1 no_line
clock_line c = c.take_matches.ensures.front 1 (omega arith) ∙ c.count_ticks.ensures.others 1 (λ e. absurd (omega (arith, e)))

still_ends : (c : goal.After-take_matches) → (k : ℕ) → k < 10 → get_or c.take_matches.new.lines k no_line
    ≡ end_of c.next_point-point.result c.args.to
    (ticks_at c.args.from c.self.inside.hpet c.pulses-reach.new.matches (pit_of (still_pulsed c)) (rtc_of (still_pulsed c)) k)
    (line_at k (parts_of c.self.inside))
still_ends c zero less =
    c.take_matches.ensures.front 0 (omega arith) ∙ c.count_ticks.ensures.here
    ∙ sym (end-early c.next_point-point.result c.args.to c.pulses-rises.result.count (not c.legacy-legacy.result)
    (first_at PIT_HZ c.args.from c.pulses-rises.result.first) (line_at 0 (parts_of c.self.inside)) (early c))
still_ends c (suc zero) less =
    clock_line c
    ∙ sym (end-unseen c.next_point-point.result c.args.to c.pulses-events.result.cycle.ticks (counts_rtc (parts_of c.self.inside))
    (first_at RTC_HZ c.args.from c.pulses-events.result.cycle.first_tick) (line_at 1 (parts_of c.self.inside)) (early c)
    (still_ticks c))
still_ends c (suc (suc k)) less = ends-timers (known (still_pulsed c)) c.next_point-point.result c.args.to c.self.inside.ticks c.take_matches.new.lines
    (λ j small. ap (λ (i : ℕ). get_or c.self.inside.ticks i no_line) (omega arith))
    (λ j inside. c.take_matches.ensures.done j (subst (λ (h : HpetParts). j < h.timers) (sym (hpet_is (still_pulsed c))) inside)
    ∙ ap (ticked_times (cond (has_ticks j c.pulses-reach.new.self) (timer_matches c.pulses-reach.new.matches j).count 0)) (timer_lines c j)
    ∙ ap (λ (h : HpetParts). ticked_times (cond (has_ticks j h) (timer_matches c.pulses-reach.new.matches j).count 0)
    (get_or c.self.inside.ticks (j + 2) no_line)) (hpet_is (still_pulsed c))
    ∙ sym (end-early c.next_point-point.result c.args.to (timer_matches c.pulses-reach.new.matches j).count _ _ (get_or c.self.inside.ticks (j + 2) no_line)
    (early c)))
    (λ j past. c.take_matches.ensures.rest j (subst (λ (h : HpetParts). h.timers + 2 ≤ j) (sym (hpet_is (still_pulsed c))) past)
    ∙ c.count_ticks.ensures.others j (λ e. absurd (omega (arith, e, past))))
    c.pulses-reach.ensures.none k (omega arith)

-- PF follows its line, which is as it was
still_rtc_is : (c : goal.After-take_matches)
    → rtc_pulsed_times (left_pulses c.args.from c.args.to c.self.inside.rtc) c.pulses-events.new.self
    ≡ flagged_where (counts_rtc (parts_of c.self.inside) && (get_or c.take_matches.new.lines 1 no_line).up)
    (rtc_pulsed_times (pulses_from RTC_HZ c.args.from (c.args.to - c.args.from)) c.self.inside.rtc)
unfolding flagged_where
still_rtc_is c =
    let m : ℕ = pulses_from RTC_HZ c.args.from (c.args.to - c.args.from) in
    let b : Bool = counts_rtc (parts_of c.self.inside) in
    ap (rtc_pulsed_times (left_pulses c.args.from c.args.to c.self.inside.rtc)) (taken (still_pulsed c))
    ∙ passed-flagged c.args.from c.args.to false c.self.inside.rtc (λ e. refl)
    ∙ sym (flag-again b (pf_of c.self.inside.rtc) (ticks_in (divider_of c.self.inside.rtc) m) (rtc_pulsed_times m c.self.inside.rtc)
    (IsRtc-rtc_pulsed_times m c.self.inside.rtc (sound (still_pulsed c)).rtc) (pf_of-rtc_pulsed_times m c.self.inside.rtc (sound (still_pulsed c)).rtc))
    ∙ ap (λ (u : Bool). flagged_where (b && u) (rtc_pulsed_times m c.self.inside.rtc))
    (sym (ap (λ (l : TickParts). l.up) (clock_line c) ∙ c.self.invariant.flag))

still_state : (c : goal.After-take_matches)
    → parts_of (record {
      pit = c.pulses-rises.new.self;
      rtc = rtc_pulsed_times (left_pulses c.args.from c.args.to c.self.inside.rtc) c.pulses-events.new.self;
      hpet = c.pulses-reach.new.self;
      ticks = c.take_matches.new.lines;
      slew_ns = c.self.inside.slew_ns;
    }) ≡ (run c.args.from (c.args.to - c.args.from) (parts_of c.self.inside)).state
still_state c =
    let before : After-pulses-events = still_pulsed c in
    ran-state (known before) c.next_point-point.result c.args.to c.take_matches.new.lines c.pulses-rises.new.self
    (rtc_pulsed_times (left_pulses c.args.from c.args.to c.self.inside.rtc) c.pulses-events.new.self) c.pulses-reach.new.self
    (point_is before) (end_is before) c.take_matches.ensures.places (still_ends c)
    (rw c.requires.pulses.pit at c.pulses-rises.ensures.state) (still_rtc_is c) (hpet_is before)

still_joined : (c : goal.After-take_matches)
    → IsDevices (parts_of (record {
      pit = c.pulses-rises.new.self;
      rtc = rtc_pulsed_times (left_pulses c.args.from c.args.to c.self.inside.rtc) c.pulses-events.new.self;
      hpet = c.pulses-reach.new.self;
      ticks = c.take_matches.new.lines;
      slew_ns = c.self.inside.slew_ns;
    }))
still_joined c = subst IsDevices (sym (still_state c ∙ run-parted c.args.from (c.args.to - c.args.from) (parts_of c.self.inside) (sound (still_pulsed c))))
    (IsDevices-parted (known (still_pulsed c)) (c.args.to - c.args.from))

pub invariant_of-self : goal.invariant_of-self
invariant_of-self c = unpassed (still_pulsed c) _ refl (ap register_b (taken (still_pulsed c)) ∙ b_heard (still_pulsed c))
    (subst IsRtc (sym (taken (still_pulsed c))) (valid_rtc (still_pulsed c)))
    (still_joined c)

-- a timer that matches is there
there : (c : goal.After-take_matches) (k : ℕ) → 0 < (timer_matches c.pulses-reach.new.matches k).count → k < c.pulses-reach.new.self.timers
there c k some = elim (cases_lt k c.self.inside.hpet.timers) [
  | inl inside ↦
      let same : c.pulses-reach.new.self.timers ≡ c.self.inside.hpet.timers =
      ap (λ (h : HpetParts). h.timers) (hpet_is (still_pulsed c))
      ∙ timers-hpet_pulsed_times (pulses_from HPET_HZ c.args.from (c.args.to - c.args.from)) c.self.inside.hpet in
      omega (arith, inside, same)
  | inr gone ↦ absurd (omega (arith, some, ap (λ (m : Matches). m.count) (c.pulses-reach.ensures.none k gone)))
]

-- ticks that are due find their line up
some_where : (b : Bool) (m : ℕ) → 0 < cond b m 0 → (b ≡ true) × (0 < m)
some_where true m h = (refl, h)
some_where false m h = absurd (omega (arith, h))

not-true : (b : Bool) → not b ≡ true → b ≡ false
not-true true e = sym e
not-true false e = refl

found : (c : goal.After-take_matches) (k : ℕ) → k < 10 → 0 < source (parts_of c.self.inside) c.args.from k (c.args.to - c.args.from)
    → (line_at k (parts_of c.self.inside)).up ≡ true
found c zero less some =
    let due : (not (is_legacy c.self.inside.hpet) ≡ true)
    × (0 < rises_in (counter_of c.self.inside.pit 0) (pulses_from PIT_HZ c.args.from (c.args.to - c.args.from))) = some_where _ _ some in
    c.if-finds_up.ensures.pit refl (omega (arith, due.1, (brought (still_pulsed c)).pit_count))
    (c.legacy-legacy.ensures ∙ not-true (is_legacy c.self.inside.hpet) due.0)
found c (suc zero) less some =
    let due : (counts_rtc (parts_of c.self.inside) ≡ true)
    × (0 < ticks_in (divider_of c.self.inside.rtc) (pulses_from RTC_HZ c.args.from (c.args.to - c.args.from))) = some_where _ _ some in
    absurd (omega (arith, due.1, (brought (still_pulsed c)).rtc_count due.0, still_ticks c))
found c (suc (suc k)) less some =
    let due : (has_ticks k c.self.inside.hpet ≡ true)
    × (0 < matches_of k c.self.inside.hpet (pulses_from HPET_HZ c.args.from (c.args.to - c.args.from))) = some_where _ _ some in
    let count : 0 < (timer_matches c.pulses-reach.new.matches k).count =
    omega (arith, due.1, (brought (still_pulsed c)).timer_count k (enabled_of k c.self.inside.hpet due.0)) in
    let place : suc (suc k) ≡ k + 2 = omega arith in
    ap (λ (i : ℕ). (get_or c.self.inside.ticks i no_line).up) place
    ∙ c.if-finds_up.ensures.timers refl k (there c k count) count
    (ap (has_ticks k) (hpet_is (still_pulsed c))
    ∙ has_ticks-hpet_pulsed_times k (pulses_from HPET_HZ c.args.from (c.args.to - c.args.from)) c.self.inside.hpet ∙ due.0)

-- no timer of level type that is enabled matches
level : (c : goal.After-take_matches) (k : ℕ) → is_level (timer_at k c.self.inside.hpet) ≡ true → is_enabled (timer_at k c.self.inside.hpet) ≡ true
    → matches_of k c.self.inside.hpet (pulses_from HPET_HZ c.args.from (c.args.to - c.args.from)) ≡ 0
level c k is_on enabled = elim (cases_lt 0 (timer_matches c.pulses-reach.new.matches k).count) [
  | inl some ↦ absurd (true≢false (sym is_on
      ∙ sym (is_level-hpet_pulsed_times k (pulses_from HPET_HZ c.args.from (c.args.to - c.args.from)) c.self.inside.hpet)
      ∙ sym (ap (λ (h : HpetParts). is_level (timer_at k h)) (hpet_is (still_pulsed c))) ∙ c.if-finds_up.ensures.edge refl k (there c k some) some))
  | inr none ↦ omega (arith, none, (brought (still_pulsed c)).timer_count k enabled)
]

-- no level changes
quiet : (c : goal.After-take_matches) → QuietFrom 0 (parts_of c.self.inside) c.args.from (c.args.to - c.args.from) (ahead (still_pulsed c))
unfolding ahead
quiet c = record {
  few = omega arith;
  sound = sound (still_pulsed c);
  point = (known (still_pulsed c)).point;
  early = inl (omega (arith, early c, c.next_point-point.ensures, c.requires.stretch.order));
  clock = by_test (is_unheard c.self.inside.rtc) refl;
  found = λ k _. found c k;
  level = λ k less. level c k;
}
  where
    by_test : (u : Bool) → is_unheard c.self.inside.rtc ≡ u → (is_unheard c.self.inside.rtc ≡ true)
        ⊎ ((ticks_in (divider_of c.self.inside.rtc) (pulses_from RTC_HZ c.args.from (c.args.to - c.args.from)) ≡ 0)
        × (updates_in (divider_of c.self.inside.rtc) (pulses_from RTC_HZ c.args.from (c.args.to - c.args.from)) ≡ 0))
    by_test true e = inl e
    by_test false e = inr (
      sym (rw (heard (still_pulsed c) e) at c.pulses-events.ensures.ticks) ∙ still_ticks c,
      sym (rw (heard (still_pulsed c) e) at c.pulses-events.ensures.updates) ∙ still_updates c,
    )

pub returns-then-finds_up-clause-ran : goal.returns-then-finds_up-clause-ran
returns-then-finds_up-clause-ran c = record {
  state = subst (leaves (still_pulsed c) _) c.self.view_is (still_state c);
  levels = λ j le.
      ap (λ (d : DeviceParts). levels (run c.args.from j d).state) (sym c.self.view_is)
      ∙ levels-still (quiet c) refl j (omega (arith, le, c.requires.stretch.order))
      ∙ ap levels c.self.view_is;
  due = λ k less. rw (← c.self.view_is)
      (due-few (known (still_pulsed c)) c.next_point-point.result c.args.to c.take_matches.new.lines (still_ends c) k less);
}

-- the conditions hold when the clock has what is left to it
abbrev joins : (c : After-pulses-events) → DeviceParts → DeviceParts → Type 0
joins c after d = IsDevices (passed (left_pulses c.args.from c.args.to d.rtc) after)

pub returns-clause-joined : goal.returns-clause-joined
returns-clause-joined c = subst (joins (pulsed c) (parts_of (record {
  pit = c.pulses-rises.new.self;
  rtc = c.set_flag.new.rtc;
  hpet = c.pulses-reach.new.self;
  ticks = c.run_timers.new.lines;
  slew_ns = c.self.inside.slew_ns;
}))) c.self.view_is (joined c)

pub returns-then-finds_up-clause-joined : goal.returns-then-finds_up-clause-joined
returns-then-finds_up-clause-joined c = subst (joins (still_pulsed c) (parts_of (record {
  pit = c.pulses-rises.new.self;
  rtc = c.pulses-events.new.self;
  hpet = c.pulses-reach.new.self;
  ticks = c.take_matches.new.lines;
  slew_ns = c.self.inside.slew_ns;
}))) c.self.view_is (still_joined c)
