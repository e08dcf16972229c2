-- A stretch in which nothing comes, or only rises of OUT 0: the devices have their pulses, and the other lines stay as they are.
use Rattle.std.proofs.Common.{◌≡◌, ◌≢◌, ℕ, zero, suc, ◌+◌, ◌-◌, ◌*◌, ◌/◌, ◌<◌, ◌≤◌, Bool, true, false, cond, ltb, ◌&&◌, ◌||◌, not, List, get_or, length}
use Rattle.std.proofs.Common.{Option, refl, ap, sym, ◌∙◌, inl, inr, arith}
use Rattle.std.proofs.Math.Bool.{or-false}
use Rattle.std.proofs.lemmas.Bool.{cases_lt, le-ltb, true≢false}
use Rattle.clk_units.specs.Pulses.{pulses_from}
use Rattle.pit_readback.specs.declared.TheConstants.{PIT_HZ}
use Rattle.rtc_registers.specs.declared.TheConstants.{RTC_HZ}
use Rattle.hpet_registers.specs.declared.hpet.TheConstants.{HPET_HZ}
use Rattle.pit_counter.specs.Table.{rises_in}
use Rattle.pit_readback.specs.Pit.{counter_of, pit_pulsed_times}
use Rattle.rtc_cycle.specs.Divider.{ticks_in}
use Rattle.rtc_registers.specs.Registers.{divider_of, pf_of, pie_of}
use Rattle.rtc_registers.specs.Pulses.{rtc_pulsed_times}
use Rattle.rtc_registers.proofs.Times.{pf_of-rtc_pulsed_times, register_b-rtc_pulsed_times}
use Rattle.clk_units.specs.Bits.{bit}
use Rattle.hpet_comparator.specs.Parts.{is_enabled}
use Rattle.hpet_registers.specs.Parts.{timer_at, is_legacy}
use Rattle.hpet_registers.specs.Outputs.{has_ticks}
use Rattle.hpet_registers.specs.Stretch.{hpet_pulsed_times, matches_of}
use Rattle.hpet_registers.proofs.Product.{matches_of-absent, timers-hpet_pulsed_times, is_legacy-hpet_pulsed_times}
use Rattle.tick_policy.specs.declared.parts.TickParts.{TickParts}
use Rattle.tick_policy.specs.Line.{ticked_times}
use Rattle.tick_policy.specs.Stretch.{line_after}
use Rattle.tick_policy.proofs.Ticks.{ticked_times-zero}
use Rattle.tick_policy.proofs.Stretches.{next_point}
use Rattle.board_devices.specs.declared.parts.DeviceParts.{DeviceParts}
use Rattle.board_devices.specs.declared.pulse_counts.PulseCounts.{PulseCounts}
use Rattle.board_devices.specs.Nanosecond.{counts_rtc, sees_point}
use Rattle.board_devices.specs.Parts.{IsDevices}
use Rattle.board_devices.specs.Places.{each, line_at, no_line}
use Rattle.board_devices.specs.Run.{run}
use Rattle.board_devices.specs.private.Pulses.{ArePulses, IsQuiet, IsQuietBesidePit}
use Rattle.board_devices.specs.private.Runs.{HasAdvanced}
use Rattle.board_devices.specs.private.Stretch.{source, line_run}
use Rattle.board_devices.proofs.Advance.{enabled_of}
use Rattle.board_devices.proofs.Keeps.{IsDevices-each, KeepsLines-line_run}
use Rattle.board_devices.proofs.Places.{each-at, length-each, same_places}
use Rattle.board_devices.proofs.Product.{Sound, run-parted, same_parts}
use Rattle.board_devices.proofs.Still.{QuietFrom, levels-still, parted-still, moved, line_after-counted}
use Rattle.board_devices.proofs.Unheard.{heard-pie}

-- what is counted where b holds is nothing, where nothing is there then
none-where : (b : Bool) (m : ℕ) → (b ≡ true → m ≡ 0) → cond b m 0 ≡ 0
none-where true m h = h refl
none-where false m h = refl

-- the lines after n nanoseconds, of which that of the 8254 alone may have moved
pub record AreLines (d : DeviceParts) (from n : ℕ) (ls : List TickParts) : Type 0 where
  pub places : length ls ≡ 10
  pub first : get_or ls 0 no_line ≡ line_run d from n 0 (line_at 0 d)
  pub others : (k : ℕ) → k ≢ 0 → get_or ls k no_line ≡ line_at k d

-- the lines from place `low` on stay as they are
module _ (low : ℕ) {d : DeviceParts} {from to : ℕ} {p : PulseCounts} (few : low ≤ 1) (sound : Sound d) (order : from ≤ to)
    (pulses : ArePulses from to p) (pit : low ≡ 0 → rises_in (counter_of d.pit 0) p.pit ≡ 0) (quiet : IsQuietBesidePit from to p d) where
  abbrev pub n : ℕ
  n = to - from

  abbrev pub ahead : ℕ
  ahead = (from / d.slew_ns + 1) * d.slew_ns - from

  -- no tick is due at these places
  none : (k : ℕ) → low ≤ k → k < 10 → source d from k n ≡ 0
  none zero inside less = none-where (not (is_legacy d.hpet)) (rises_in (counter_of d.pit 0) (pulses_from PIT_HZ from (to - from)))
      (λ _. ap (rises_in (counter_of d.pit 0)) (sym pulses.pit) ∙ pit (omega (arith, inside)))
  none (suc zero) inside less = none-where (counts_rtc d) (ticks_in (divider_of d.rtc) (pulses_from RTC_HZ from (to - from)))
      (λ on. elim quiet.clock [
        | inl unheard ↦ absurd (true≢false (sym unheard ∙ heard-pie d.rtc (first (pie_of d.rtc) (not (is_legacy d.hpet)) on)))
        | inr silent ↦ ap (ticks_in (divider_of d.rtc)) (sym pulses.rtc) ∙ silent.0
      ])
    where
      first : (a b : Bool) → (a && b) ≡ true → a ≡ true
      first true b h = refl
      first false b h = absurd (true≢false (sym h))
  none (suc (suc k)) inside less = none-where (has_ticks k d.hpet) (matches_of k d.hpet (pulses_from HPET_HZ from (to - from)))
      (λ on. ap (matches_of k d.hpet) (sym pulses.hpet) ∙ none_at k (enabled_of k d.hpet on))
    where
      none_at : (k : ℕ) → is_enabled (timer_at k d.hpet) ≡ true → matches_of k d.hpet p.hpet ≡ 0
      none_at k on = elim (cases_lt k d.hpet.timers) [ inl inside ↦ quiet.timers k inside on | inr past ↦ matches_of-absent k p.hpet d.hpet past ]

  -- so their levels stay
  pub quiet_run : QuietFrom low d from n ahead
  quiet_run = record {
    few = few;
    sound = sound;
    point = next_point d.slew_ns from (omega (arith, sound.joined.slew_low));
    early = elim quiet.lines [ inl before ↦ inl (omega (arith, before, order)) | inr idle ↦ inr idle ];
    clock = elim quiet.clock [
      | inl unheard ↦ inl unheard
      | inr silent ↦ inr (rw pulses.rtc at silent.0, rw pulses.rtc at silent.1)
    ];
    found = λ k inside less some. absurd (omega (arith, some, none k inside less));
    level = λ k less is_on on. elim (cases_lt k d.hpet.timers) [
      | inl inside ↦ ap (matches_of k d.hpet) (sym pulses.hpet) ∙ quiet.timers k inside on
      | inr past ↦ matches_of-absent k (pulses_from HPET_HZ from (to - from)) d.hpet past
    ];
  }

  -- and the lines are as they were
  pub line-same : (k : ℕ) → low ≤ k → k < 10 → line_run d from n k (line_at k d) ≡ line_at k d
  line-same k inside less = by_test (sees_point d k)
      (line_after-counted quiet_run k less n (omega arith) ∙ ap (λ (m : ℕ). ticked_times m (line_at k d)) (none k inside less)
      ∙ ticked_times-zero (line_at k d))
    where
      by_test : (b : Bool) → line_after (source d from k) d.slew_ns from n (line_at k d) ≡ line_at k d
          → cond b (line_after (source d from k) d.slew_ns from n (line_at k d)) (line_at k d) ≡ line_at k d
      by_test true e = e
      by_test false e = refl

  line-of : (ls : List TickParts) → AreLines d from n ls → (k : ℕ) → k < 10 → line_run d from n k (line_at k d) ≡ get_or ls k no_line
  line-of ls lines zero less = sym lines.first
  line-of ls lines (suc k) less = line-same (suc k) (omega (arith, few)) less ∙ sym (lines.others (suc k) (λ e. absurd (omega (arith, e))))

  lines-are : (ls : List TickParts) → AreLines d from n ls → each (line_run d from n) 0 d.ticks ≡ ls
  lines-are ls lines =
      let ten : length (each (line_run d from n) 0 d.ticks) ≡ 10 = length-each (line_run d from n) 0 d.ticks ∙ sound.joined.places in
      same_places (each (line_run d from n) 0 d.ticks) ls no_line (ten ∙ sym lines.places) (λ k less.
      each-at (line_run d from n) 0 k d.ticks no_line (omega (arith, less, ten, sound.joined.places))
      ∙ ap (λ (i : ℕ). line_run d from n i (line_at k d)) (omega arith)
      ∙ line-of ls lines k (omega (arith, less, ten)))

  -- the devices after it, with these lines
  abbrev pub passed_with : List TickParts → DeviceParts
  passed_with ls = record d {
    pit = pit_pulsed_times p.pit d.pit;
    rtc = rtc_pulsed_times p.rtc d.rtc;
    hpet = hpet_pulsed_times p.hpet d.hpet;
    ticks = ls;
  }

  moved-is : (ls : List TickParts) → AreLines d from n ls → moved quiet_run n ≡ passed_with ls
  moved-is ls lines = same_parts d (ap (λ (m : ℕ). pit_pulsed_times m d.pit) (sym pulses.pit)) (ap (λ (m : ℕ). rtc_pulsed_times m d.rtc) (sym pulses.rtc))
      (ap (λ (m : ℕ). hpet_pulsed_times m d.hpet) (sym pulses.hpet)) (lines-are ls lines)

  pub state-is : (ls : List TickParts) → AreLines d from n ls → passed_with ls ≡ (run from n d).state
  state-is ls lines = sym (run-parted from n d sound ∙ parted-still quiet_run n (omega arith) ∙ moved-is ls lines)

  -- the devices fit one another as before
  flag-passed : (line_at 1 d).up
      ≡ ((pie_of (rtc_pulsed_times p.rtc d.rtc) && not (is_legacy (hpet_pulsed_times p.hpet d.hpet))) && pf_of (rtc_pulsed_times p.rtc d.rtc))
  flag-passed =
      sound.joined.flag
      ∙ by_test (counts_rtc d) refl
      ∙ ap (λ (b : Bool). b && pf_of (rtc_pulsed_times p.rtc d.rtc)) (sym counts)
    where
      counts : (pie_of (rtc_pulsed_times p.rtc d.rtc) && not (is_legacy (hpet_pulsed_times p.hpet d.hpet))) ≡ counts_rtc d
      counts = ap (λ (b : ℕ). bit 6 b && not (is_legacy (hpet_pulsed_times p.hpet d.hpet))) (register_b-rtc_pulsed_times p.rtc d.rtc sound.rtc)
          ∙ ap (λ (l : Bool). pie_of d.rtc && not l) (is_legacy-hpet_pulsed_times p.hpet d.hpet)

      by_test : (b : Bool) → counts_rtc d ≡ b → (b && pf_of d.rtc) ≡ (b && pf_of (rtc_pulsed_times p.rtc d.rtc))
      by_test false e = refl
      by_test true e =
          let ticks : ticks_in (divider_of d.rtc) p.rtc ≡ 0 = ap (ticks_in (divider_of d.rtc)) (pulses.rtc)
          ∙ sym (ap (λ (b : Bool). cond b (ticks_in (divider_of d.rtc) (pulses_from RTC_HZ from (to - from))) 0) e) ∙ none 1 few (omega arith) in
          sym (pf_of-rtc_pulsed_times p.rtc d.rtc sound.rtc
          ∙ ap (λ (m : ℕ). pf_of d.rtc || ltb 0 m) ticks
          ∙ ap (λ (b : Bool). pf_of d.rtc || b) (le-ltb 0 0 (omega arith))
          ∙ or-false (pf_of d.rtc))

  pub joined-with : (ls : List TickParts) → AreLines d from n ls → IsDevices (passed_with ls)
  joined-with ls lines = IsDevices-each d (pit_pulsed_times p.pit d.pit) (rtc_pulsed_times p.rtc d.rtc) (hpet_pulsed_times p.hpet d.hpet)
      ls (line_run d from n) sound.joined (sym (lines-are ls lines)) (KeepsLines-line_run d from n) (timers-hpet_pulsed_times p.hpet d.hpet)
      (ap (λ (l : TickParts). l.up) (lines.others 1 (λ e. absurd (omega (arith, e)))) ∙ flag-passed)

-- nothing comes
module _ {d : DeviceParts} {from to : ℕ} {p : PulseCounts} (sound : Sound d) (order : from ≤ to) (pulses : ArePulses from to p)
    (quiet : IsQuiet from to p d) where
  abbrev pub passed_by : DeviceParts
  passed_by = record d {
    pit = pit_pulsed_times p.pit d.pit;
    rtc = rtc_pulsed_times p.rtc d.rtc;
    hpet = hpet_pulsed_times p.hpet d.hpet;
  }

  lines-same : AreLines d from (to - from) d.ticks
  lines-same = record {
    places = sound.joined.places;
    first = sym (line-same 0 (omega arith) sound order pulses (λ _. quiet.pit) quiet.beside 0 (omega arith) (omega arith));
    others = λ k _. refl;
  }

  pub advanced : (times : List (Option ℕ)) → HasAdvanced from to d passed_by false times
  advanced times = record {
    state = state-is 0 (omega arith) sound order pulses (λ _. quiet.pit) quiet.beside d.ticks lines-same;
    levels = λ j le. levels-still (quiet_run 0 (omega arith) sound order pulses (λ _. quiet.pit) quiet.beside) refl j (omega (arith, le, order));
    due = λ k less. omega arith;
  }

  pub joined : IsDevices passed_by
  joined = joined-with 0 (omega arith) sound order pulses (λ _. quiet.pit) quiet.beside d.ticks lines-same
