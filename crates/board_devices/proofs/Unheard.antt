-- An MC146818 that nobody hears: its events move no line, so whoever runs the devices may let its crystal pulse later.
use Rattle.std.proofs.Common.{◌≡◌, ℕ, ◌-◌, ◌≤◌, Bool, true, false, cond, ◌&&◌, ◌||◌, not, refl, ap, sym, ◌∙◌, arith}
use Rattle.std.proofs.Math.Bool.{and-false}
use Rattle.std.proofs.lemmas.Bool.{true≢false}
use Rattle.clk_units.specs.Pulses.{pulses_from}
use Rattle.rtc_registers.specs.declared.TheConstants.{RTC_HZ}
use Rattle.rtc_registers.specs.declared.parts.RtcParts.{RtcParts}
use Rattle.rtc_registers.specs.Parts.{IsRtc}
use Rattle.rtc_registers.specs.Registers.{pie_of, aie_of, uie_of, irqf_of}
use Rattle.rtc_registers.specs.Pulses.{rtc_pulsed_times}
use Rattle.rtc_registers.proofs.Flags.{IsRtc-flagged}
use Rattle.rtc_registers.proofs.Lines.{irqf_of-rtc_pulsed_times}
use Rattle.board_devices.specs.declared.parts.DeviceParts.{DeviceParts}
use Rattle.board_devices.specs.Nanosecond.{counts_rtc}
use Rattle.board_devices.specs.Parts.{IsDevices}
use Rattle.board_devices.specs.private.Pulses.{is_unheard, heard_pulses, left_pulses}
use Rattle.board_devices.specs.private.Runs.{passed}
use Rattle.board_devices.specs.private.Stretch.{flagged_where}

-- an interrupt that is enabled is heard
pub heard-pie : (r : RtcParts) → pie_of r ≡ true → is_unheard r ≡ false
heard-pie r on = ap (λ (b : Bool). not b && (not (aie_of r) && not (uie_of r))) on

heard-second : (a b c : Bool) → b ≡ true → (not a && (not b && not c)) ≡ false
heard-second true b c on = refl
heard-second false true c on = refl
heard-second false false c on = absurd (true≢false (sym on))

heard-third : (a b c : Bool) → c ≡ true → (not a && (not b && not c)) ≡ false
heard-third true b c on = refl
heard-third false true c on = refl
heard-third false false true on = refl
heard-third false false false on = absurd (true≢false (sym on))

pub heard-aie : (r : RtcParts) → aie_of r ≡ true → is_unheard r ≡ false
heard-aie r on = heard-second (pie_of r) (aie_of r) (uie_of r) on

pub heard-uie : (r : RtcParts) → uie_of r ≡ true → is_unheard r ≡ false
heard-uie r on = heard-third (pie_of r) (aie_of r) (uie_of r) on

-- .. so none is enabled of one that isn't heard, and its ticks aren't counted
pub unheard-pie : (r : RtcParts) → is_unheard r ≡ true → pie_of r ≡ false
unheard-pie r e = by_test (pie_of r) (aie_of r) (uie_of r) e
  where
    by_test : (a b c : Bool) → (not a && (not b && not c)) ≡ true → a ≡ false
    by_test true b c h = absurd (true≢false (sym h))
    by_test false b c h = refl

pub unheard-counts : (d : DeviceParts) → is_unheard d.rtc ≡ true → counts_rtc d ≡ false
unheard-counts d e = rw (unheard-pie d.rtc e) refl

-- its line stays low
pub irqf-unheard : (n : ℕ) (r : RtcParts) → IsRtc r → is_unheard r ≡ true → irqf_of (rtc_pulsed_times n r) ≡ irqf_of r
irqf-unheard n r valid e = irqf_of-rtc_pulsed_times n r valid ∙ by_test (pie_of r) (aie_of r) (uie_of r) _ _ _ _ _ _ e
  where
    by_test : (p a u f g h x y z : Bool) → (not p && (not a && not u)) ≡ true
        → ((f && p) || ((g && a) || (h && u))) ≡ ((x && p) || ((y && a) || (z && u)))
    by_test true a u f g h x y z t = absurd (true≢false (sym t))
    by_test false true u f g h x y z t = absurd (true≢false (sym t))
    by_test false false true f g h x y z t = absurd (true≢false (sym t))
    by_test false false false f g h x y z t = rw (and-false f, and-false g, and-false h, and-false x, and-false y, and-false z) refl

-- the pulses that a run takes, and those that it leaves
pub heard-all : (from to : ℕ) (r : RtcParts) → is_unheard r ≡ false → heard_pulses from to r ≡ pulses_from RTC_HZ from (to - from)
heard-all from to r e = ap (λ (b : Bool). cond b 0 (pulses_from RTC_HZ from (to - from))) e

pub left-none : (from to : ℕ) (r : RtcParts) → is_unheard r ≡ false → left_pulses from to r ≡ 0
left-none from to r e = ap (λ (b : Bool). cond b (pulses_from RTC_HZ from (to - from)) 0) e

pub heard-none : (from to : ℕ) (r : RtcParts) → is_unheard r ≡ true → heard_pulses from to r ≡ 0
heard-none from to r e = ap (λ (b : Bool). cond b 0 (pulses_from RTC_HZ from (to - from))) e

pub heard-few : (from to : ℕ) (r : RtcParts) → heard_pulses from to r ≤ pulses_from RTC_HZ from (to - from)
heard-few from to r = by_test (is_unheard r) (pulses_from RTC_HZ from (to - from))
  where
    by_test : (b : Bool) (n : ℕ) → cond b 0 n ≤ n
    by_test true n = omega arith
    by_test false n = omega arith

pub left-all : (from to : ℕ) (r : RtcParts) → is_unheard r ≡ true → left_pulses from to r ≡ pulses_from RTC_HZ from (to - from)
left-all from to r e = ap (λ (b : Bool). cond b (pulses_from RTC_HZ from (to - from)) 0) e

pub IsRtc-flagged_where : (b : Bool) (r : RtcParts) → IsRtc r → IsRtc (flagged_where b r)
unfolding flagged_where
IsRtc-flagged_where true r valid = IsRtc-flagged r valid
IsRtc-flagged_where false r valid = valid

-- PF is set between them only where ticks are counted
pub passed-flagged : (from to : ℕ) (b : Bool) (r : RtcParts) → (is_unheard r ≡ true → b ≡ false)
    → rtc_pulsed_times (left_pulses from to r) (flagged_where b (rtc_pulsed_times (heard_pulses from to r) r))
    ≡ flagged_where b (rtc_pulsed_times (pulses_from RTC_HZ from (to - from)) r)
unfolding flagged_where
passed-flagged from to b r quiet = by_test (is_unheard r) refl
  where
    by_test : (u : Bool) → is_unheard r ≡ u
        → rtc_pulsed_times (left_pulses from to r) (flagged_where b (rtc_pulsed_times (heard_pulses from to r) r))
        ≡ flagged_where b (rtc_pulsed_times (pulses_from RTC_HZ from (to - from)) r)
    by_test true e = rw (heard-none from to r e, left-all from to r e, quiet e) refl
    by_test false e = rw (heard-all from to r e, left-none from to r e) refl

-- the devices are joined before the pulses that are left as they are after them
pub IsDevices-unpassed : (n : ℕ) (d : DeviceParts) → IsDevices (passed n d) → counts_rtc d ≡ false → counts_rtc (passed n d) ≡ false → IsDevices d
IsDevices-unpassed n d joined none after = record {
  places = joined.places;
  slew_low = joined.slew_low;
  slew_high = joined.slew_high;
  flag = rw none (rw after at joined.flag);
  timer_lines = joined.timer_lines;
}
