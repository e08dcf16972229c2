-- The run of the devices is the run of each part by itself.
use Rattle.std.proofs.Common.{◌≡◌, ℕ, zero, suc, ◌+◌, ◌%◌, Bool, true, false, cond, ltb, eqb, ◌&&◌, ◌||◌, not, List, get_or, refl, ap, sym, ◌∙◌, inl}
use Rattle.std.proofs.Common.{inr, arith}
use Rattle.pit_readback.specs.declared.TheConstants.{PIT_HZ}
use Rattle.rtc_registers.specs.declared.TheConstants.{RTC_HZ}
use Rattle.hpet_registers.specs.declared.hpet.TheConstants.{HPET_HZ}
use Rattle.std.proofs.Math.Bool.{and-true, or-false, or-true}
use Rattle.std.proofs.lemmas.Bool.{lt-ltb, le-ltb, cases_Bool, false≢true, ltb-true}
use Rattle.clk_units.specs.Pulses.{falls_at, pulses_from}
use Rattle.clk_units.proofs.Pulses.{pulses_from-zero}
use Rattle.clk_units.proofs.Events.{count_where-step, times-step}
use Rattle.pit_counter.specs.declared.parts.CounterParts.{CounterParts}
use Rattle.pit_counter.specs.Table.{rises_in, rises_next, pulsed_times}
use Rattle.pit_counter.proofs.Times.{rises_in-suc}
use Rattle.pit_readback.specs.declared.parts.PitParts.{PitParts}
use Rattle.pit_readback.specs.Pit.{counter_of, pit_pulsed, pit_pulsed_times}
use Rattle.pit_readback.proofs.Three.{pit_pulsed_times-zero, pit_pulsed_times-suc, counter_of-pit_pulsed_times}
use Rattle.rtc_cycle.specs.declared.parts.DividerParts.{DividerParts}
use Rattle.rtc_cycle.specs.Divider.{ticks_in, ticks_next, pulsed_times as divider_times}
use Rattle.rtc_cycle.proofs.Pulse.{ticks_in-suc}
use Rattle.rtc_registers.specs.declared.parts.RtcParts.{RtcParts}
use Rattle.rtc_registers.specs.Registers.{divider_of, pie_of, pf_of, register_b}
use Rattle.rtc_registers.specs.Parts.{IsRtc}
use Rattle.rtc_registers.specs.Access.{flagged}
use Rattle.clk_units.specs.Bits.{bit}
use Rattle.rtc_registers.specs.Pulses.{rtc_pulsed, rtc_pulsed_times}
use Rattle.rtc_registers.proofs.Times.{divider_of-rtc_pulsed_times, register_b-rtc_pulsed_times, pf_of-rtc_pulsed_times, IsRtc-rtc_pulsed_times}
use Rattle.rtc_registers.proofs.Flags.{divider_of-flagged, register_b-flagged, pf_of-flagged, IsRtc-flagged, rtc_pulsed-flagged, flagged-still}
use Rattle.hpet_registers.specs.declared.parts.HpetParts.{HpetParts}
use Rattle.hpet_registers.specs.Parts.{is_legacy}
use Rattle.hpet_registers.specs.Outputs.{has_ticks}
use Rattle.hpet_registers.specs.Stretch.{hpet_pulsed, hpet_pulsed_times, matches_next, matches_of}
use Rattle.hpet_registers.proofs.Product.{is_legacy-hpet_pulsed_times}
use Rattle.hpet_registers.proofs.After.{has_ticks-hpet_pulsed_times}
use Rattle.tick_policy.specs.declared.parts.TickParts.{TickParts}
use Rattle.tick_policy.specs.Line.{ticked, is_waiting}
use Rattle.tick_policy.specs.Stretch.{ticked_where, caught_up_where, line_after}
use Rattle.tick_policy.proofs.Stretches.{line_after-zero, line_after-suc, up-line_after}
use Rattle.board_devices.specs.declared.parts.DeviceParts.{DeviceParts}
use Rattle.board_devices.specs.Places.{each, line_at, no_line}
use Rattle.board_devices.specs.Nanosecond.{counts_rtc, pit_due, rtc_due, hpet_due, sees_point, pit_pulse, rtc_pulse, hpet_pulse, catch_up_point, at_nanosecond}
use Rattle.board_devices.specs.Run.{run, onward}
use Rattle.board_devices.specs.private.Stretch.{source, line_run, flagged_where, parted}
use Rattle.board_devices.specs.Parts.{IsDevices}
use Rattle.board_devices.proofs.Places.{each-each, each-same, each-none, each-at}

-- what is known of the devices
pub record Sound (d : DeviceParts) : Type 0 where
  pub rtc : IsRtc d.rtc
  pub joined : IsDevices d

-- PF set or not leaves the rest
pub divider_of-flagged_where : (b : Bool) (r : RtcParts) → IsRtc r → divider_of (flagged_where b r) ≡ divider_of r
unfolding flagged_where
divider_of-flagged_where true r valid = divider_of-flagged r valid
divider_of-flagged_where false r valid = refl

pub register_b-flagged_where : (b : Bool) (r : RtcParts) → IsRtc r → register_b (flagged_where b r) ≡ register_b r
unfolding flagged_where
register_b-flagged_where true r valid = register_b-flagged r valid
register_b-flagged_where false r valid = refl

pulsed-flagged_where : (b : Bool) (r : RtcParts) → IsRtc r → rtc_pulsed (flagged_where b r) ≡ flagged_where b (rtc_pulsed r)
unfolding flagged_where
pulsed-flagged_where true r valid = rtc_pulsed-flagged r valid
pulsed-flagged_where false r valid = refl

-- no tick and no point
skip_tick : (f : Bool) (l : TickParts) → ticked_where (f && false) l ≡ l
skip_tick true l = refl
skip_tick false l = refl

skip_point : (p : Bool) (l : TickParts) → caught_up_where (p && false) l ≡ l
skip_point true l = refl
skip_point false l = refl

-- the tests of a nanosecond, by the sources' counts
record Tests (d : DeviceParts) (t n : ℕ) (e0 e1 e2 e3 : DeviceParts) : Type 0 where
  pit : (falls_at PIT_HZ (t + n + 1) && pit_due e0 0) ≡ ltb (source d t 0 n) (source d t 0 (suc n))
  rtc : (falls_at RTC_HZ (t + n + 1) && rtc_due e1 1) ≡ ltb (source d t 1 n) (source d t 1 (suc n))
  hpet : (k : ℕ) → (falls_at HPET_HZ (t + n + 1) && hpet_due e2 (suc (suc k))) ≡ ltb (source d t (suc (suc k)) n) (source d t (suc (suc k)) (suc n))
  sees : counts_rtc e3 ≡ counts_rtc d

-- what a nanosecond does at place k
abbrev at_place : (t n slew : ℕ) (e0 e1 e2 e3 : DeviceParts) → ℕ → TickParts → TickParts
at_place t n slew e0 e1 e2 e3 k l =
    caught_up_where (eqb ((t + n + 1) % slew) 0 && sees_point e3 k)
    (ticked_where (falls_at HPET_HZ (t + n + 1) && hpet_due e2 k)
    (ticked_where (falls_at RTC_HZ (t + n + 1) && rtc_due e1 k) (ticked_where (falls_at PIT_HZ (t + n + 1) && pit_due e0 k) l)))

rtc_line : (c p : Bool) (ticks : ℕ → ℕ) (slew t n : ℕ) (l : TickParts) → p ≡ eqb ((t + n + 1) % slew) 0
    → caught_up_where (p && c) (ticked_where (ltb (cond c (ticks n) 0) (cond c (ticks (suc n)) 0))
    (cond c (line_after (λ j. cond c (ticks j) 0) slew t n l) l)) ≡ cond c (line_after (λ j. cond c (ticks j) 0) slew t (suc n) l) l
rtc_line true p ticks slew t n l e = ap (λ (b : Bool). caught_up_where b (ticked_where (ltb (ticks n) (ticks (suc n))) (line_after (λ j. ticks j) slew t n l)))
    (and-true p ∙ e) ∙ sym (line_after-suc (λ j. ticks j) slew t n l)
rtc_line false p ticks slew t n l e = skip_point p (ticked_where (ltb 0 0) l) ∙ ap (λ (b : Bool). ticked_where b l) (le-ltb 0 0 (omega arith))

place-step : (d : DeviceParts) (t n : ℕ) (e0 e1 e2 e3 : DeviceParts) → Tests d t n e0 e1 e2 e3 → (k : ℕ) (l : TickParts)
    → at_place t n d.slew_ns e0 e1 e2 e3 k (line_run d t n k l) ≡ line_run d t (suc n) k l
place-step d t n e0 e1 e2 e3 tests zero l =
    let x : TickParts = line_after (source d t 0) d.slew_ns t n l in
    ap (λ (b : Bool). caught_up_where b
    (ticked_where (falls_at HPET_HZ (t + n + 1) && false)
    (ticked_where (falls_at RTC_HZ (t + n + 1) && false) (ticked_where (falls_at PIT_HZ (t + n + 1) && pit_due e0 0) x))))
    (and-true (eqb ((t + n + 1) % d.slew_ns) 0))
    ∙ ap (caught_up_where (eqb ((t + n + 1) % d.slew_ns) 0))
    (skip_tick (falls_at HPET_HZ (t + n + 1))
    (ticked_where (falls_at RTC_HZ (t + n + 1) && false) (ticked_where (falls_at PIT_HZ (t + n + 1) && pit_due e0 0) x))
    ∙ skip_tick (falls_at RTC_HZ (t + n + 1)) (ticked_where (falls_at PIT_HZ (t + n + 1) && pit_due e0 0) x)
    ∙ ap (λ (b : Bool). ticked_where b x) tests.pit)
    ∙ sym (line_after-suc (source d t 0) d.slew_ns t n l)
place-step d t n e0 e1 e2 e3 tests (suc zero) l =
    let p : Bool = eqb ((t + n + 1) % d.slew_ns) 0 in
    let x : TickParts = line_run d t n 1 l in
    ap (λ (b : Bool). caught_up_where (p && b)
    (ticked_where (falls_at HPET_HZ (t + n + 1) && false)
    (ticked_where (falls_at RTC_HZ (t + n + 1) && rtc_due e1 1) (ticked_where (falls_at PIT_HZ (t + n + 1) && false) x)))) tests.sees
    ∙ ap (caught_up_where (p && counts_rtc d))
    (skip_tick (falls_at HPET_HZ (t + n + 1))
    (ticked_where (falls_at RTC_HZ (t + n + 1) && rtc_due e1 1) (ticked_where (falls_at PIT_HZ (t + n + 1) && false) x))
    ∙ ap (ticked_where (falls_at RTC_HZ (t + n + 1) && rtc_due e1 1)) (skip_tick (falls_at PIT_HZ (t + n + 1)) x)
    ∙ ap (λ (b : Bool). ticked_where b x) tests.rtc)
    ∙ rtc_line (counts_rtc d) p (λ j. ticks_in (divider_of d.rtc) (pulses_from RTC_HZ t j)) d.slew_ns t n l refl
place-step d t n e0 e1 e2 e3 tests (suc (suc k)) l =
    let x : TickParts = line_after (source d t (suc (suc k))) d.slew_ns t n l in
    ap (λ (b : Bool). caught_up_where b
    (ticked_where (falls_at HPET_HZ (t + n + 1) && hpet_due e2 (suc (suc k)))
    (ticked_where (falls_at RTC_HZ (t + n + 1) && false) (ticked_where (falls_at PIT_HZ (t + n + 1) && false) x))))
    (and-true (eqb ((t + n + 1) % d.slew_ns) 0))
    ∙ ap (caught_up_where (eqb ((t + n + 1) % d.slew_ns) 0))
    (ap (ticked_where (falls_at HPET_HZ (t + n + 1) && hpet_due e2 (suc (suc k))))
    (skip_tick (falls_at RTC_HZ (t + n + 1)) (ticked_where (falls_at PIT_HZ (t + n + 1) && false) x) ∙ skip_tick (falls_at PIT_HZ (t + n + 1)) x)
    ∙ ap (λ (b : Bool). ticked_where b x) (tests.hpet k))
    ∙ sym (line_after-suc (source d t (suc (suc k))) d.slew_ns t n l)

-- PF set again
pub flag-same : (b : Bool) (r : RtcParts) → IsRtc r → pf_of r ≡ true → flagged_where b r ≡ r
unfolding flagged_where
flag-same true r valid pf = flagged-still r valid pf
flag-same false r valid pf = refl

pub flag-none : (r : RtcParts) → flagged_where false r ≡ r
unfolding flagged_where
flag-none r = refl

flag-join : (a b : Bool) (r : RtcParts) → IsRtc r → flagged_where a (flagged_where b r) ≡ flagged_where (b || a) r
unfolding flagged_where
flag-join true true r valid = flagged-still (flagged r) (IsRtc-flagged r valid) (pf_of-flagged r valid)
flag-join true false r valid = refl
flag-join false true r valid = refl
flag-join false false r valid = refl

up-point : (p : Bool) (l : TickParts) → (caught_up_where p l).up ≡ (l.up || (p && is_waiting l))
up-point true l = refl
up-point false l = sym (or-false l.up)

-- PF over the nanosecond: u is the line before, e its tick
flag-step : (c p e : Bool) (l m : TickParts) (r : RtcParts) → IsRtc r → (c ≡ true → m ≡ caught_up_where p (ticked_where e l)) → (e ≡ true → pf_of r ≡ true)
    → flagged_where (p && (c && is_waiting (ticked_where e l))) (flagged_where (c && l.up) r) ≡ flagged_where (c && m.up) r
unfolding flagged_where
flag-step false p e l m r valid is_next ticks = ap (λ (b : Bool). flagged_where b (flagged_where false r)) (none p)
  where
    none : (p : Bool) → (p && false) ≡ false
    none true = refl
    none false = refl
flag-step true p false l m r valid is_next ticks =
    flag-join (p && is_waiting l) l.up r valid ∙ ap (λ (b : Bool). flagged_where b r) (sym (up-point p l) ∙ ap (λ (k : TickParts). k.up) (sym (is_next refl)))
flag-step true p true l m r valid is_next ticks =
    ap (flagged_where (p && is_waiting (ticked l))) (flag-same l.up r valid (ticks refl)) ∙ flag-same (p && is_waiting (ticked l)) r valid (ticks refl)
    ∙ sym (flag-same m.up r valid (ticks refl))

-- PF is the line
pub flag-is-line : (c : Bool) (t n : ℕ) (slew : ℕ) (ticks : ℕ → ℕ) (l : TickParts) (start r : RtcParts) → IsRtc r → ticks 0 ≡ 0
    → l.up ≡ (c && pf_of start) → pf_of r ≡ (pf_of start || ltb 0 (ticks n))
    → (cond c (line_after (λ j. cond c (ticks j) 0) slew t n l) l).up
    ≡ (c && pf_of (flagged_where (c && (cond c (line_after (λ j. cond c (ticks j) 0) slew t n l) l).up) r))
unfolding flagged_where
flag-is-line false t n slew ticks l start r valid none flag pf = flag
flag-is-line true t n slew ticks l start r valid none flag pf = elim (cases_Bool (line_after (λ j. ticks j) slew t n l).up) [
  | inl up ↦ up ∙ sym (ap (λ (b : Bool). pf_of (flagged_where b r)) up ∙ pf_of-flagged r valid)
  | inr down ↦ down ∙ sym (ap (λ (b : Bool). pf_of (flagged_where b r)) down ∙ pf ∙ elim (cases_Bool (pf_of start || ltb 0 (ticks n))) [
    | inl some ↦ absurd (false≢true (sym down ∙ up-line_after (λ j. ticks j) slew t n l none (ap (λ (b : Bool). b || ltb 0 (ticks n)) flag ∙ some)))
    | inr not_some ↦ not_some
  ])
]

-- equal parts
pub same_parts : (d : DeviceParts) {p q : PitParts} {r s : RtcParts} {h i : HpetParts} {ls ms : List TickParts} → p ≡ q → r ≡ s → h ≡ i → ls ≡ ms
    → record d { pit = p; rtc = r; hpet = h; ticks = ls } ≡ record d { pit = q; rtc = s; hpet = i; ticks = ms }
same_parts d {p} {q} {r} {s} {h} {i} {ls} {ms} e f g k =
    ap (λ (x : PitParts). record d { pit = x; rtc = r; hpet = h; ticks = ls }) e
    ∙ (ap (λ (x : RtcParts). record d { pit = q; rtc = x; hpet = h; ticks = ls }) f
    ∙ (ap (λ (x : HpetParts). record d { pit = q; rtc = s; hpet = x; ticks = ls }) g
    ∙ ap (λ (x : List TickParts). record d { pit = q; rtc = s; hpet = i; ticks = x }) k))

-- the MC146818 by itself, without its flag
rtc_times : ℕ → ℕ → DeviceParts → RtcParts
rtc_times t n d = rtc_pulsed_times (pulses_from RTC_HZ t n) d.rtc

pub counts-by : (r s : RtcParts) (h i : HpetParts) → register_b r ≡ register_b s → is_legacy h ≡ is_legacy i → (pie_of r && not (is_legacy h))
    ≡ (pie_of s && not (is_legacy i))
counts-by r s h i e f = ap (λ (b : ℕ). bit 6 b && not (is_legacy h)) e ∙ ap (λ (l : Bool). pie_of s && not l) f

-- what the nanosecond after n of them finds
module _ (t n : ℕ) (d : DeviceParts) (sound : Sound d) where
  flag_now : Bool
  flag_now = counts_rtc d && (line_run d t n 1 (line_at 1 d)).up

  pulses-pit : pit_pulsed_times (pulses_from PIT_HZ t (suc n)) d.pit
      ≡ cond (falls_at PIT_HZ (t + n + 1)) (pit_pulsed (pit_pulsed_times (pulses_from PIT_HZ t n) d.pit)) (pit_pulsed_times (pulses_from PIT_HZ t n) d.pit)
  pulses-pit = times-step (λ m. pit_pulsed_times m d.pit) pit_pulsed PIT_HZ t n (omega arith) (λ m. pit_pulsed_times-suc m d.pit)

  pulses-hpet : hpet_pulsed_times (pulses_from HPET_HZ t (suc n)) d.hpet
      ≡ cond (falls_at HPET_HZ (t + n + 1)) (hpet_pulsed (hpet_pulsed_times (pulses_from HPET_HZ t n) d.hpet))
      (hpet_pulsed_times (pulses_from HPET_HZ t n) d.hpet)
  pulses-hpet = times-step (λ m. hpet_pulsed_times m d.hpet) hpet_pulsed HPET_HZ t n (omega arith) (λ m. refl)

  pulses-rtc : rtc_times t (suc n) d ≡ cond (falls_at RTC_HZ (t + n + 1)) (rtc_pulsed (rtc_times t n d)) (rtc_times t n d)
  unfolding rtc_times
  pulses-rtc = times-step (λ m. rtc_pulsed_times m d.rtc) rtc_pulsed RTC_HZ t n (omega arith) (λ m. refl)

  valid-rtc : (m : ℕ) → IsRtc (rtc_times t m d)
  unfolding rtc_times
  valid-rtc m = IsRtc-rtc_pulsed_times (pulses_from RTC_HZ t m) d.rtc sound.rtc

  b-rtc : (m : ℕ) → register_b (rtc_times t m d) ≡ register_b d.rtc
  unfolding rtc_times
  b-rtc m = register_b-rtc_pulsed_times (pulses_from RTC_HZ t m) d.rtc sound.rtc

  -- PF goes past the pulse
  flagged-pulse : (b : Bool) → cond (falls_at RTC_HZ (t + n + 1)) (rtc_pulsed (flagged_where b (rtc_times t n d))) (flagged_where b (rtc_times t n d))
      ≡ flagged_where b (rtc_times t (suc n) d)
  flagged-pulse b = past (falls_at RTC_HZ (t + n + 1)) ∙ ap (flagged_where b) (sym pulses-rtc)
    where
      past : (f : Bool) → cond f (rtc_pulsed (flagged_where b (rtc_times t n d))) (flagged_where b (rtc_times t n d))
          ≡ flagged_where b (cond f (rtc_pulsed (rtc_times t n d)) (rtc_times t n d))
      past true = pulsed-flagged_where b (rtc_times t n d) (valid-rtc n)
      past false = refl

  before : DeviceParts
  before = parted t n d

  then_pit : DeviceParts
  then_pit = pit_pulse (t + n + 1) before

  then_rtc : DeviceParts
  then_rtc = rtc_pulse (t + n + 1) then_pit

  then_hpet : DeviceParts
  then_hpet = hpet_pulse (t + n + 1) then_rtc

  legacy-now : (m : ℕ) → is_legacy (hpet_pulsed_times m d.hpet) ≡ is_legacy d.hpet
  legacy-now m = is_legacy-hpet_pulsed_times m d.hpet

  next_tick : (ticks_next (divider_of (flagged_where flag_now (rtc_times t n d)))
      && (pie_of (flagged_where flag_now (rtc_times t n d)) && not (is_legacy (hpet_pulsed_times (pulses_from HPET_HZ t n) d.hpet))))
      ≡ (ticks_next (divider_times (pulses_from RTC_HZ t n) (divider_of d.rtc))
      && (pie_of (flagged_where flag_now (rtc_times t n d)) && not (is_legacy (hpet_pulsed_times (pulses_from HPET_HZ t n) d.hpet))))
  unfolding rtc_times flag_now
  next_tick = ap (λ (c : DividerParts). ticks_next c
      && (pie_of (flagged_where flag_now (rtc_times t n d)) && not (is_legacy (hpet_pulsed_times (pulses_from HPET_HZ t n) d.hpet))))
      (divider_of-flagged_where flag_now (rtc_times t n d) (valid-rtc n) ∙ divider_of-rtc_pulsed_times (pulses_from RTC_HZ t n) d.rtc sound.rtc)

  counted : (pie_of (flagged_where flag_now (rtc_times t n d)) && not (is_legacy (hpet_pulsed_times (pulses_from HPET_HZ t n) d.hpet))) ≡ counts_rtc d
  unfolding rtc_times flag_now
  counted = counts-by (flagged_where flag_now (rtc_times t n d)) d.rtc (hpet_pulsed_times (pulses_from HPET_HZ t n) d.hpet) d.hpet
      (register_b-flagged_where flag_now (rtc_times t n d) (valid-rtc n) ∙ b-rtc n) (legacy-now (pulses_from HPET_HZ t n))

  tests : Tests d t n before then_pit then_rtc then_hpet
  unfolding before then_pit then_rtc then_hpet parted pit_pulse rtc_pulse hpet_pulse rtc_times flag_now
  tests = record {
    pit = ap (λ (b : Bool). falls_at PIT_HZ (t + n + 1) && b) (
        ap (λ (c : CounterParts). rises_next c && not (is_legacy (hpet_pulsed_times (pulses_from HPET_HZ t n) d.hpet)))
        (counter_of-pit_pulsed_times (pulses_from PIT_HZ t n) 0 d.pit)
        ∙ ap (λ (l : Bool). rises_next (pulsed_times (pulses_from PIT_HZ t n) (counter_of d.pit 0)) && not l) (legacy-now (pulses_from HPET_HZ t n)))
        ∙ sym (count_where-step (not (is_legacy d.hpet)) (rises_in (counter_of d.pit 0)) (λ m. rises_next (pulsed_times m (counter_of d.pit 0))) PIT_HZ t n
        (omega arith) (rises_in-suc (counter_of d.pit 0)));
    rtc = ap (λ (b : Bool). falls_at RTC_HZ (t + n + 1) && b)
        (next_tick ∙ ap (λ (b : Bool). ticks_next (divider_times (pulses_from RTC_HZ t n) (divider_of d.rtc)) && b) counted)
        ∙ sym (count_where-step (counts_rtc d) (ticks_in (divider_of d.rtc)) (λ m. ticks_next (divider_times m (divider_of d.rtc))) RTC_HZ t n (omega arith)
        (ticks_in-suc (divider_of d.rtc)));
    hpet = λ k. ap (λ (b : Bool). falls_at HPET_HZ (t + n + 1) && (matches_next k (hpet_pulsed_times (pulses_from HPET_HZ t n) d.hpet) && b))
        (has_ticks-hpet_pulsed_times k (pulses_from HPET_HZ t n) d.hpet)
        ∙ sym (count_where-step (has_ticks k d.hpet) (matches_of k d.hpet) (λ m. matches_next k (hpet_pulsed_times m d.hpet)) HPET_HZ t n (omega arith)
        (λ m. refl));
    sees = counts-by (cond (falls_at RTC_HZ (t + n + 1)) (rtc_pulsed (flagged_where flag_now (rtc_pulsed_times (pulses_from RTC_HZ t n) d.rtc)))
        (flagged_where flag_now (rtc_pulsed_times (pulses_from RTC_HZ t n) d.rtc))) d.rtc
        (cond (falls_at HPET_HZ (t + n + 1)) (hpet_pulsed (hpet_pulsed_times (pulses_from HPET_HZ t n) d.hpet))
        (hpet_pulsed_times (pulses_from HPET_HZ t n) d.hpet)) d.hpet
        (ap register_b (flagged-pulse flag_now) ∙ register_b-flagged_where flag_now (rtc_times t (suc n) d) (valid-rtc (suc n)) ∙ b-rtc (suc n))
        (ap is_legacy (sym pulses-hpet) ∙ legacy-now (pulses_from HPET_HZ t (suc n)));
  }

  -- the lines after the three pulses
  ticked_line : ℕ → TickParts → TickParts
  ticked_line k l = ticked_where (falls_at HPET_HZ (t + n + 1) && hpet_due then_rtc k)
      (ticked_where (falls_at RTC_HZ (t + n + 1) && rtc_due then_pit k) (ticked_where (falls_at PIT_HZ (t + n + 1) && pit_due before k) (line_run d t n k l)))

  ticks-now : then_hpet.ticks ≡ each ticked_line 0 d.ticks
  unfolding ticked_line then_hpet then_rtc then_pit before hpet_pulse rtc_pulse pit_pulse parted
  ticks-now =
      ap (λ (ls : List TickParts). each (λ k l. ticked_where (falls_at HPET_HZ (t + n + 1) && hpet_due then_rtc k) l) 0
      (each (λ k l. ticked_where (falls_at RTC_HZ (t + n + 1) && rtc_due then_pit k) l) 0 ls))
      (each-each (λ k l. ticked_where (falls_at PIT_HZ (t + n + 1) && pit_due before k) l) (line_run d t n) 0 d.ticks)
      ∙ ap (each (λ k l. ticked_where (falls_at HPET_HZ (t + n + 1) && hpet_due then_rtc k) l) 0)
      (each-each (λ k l. ticked_where (falls_at RTC_HZ (t + n + 1) && rtc_due then_pit k) l)
      (λ k l. ticked_where (falls_at PIT_HZ (t + n + 1) && pit_due before k) (line_run d t n k l)) 0 d.ticks)
      ∙ each-each (λ k l. ticked_where (falls_at HPET_HZ (t + n + 1) && hpet_due then_rtc k) l)
      (λ k l. ticked_where (falls_at RTC_HZ (t + n + 1) && rtc_due then_pit k)
      (ticked_where (falls_at PIT_HZ (t + n + 1) && pit_due before k) (line_run d t n k l))) 0 d.ticks

  ticks-step : each (λ k l. caught_up_where (eqb ((t + n + 1) % d.slew_ns) 0 && sees_point then_hpet k) l) 0 then_hpet.ticks
      ≡ each (line_run d t (suc n)) 0 d.ticks
  unfolding ticked_line
  ticks-step =
      ap (each (λ k l. caught_up_where (eqb ((t + n + 1) % d.slew_ns) 0 && sees_point then_hpet k) l) 0) ticks-now
      ∙ each-each (λ k l. caught_up_where (eqb ((t + n + 1) % d.slew_ns) 0 && sees_point then_hpet k) l) ticked_line 0 d.ticks
      ∙ each-same (λ k l. caught_up_where (eqb ((t + n + 1) % d.slew_ns) 0 && sees_point then_hpet k) (ticked_line k l)) (line_run d t (suc n))
      (place-step d t n before then_pit then_rtc then_hpet tests) 0 d.ticks

  tick_of_rtc : Bool
  tick_of_rtc = ltb (source d t 1 n) (source d t 1 (suc n))

  line-now : line_at 1 then_hpet ≡ ticked_where tick_of_rtc (line_run d t n 1 (line_at 1 d))
  unfolding ticked_line tick_of_rtc
  line-now =
      ap (λ (ls : List TickParts). get_or ls 1 no_line) ticks-now
      ∙ each-at ticked_line 0 1 d.ticks no_line (omega (arith, sound.joined.places))
      ∙ skip_tick (falls_at HPET_HZ (t + n + 1))
      (ticked_where (falls_at RTC_HZ (t + n + 1) && rtc_due then_pit 1)
      (ticked_where (falls_at PIT_HZ (t + n + 1) && false) (line_run d t n 1 (line_at 1 d))))
      ∙ ap (ticked_where (falls_at RTC_HZ (t + n + 1) && rtc_due then_pit 1)) (skip_tick (falls_at PIT_HZ (t + n + 1)) (line_run d t n 1 (line_at 1 d)))
      ∙ ap (λ (b : Bool). ticked_where b (line_run d t n 1 (line_at 1 d))) tests.rtc

  next-line : counts_rtc d ≡ true → line_run d t (suc n) 1 (line_at 1 d)
      ≡ caught_up_where (eqb ((t + n + 1) % d.slew_ns) 0) (ticked_where tick_of_rtc (line_run d t n 1 (line_at 1 d)))
  unfolding tick_of_rtc
  next-line counted =
      sym (rtc_line (counts_rtc d) (eqb ((t + n + 1) % d.slew_ns) 0) (λ j. ticks_in (divider_of d.rtc) (pulses_from RTC_HZ t j)) d.slew_ns t n
      (line_at 1 d) refl)
      ∙ ap (λ (c : Bool). caught_up_where c (ticked_where (ltb (source d t 1 n) (source d t 1 (suc n))) (line_run d t n 1 (line_at 1 d))))
      (ap (λ (c : Bool). eqb ((t + n + 1) % d.slew_ns) 0 && c) counted ∙ and-true (eqb ((t + n + 1) % d.slew_ns) 0))

  some_tick : (c : Bool) (a b : ℕ) → ltb (cond c a 0) (cond c b 0) ≡ true → ltb 0 b ≡ true
  some_tick true a b h = lt-ltb 0 b (omega (arith, ltb-true a b h))
  some_tick false a b h = absurd (false≢true (sym (le-ltb 0 0 (omega arith)) ∙ h))

  pf-now : tick_of_rtc ≡ true → pf_of (rtc_times t (suc n) d) ≡ true
  unfolding rtc_times tick_of_rtc
  pf-now e =
      pf_of-rtc_pulsed_times (pulses_from RTC_HZ t (suc n)) d.rtc sound.rtc
      ∙ ap (λ (b : Bool). pf_of d.rtc || b)
      (some_tick (counts_rtc d) (ticks_in (divider_of d.rtc) (pulses_from RTC_HZ t n)) (ticks_in (divider_of d.rtc) (pulses_from RTC_HZ t (suc n))) e)
      ∙ or-true (pf_of d.rtc)

  rtc-step : cond (eqb ((t + n + 1) % d.slew_ns) 0 && (counts_rtc then_hpet && is_waiting (line_at 1 then_hpet))) (flagged then_hpet.rtc) then_hpet.rtc
      ≡ flagged_where (counts_rtc d && (line_run d t (suc n) 1 (line_at 1 d)).up) (rtc_times t (suc n) d)
  unfolding then_hpet then_rtc then_pit before hpet_pulse rtc_pulse pit_pulse parted flagged_where rtc_times flag_now
  rtc-step =
      ap (λ (b : Bool). flagged_where b then_hpet.rtc)
      (ap (λ (b : Bool). eqb ((t + n + 1) % d.slew_ns) 0 && (b && is_waiting (line_at 1 then_hpet))) tests.sees
      ∙ ap (λ (l : TickParts). eqb ((t + n + 1) % d.slew_ns) 0 && (counts_rtc d && is_waiting l)) line-now)
      ∙ ap (flagged_where (eqb ((t + n + 1) % d.slew_ns) 0 && (counts_rtc d && is_waiting (ticked_where tick_of_rtc (line_run d t n 1 (line_at 1 d))))))
      (flagged-pulse flag_now)
      ∙ flag-step (counts_rtc d) (eqb ((t + n + 1) % d.slew_ns) 0) tick_of_rtc (line_run d t n 1 (line_at 1 d)) (line_run d t (suc n) 1 (line_at 1 d))
      (rtc_times t (suc n) d) (valid-rtc (suc n)) next-line pf-now

  step : at_nanosecond (t + n + 1) (parted t n d) ≡ parted t (suc n) d
  unfolding at_nanosecond catch_up_point then_hpet then_rtc then_pit before hpet_pulse rtc_pulse pit_pulse parted rtc_times
  step = same_parts d (sym pulses-pit) rtc-step (sym pulses-hpet) ticks-step

-- the run of the devices
parted-zero : (t : ℕ) (d : DeviceParts) → Sound d → parted t 0 d ≡ d
unfolding parted
parted-zero t d sound = same_parts d
    (ap (λ (m : ℕ). pit_pulsed_times m d.pit) (pulses_from-zero PIT_HZ t) ∙ pit_pulsed_times-zero d.pit)
    (ap (λ (m : ℕ). flagged_where (counts_rtc d && (line_run d t 0 1 (line_at 1 d)).up) (rtc_pulsed_times m d.rtc)) (pulses_from-zero RTC_HZ t)
    ∙ ap (λ (l : TickParts). flagged_where (counts_rtc d && l.up) d.rtc) (line_none 1 (line_at 1 d))
    ∙ ap (λ (b : Bool). flagged_where (counts_rtc d && b) d.rtc) sound.joined.flag
    ∙ still (counts_rtc d) (pf_of d.rtc) refl)
    (ap (λ (m : ℕ). hpet_pulsed_times m d.hpet) (pulses_from-zero HPET_HZ t))
    (each-none (line_run d t 0) line_none 0 d.ticks)
  where
    line_none : (k : ℕ) (l : TickParts) → line_run d t 0 k l ≡ l
    line_none zero l = line_after-zero (source d t 0) d.slew_ns t l
    line_none (suc zero) l = choice (counts_rtc d)
      where
        choice : (c : Bool) → cond c (line_after (λ j. cond c (ticks_in (divider_of d.rtc) (pulses_from RTC_HZ t j)) 0) d.slew_ns t 0 l) l ≡ l
        choice true = line_after-zero _ d.slew_ns t l
        choice false = refl
    line_none (suc (suc k)) l = line_after-zero (source d t (suc (suc k))) d.slew_ns t l

    still : (c pf : Bool) → pf_of d.rtc ≡ pf → flagged_where (c && (c && pf)) d.rtc ≡ d.rtc
    still true true e = flag-same true d.rtc sound.rtc e
    still true false e = flag-none d.rtc
    still false pf e = flag-none d.rtc

pub run-parted : (t n : ℕ) (d : DeviceParts) → Sound d → (run t n d).state ≡ parted t n d
unfolding run onward
run-parted t zero d sound = sym (parted-zero t d sound)
run-parted t (suc n) d sound = ap (at_nanosecond (t + n + 1)) (run-parted t n d sound) ∙ step t n d sound
