-- A stretch that moves no line, or only that of the 8254: no update, ticks that find their lines up alone, and no catch-up point
-- that finds a line that waits.
use Rattle.std.proofs.Common.{◌≡◌, ℕ, zero, suc, ◌+◌, ◌<◌, ◌≤◌, Bool, true, false, cond, ltb, eqb, ◌&&◌, ◌||◌, not, List, [], ◌∷◌, ◌++◌}
use Rattle.std.proofs.Common.{◌⊎◌, refl, ap, sym, ◌∙◌, inl, inr, arith}
use Rattle.pit_readback.specs.declared.TheConstants.{PIT_HZ}
use Rattle.rtc_registers.specs.declared.TheConstants.{RTC_HZ}
use Rattle.hpet_registers.specs.declared.hpet.TheConstants.{HPET_HZ}
use Rattle.std.proofs.Math.Bool.{and-false, or-false}
use Rattle.std.proofs.lemmas.Bool.{le-ltb, cases_lt}
use Rattle.clk_units.specs.Events.{CountsUp}
use Rattle.clk_units.specs.Pulses.{pulses_from}
use Rattle.clk_units.proofs.Pulses.{pulses_from-mono}
use Rattle.clk_units.proofs.Events.{CountsUp-mono}
use Rattle.irq_edges.specs.declared.edges.Edge.{Edge}
use Rattle.irq_edges.specs.Lines.{line_numbers, changes}
use Rattle.irq_edges.proofs.EdgesOf.{changes-same}
use Rattle.pit_counter.specs.Table.{rises_in}
use Rattle.pit_counter.proofs.Times.{CountsUp-rises_in}
use Rattle.pit_readback.specs.Pit.{counter_of, pit_pulsed_times}
use Rattle.rtc_cycle.specs.Divider.{ticks_in, updates_in}
use Rattle.rtc_cycle.proofs.Pulse.{CountsUp-ticks_in, CountsUp-updates_in}
use Rattle.rtc_registers.specs.declared.parts.RtcParts.{RtcParts}
use Rattle.rtc_registers.specs.Parts.{IsRtc}
use Rattle.rtc_registers.specs.Registers.{divider_of, irqf_of, pf_of, af_of, uf_of, pie_of, aie_of, uie_of}
use Rattle.rtc_registers.specs.Pulses.{rtc_pulsed_times, alarms_in}
use Rattle.rtc_registers.proofs.Times.{pf_of-rtc_pulsed_times, IsRtc-rtc_pulsed_times, alarms_in-no_update}
use Rattle.rtc_registers.proofs.Lines.{irqf_of-rtc_pulsed_times}
use Rattle.clk_units.specs.Bits.{bit}
use Rattle.hpet_comparator.specs.Parts.{is_level, is_enabled, route_of}
use Rattle.hpet_registers.specs.Parts.{timer_at, is_legacy}
use Rattle.hpet_registers.specs.Outputs.{has_ticks, is_message, level_output}
use Rattle.hpet_registers.proofs.After.{is_message-hpet_pulsed_times}
use Rattle.hpet_registers.specs.Stretch.{hpet_pulsed_times, matches_of}
use Rattle.hpet_registers.proofs.Product.{timer_config-hpet_pulsed_times, status_bit-hpet_pulsed_times, is_legacy-hpet_pulsed_times}
use Rattle.hpet_registers.proofs.Product.{CountsUp-matches_of}
use Rattle.tick_policy.specs.declared.parts.TickParts.{TickParts}
use Rattle.tick_policy.specs.Line.{ticked_times, is_waiting}
use Rattle.tick_policy.specs.Stretch.{IsFirstPoint, line_after}
use Rattle.tick_policy.proofs.Ticks.{ticked_times-zero, caught_up-still}
use Rattle.tick_policy.proofs.Stretches.{line_after-early, line_after-late, line_after-up}
use Rattle.board_devices.specs.declared.parts.DeviceParts.{DeviceParts}
use Rattle.board_devices.specs.Places.{each, line_at, no_line}
use Rattle.board_devices.specs.Nanosecond.{counts_rtc, sees_point}
use Rattle.board_devices.specs.Lines.{output_of, drives, routed, levels}
use Rattle.board_devices.specs.Run.{run, onward}
use Rattle.board_devices.specs.private.Pulses.{is_unheard}
use Rattle.board_devices.specs.private.Stretch.{source, line_run, flagged_where, parted}
use Rattle.board_devices.proofs.Unheard.{irqf-unheard}
use Rattle.board_devices.proofs.Places.{each-at, same_six}
use Rattle.board_devices.proofs.Product.{Sound, run-parted, same_parts, flag-same, flag-none}
use Rattle.board_devices.proofs.Advance.{counts-where}

-- of the lines those from place `low` on stay as they are, which is 0, or 1 where that of the 8254 may go up
pub record QuietFrom (low : ℕ) (d : DeviceParts) (t n c : ℕ) : Type 0 where
  pub few : low ≤ 1
  pub sound : Sound d
  pub point : IsFirstPoint d.slew_ns t c
  -- no catch-up point comes, or one that finds no line that waits
  pub early : (n < c) ⊎ ((k : ℕ) → k < 10 → is_waiting (line_at k d) ≡ false)
  -- the MC146818 has no event, or nobody hears it
  pub clock : (is_unheard d.rtc ≡ true)
      ⊎ ((ticks_in (divider_of d.rtc) (pulses_from RTC_HZ t n) ≡ 0) × (updates_in (divider_of d.rtc) (pulses_from RTC_HZ t n) ≡ 0))
  -- ticks find their line up, and no timer of level type that is enabled matches
  pub found : (k : ℕ) → low ≤ k → k < 10 → 0 < source d t k n → (line_at k d).up ≡ true
  pub level : (k : ℕ) → k < 8 → is_level (timer_at k d.hpet) ≡ true → is_enabled (timer_at k d.hpet) ≡ true
      → matches_of k d.hpet (pulses_from HPET_HZ t n) ≡ 0

-- none so far, where none by the end
none-before : (count : ℕ → ℕ) (hz t j n : ℕ) → CountsUp count → j ≤ n → count (pulses_from hz t n) ≡ 0 → count (pulses_from hz t j) ≡ 0
none-before count hz t j n up le none = omega (arith, CountsUp-mono count up (pulses_from hz t j) (pulses_from hz t n) (pulses_from-mono hz t j n le), none)

pub counts-source : (d : DeviceParts) (t k : ℕ) → CountsUp (source d t k)
counts-source d t zero = counts-where (not (is_legacy d.hpet)) (rises_in (counter_of d.pit 0)) PIT_HZ t (omega arith) (CountsUp-rises_in (counter_of d.pit 0))
counts-source d t (suc zero) = counts-where (counts_rtc d) (ticks_in (divider_of d.rtc)) RTC_HZ t (omega arith) (CountsUp-ticks_in (divider_of d.rtc))
counts-source d t (suc (suc k)) = counts-where (has_ticks k d.hpet) (matches_of k d.hpet) HPET_HZ t (omega arith) (CountsUp-matches_of k d.hpet)

-- PF is set again where it was
pub flag-again : (b pf : Bool) (ticks : ℕ) (r : RtcParts) → IsRtc r → pf_of r ≡ (pf || ltb 0 ticks) → flagged_where (b && (b && pf)) r ≡ r
flag-again true true ticks r valid e = flag-same true r valid e
flag-again true false ticks r valid e = flag-none r
flag-again false pf ticks r valid e = flag-none r

-- the levels, by that of the line of the 8254
abbrev pub levels_with : Bool → DeviceParts → List Bool
levels_with up d =
    cond (is_legacy d.hpet) (output_of 0 d) up ∷ cond (is_legacy d.hpet) (output_of 1 d) (irqf_of d.rtc)
    ∷ routed 20 8 d ∷ routed 21 8 d ∷ routed 22 8 d ∷ routed 23 8 d ∷ []

module _ {low : ℕ} {d : DeviceParts} {t n c : ℕ} (quiet : QuietFrom low d t n c) where
  -- catch-up points leave the lines alone: they have their ticks
  pub line_after-counted : (k : ℕ) → k < 10 → (j : ℕ) → j ≤ n
      → line_after (source d t k) d.slew_ns t j (line_at k d) ≡ ticked_times (source d t k j) (line_at k d)
  line_after-counted k less j le = elim (cases_lt j c) [
    | inl before ↦ line_after-early (source d t k) d.slew_ns t c j (line_at k d) (counts-source d t k) quiet.point (inl before)
    | inr past ↦ elim (cases_lt 0 (source d t k c)) [
      | inl some ↦ line_after-early (source d t k) d.slew_ns t c j (line_at k d) (counts-source d t k) quiet.point (inr some)
      | inr few ↦ line_after-late (source d t k) d.slew_ns t c j (line_at k d) (counts-source d t k) quiet.point past (omega (arith, few))
          ∙ ap (ticked_times (source d t k j)) (caught_up-still (line_at k d) (idle past))
    ]
  ]
    where
      idle : c ≤ j → is_waiting (line_at k d) ≡ false
      idle past = elim quiet.early [ inl before ↦ absurd (omega (arith, before, le, past)) | inr none ↦ none k less ]

  line_after-still : (k : ℕ) → low ≤ k → k < 10 → (j : ℕ) → j ≤ n → (line_after (source d t k) d.slew_ns t j (line_at k d)).up ≡ (line_at k d).up
  line_after-still k inside less j le = elim (cases_lt 0 (source d t k n)) [
    | inl some ↦ line_after-up (source d t k) d.slew_ns t j (line_at k d) (quiet.found k inside less some) ∙ sym (quiet.found k inside less some)
    | inr few ↦
        let none : source d t k j ≡ 0 = omega (arith, CountsUp-mono (source d t k) (counts-source d t k) j n le) in
        ap (λ (l : TickParts). l.up) (line_after-counted k less j le ∙ ap (λ (m : ℕ). ticked_times m (line_at k d)) none ∙ ticked_times-zero (line_at k d))
  ]

  line_run-still : (k : ℕ) → low ≤ k → k < 10 → (j : ℕ) → j ≤ n → (line_run d t j k (line_at k d)).up ≡ (line_at k d).up
  line_run-still k inside less j le = seen (sees_point d k) (line_after (source d t k) d.slew_ns t j (line_at k d)) (line_after-still k inside less j le)
    where
      seen : (b : Bool) (l : TickParts) → l.up ≡ (line_at k d).up → (cond b l (line_at k d)).up ≡ (line_at k d).up
      seen true l e = e
      seen false l e = refl

  flag-still : (j : ℕ) → j ≤ n → flagged_where (counts_rtc d && (line_run d t j 1 (line_at 1 d)).up) (rtc_pulsed_times (pulses_from RTC_HZ t j) d.rtc)
      ≡ rtc_pulsed_times (pulses_from RTC_HZ t j) d.rtc
  flag-still j le =
      ap (λ (b : Bool). flagged_where (counts_rtc d && b) (rtc_pulsed_times (pulses_from RTC_HZ t j) d.rtc))
      (line_run-still 1 quiet.few (omega arith) j le ∙ quiet.sound.joined.flag)
      ∙ flag-again (counts_rtc d) (pf_of d.rtc) (ticks_in (divider_of d.rtc) (pulses_from RTC_HZ t j)) (rtc_pulsed_times (pulses_from RTC_HZ t j) d.rtc)
      (IsRtc-rtc_pulsed_times (pulses_from RTC_HZ t j) d.rtc quiet.sound.rtc)
      (pf_of-rtc_pulsed_times (pulses_from RTC_HZ t j) d.rtc quiet.sound.rtc)

  -- the devices had their pulses, and the lines their ticks
  abbrev pub moved : ℕ → DeviceParts
  moved j = record d {
    pit = pit_pulsed_times (pulses_from PIT_HZ t j) d.pit;
    rtc = rtc_pulsed_times (pulses_from RTC_HZ t j) d.rtc;
    hpet = hpet_pulsed_times
        (pulses_from HPET_HZ t j) d.hpet;
    ticks = each (line_run d t j) 0 d.ticks;
  }

  pub parted-still : (j : ℕ) → j ≤ n → parted t j d ≡ moved j
  unfolding parted
  parted-still j le = same_parts d refl (flag-still j le) refl refl

  -- no level changes
  line-moved : (j k : ℕ) → k < 10 → (line_at k (moved j)).up ≡ (line_run d t j k (line_at k d)).up
  line-moved j k less =
      ap (λ (l : TickParts). l.up) (each-at (line_run d t j) 0 k d.ticks no_line (omega (arith, less, quiet.sound.joined.places)))
      ∙ ap (λ (i : ℕ). (line_run d t j i (line_at k d)).up) (omega arith)

  line-still : (j k : ℕ) → j ≤ n → low ≤ k → k < 10 → (line_at k (moved j)).up ≡ (line_at k d).up
  line-still j k le inside less = line-moved j k less ∙ line_run-still k inside less j le

  config-still : (j k : ℕ) → (timer_at k (hpet_pulsed_times (pulses_from HPET_HZ t j) d.hpet)).config ≡ (timer_at k d.hpet).config
  config-still j k = timer_config-hpet_pulsed_times k (pulses_from HPET_HZ t j) d.hpet

  legacy-still : (j : ℕ) → is_legacy (hpet_pulsed_times (pulses_from HPET_HZ t j) d.hpet) ≡ is_legacy d.hpet
  legacy-still j = is_legacy-hpet_pulsed_times (pulses_from HPET_HZ t j) d.hpet

  status-still : (j k : ℕ) → j ≤ n → k < 8
      → (bit k (hpet_pulsed_times (pulses_from HPET_HZ t j) d.hpet).status && is_enabled (timer_at k d.hpet)) ≡ level_output k d.hpet
  status-still j k le small =
      ap (λ (b : Bool). b && is_enabled (timer_at k d.hpet)) (status_bit-hpet_pulsed_times k (pulses_from HPET_HZ t j) d.hpet small)
      ∙ by_test (is_level (timer_at k d.hpet)) (is_enabled (timer_at k d.hpet)) refl refl
    where
      m : ℕ
      m = matches_of k d.hpet (pulses_from HPET_HZ t j)

      by_test : (l e : Bool) → is_level (timer_at k d.hpet) ≡ l → is_enabled (timer_at k d.hpet) ≡ e
          → ((bit k d.hpet.status || (ltb 0 m && l)) && e) ≡ (bit k d.hpet.status && e)
      by_test true true is_l is_e =
          let none : m
          ≡ 0 = none-before (matches_of k d.hpet) HPET_HZ t j n (CountsUp-matches_of k d.hpet) le (quiet.level k small is_l is_e) in
          ap (λ (x : ℕ). (bit k d.hpet.status || (ltb 0 x && true)) && true) none
          ∙ ap (λ (b : Bool). (bit k d.hpet.status || (b && true)) && true) (le-ltb 0 0 (omega arith))
          ∙ ap (λ (b : Bool). b && true) (or-false (bit k d.hpet.status))
      by_test l false is_l is_e = and-false (bit k d.hpet.status || (ltb 0 m && l)) ∙ sym (and-false (bit k d.hpet.status))
      by_test false true is_l is_e =
          ap (λ (b : Bool). (bit k d.hpet.status || b) && true) (and-false (ltb 0 m)) ∙ ap (λ (b : Bool). b && true) (or-false (bit k d.hpet.status))

  output-still : (j k : ℕ) → j ≤ n → k < 8 → output_of k (moved j) ≡ output_of k d
  output-still j k le small =
      ap (λ (g : ℕ). cond (bit 1 g) (bit k (hpet_pulsed_times (pulses_from HPET_HZ t j) d.hpet).status && bit 2 g)
      (not (is_message k (moved j).hpet) && (line_at (suc (suc k)) (moved j)).up)) (config-still j k)
      ∙ ap (λ (b : Bool). cond (is_level (timer_at k d.hpet)) b
      (not (is_message k (moved j).hpet) && (line_at (suc (suc k)) (moved j)).up)) (status-still j k le small)
      ∙ ap (λ (m : Bool). cond (is_level (timer_at k d.hpet)) (bit k d.hpet.status && is_enabled (timer_at k d.hpet))
      (not m && (line_at (suc (suc k)) (moved j)).up)) (is_message-hpet_pulsed_times k (pulses_from HPET_HZ t j) d.hpet)
      ∙ ap (λ (b : Bool). cond (is_level (timer_at k d.hpet)) (bit k d.hpet.status && is_enabled (timer_at k d.hpet)) (not (is_message k d.hpet) && b))
      (line-still j (suc (suc k)) le (omega (arith, quiet.few)) (omega arith))

  routed-still : (line m j : ℕ) → j ≤ n → m ≤ 8 → routed line m (moved j) ≡ routed line m d
  routed-still line zero j le few = refl
  routed-still line (suc k) j le few =
      ap (λ (b : Bool). b || (drives line k (moved j).hpet && output_of k (moved j))) (routed-still line k j le (omega arith))
      ∙ ap (λ (b : Bool). routed line k d || (b && output_of k (moved j))) (
      ap (λ (g : ℕ). eqb (route_of g) line && not (is_legacy (moved j).hpet && ltb k 2)) (config-still j k)
      ∙ ap (λ (l : Bool). eqb (route_of (timer_at k d.hpet).config) line && not (l && ltb k 2)) (legacy-still j))
      ∙ ap (λ (b : Bool). routed line k d || (drives line k d.hpet && b)) (output-still j k le (omega arith))

  irqf-none : (j : ℕ) → j ≤ n → ticks_in (divider_of d.rtc) (pulses_from RTC_HZ t n) ≡ 0 → updates_in (divider_of d.rtc) (pulses_from RTC_HZ t n) ≡ 0
      → irqf_of (rtc_pulsed_times (pulses_from RTC_HZ t j) d.rtc) ≡ irqf_of d.rtc
  irqf-none j le no_ticks no_updates =
      let m : ℕ = pulses_from RTC_HZ t j in
      let ticks : ticks_in (divider_of d.rtc) m
      ≡ 0 = none-before (ticks_in (divider_of d.rtc)) RTC_HZ t j n (CountsUp-ticks_in (divider_of d.rtc)) le no_ticks in
      let updates : updates_in (divider_of d.rtc) m
      ≡ 0 = none-before (updates_in (divider_of d.rtc)) RTC_HZ t j n (CountsUp-updates_in (divider_of d.rtc)) le no_updates in
      let none : ltb 0 0 ≡ false = le-ltb 0 0 (omega arith) in
      irqf_of-rtc_pulsed_times m d.rtc quiet.sound.rtc
      ∙ ap (λ (x : ℕ). ((pf_of d.rtc || ltb 0 x) && pie_of d.rtc)
      || (((af_of d.rtc || ltb 0 (alarms_in d.rtc m)) && aie_of d.rtc) || ((uf_of d.rtc || ltb 0 (updates_in (divider_of d.rtc) m)) && uie_of d.rtc))) ticks
      ∙ ap (λ (x : ℕ). ((pf_of d.rtc || ltb 0 0) && pie_of d.rtc)
      || (((af_of d.rtc || ltb 0 x) && aie_of d.rtc) || ((uf_of d.rtc || ltb 0 (updates_in (divider_of d.rtc) m)) && uie_of d.rtc)))
      (alarms_in-no_update m d.rtc quiet.sound.rtc updates)
      ∙ ap (λ (x : ℕ). ((pf_of d.rtc || ltb 0 0) && pie_of d.rtc)
      || (((af_of d.rtc || ltb 0 0) && aie_of d.rtc) || ((uf_of d.rtc || ltb 0 x) && uie_of d.rtc))) updates
      ∙ ap (λ (b : Bool). ((pf_of d.rtc || b) && pie_of d.rtc) || (((af_of d.rtc || b) && aie_of d.rtc) || ((uf_of d.rtc || b) && uie_of d.rtc))) none
      ∙ ap (λ (b : Bool). (b && pie_of d.rtc) || (((af_of d.rtc || false) && aie_of d.rtc) || ((uf_of d.rtc || false) && uie_of d.rtc)))
      (or-false (pf_of d.rtc))
      ∙ ap (λ (b : Bool). (pf_of d.rtc && pie_of d.rtc) || ((b && aie_of d.rtc) || ((uf_of d.rtc || false) && uie_of d.rtc))) (or-false (af_of d.rtc))
      ∙ ap (λ (b : Bool). (pf_of d.rtc && pie_of d.rtc) || ((af_of d.rtc && aie_of d.rtc) || (b && uie_of d.rtc))) (or-false (uf_of d.rtc))

  irqf-still : (j : ℕ) → j ≤ n → irqf_of (rtc_pulsed_times (pulses_from RTC_HZ t j) d.rtc) ≡ irqf_of d.rtc
  irqf-still j le = elim quiet.clock [
    | inl unheard ↦ irqf-unheard (pulses_from RTC_HZ t j) d.rtc quiet.sound.rtc unheard
    | inr none ↦ irqf-none j le none.0 none.1
  ]

  moved-levels : (j : ℕ) → j ≤ n → levels (moved j) ≡ levels_with (line_at 0 (moved j)).up d
  unfolding levels
  moved-levels j le = same_six
      (ap (λ (l : Bool). cond l (output_of 0 (moved j)) (line_at 0 (moved j)).up) (legacy-still j)
      ∙ ap (λ (b : Bool). cond (is_legacy d.hpet) b (line_at 0 (moved j)).up) (output-still j 0 le (omega arith)))
      (ap (λ (l : Bool). cond l (output_of 1 (moved j)) (irqf_of (moved j).rtc)) (legacy-still j)
      ∙ ap (λ (b : Bool). cond (is_legacy d.hpet) b (irqf_of (moved j).rtc)) (output-still j 1 le (omega arith))
      ∙ ap (λ (b : Bool). cond (is_legacy d.hpet) (output_of 1 d) b) (irqf-still j le))
      (routed-still 20 8 j le (omega arith))
      (routed-still 21 8 j le (omega arith))
      (routed-still 22 8 j le (omega arith))
      (routed-still 23 8 j le (omega arith))

  -- .. but that of the line of the 8254
  pub levels-first : (j : ℕ) → j ≤ n → levels (run t j d).state ≡ levels_with (line_run d t j 0 (line_at 0 d)).up d
  levels-first j le =
      ap levels (run-parted t j d quiet.sound ∙ parted-still j le) ∙ moved-levels j le
      ∙ ap (λ (b : Bool). levels_with b d) (line-moved j 0 (omega arith))

  pub levels-still : low ≡ 0 → (j : ℕ) → j ≤ n → levels (run t j d).state ≡ levels d
  unfolding levels
  levels-still all j le = levels-first j le ∙ ap (λ (b : Bool). levels_with b d) (line_run-still 0 (omega (arith, all)) (omega arith) j le)

-- so there is no edge
pub edges-still : (d : DeviceParts) (t to : ℕ) → ((j : ℕ) → t + j ≤ to → levels (run t j d).state ≡ levels d) → (m : ℕ) → t + m ≤ to → (run t m d).edges ≡ []
unfolding run onward
edges-still d t to still zero le = refl
edges-still d t to still (suc m) le =
    ap (λ (es : List Edge). es ++ changes (t + m + 1) line_numbers (levels (run t m d).state) (levels (run t (suc m) d).state))
    (edges-still d t to still m (omega arith))
    ∙ ap (λ (bs : List Bool). changes (t + m + 1) line_numbers bs (levels (run t (suc m) d).state)) (still m (omega arith))
    ∙ ap (changes (t + m + 1) line_numbers (levels d)) (still (suc m) le)
    ∙ changes-same (t + m + 1) line_numbers (levels d)
