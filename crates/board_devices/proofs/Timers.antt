-- What the timers of an HPET that had its pulses drive, as its timers before did.
use Rattle.std.proofs.Common.{◌≡◌, ℕ, suc, ◌+◌, ◌<◌, ◌≤◌, Bool, true, false, cond, leb, ◌⊎◌, inl, inr, List, [], ◌∷◌}
use Rattle.std.proofs.Common.{get_or, Option, None, refl, ap, sym, subst, ◌∙◌, arith}
use Rattle.std.proofs.lemmas.Bool.{le-ltb, cases_lt}
use Rattle.clk_units.specs.Bits.{bit}
use Rattle.clk_units.specs.Events.{first_at}
use Rattle.clk_units.specs.Pulses.{pulses_from}
use Rattle.pit_counter.specs.declared.rises.Rises.{Rises}
use Rattle.rtc_registers.specs.declared.events.RtcEvents.{RtcEvents}
use Rattle.hpet_comparator.specs.declared.stretch.Matches.{Matches}
use Rattle.hpet_registers.specs.declared.hpet.TheConstants.{HPET_HZ}
use Rattle.hpet_registers.specs.declared.parts.HpetParts.{HpetParts}
use Rattle.hpet_registers.specs.Parts.{IsHpet, is_legacy}
use Rattle.hpet_registers.specs.Outputs.{has_ticks}
use Rattle.hpet_registers.specs.Stretch.{hpet_pulsed_times, timer_matches, no_matches}
use Rattle.hpet_registers.proofs.Product.{is_level-hpet_pulsed_times, is_enabled-hpet_pulsed_times, is_legacy-hpet_pulsed_times, timers-hpet_pulsed_times}
use Rattle.hpet_registers.proofs.Product.{timer_config-hpet_pulsed_times}
use Rattle.hpet_registers.proofs.After.{is_message-hpet_pulsed_times, has_ticks-hpet_pulsed_times}
use Rattle.tick_policy.specs.declared.parts.TickParts.{TickParts}
use Rattle.tick_policy.specs.Stretch.{caught_up_where, line_end}
use Rattle.tick_policy.proofs.Ticks.{ticked_times-zero}
use Rattle.board_devices.specs.declared.parts.DeviceParts.{DeviceParts}
use Rattle.board_devices.specs.Parts.{IsTimerLine}
use Rattle.board_devices.specs.declared.stretch.Ticks.{Ticks}
use Rattle.board_devices.specs.declared.stretch.Span.{Span}
use Rattle.board_devices.specs.Places.{line_at, no_line}
use Rattle.board_devices.specs.private.Stretch.{counted, flag_from, timer_ticks, end_of, up_of, output_up, slots_from}
use Rattle.board_devices.proofs.Slots.{slots-are, slots-same}
use Rattle.board_devices.proofs.Advance.{Known, out_at, up_at, irq_at, lines_from, outs, outs-are}

output-same : (span : Span) (m : Matches) (l : TickParts) {level enabled has was sends lv en hs ws sn : Bool} → level ≡ lv → enabled ≡ en → has ≡ hs
    → was ≡ ws → sends ≡ sn
    → cond level (flag_from enabled was span.from (first_at HPET_HZ span.from m.first))
    (cond sends None (up_of span.from span.point span.to (counted true has m.count (first_at HPET_HZ span.from m.first)) l))
    ≡ cond lv (flag_from en ws span.from (first_at HPET_HZ span.from m.first))
    (cond sn None (up_of span.from span.point span.to (counted true hs m.count (first_at HPET_HZ span.from m.first)) l))
output-same span m l x y z w v = rw (x, y, z, w, v) refl

module _ {d : DeviceParts} {t n c : ℕ} {rises : Rises} {events : RtcEvents} {ms : List Matches} {pit rtc : Ticks}
    (know : Known d t n c rises events ms pit rtc) where
  -- the output of a timer
  output-is : (k status : ℕ) (ls : List TickParts) → status ≡ d.hpet.status → get_or ls (k + 2) no_line ≡ line_at (suc (suc k)) d
      → output_up (record { from = t; to = t + n; point = t + c }) k (hpet_pulsed_times (pulses_from HPET_HZ t n) d.hpet) (bit k status)
      (timer_matches ms k) (get_or ls (k + 2) no_line) ≡ out_at know k
  output-is k status ls status_is line_is =
      let m : ℕ = pulses_from HPET_HZ t n in
      let span : Span = record { from = t; to = t + n; point = t + c } in
      ap (output_up span k (hpet_pulsed_times m d.hpet) (bit k status) (timer_matches ms k)) line_is
      ∙ output-same span (timer_matches ms k) (line_at (suc (suc k)) d) (is_level-hpet_pulsed_times k m d.hpet) (is_enabled-hpet_pulsed_times k m d.hpet)
      (has_ticks-hpet_pulsed_times k m d.hpet) (ap (bit k) status_is) (is_message-hpet_pulsed_times k m d.hpet)

  -- the lines of the timers at the end: a timer that isn't there has no tick
  still : (b : Bool) (P to : ℕ) → no_line ≡ end_of P to (counted true b 0 None) no_line
  still b P to =
      by_test b
    where
      waits : (p : Bool) → caught_up_where p no_line ≡ no_line
      waits true = refl
      waits false = refl

      by_test : (b : Bool) → no_line ≡ line_end P to (cond b None None) (cond b 0 0) no_line
      by_test true = sym (ticked_times-zero (caught_up_where (leb P to) no_line) ∙ waits (leb P to))
      by_test false = sym (ticked_times-zero (caught_up_where (leb P to) no_line) ∙ waits (leb P to))

  pub ends-timers : (P to : ℕ) (old new : List TickParts)
      → ((k : ℕ) → k < 8 → get_or old (k + 2) no_line ≡ line_at (suc (suc k)) d)
      → ((k : ℕ) → k < (hpet_pulsed_times (pulses_from HPET_HZ t n) d.hpet).timers → get_or new (k + 2) no_line
      ≡ end_of P to (timer_ticks t k (hpet_pulsed_times (pulses_from HPET_HZ t n) d.hpet) (timer_matches ms k)) (get_or old (k + 2) no_line))
      → ((j : ℕ) → (hpet_pulsed_times (pulses_from HPET_HZ t n) d.hpet).timers + 2 ≤ j → get_or new j no_line ≡ get_or old j no_line)
      → ((k : ℕ) → d.hpet.timers ≤ k → timer_matches ms k ≡ no_matches)
      → (k : ℕ) → k < 8 → get_or new (suc (suc k)) no_line ≡ end_of P to (timer_ticks t k d.hpet (timer_matches ms k)) (line_at (suc (suc k)) d)
  ends-timers P to old new before there rest none k less = elim (cases_lt k d.hpet.timers) [
    | inl inside ↦
        ap (λ (i : ℕ). get_or new i no_line) place
        ∙ there k (omega (arith, inside, same))
        ∙ ap (λ (b : Bool). end_of P to (counted true b m.count (first_at HPET_HZ t m.first)) (get_or old (k + 2) no_line))
        (has_ticks-hpet_pulsed_times k (pulses_from HPET_HZ t n) d.hpet)
        ∙ ap (end_of P to (timer_ticks t k d.hpet m)) (before k less)
    | inr gone ↦
        rest (suc (suc k)) (omega (arith, gone, same))
        ∙ ap (λ (i : ℕ). get_or old i no_line) place ∙ before k less ∙ empty gone
        ∙ still (has_ticks k d.hpet) P to
        ∙ ap (end_of P to (counted true (has_ticks k d.hpet) 0 None)) (sym (empty gone))
        ∙ ap (λ (x : Matches). end_of P to (timer_ticks t k d.hpet x) (line_at (suc (suc k)) d)) (sym (none k gone))
  ]
    where
      m : Matches
      m = timer_matches ms k

      place : suc (suc k) ≡ k + 2
      place = omega arith

      same : (hpet_pulsed_times (pulses_from HPET_HZ t n) d.hpet).timers ≡ d.hpet.timers
      same = timers-hpet_pulsed_times (pulses_from HPET_HZ t n) d.hpet

      empty : d.hpet.timers ≤ k → line_at (suc (suc k)) d ≡ no_line
      empty gone = subst (λ (b : Bool). IsTimerLine b (line_at 2 d).policy (line_at (suc (suc k)) d)) (le-ltb k d.hpet.timers gone)
          (know.sound.joined.timer_lines k less)

  -- the six lines
  pub times-are : (status : ℕ) (ls : List TickParts) (pit_up irq : Option ℕ) (legacy : Bool) → IsHpet d.hpet → status ≡ d.hpet.status
      → ((k : ℕ) → k < 8 → get_or ls (k + 2) no_line ≡ line_at (suc (suc k)) d) → pit_up ≡ up_at know 0 → irq ≡ irq_at know → legacy ≡ is_legacy d.hpet
      → slots_from (hpet_pulsed_times (pulses_from HPET_HZ t n) d.hpet).timers (hpet_pulsed_times (pulses_from HPET_HZ t n) d.hpet)
      (λ k. output_up (record { from = t; to = t + n; point = t + c }) k (hpet_pulsed_times (pulses_from HPET_HZ t n) d.hpet) (bit k status)
      (timer_matches ms k) (get_or ls (k + 2) no_line)) (cond legacy None pit_up ∷ cond legacy None irq ∷ None ∷ None ∷ None ∷ None ∷ [])
      ≡ lines_from know (outs know)
  times-are status ls pit_up irq legacy valid status_is lines_are pit_is irq_is legacy_is =
      let m : ℕ = pulses_from HPET_HZ t n in
      let h : HpetParts = hpet_pulsed_times m d.hpet in
      let start : cond legacy None pit_up ∷ cond legacy None irq ∷ None ∷ None ∷ None ∷ None ∷ []
      ≡ cond (is_legacy d.hpet) None (up_at know 0) ∷ cond (is_legacy d.hpet) None (irq_at know) ∷ None ∷ None ∷ None ∷ None ∷ [] =
      by_parts legacy_is pit_is irq_is in
      let few : h.timers ≤ 8 = at_most (timers-hpet_pulsed_times m d.hpet) valid.timers in
      slots-same h d.hpet _ (out_at know) (is_legacy-hpet_pulsed_times m d.hpet) (λ k. timer_config-hpet_pulsed_times k m d.hpet) h.timers few
      (λ k less. output-is k status ls status_is (lines_are k less)) _
      ∙ ap (λ (i : ℕ). slots_from i d.hpet (out_at know) (cond legacy None pit_up ∷ cond legacy None irq ∷ None ∷ None ∷ None ∷ None ∷ []))
      (timers-hpet_pulsed_times m d.hpet)
      ∙ ap (slots_from d.hpet.timers d.hpet (out_at know)) start
      ∙ slots-are d.hpet (outs know) (out_at know) (up_at know 0) (irq_at know) (is_legacy d.hpet) refl (outs-are know) valid
    where
      by_parts : {l k : Bool} {p q i j : Option ℕ} → l ≡ k → p ≡ q → i ≡ j
          → cond l None p ∷ cond l None i ∷ None ∷ None ∷ None ∷ None ∷ [] ≡ cond k None q ∷ cond k None j ∷ None ∷ None ∷ None ∷ None ∷ []
      by_parts x y z = rw (x, y, z) refl

      at_most : {timers : ℕ} → timers ≡ d.hpet.timers → (d.hpet.timers ≡ 3) ⊎ (d.hpet.timers ≡ 8) → timers ≤ 8
      at_most same (inl e) = omega arith
      at_most same (inr e) = omega arith
