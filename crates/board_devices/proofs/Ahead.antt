-- From when on the lines are up in a stretch that nobody runs.
use Rattle.std.proofs.Common.{◌≡◌, ℕ, zero, suc, ◌+◌, ◌-◌, ◌<◌, ◌≤◌, Bool, true, false, cond, eqb, not, ◌⊎◌, List, [], ◌∷◌}
use Rattle.std.proofs.Common.{map, get_or, Option, Some, None, refl, ap, sym, subst, ◌∙◌, inl, inr, arith}
use Rattle.std.proofs.lemmas.Bool.{cases_lt}
use Rattle.clk_units.specs.Bits.{bit}
use Rattle.clk_units.specs.Events.{IsFirst, first_at}
use Rattle.clk_units.specs.Pulses.{pulses_from}
use Rattle.irq_edges.specs.Rises.{levels_at, IsNextRise}
use Rattle.pit_counter.specs.Table.{rises_in}
use Rattle.pit_counter.specs.declared.rises.Rises.{Rises}
use Rattle.pit_counter.proofs.Times.{CountsUp-rises_in}
use Rattle.pit_readback.specs.declared.TheConstants.{PIT_HZ}
use Rattle.pit_readback.specs.Pit.{counter_of}
use Rattle.rtc_cycle.specs.Divider.{ticks_in, updates_in}
use Rattle.rtc_cycle.proofs.Pulse.{CountsUp-ticks_in, CountsUp-updates_in}
use Rattle.rtc_registers.specs.declared.TheConstants.{RTC_HZ}
use Rattle.rtc_registers.specs.declared.events.RtcEvents.{RtcEvents}
use Rattle.rtc_registers.specs.Registers.{divider_of, aie_of, af_of, uie_of, uf_of}
use Rattle.rtc_registers.specs.Pulses.{alarms_in}
use Rattle.rtc_registers.proofs.Times.{CountsUp-alarms_in}
use Rattle.hpet_comparator.specs.declared.stretch.Matches.{Matches}
use Rattle.hpet_registers.specs.declared.hpet.TheConstants.{HPET_HZ}
use Rattle.hpet_registers.specs.declared.parts.HpetParts.{HpetParts}
use Rattle.hpet_registers.specs.Parts.{IsHpet, is_legacy}
use Rattle.hpet_registers.specs.Stretch.{matches_of, timer_matches, no_matches}
use Rattle.hpet_registers.proofs.Product.{CountsUp-matches_of, matches_of-absent}
use Rattle.tick_policy.specs.Stretch.{up_from, IsFirstPoint}
use Rattle.board_devices.specs.declared.parts.DeviceParts.{DeviceParts}
use Rattle.board_devices.specs.declared.stretch.Ticks.{Ticks}
use Rattle.board_devices.specs.declared.stretch.Span.{Span}
use Rattle.board_devices.specs.Lines.{levels}
use Rattle.board_devices.specs.Nanosecond.{counts_rtc}
use Rattle.board_devices.specs.Places.{line_at}
use Rattle.board_devices.specs.Run.{run}
use Rattle.board_devices.specs.private.Runs.{IsEdgeBy}
use Rattle.board_devices.specs.private.Stretch.{counted, eight, up_of, either_from, flag_from, output_from, output_up, routed_from, slots_from}
use Rattle.board_devices.specs.private.Ahead.{first_of, pulses_of, first_in, pit_up, clock_line_up, irq_up, matches_by, timer_up, front_up, lines_up, IsSettled, is_settled}
use Rattle.board_devices.proofs.FirstOf.{IsFirst-first_of}
use Rattle.board_devices.proofs.Product.{Sound}
use Rattle.board_devices.proofs.Edges.{next-is}
use Rattle.board_devices.proofs.Places.{at-eight}
use Rattle.board_devices.proofs.Settled.{settled-up, routed-settled, next-settled}
use Rattle.board_devices.proofs.Advance.{Brought, Known, up_at, irq_at, out_at, outs, outs-are, lines_from, up-is, ran-levels}
use Rattle.board_devices.proofs.Slots.{either-none, all-timers, slots-are, slots-same}

-- what the pulses of a stretch bring, each of the first events being known
abbrev pub rises_by : DeviceParts → ℕ → ℕ → Rises
rises_by d t n = record {
  count = rises_in (counter_of d.pit 0) (pulses_from PIT_HZ t n);
  first = first_of (rises_in (counter_of d.pit 0)) (pulses_from PIT_HZ t n);
}

abbrev pub events_by : DeviceParts → ℕ → ℕ → RtcEvents
events_by d t n = record {
  cycle = record {
    ticks = ticks_in (divider_of d.rtc) (pulses_from RTC_HZ t n);
    first_tick = first_of (ticks_in (divider_of d.rtc)) (pulses_from RTC_HZ t n);
    updates = updates_in (divider_of d.rtc) (pulses_from RTC_HZ t n);
    first_update = first_of (updates_in (divider_of d.rtc)) (pulses_from RTC_HZ t n);
  };
  first_alarm = first_of (alarms_in d.rtc) (pulses_from RTC_HZ t n);
}

abbrev pub all_matches : DeviceParts → ℕ → ℕ → List Matches
all_matches d t n = map (λ k. matches_by k d.hpet (pulses_from HPET_HZ t n)) eight

abbrev pub pit_ticks : DeviceParts → ℕ → ℕ → Ticks
pit_ticks d t n = counted true (not (is_legacy d.hpet)) (rises_by d t n).count (first_at PIT_HZ t (rises_by d t n).first)

abbrev pub clock_ticks : DeviceParts → ℕ → ℕ → Ticks
clock_ticks d t n = counted (counts_rtc d) (counts_rtc d) (events_by d t n).cycle.ticks (first_at RTC_HZ t (events_by d t n).cycle.first_tick)

-- a place past the eighth is that of no timer
past-eight : {X : Type 0} (f : ℕ → X) (d : X) (k : ℕ) → 8 ≤ k → get_or (map f eight) k d ≡ d
past-eight f d zero h = absurd (omega arith)
past-eight f d (suc zero) h = absurd (omega arith)
past-eight f d (suc (suc zero)) h = absurd (omega arith)
past-eight f d (suc (suc (suc zero))) h = absurd (omega arith)
past-eight f d (suc (suc (suc (suc zero)))) h = absurd (omega arith)
past-eight f d (suc (suc (suc (suc (suc zero))))) h = absurd (omega arith)
past-eight f d (suc (suc (suc (suc (suc (suc zero)))))) h = absurd (omega arith)
past-eight f d (suc (suc (suc (suc (suc (suc (suc zero))))))) h = absurd (omega arith)
past-eight f d (suc (suc (suc (suc (suc (suc (suc (suc k)))))))) h = refl

few_timers : (h : HpetParts) → (h.timers ≡ 3) ⊎ (h.timers ≡ 8) → h.timers ≤ 8
few_timers h (inl e) = omega arith
few_timers h (inr e) = omega arith

brought : (d : DeviceParts) (t n : ℕ) → IsHpet d.hpet → Brought d t n (rises_by d t n) (events_by d t n) (all_matches d t n)
brought d t n valid =
    record {
      pit_count = refl;
      pit_first = IsFirst-first_of (rises_in (counter_of d.pit 0)) (CountsUp-rises_in (counter_of d.pit 0)) (pulses_from PIT_HZ t n);
      rtc_count = λ _. refl;
      rtc_first = λ _. IsFirst-first_of (ticks_in (divider_of d.rtc)) (CountsUp-ticks_in (divider_of d.rtc)) (pulses_from RTC_HZ t n);
      update_first = λ _. IsFirst-first_of (updates_in (divider_of d.rtc)) (CountsUp-updates_in (divider_of d.rtc)) (pulses_from RTC_HZ t n);
      alarm_first = λ _. IsFirst-first_of (alarms_in d.rtc) (CountsUp-alarms_in d.rtc) (pulses_from RTC_HZ t n);
      timer_count = λ k _. count k;
      timer_first = λ k _. first k;
    }
  where
    m : ℕ → Matches
    m k = matches_by k d.hpet (pulses_from HPET_HZ t n)

    absent : (k : ℕ) → 8 ≤ k → matches_of k d.hpet (pulses_from HPET_HZ t n) ≡ 0
    absent k past = matches_of-absent k (pulses_from HPET_HZ t n) d.hpet (omega (arith, past, few_timers d.hpet valid.timers))

    count : (k : ℕ) → (timer_matches (all_matches d t n) k).count ≡ matches_of k d.hpet (pulses_from HPET_HZ t n)
    count k = elim (cases_lt k 8) [
      | inl less ↦ ap (λ (x : Matches). x.count) (at-eight (λ i. matches_by i d.hpet (pulses_from HPET_HZ t n)) no_matches k less)
      | inr past ↦ ap (λ (x : Matches). x.count) (past-eight (λ i. matches_by i d.hpet (pulses_from HPET_HZ t n)) no_matches k past) ∙ sym (absent k past)
    ]

    first : (k : ℕ) → IsFirst (matches_of k d.hpet) (pulses_from HPET_HZ t n) (timer_matches (all_matches d t n) k).first
    first k = elim (cases_lt k 8) [
      | inl less ↦ subst (λ (x : Matches). IsFirst (matches_of k d.hpet) (pulses_from HPET_HZ t n) x.first)
          (sym (at-eight (λ i. matches_by i d.hpet (pulses_from HPET_HZ t n)) no_matches k less))
          (IsFirst-first_of (matches_of k d.hpet) (CountsUp-matches_of k d.hpet) (pulses_from HPET_HZ t n))
      | inr past ↦ subst (λ (x : Matches). IsFirst (matches_of k d.hpet) (pulses_from HPET_HZ t n) x.first)
          (sym (past-eight (λ i. matches_by i d.hpet (pulses_from HPET_HZ t n)) no_matches k past)) (absent k past)
    ]

-- IRQF is the tick line where alarm and update don't interrupt
pub irq-alone : (s : Span) (d : DeviceParts) → aie_of d.rtc ≡ false → uie_of d.rtc ≡ false → clock_line_up s d ≡ irq_up s d
irq-alone s d alarm update =
    sym (either-none (clock_line_up s d)) ∙ ap (either_from (clock_line_up s d)) (sym (either-none None))
    ∙ ap (λ (b : Bool). either_from (clock_line_up s d) (either_from (flag_from b (af_of d.rtc) s.from (first_in RTC_HZ (alarms_in d.rtc) s)) None)) (sym alarm)
    ∙ ap (λ (b : Bool). either_from (clock_line_up s d) (either_from
    (flag_from (aie_of d.rtc) (af_of d.rtc) s.from (first_in RTC_HZ (alarms_in d.rtc) s))
    (flag_from b (uf_of d.rtc) s.from (first_in RTC_HZ (updates_in (divider_of d.rtc)) s)))) (sym update)

-- .. and else it is what the events say
pub irq-by_events : (s : Span) (d : DeviceParts) (line alarm update : Option ℕ) {aie af uie uf : Bool} → line ≡ clock_line_up s d
    → aie ≡ aie_of d.rtc → af ≡ af_of d.rtc → uie ≡ uie_of d.rtc → uf ≡ uf_of d.rtc
    → alarm ≡ first_of (alarms_in d.rtc) (pulses_of RTC_HZ s) → update ≡ first_of (updates_in (divider_of d.rtc)) (pulses_of RTC_HZ s)
    → either_from line (either_from (flag_from aie af s.from (first_at RTC_HZ s.from alarm)) (flag_from uie uf s.from (first_at RTC_HZ s.from update)))
    ≡ irq_up s d
irq-by_events s d line alarm update a b e f g h i = rw (a, b, e, f, g, h, i) refl

module _ (d : DeviceParts) (s : Span) (c : ℕ) (sound : Sound d) (valid : IsHpet d.hpet) (first : IsFirstPoint d.slew_ns s.from c)
    (point : s.point ≡ s.from + c) (order : s.from ≤ s.to) where
  abbrev n : ℕ
  n = s.to - s.from

  know : Known d s.from n c (rises_by d s.from n) (events_by d s.from n) (all_matches d s.from n) (pit_ticks d s.from n) (clock_ticks d s.from n)
  know = record { sound = sound; point = first; brought = brought d s.from n valid; pit_is = refl; rtc_is = refl }

  end : s.to ≡ s.from + n
  end = omega (arith, order)

  -- the 8254
  pit-is : cond (is_legacy d.hpet) None (pit_up s d) ≡ cond (is_legacy d.hpet) None (up_at know 0)
  pit-is = by_legacy (is_legacy d.hpet) ∙ ap (λ (u : Option ℕ). cond (is_legacy d.hpet) None u) (up-is know s.point s.to 0 point end)
    where
      by_legacy : (b : Bool) → cond b None (pit_up s d)
          ≡ cond b None (up_of s.from s.point s.to (counted true (not b) (rises_by d s.from n).count (first_at PIT_HZ s.from (rises_by d s.from n).first))
          (line_at 0 d))
      by_legacy true = refl
      by_legacy false = refl

  -- the MC146818
  clock-is : clock_line_up s d ≡ up_at know 1
  clock-is = by_counts (counts_rtc d) ∙ up-is know s.point s.to 1 point end
    where
      by_counts : (b : Bool)
          → cond b (up_from s.from s.point s.to (first_in RTC_HZ (ticks_in (divider_of d.rtc)) s) (line_at 1 d)) (cond (line_at 1 d).up (Some s.from) None)
          ≡ up_of s.from s.point s.to (counted b b (events_by d s.from n).cycle.ticks (first_at RTC_HZ s.from (events_by d s.from n).cycle.first_tick))
          (line_at 1 d)
      by_counts true = refl
      by_counts false = refl

  irq-is : irq_up s d ≡ irq_at know
  irq-is = ap (λ (u : Option ℕ). either_from u (either_from
      (flag_from (aie_of d.rtc) (af_of d.rtc) s.from (first_in RTC_HZ (alarms_in d.rtc) s))
      (flag_from (uie_of d.rtc) (uf_of d.rtc) s.from (first_in RTC_HZ (updates_in (divider_of d.rtc)) s)))) clock-is

  front-is : front_up s d ≡ cond (is_legacy d.hpet) None (up_at know 0) ∷ cond (is_legacy d.hpet) None (irq_at know) ∷ None ∷ None ∷ None ∷ None ∷ []
  front-is =
      ap (λ (u : Option ℕ). u ∷ cond (is_legacy d.hpet) None (irq_up s d) ∷ None ∷ None ∷ None ∷ None ∷ []) pit-is
      ∙ ap (λ (u : Option ℕ). cond (is_legacy d.hpet) None (up_at know 0) ∷ cond (is_legacy d.hpet) None u ∷ None ∷ None ∷ None ∷ None ∷ []) irq-is

  -- the timers
  timer-is : (k : ℕ) → k < 8 → timer_up s d k ≡ out_at know k
  timer-is k less =
      let place : k + 2 ≡ suc (suc k) = omega arith in
      let m : ℕ = pulses_from HPET_HZ s.from n in
      ap (λ (i : ℕ). output_up s k d.hpet (bit k d.hpet.status) (matches_by k d.hpet m) (line_at i d)) place
      ∙ ap (λ (x : Matches). output_up s k d.hpet (bit k d.hpet.status) x (line_at (suc (suc k)) d))
      (sym (at-eight (λ i. matches_by i d.hpet m) no_matches k less))
      ∙ ap (λ (u : Option ℕ). output_from s.from k d.hpet (first_at HPET_HZ s.from (timer_matches (all_matches d s.from n) k).first) u)
      (up-is know s.point s.to (suc (suc k)) point end)

  lines-are : lines_up s d ≡ lines_from know (outs know)
  lines-are =
      slots-same d.hpet d.hpet (timer_up s d) (out_at know) refl (λ k. refl) d.hpet.timers (few_timers d.hpet valid.timers) timer-is (front_up s d)
      ∙ ap (slots_from d.hpet.timers d.hpet (out_at know)) front-is
      ∙ slots-are d.hpet (outs know) (out_at know) (up_at know 0) (irq_at know) (is_legacy d.hpet) refl (outs-are know) valid

  -- the levels at each nanosecond
  pub levels-ahead : (j : ℕ) → s.from + j ≤ s.to → levels (run s.from j d).state ≡ levels_at (s.from + j) (lines_up s d)
  levels-ahead j le = ran-levels know (lines_up s d) lines-are j (omega (arith, le, order))

  -- where the timers stay as they are, the next edge is one of the 8254 and the MC146818
  pub edge-settled : ((k : ℕ) → k < d.hpet.timers → is_settled k d ≡ true) → (next : Option ℕ) → IsNextRise (front_up s d) s.from s.to next
      → IsEdgeBy s.from s.to d next
  edge-settled settled next is = next-is d (lines_from know (outs know)) s.from s.to
      (λ j le. ran-levels know (lines_from know (outs know)) refl j (omega (arith, le, order))) next order (omega arith)
      (next-settled s.from s.to (is_legacy d.hpet) (up_at know 0) (irq_at know) (out_at know 0) (out_at know 1)
      (routed_from 20 8 d.hpet (outs know)) (routed_from 21 8 d.hpet (outs know)) (routed_from 22 8 d.hpet (outs know)) (routed_from 23 8 d.hpet (outs know))
      next (output 0 (first_two.0)) (output 1 (first_two.1)) (line 20 refl) (line 21 refl) (line 22 refl) (line 23 refl)
      (subst (λ (us : List (Option ℕ)). IsNextRise us s.from s.to next) front-is is))
    where
      some_timers : (h : HpetParts) → (h.timers ≡ 3) ⊎ (h.timers ≡ 8) → (0 < h.timers) × (1 < h.timers)
      some_timers h (inl e) = (omega arith, omega arith)
      some_timers h (inr e) = (omega arith, omega arith)

      first_two : (0 < d.hpet.timers) × (1 < d.hpet.timers)
      first_two = some_timers d.hpet valid.timers

      output : (k : ℕ) → k < d.hpet.timers → IsSettled s.from (out_at know k)
      output k less = subst (IsSettled s.from) (timer-is k (omega (arith, less, few_timers d.hpet valid.timers))) (settled-up s d k (settled k less))

      line : (n : ℕ) → eqb 0 n ≡ false → IsSettled s.from (routed_from n 8 d.hpet (outs know))
      line n other = subst (IsSettled s.from)
          (all-timers d.hpet (outs know) (out_at know) (up_at know 0) (irq_at know) (is_legacy d.hpet) refl (outs-are know) n other valid)
          (routed-settled s.from n d.hpet.timers d.hpet (outs know)
          (λ k less. subst (IsSettled s.from) (sym (outs-are know k (omega (arith, less, few_timers d.hpet valid.timers)))) (output k less)))
