-- The devices and their levels at each nanosecond of a stretch, from the numbers that its pulses brought.
use Rattle.std.proofs.Common.{◌≡◌, ℕ, zero, suc, ◌+◌, ◌<◌, ◌≤◌, Bool, true, false, cond, ltb, leb, eqb, ◌&&◌, ◌||◌, not, List, [], ◌∷◌, length}
use Rattle.std.proofs.Common.{get_or, map, Option, Some, None, refl, ap, sym, subst, ◌∙◌, inl, inr, arith}
use Rattle.pit_readback.specs.declared.TheConstants.{PIT_HZ}
use Rattle.rtc_registers.specs.declared.TheConstants.{RTC_HZ}
use Rattle.hpet_registers.specs.declared.hpet.TheConstants.{HPET_HZ}
use Rattle.std.proofs.Math.Bool.{and-false, and-true, or-false, or-true}
use Rattle.std.proofs.lemmas.Bool.{lt-leb, le-leb, cases_lt, true≢false}
use Rattle.clk_units.specs.Events.{CountsUp, IsFirst, first_at}
use Rattle.clk_units.specs.Pulses.{pulses_from}
use Rattle.clk_units.proofs.Events.{CountsUp-few, counts-at, first_tick, first_tick-none}
use Rattle.irq_edges.specs.Rises.{is_up_at, levels_at}
use Rattle.pit_counter.specs.declared.rises.Rises.{Rises}
use Rattle.pit_counter.specs.Table.{rises_in}
use Rattle.pit_counter.proofs.Times.{CountsUp-rises_in}
use Rattle.pit_readback.specs.declared.parts.PitParts.{PitParts}
use Rattle.pit_readback.specs.Pit.{counter_of, pit_pulsed_times}
use Rattle.rtc_cycle.specs.Divider.{ticks_in, updates_in}
use Rattle.rtc_cycle.proofs.Pulse.{CountsUp-ticks_in, CountsUp-updates_in}
use Rattle.rtc_registers.specs.declared.parts.RtcParts.{RtcParts}
use Rattle.rtc_registers.specs.declared.events.RtcEvents.{RtcEvents}
use Rattle.rtc_registers.specs.Registers.{divider_of, pie_of, aie_of, uie_of, pf_of, af_of, uf_of, irqf_of, register_b}
use Rattle.clk_units.specs.Bits.{bit}
use Rattle.rtc_registers.specs.Pulses.{rtc_pulsed_times, alarms_in}
use Rattle.rtc_registers.proofs.Times.{register_b-rtc_pulsed_times, pf_of-rtc_pulsed_times, af_of-rtc_pulsed_times, uf_of-rtc_pulsed_times}
use Rattle.rtc_registers.proofs.Times.{IsRtc-rtc_pulsed_times, CountsUp-alarms_in}
use Rattle.rtc_registers.proofs.Flags.{af_of-flagged, uf_of-flagged}
use Rattle.hpet_comparator.specs.declared.stretch.Matches.{Matches}
use Rattle.hpet_comparator.specs.Parts.{is_level, is_enabled, route_of}
use Rattle.hpet_registers.specs.declared.parts.HpetParts.{HpetParts}
use Rattle.hpet_registers.specs.Parts.{timer_at, is_legacy}
use Rattle.hpet_registers.specs.Outputs.{has_ticks, is_message}
use Rattle.hpet_registers.specs.Stretch.{hpet_pulsed_times, matches_of, timer_matches}
use Rattle.hpet_registers.proofs.Product.{timer_config-hpet_pulsed_times, status_bit-hpet_pulsed_times, is_legacy-hpet_pulsed_times}
use Rattle.hpet_registers.proofs.Product.{timers-hpet_pulsed_times, CountsUp-matches_of}
use Rattle.hpet_registers.proofs.After.{is_message-hpet_pulsed_times}
use Rattle.tick_policy.specs.declared.parts.TickParts.{TickParts}
use Rattle.tick_policy.specs.Stretch.{line_after, line_end, up_from, IsFirstPoint, IsFirstTick}
use Rattle.tick_policy.proofs.Kept.{due-line_end}
use Rattle.tick_policy.proofs.Stretches.{ended, up-after, event-up}
use Rattle.board_devices.specs.declared.parts.DeviceParts.{DeviceParts}
use Rattle.board_devices.specs.declared.stretch.Ticks.{Ticks}
use Rattle.board_devices.specs.Places.{each, line_at, no_line}
use Rattle.board_devices.specs.Nanosecond.{counts_rtc, sees_point}
use Rattle.board_devices.specs.Lines.{output_of, drives, routed, levels}
use Rattle.board_devices.specs.Run.{run}
use Rattle.board_devices.specs.private.Stretch.{source, line_run, flagged_where, parted, counted, ticks_at, end_of, up_of}
use Rattle.board_devices.specs.private.Stretch.{eight, either_from, flag_from, output_from, routed_from}
use Rattle.board_devices.specs.Parts.{IsDevices}
use Rattle.board_devices.proofs.Keeps.{IsDevices-each, KeepsLines-line_run}
use Rattle.board_devices.proofs.Places.{each-at, length-each, same_places, same_six, at-eight}
use Rattle.board_devices.proofs.Product.{Sound, run-parted, same_parts, counts-by, register_b-flagged_where, flag-is-line}

-- what is known of the ticks at a place
pub record AreTicks (d : DeviceParts) (t n k : ℕ) (s : Ticks) : Type 0 where
  pub seen : s.seen ≡ sees_point d k
  pub counts : CountsUp (source d t k)
  pub number : source d t k n ≡ s.count
  pub first : IsFirstTick (source d t k) t n s.first

-- a source that is counted where b holds
pub counts-where : (b : Bool) (count : ℕ → ℕ) (hz t : ℕ) → hz ≤ 1000000000 → CountsUp count → CountsUp (λ j. cond b (count (pulses_from hz t j)) 0)
counts-where true count hz t slow up = counts-at count hz t slow up
counts-where false count hz t slow up = record { none = refl; keeps = λ n. omega arith; few = λ n. omega arith }

number-where : (b : Bool) (count : ℕ → ℕ) (hz t n m : ℕ) → (b ≡ true → m ≡ count (pulses_from hz t n)) → cond b (count (pulses_from hz t n)) 0 ≡ cond b m 0
number-where true count hz t n m e = sym (e refl)
number-where false count hz t n m e = refl

first-of : (count : ℕ → ℕ) (hz t n : ℕ) (first : Option ℕ) → 0 < hz → CountsUp count → IsFirst count (pulses_from hz t n) first
    → IsFirstTick (λ j. count (pulses_from hz t j)) t n (first_at hz t first)
first-of count hz t n None runs up h = first_tick-none count hz t n up h
first-of count hz t n (Some k) runs up h = λ j _. first_tick count hz t n k runs up h j

first-where : (b : Bool) (count : ℕ → ℕ) (hz t n : ℕ) (first : Option ℕ) → 0 < hz → CountsUp count → (b ≡ true → IsFirst count (pulses_from hz t n) first)
    → IsFirstTick (λ j. cond b (count (pulses_from hz t j)) 0) t n (cond b (first_at hz t first) None)
first-where true count hz t n first runs up h = first-of count hz t n first runs up (h refl)
first-where false count hz t n first runs up h = λ j _. refl

-- a flag that is shown where b holds
flag-up : (b flag event : Bool) (t j : ℕ) (first : Option ℕ) → (b ≡ true → event ≡ is_up_at (t + j) first) → ((flag || event) && b)
    ≡ is_up_at (t + j) (flag_from b flag t first)
flag-up true true event t j first h = sym (le-leb t (t + j) (omega arith))
flag-up true false event t j first h = and-true event ∙ h refl
flag-up false flag event t j first h = and-false (flag || event)

-- the earlier of two times
pub up-either_from : (t : ℕ) (a b : Option ℕ) → is_up_at t (either_from a b) ≡ (is_up_at t a || is_up_at t b)
unfolding either_from
up-either_from t None b = refl
up-either_from t (Some a) None = sym (or-false (leb a t))
up-either_from t (Some a) (Some b) = elim (cases_lt b a) [
  | inl g ↦ rw (lt-leb a b g) (late g)
  | inr g ↦ rw (le-leb a b g) (early g)
]
  where
    late : b < a → leb b t ≡ (leb a t || leb b t)
    late g = elim (cases_lt t b) [ inl h ↦ rw (lt-leb b t h, lt-leb a t (omega arith)) refl | inr h ↦ rw (le-leb b t h) (sym (or-true (leb a t))) ]

    early : a ≤ b → leb a t ≡ (leb a t || leb b t)
    early g = elim (cases_lt t a) [ inl h ↦ rw (lt-leb a t h, lt-leb b t (omega arith)) refl | inr h ↦ rw (le-leb a t h) refl ]

-- the line at the end, and from when on it is up
pub run-end : (d : DeviceParts) (t n k c : ℕ) (s : Ticks) (l : TickParts) → AreTicks d t n k s → IsFirstPoint d.slew_ns t c → end_of (t + c) (t + n) s l
    ≡ line_run d t n k l
run-end d t n k c s l known point =
    ap (λ (b : Bool). cond b (line_end (t + c) (t + n) s.first s.count l) l) known.seen
    ∙ ap (λ (x : TickParts). cond (sees_point d k) x l)
    (ap (λ (m : ℕ). line_end (t + c) (t + n) s.first m l) (sym known.number)
    ∙ sym (ended (source d t k) d.slew_ns t c n s.first l known.counts point known.first))

pub run-up : (d : DeviceParts) (t n k c : ℕ) (s : Ticks) (l : TickParts) → AreTicks d t n k s → IsFirstPoint d.slew_ns t c → (j : ℕ) → j ≤ n
    → (line_run d t j k l).up ≡ is_up_at (t + j) (up_of t (t + c) (t + n) s l)
run-up d t n k c s l known point j le =
    by_test (sees_point d k) (line_after (source d t k) d.slew_ns t j l) _
    (up-after (source d t k) d.slew_ns t c n j s.first l known.counts point known.first le)
    ∙ ap (λ (b : Bool). is_up_at (t + j) (cond b (up_from t (t + c) (t + n) s.first l) (cond l.up (Some t) None))) (sym known.seen)
  where
    constant : (b : Bool) → b ≡ is_up_at (t + j) (cond b (Some t) None)
    constant true = sym (le-leb t (t + j) (omega arith))
    constant false = refl

    by_test : (b : Bool) (x : TickParts) (u : Option ℕ) → x.up ≡ is_up_at (t + j) u → (cond b x l).up ≡ is_up_at (t + j) (cond b u (cond l.up (Some t) None))
    by_test true x u e = e
    by_test false x u e = constant l.up

-- what the pulses of a stretch brought
pub record Brought (d : DeviceParts) (t n : ℕ) (rises : Rises) (events : RtcEvents) (ms : List Matches) : Type 0 where
  pub pit_count : rises.count ≡ rises_in (counter_of d.pit 0) (pulses_from PIT_HZ t n)
  pub pit_first : IsFirst (rises_in (counter_of d.pit 0)) (pulses_from PIT_HZ t n) rises.first
  -- of the events of the MC146818 those that are heard
  pub rtc_count : counts_rtc d ≡ true → events.cycle.ticks ≡ ticks_in (divider_of d.rtc) (pulses_from RTC_HZ t n)
  pub rtc_first : counts_rtc d ≡ true → IsFirst (ticks_in (divider_of d.rtc)) (pulses_from RTC_HZ t n) events.cycle.first_tick
  pub update_first : uie_of d.rtc ≡ true → IsFirst (updates_in (divider_of d.rtc)) (pulses_from RTC_HZ t n) events.cycle.first_update
  pub alarm_first : aie_of d.rtc ≡ true → IsFirst (alarms_in d.rtc) (pulses_from RTC_HZ t n) events.first_alarm
  -- and of the matches those of timers that are enabled
  pub timer_count : (k : ℕ) → is_enabled (timer_at k d.hpet) ≡ true → (timer_matches ms k).count ≡ matches_of k d.hpet (pulses_from HPET_HZ t n)
  pub timer_first : (k : ℕ) → is_enabled (timer_at k d.hpet) ≡ true → IsFirst (matches_of k d.hpet) (pulses_from HPET_HZ t n) (timer_matches ms k).first

due-end : (P to : ℕ) (s : Ticks) (l : TickParts) → (end_of P to s l).counts.due ≤ l.counts.due + s.count
due-end P to s l = by_test s.seen
  where
    by_test : (b : Bool) → (cond b (line_end P to s.first s.count l) l).counts.due ≤ l.counts.due + s.count
    by_test true = omega (arith, due-line_end P to s.first s.count l)
    by_test false = omega arith

-- a timer that has ticks is enabled
pub enabled_of : (k : ℕ) (h : HpetParts) → has_ticks k h ≡ true → is_enabled (timer_at k h) ≡ true
enabled_of k h on = by_test (is_enabled (timer_at k h)) (not (is_level (timer_at k h))) (not (is_message k h)) on
  where
    by_test : (a b c : Bool) → ((a && b) && c) ≡ true → a ≡ true
    by_test true b c e = refl
    by_test false b c e = absurd (true≢false (sym e))

-- all that is known of a stretch
pub record Known (d : DeviceParts) (t n c : ℕ) (rises : Rises) (events : RtcEvents) (ms : List Matches) (pit rtc : Ticks) : Type 0 where
  pub sound : Sound d
  pub point : IsFirstPoint d.slew_ns t c
  pub brought : Brought d t n rises events ms
  pub pit_is : pit ≡ counted true (not (is_legacy d.hpet)) rises.count (first_at PIT_HZ t rises.first)
  pub rtc_is : rtc ≡ counted (counts_rtc d) (counts_rtc d) events.cycle.ticks (first_at RTC_HZ t events.cycle.first_tick)

module _ {d : DeviceParts} {t n c : ℕ} {rises : Rises} {events : RtcEvents} {ms : List Matches} {pit rtc : Ticks}
    (know : Known d t n c rises events ms pit rtc) where
  pub known : (k : ℕ) → k < 10 → AreTicks d t n k (ticks_at t d.hpet ms pit rtc k)
  known zero h = subst (AreTicks d t n 0) (sym know.pit_is) (record {
    seen = refl;
    counts = counts-where (not (is_legacy d.hpet)) (rises_in (counter_of d.pit 0)) PIT_HZ t (omega arith) (CountsUp-rises_in (counter_of d.pit 0));
    number = number-where (not (is_legacy d.hpet)) (rises_in (counter_of d.pit 0)) PIT_HZ t n rises.count (λ _. know.brought.pit_count);
    first = first-where (not (is_legacy d.hpet)) (rises_in (counter_of d.pit 0)) PIT_HZ t n rises.first (omega arith) (CountsUp-rises_in (counter_of d.pit 0))
        (λ _. know.brought.pit_first);
  })
  known (suc zero) h = subst (AreTicks d t n 1) (sym know.rtc_is) (record {
    seen = refl;
    counts = counts-where (counts_rtc d) (ticks_in (divider_of d.rtc)) RTC_HZ t (omega arith) (CountsUp-ticks_in (divider_of d.rtc));
    number = number-where (counts_rtc d) (ticks_in (divider_of d.rtc)) RTC_HZ t n events.cycle.ticks know.brought.rtc_count;
    first = first-where (counts_rtc d) (ticks_in (divider_of d.rtc)) RTC_HZ t n events.cycle.first_tick (omega arith) (CountsUp-ticks_in (divider_of d.rtc))
        know.brought.rtc_first;
  })
  known (suc (suc k)) h = record {
    seen = refl;
    counts = counts-where (has_ticks k d.hpet) (matches_of k d.hpet) HPET_HZ t (omega arith) (CountsUp-matches_of k d.hpet);
    number = number-where (has_ticks k d.hpet) (matches_of k d.hpet) HPET_HZ t n (timer_matches ms k).count
        (λ on. know.brought.timer_count k (enabled_of k d.hpet on));
    first = first-where (has_ticks k d.hpet) (matches_of k d.hpet) HPET_HZ t n (timer_matches ms k).first (omega arith) (CountsUp-matches_of k d.hpet)
        (λ on. know.brought.timer_first k (enabled_of k d.hpet on));
  }

  -- the lines at the end
  pub lines-end : (ls : List TickParts) → length ls ≡ 10
      → ((k : ℕ) → k < 10 → get_or ls k no_line ≡ end_of (t + c) (t + n) (ticks_at t d.hpet ms pit rtc k) (line_at k d)) → ls ≡ each (line_run d t n) 0 d.ticks
  lines-end ls ten ends = same_places ls (each (line_run d t n) 0 d.ticks) no_line
      (ten ∙ sym (length-each (line_run d t n) 0 d.ticks ∙ know.sound.joined.places)) (λ k less.
      ends k (omega (arith, ten)) ∙ run-end d t n k c (ticks_at t d.hpet ms pit rtc k) (line_at k d) (known k (omega (arith, ten))) know.point
      ∙ sym (each-at (line_run d t n) 0 k d.ticks no_line (omega (arith, ten, know.sound.joined.places))
      ∙ ap (λ (i : ℕ). line_run d t n i (line_at k d)) (omega arith)))

  -- the line at place k, after j nanoseconds
  abbrev pub up_at : ℕ → Option ℕ
  up_at k = up_of t (t + c) (t + n) (ticks_at t d.hpet ms pit rtc k) (line_at k d)

  pub line-up : (j k : ℕ) → j ≤ n → k < 10 → (line_at k (parted t j d)).up ≡ is_up_at (t + j) (up_at k)
  unfolding parted
  line-up j k le less =
      ap (λ (l : TickParts). l.up) (each-at (line_run d t j) 0 k d.ticks no_line (omega (arith, know.sound.joined.places))
      ∙ ap (λ (i : ℕ). line_run d t j i (line_at k d)) (omega arith))
      ∙ run-up d t n k c (ticks_at t d.hpet ms pit rtc k) (line_at k d) (known k less) know.point j le

  by_level : (l flag event en up : Bool) (j : ℕ) (first line : Option ℕ) → (l ≡ true → en ≡ true → event ≡ is_up_at (t + j) first) → up ≡ is_up_at (t + j) line
      → cond l ((flag || (event && l)) && en) up ≡ is_up_at (t + j) (cond l (flag_from en flag t first) line)
  by_level true flag event en up j first line h u = ap (λ (x : Bool). (flag || x) && en) (and-true event) ∙ flag-up en flag event t j first (h refl)
  by_level false flag event en up j first line h u = u

  -- the output of timer k
  abbrev pub out_at : ℕ → Option ℕ
  out_at k = output_from t k d.hpet (first_at HPET_HZ t (timer_matches ms k).first) (up_at (suc (suc k)))

  config-now : (j k : ℕ) → (timer_at k (parted t j d).hpet).config ≡ (timer_at k d.hpet).config
  unfolding parted
  config-now j k = timer_config-hpet_pulsed_times k (pulses_from HPET_HZ t j) d.hpet

  legacy-at : (j : ℕ) → is_legacy (parted t j d).hpet ≡ is_legacy d.hpet
  unfolding parted
  legacy-at j = is_legacy-hpet_pulsed_times (pulses_from HPET_HZ t j) d.hpet

  status-now : (j k : ℕ) → k < 8 → bit k (parted t j d).hpet.status
      ≡ (bit k d.hpet.status || (ltb 0 (matches_of k d.hpet (pulses_from HPET_HZ t j)) && is_level (timer_at k d.hpet)))
  unfolding parted
  status-now j k small = status_bit-hpet_pulsed_times k (pulses_from HPET_HZ t j) d.hpet small

  message-now : (j k : ℕ) → is_message k (parted t j d).hpet ≡ is_message k d.hpet
  unfolding parted
  message-now j k = is_message-hpet_pulsed_times k (pulses_from HPET_HZ t j) d.hpet

  -- nothing is shown of a line whose timer sends messages
  hidden-up : (m up : Bool) (s : ℕ) (u : Option ℕ) → up ≡ is_up_at s u → (not m && up) ≡ is_up_at s (cond m None u)
  hidden-up true up s u e = refl
  hidden-up false up s u e = e

  pub output-up : (j k : ℕ) → j ≤ n → k < 8 → output_of k (parted t j d) ≡ is_up_at (t + j) (out_at k)
  output-up j k le small =
      ap (λ (g : ℕ). cond (bit 1 g) (bit k (parted t j d).hpet.status && bit 2 g)
      (not (is_message k (parted t j d).hpet) && (line_at (suc (suc k)) (parted t j d)).up)) (config-now j k)
      ∙ ap (λ (b : Bool). cond (is_level (timer_at k d.hpet)) (b && is_enabled (timer_at k d.hpet))
      (not (is_message k (parted t j d).hpet) && (line_at (suc (suc k)) (parted t j d)).up)) (status-now j k small)
      ∙ ap (λ (m : Bool). cond (is_level (timer_at k d.hpet))
      ((bit k d.hpet.status || (ltb 0 (matches_of k d.hpet (pulses_from HPET_HZ t j)) && is_level (timer_at k d.hpet))) && is_enabled (timer_at k d.hpet))
      (not m && (line_at (suc (suc k)) (parted t j d)).up)) (message-now j k)
      ∙ by_level (is_level (timer_at k d.hpet)) (bit k d.hpet.status) (ltb 0 (matches_of k d.hpet (pulses_from HPET_HZ t j))) (is_enabled (timer_at k d.hpet))
      (not (is_message k d.hpet) && (line_at (suc (suc k)) (parted t j d)).up) j (first_at HPET_HZ t (timer_matches ms k).first)
      (cond (is_message k d.hpet) None (up_at (suc (suc k))))
      (λ _ on. event-up (matches_of k d.hpet) HPET_HZ t n (timer_matches ms k).first (omega arith) (CountsUp-matches_of k d.hpet)
      (know.brought.timer_first k on) j le)
      (hidden-up (is_message k d.hpet) (line_at (suc (suc k)) (parted t j d)).up (t + j) (up_at (suc (suc k))) (line-up j (suc (suc k)) le (omega arith)))

  -- the timers routed to a line
  pub routed-up : (us : List (Option ℕ)) → ((k : ℕ) → k < 8 → get_or us k None ≡ out_at k) → (line m j : ℕ) → j ≤ n → m ≤ 8 → routed line m (parted t j d)
      ≡ is_up_at (t + j) (routed_from line m d.hpet us)
  routed-up us outs line zero j le few = refl
  routed-up us outs line (suc k) j le few =
      ap (λ (b : Bool). b || (drives line k (parted t j d).hpet && output_of k (parted t j d))) (routed-up us outs line k j le (omega arith))
      ∙ ap (λ (b : Bool). is_up_at (t + j) (routed_from line k d.hpet us) || b) (
      ap (λ (b : Bool). b && output_of k (parted t j d)) drives-now
      ∙ ap (λ (b : Bool). drives line k d.hpet && b) (output-up j k le (omega arith) ∙ ap (is_up_at (t + j)) (sym (outs k (omega arith))))
      ∙ driven (drives line k d.hpet) (get_or us k None))
      ∙ sym (up-either_from (t + j) (routed_from line k d.hpet us) (cond (drives line k d.hpet) (get_or us k None) None))
    where
      drives-now : drives line k (parted t j d).hpet ≡ drives line k d.hpet
      drives-now =
          ap (λ (g : ℕ). eqb (route_of g) line && not (is_legacy (parted t j d).hpet && ltb k 2)) (config-now j k)
          ∙ ap (λ (l : Bool). eqb (route_of (timer_at k d.hpet).config) line && not (l && ltb k 2)) (legacy-at j)

      driven : (b : Bool) (u : Option ℕ) → (b && is_up_at (t + j) u) ≡ is_up_at (t + j) (cond b u None)
      driven true u = refl
      driven false u = refl

  -- IRQF
  abbrev pub irq_at : Option ℕ
  irq_at = either_from (up_at 1) (either_from (flag_from (aie_of d.rtc) (af_of d.rtc) t (first_at RTC_HZ t events.first_alarm))
      (flag_from (uie_of d.rtc) (uf_of d.rtc) t (first_at RTC_HZ t events.cycle.first_update)))

  pub flag_at : ℕ → Bool
  flag_at j = counts_rtc d && (line_run d t j 1 (line_at 1 d)).up

  pub rtc_alone : ℕ → RtcParts
  rtc_alone j = rtc_pulsed_times (pulses_from RTC_HZ t j) d.rtc

  af-now : (j : ℕ) (b : Bool) → af_of (flagged_where b (rtc_alone j)) ≡ (af_of d.rtc || ltb 0 (alarms_in d.rtc (pulses_from RTC_HZ t j)))
  unfolding rtc_alone flagged_where
  af-now j true = af_of-flagged (rtc_pulsed_times (pulses_from RTC_HZ t j) d.rtc) (IsRtc-rtc_pulsed_times (pulses_from RTC_HZ t j) d.rtc know.sound.rtc)
      ∙ af_of-rtc_pulsed_times (pulses_from RTC_HZ t j) d.rtc know.sound.rtc
  af-now j false = af_of-rtc_pulsed_times (pulses_from RTC_HZ t j) d.rtc know.sound.rtc

  uf-now : (j : ℕ) (b : Bool) → uf_of (flagged_where b (rtc_alone j)) ≡ (uf_of d.rtc || ltb 0 (updates_in (divider_of d.rtc) (pulses_from RTC_HZ t j)))
  unfolding rtc_alone flagged_where
  uf-now j true = uf_of-flagged (rtc_pulsed_times (pulses_from RTC_HZ t j) d.rtc) (IsRtc-rtc_pulsed_times (pulses_from RTC_HZ t j) d.rtc know.sound.rtc)
      ∙ uf_of-rtc_pulsed_times (pulses_from RTC_HZ t j) d.rtc know.sound.rtc
  uf-now j false = uf_of-rtc_pulsed_times (pulses_from RTC_HZ t j) d.rtc know.sound.rtc

  b-now : (j : ℕ) (b : Bool) → register_b (flagged_where b (rtc_alone j)) ≡ register_b d.rtc
  unfolding rtc_alone
  b-now j b = register_b-flagged_where b (rtc_pulsed_times (pulses_from RTC_HZ t j) d.rtc)
      (IsRtc-rtc_pulsed_times (pulses_from RTC_HZ t j) d.rtc know.sound.rtc) ∙ register_b-rtc_pulsed_times (pulses_from RTC_HZ t j) d.rtc know.sound.rtc

  -- PF is the line of the MC146818
  pub flag-now : (j : ℕ) → (line_at 1 (parted t j d)).up ≡ (counts_rtc d && pf_of (flagged_where (flag_at j) (rtc_alone j)))
  unfolding parted rtc_alone flag_at
  flag-now j =
      ap (λ (l : TickParts). l.up) (each-at (line_run d t j) 0 1 d.ticks no_line (omega (arith, know.sound.joined.places)))
      ∙ flag-is-line (counts_rtc d) t j d.slew_ns (λ i. ticks_in (divider_of d.rtc) (pulses_from RTC_HZ t i)) (line_at 1 d) d.rtc
      (rtc_pulsed_times (pulses_from RTC_HZ t j) d.rtc) (IsRtc-rtc_pulsed_times (pulses_from RTC_HZ t j) d.rtc know.sound.rtc)
      (counts-at (ticks_in (divider_of d.rtc)) RTC_HZ t (omega arith) (CountsUp-ticks_in (divider_of d.rtc))).none know.sound.joined.flag
      (pf_of-rtc_pulsed_times (pulses_from RTC_HZ t j) d.rtc know.sound.rtc)

  swap : (pie legacy pf : Bool) → legacy ≡ false → (pf && pie) ≡ ((pie && not legacy) && pf)
  swap true true pf e = absurd (true≢false e)
  swap false true pf e = absurd (true≢false e)
  swap true false true e = refl
  swap true false false e = refl
  swap false false true e = refl
  swap false false false e = refl

  pub irqf-up : (j : ℕ) → j ≤ n → is_legacy d.hpet ≡ false → irqf_of (flagged_where (flag_at j) (rtc_alone j)) ≡ is_up_at (t + j) irq_at
  irqf-up j le plain =
      ap (λ (b : ℕ). (pf_of r && bit 6 b) || ((af_of r && bit 5 b) || (uf_of r && bit 4 b))) (b-now j (flag_at j))
      ∙ ap (λ (x : Bool). x || ((af_of r && aie_of d.rtc) || (uf_of r && uie_of d.rtc)))
      (swap (pie_of d.rtc) (is_legacy d.hpet) (pf_of r) plain ∙ sym (flag-now j) ∙ line-up j 1 le (omega arith))
      ∙ ap (λ (x : Bool). is_up_at (t + j) (up_at 1) || x) (
      ap (λ (x : Bool). (x && aie_of d.rtc) || (uf_of r && uie_of d.rtc)) (af-now j (flag_at j))
      ∙ ap (λ (x : Bool). x || (uf_of r && uie_of d.rtc))
      (flag-up (aie_of d.rtc) (af_of d.rtc) (ltb 0 (alarms_in d.rtc (pulses_from RTC_HZ t j))) t j (first_at RTC_HZ t events.first_alarm)
      (λ on. event-up (alarms_in d.rtc) RTC_HZ t n events.first_alarm (omega arith) (CountsUp-alarms_in d.rtc) (know.brought.alarm_first on) j le))
      ∙ ap (λ (x : Bool). alarm_up || (x && uie_of d.rtc)) (uf-now j (flag_at j))
      ∙ ap (λ (x : Bool). alarm_up || x)
      (flag-up (uie_of d.rtc) (uf_of d.rtc) (ltb 0 (updates_in (divider_of d.rtc) (pulses_from RTC_HZ t j))) t j
      (first_at RTC_HZ t events.cycle.first_update)
      (λ on. event-up (updates_in (divider_of d.rtc)) RTC_HZ t n events.cycle.first_update (omega arith)
      (CountsUp-updates_in (divider_of d.rtc)) (know.brought.update_first on) j le))
      ∙ sym (up-either_from (t + j) _ _))
      ∙ sym (up-either_from (t + j) (up_at 1) _)
    where
      r : RtcParts
      r = flagged_where (flag_at j) (rtc_alone j)

      alarm_up : Bool
      alarm_up = is_up_at (t + j) (flag_from (aie_of d.rtc) (af_of d.rtc) t (first_at RTC_HZ t events.first_alarm))

  -- from when on each line is up
  abbrev pub lines_from : List (Option ℕ) → List (Option ℕ)
  lines_from us =
      cond (is_legacy d.hpet) (out_at 0) (up_at 0) ∷ cond (is_legacy d.hpet) (out_at 1) irq_at
      ∷ routed_from 20 8 d.hpet us ∷ routed_from 21 8 d.hpet us ∷ routed_from 22 8 d.hpet us ∷ routed_from 23 8 d.hpet us ∷ []

  irqf-at : (j : ℕ) → irqf_of (parted t j d).rtc ≡ irqf_of (flagged_where (flag_at j) (rtc_alone j))
  unfolding parted flag_at rtc_alone
  irqf-at j = refl

  either_way : (l : Bool) (x y : Bool) (a b : Option ℕ) (j : ℕ) → (l ≡ true → x ≡ is_up_at (t + j) a) → (l ≡ false → y ≡ is_up_at (t + j) b) → cond l x y
      ≡ is_up_at (t + j) (cond l a b)
  either_way true x y a b j h k = h refl
  either_way false x y a b j h k = k refl

  pub levels-parted : (us : List (Option ℕ)) → ((k : ℕ) → k < 8 → get_or us k None ≡ out_at k) → (j : ℕ) → j ≤ n → levels (parted t j d)
      ≡ levels_at (t + j) (lines_from us)
  unfolding levels
  levels-parted us outs j le = same_six
      (ap (λ (l : Bool). cond l (output_of 0 (parted t j d)) (line_at 0 (parted t j d)).up) (legacy-at j)
      ∙ either_way (is_legacy d.hpet) (output_of 0 (parted t j d)) (line_at 0 (parted t j d)).up (out_at 0) (up_at 0) j (λ _. output-up j 0 le (omega arith))
      (λ _. line-up j 0 le (omega arith)))
      (ap (λ (l : Bool). cond l (output_of 1 (parted t j d)) (irqf_of (parted t j d).rtc)) (legacy-at j)
      ∙ either_way (is_legacy d.hpet) (output_of 1 (parted t j d)) (irqf_of (parted t j d).rtc) (out_at 1) irq_at j (λ _. output-up j 1 le (omega arith))
      (λ e. irqf-at j ∙ irqf-up j le e))
      (routed-up us outs 20 8 j le (omega arith))
      (routed-up us outs 21 8 j le (omega arith))
      (routed-up us outs 22 8 j le (omega arith))
      (routed-up us outs 23 8 j le (omega arith))

  -- .. and so at each nanosecond of the run
  pub levels-run : (us : List (Option ℕ)) → ((k : ℕ) → k < 8 → get_or us k None ≡ out_at k) → (j : ℕ) → j ≤ n → levels (run t j d).state
      ≡ levels_at (t + j) (lines_from us)
  levels-run us outs j le = ap levels (run-parted t j d know.sound) ∙ levels-parted us outs j le

  pub ticks-few : (k : ℕ) → k < 10 → (ticks_at t d.hpet ms pit rtc k).count ≤ n
  ticks-few k h = omega (arith, CountsUp-few (source d t k) (known k h).counts n, (known k h).number)

  counts-now : (j : ℕ) → counts_rtc (parted t j d) ≡ counts_rtc d
  unfolding parted flag_at rtc_alone
  counts-now j = counts-by (flagged_where (flag_at j) (rtc_alone j)) d.rtc (hpet_pulsed_times (pulses_from HPET_HZ t j) d.hpet) d.hpet (b-now j (flag_at j))
      (is_legacy-hpet_pulsed_times (pulses_from HPET_HZ t j) d.hpet)

  -- the conditions hold at each nanosecond
  pub IsDevices-parted : (j : ℕ) → IsDevices (parted t j d)
  unfolding parted flag_at rtc_alone
  IsDevices-parted j =
      IsDevices-each d (pit_pulsed_times (pulses_from PIT_HZ t j) d.pit) (flagged_where (flag_at j) (rtc_alone j))
      (hpet_pulsed_times (pulses_from HPET_HZ t j) d.hpet) (each (line_run d t j) 0 d.ticks) (line_run d t j)
      know.sound.joined refl (KeepsLines-line_run d t j) (timers-hpet_pulsed_times (pulses_from HPET_HZ t j) d.hpet)
      (flag-now j ∙ ap (λ (b : Bool). b && pf_of (flagged_where (flag_at j) (rtc_alone j))) (sym (counts-now j)))

  -- the state at the end, as the code leaves it
  pub ran-state : (P to : ℕ) (ls : List TickParts) (p : PitParts) (r : RtcParts) (h : HpetParts) → P ≡ t + c → to ≡ t + n → length ls ≡ 10
      → ((k : ℕ) → k < 10 → get_or ls k no_line ≡ end_of P to (ticks_at t d.hpet ms pit rtc k) (line_at k d))
      → p ≡ pit_pulsed_times (pulses_from PIT_HZ t n) d.pit
      → r ≡ flagged_where (counts_rtc d && (get_or ls 1 no_line).up) (rtc_pulsed_times (pulses_from RTC_HZ t n) d.rtc)
      → h ≡ hpet_pulsed_times (pulses_from HPET_HZ t n) d.hpet
      → record d { pit = p; rtc = r; hpet = h; ticks = ls } ≡ (run t n d).state
  unfolding parted
  ran-state P to ls p r h at_point at_end ten ends p_is r_is h_is =
      let end : (k : ℕ) → k < 10 → get_or ls k no_line ≡ end_of (t + c) (t + n) (ticks_at t d.hpet ms pit rtc k) (line_at k d) = λ k less. ends k less
      ∙ ap (λ (x : ℕ). end_of x to (ticks_at t d.hpet ms pit rtc k) (line_at k d)) at_point
      ∙ ap (λ (x : ℕ). end_of (t + c) x (ticks_at t d.hpet ms pit rtc k) (line_at k d)) at_end in
      let all : ls ≡ each (line_run d t n) 0 d.ticks = lines-end ls ten end in
      let one : get_or ls 1 no_line ≡ line_run d t n 1 (line_at 1 d) = ap (λ (xs : List TickParts). get_or xs 1 no_line) all
      ∙ each-at (line_run d t n) 0 1 d.ticks no_line (omega (arith, know.sound.joined.places)) in
      same_parts d p_is (r_is ∙ ap (λ (l : TickParts). flagged_where (counts_rtc d && l.up) (rtc_pulsed_times (pulses_from RTC_HZ t n) d.rtc)) one) h_is all
      ∙ sym (run-parted t n d know.sound)

  -- from when on a line is up, as the code has it
  pub up-is : (P to k : ℕ) → P ≡ t + c → to ≡ t + n → up_of t P to (ticks_at t d.hpet ms pit rtc k) (line_at k d) ≡ up_at k
  up-is P to k at_point at_end =
      ap (λ (x : ℕ). up_of t x to (ticks_at t d.hpet ms pit rtc k) (line_at k d)) at_point
      ∙ ap (λ (x : ℕ). up_of t (t + c) x (ticks_at t d.hpet ms pit rtc k) (line_at k d)) at_end

  -- from when on the outputs are up
  pub outs : List (Option ℕ)
  outs = map out_at eight

  pub outs-are : (k : ℕ) → k < 8 → get_or outs k None ≡ out_at k
  unfolding outs
  outs-are k less = at-eight out_at None k less

  -- the levels at each nanosecond, as the code has them
  pub ran-levels : (times : List (Option ℕ)) → times ≡ lines_from outs → (j : ℕ) → t + j ≤ t + n → levels (run t j d).state ≡ levels_at (t + j) times
  ran-levels times times_are j le = levels-run outs outs-are j (omega arith) ∙ ap (levels_at (t + j)) (sym times_are)

  -- ticks that became due
  pub due-few : (P to : ℕ) (ls : List TickParts) → ((k : ℕ) → k < 10 → get_or ls k no_line ≡ end_of P to (ticks_at t d.hpet ms pit rtc k) (line_at k d))
      → (k : ℕ) → k < 10 → (get_or ls k no_line).counts.due ≤ (line_at k d).counts.due + n
  due-few P to ls ends k less =
      let e : (get_or ls k no_line).counts.due
      ≡ (end_of P to (ticks_at t d.hpet ms pit rtc k) (line_at k d)).counts.due = ap (λ (l : TickParts). l.counts.due) (ends k less) in
      omega (arith, e, due-end P to (ticks_at t d.hpet ms pit rtc k) (line_at k d), ticks-few k less)
