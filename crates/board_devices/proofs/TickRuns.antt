-- A stretch in which only rises of OUT 0 come: line 0 goes up with the first of them, and no other line moves.
use Rattle.std.proofs.Common.{◌≡◌, ◌≢◌, ℕ, zero, suc, ◌+◌, ◌-◌, ◌*◌, ◌/◌, ◌<◌, ◌≤◌, Bool, true, false, cond, ltb, leb, ◌&&◌, ◌||◌, not}
use Rattle.std.proofs.Common.{List, [], ◌∷◌, ◌++◌, length, map, get_or, Option, Some, None, refl, ap, sym, ◌∙◌, inl, inr, arith}
use Rattle.std.proofs.Math.Bool.{or-false}
use Rattle.std.proofs.lemmas.Bool.{cases_lt, le-ltb, lt-ltb, le-leb, true≢false}
use Rattle.clk_units.specs.Events.{IsFirst, first_at}
use Rattle.clk_units.specs.Pulses.{pulses_from}
use Rattle.clk_units.proofs.Events.{counts-at}
use Rattle.irq_edges.specs.declared.edges.Edge.{Edge}
use Rattle.irq_edges.specs.Lines.{line_numbers, level_of}
use Rattle.irq_edges.specs.Rises.{is_up_at, levels_at}
use Rattle.irq_edges.specs.private.Rises.{edge_within, edges_within}
use Rattle.irq_edges.proofs.Sole.{rises_of-sole}
use Rattle.pit_readback.specs.declared.TheConstants.{PIT_HZ}
use Rattle.pit_counter.specs.declared.rises.Rises.{Rises}
use Rattle.pit_counter.specs.Table.{rises_in}
use Rattle.pit_counter.proofs.Times.{CountsUp-rises_in}
use Rattle.pit_readback.specs.Pit.{counter_of, pit_pulsed_times}
use Rattle.rtc_registers.specs.Pulses.{rtc_pulsed_times}
use Rattle.hpet_registers.specs.Parts.{is_legacy}
use Rattle.hpet_registers.specs.Stretch.{hpet_pulsed_times}
use Rattle.tick_policy.specs.declared.parts.TickParts.{TickParts}
use Rattle.tick_policy.specs.Line.{ticked_times}
use Rattle.tick_policy.proofs.Ticks.{ticked_times-at_once, due_ticked_times}
use Rattle.tick_policy.proofs.Stretches.{event-up}
use Rattle.board_devices.specs.declared.parts.DeviceParts.{DeviceParts}
use Rattle.board_devices.specs.declared.pulse_counts.PulseCounts.{PulseCounts}
use Rattle.board_devices.specs.Lines.{output_of, levels}
use Rattle.board_devices.specs.Parts.{IsDevices}
use Rattle.board_devices.specs.Places.{line_at, no_line}
use Rattle.board_devices.specs.Rises.{one_if, lifts}
use Rattle.board_devices.specs.Run.{run}
use Rattle.board_devices.specs.private.Pulses.{ArePulses, IsQuietBesidePit}
use Rattle.board_devices.specs.private.Runs.{HasAdvanced, HasTicked, rise_edges}
use Rattle.board_devices.specs.private.Stretch.{source, line_run}
use Rattle.board_devices.proofs.Edges.{edges-run}
use Rattle.board_devices.proofs.Product.{Sound}
use Rattle.board_devices.proofs.QuietRuns.{AreLines, quiet_run, state-is, joined-with}
use Rattle.board_devices.proofs.Rises.{lifts-of_run}
use Rattle.board_devices.proofs.Still.{QuietFrom, levels_with, levels-first, edges-still, line_after-counted}

-- where no level changes, no line rises
pub still-lifts : (n from to : ℕ) (d : DeviceParts) → from ≤ to → ((j : ℕ) → from + j ≤ to → levels (run from j d).state ≡ levels d)
    → lifts n (run from (to - from) d).edges + one_if (level_of line_numbers (levels d) n)
    ≡ one_if (level_of line_numbers (levels (run from (to - from) d).state) n)
still-lifts n from to d order still =
    let none : lifts n (run from (to - from) d).edges ≡ 0 = ap (lifts n) (edges-still d from to still (to - from) (omega (arith, order))) in
    let same : one_if (level_of line_numbers (levels d) n) ≡ one_if (level_of line_numbers (levels (run from (to - from) d).state) n) =
    ap (λ (bs : List Bool). one_if (level_of line_numbers bs n)) (sym (still (to - from) (omega (arith, order)))) in
    omega (arith, none, same)

-- lines that were up are so from the start on
abbrev since : ℕ → List Bool → List (Option ℕ)
since from bs = map (λ b. cond b (Some from) None) bs

since-levels : (from s : ℕ) (bs : List Bool) → from ≤ s → levels_at s (since from bs) ≡ bs
since-levels from s [] le = refl
since-levels from s (true ∷ bs) le = ap (λ (b : Bool). b ∷ levels_at s (since from bs)) (le-leb from s le)
    ∙ ap (λ (cs : List Bool). true ∷ cs) (since-levels from s bs le)
since-levels from s (false ∷ bs) le = ap (λ (cs : List Bool). false ∷ cs) (since-levels from s bs le)

-- and have no edge
abbrev edge_up : ℕ → ℕ → Edge
edge_up t line = record { at = t; line = line; up = true }

since-edge : (from to line : ℕ) (b : Bool) → edge_within from to line (cond b (Some from) None) ≡ []
since-edge from to line true = ap (λ (b : Bool). cond (b && leb from to) (edge_up from line ∷ []) []) (le-ltb from from (omega arith))
since-edge from to line false = refl

since-edges : (from to : ℕ) (ns : List ℕ) (bs : List Bool) → edges_within from to ns (since from bs) ≡ []
since-edges from to [] bs = refl
since-edges from to (n ∷ ns) [] = refl
since-edges from to (n ∷ ns) (b ∷ bs) =
    ap (λ (es : List Edge). es ++ edges_within from to ns (since from bs)) (since-edge from to n b) ∙ since-edges from to ns bs

since-length : (from : ℕ) (bs : List Bool) → length (since from bs) ≡ length bs
since-length from [] = refl
since-length from (b ∷ bs) = omega (arith, since-length from bs)

-- the edge of a line that goes up
one-edge : (from to t line : ℕ) → from < t → t ≤ to → edge_within from to line (Some t) ≡ edge_up t line ∷ []
one-edge from to t line behind inside =
    ap (λ (b : Bool). cond (b && leb t to) (edge_up t line ∷ []) []) (lt-ltb from t behind)
    ∙ ap (λ (b : Bool). cond b (edge_up t line ∷ []) []) (le-leb t to inside)

-- a run of whose lines the first alone may move
pub record HasFirst (d : DeviceParts) (from to : ℕ) (first : Bool) (others : List Bool) (rise : Option ℕ) : Type 0 where
  pub start : levels d ≡ first ∷ others
  pub five : length others ≡ 5
  pub told : (j : ℕ) → from + j ≤ to → levels (run from j d).state ≡ (first || is_up_at (from + j) rise) ∷ others
  pub rises : (t : ℕ) → rise ≡ Some t → (first ≡ false) × (from < t) × (t ≤ to)

-- from when on the lines are up where the first goes up at t
abbrev times : ℕ → List Bool → ℕ → List (Option ℕ)
times from others t = Some t ∷ since from others

six : (from t : ℕ) (others : List Bool) → length others ≡ 5 → length (times from others t) ≡ 6
six from t others five = omega (arith, since-length from others, five)

edges-within : (from to t : ℕ) (others : List Bool) → from < t → t ≤ to
    → edges_within from to line_numbers (times from others t) ≡ edge_up t 0 ∷ []
edges-within from to t others behind inside =
    ap (λ (es : List Edge). es ++ edges_within from to (8 ∷ 20 ∷ 21 ∷ 22 ∷ 23 ∷ []) (since from others)) (one-edge from to t 0 behind inside)
    ∙ ap (λ (es : List Edge). edge_up t 0 ∷ es) (since-edges from to (8 ∷ 20 ∷ 21 ∷ 22 ∷ 23 ∷ []) others)

module _ {d : DeviceParts} {from to : ℕ} (first : Bool) (others : List Bool) where
  -- where it goes up
  told-rise : (t : ℕ) → first ≡ false → HasFirst d from to first others (Some t) → (j : ℕ) → from + j ≤ to
      → levels (run from j d).state ≡ levels_at (from + j) (times from others t)
  told-rise t down has j le =
      has.told j le
      ∙ ap (λ (b : Bool). (b || is_up_at (from + j) (Some t)) ∷ others) down
      ∙ ap (λ (bs : List Bool). is_up_at (from + j) (Some t) ∷ bs) (sym (since-levels from (from + j) others (omega arith)))

  -- where it doesn't
  told-none : HasFirst d from to first others None → (j : ℕ) → from + j ≤ to → levels (run from j d).state ≡ levels d
  told-none has j le = has.told j le ∙ ap (λ (b : Bool). b ∷ others) (or-false first) ∙ sym has.start

  pub first-edges : (rise : Option ℕ) → from ≤ to → HasFirst d from to first others rise → (run from (to - from) d).edges ≡ rise_edges rise
  first-edges None order has = edges-still d from to (told-none has) (to - from) (omega (arith, order))
  first-edges (Some t) order has =
      let at : (first ≡ false) × (from < t) × (t ≤ to) = has.rises t refl in
      edges-run d (times from others t) from to (told-rise t at.0 has) (to - from) (omega (arith, order))
      ∙ rises_of-sole from to line_numbers (times from others t) (edge_up t 0) order (sym (six from t others has.five))
      (edges-within from to t others at.1 at.2)

  pub first-lifts : (rise : Option ℕ) → from ≤ to → HasFirst d from to first others rise → (n : ℕ)
      → lifts n (run from (to - from) d).edges + one_if (level_of line_numbers (levels d) n)
      ≡ one_if (level_of line_numbers (levels (run from (to - from) d).state) n)
  first-lifts None order has n = still-lifts n from to d order (told-none has)
  first-lifts (Some t) order has n =
      let at : (first ≡ false) × (from < t) × (t ≤ to) = has.rises t refl in
      lifts-of_run n from to d (times from others t) order (six from t others has.five) (told-rise t at.0 has)

-- the levels but the first
abbrev tail : List Bool → List Bool
tail [] = []
tail (b ∷ bs) = bs

-- a line is up after ticks, or where it was
ticked-up : (m : ℕ) (l : TickParts) → (ticked_times m l).up ≡ (l.up || ltb 0 m)
ticked-up m l = ap (λ (k : TickParts). k.up) (ticked_times-at_once m l)

-- line 0, where legacy replacement may hide it
first-up : (legacy up out : Bool) (r s : ℕ) (f : Option ℕ) → ltb 0 r ≡ is_up_at s f
    → cond legacy out (up || ltb 0 (cond (not legacy) r 0)) ≡ (cond legacy out up || is_up_at s (cond (up || legacy) None f))
first-up true true out r s f e = sym (or-false out)
first-up true false out r s f e = sym (or-false out)
first-up false true out r s f e = refl
first-up false false out r s f e = e

-- it goes up after `from`
behind : (from t : ℕ) (f : Option ℕ) → f ≡ Some t → is_up_at from f ≡ false → from < t
behind from t f e none = from_test (sym (ap (is_up_at from) e) ∙ none)
  where
    from_test : leb t from ≡ false → from < t
    from_test h = elim (cases_lt from t) [ inl less ↦ less | inr past ↦ absurd (true≢false (sym (le-leb t from past) ∙ h)) ]

down : (legacy up out : Bool) (f : Option ℕ) (t : ℕ) → cond (up || legacy) None f ≡ Some t → (cond legacy out up ≡ false) × (f ≡ Some t)
down legacy true out f t e = let never : None ≡ Some t = e in cc
down true false out f t e = let never : None ≡ Some t = e in cc
down false false out f t e = (refl, e)

few-ticks : (b : Bool) (m : ℕ) → cond b m 0 ≤ m
few-ticks true m = omega arith
few-ticks false m = omega arith

-- what is known of a stretch in which the 8254 alone may tick
pub record IsTicking (d : DeviceParts) (from to : ℕ) (p : PulseCounts) (rises : Rises) : Type 0 where
  pub sound : Sound d
  pub order : from ≤ to
  pub pulses : ArePulses from to p
  pub quiet : IsQuietBesidePit from to p d
  pub count : rises.count ≡ rises_in (counter_of d.pit 0) p.pit
  pub first : IsFirst (rises_in (counter_of d.pit 0)) p.pit rises.first

module _ {d : DeviceParts} {from to : ℕ} {p : PulseCounts} {rises : Rises} (known : IsTicking d from to p rises) where
  -- the ticks of line 0, and when it goes up
  abbrev pub ticks : ℕ
  ticks = cond (not (is_legacy d.hpet)) rises.count 0

  abbrev pub rise : Option ℕ
  rise = cond ((line_at 0 d).up || is_legacy d.hpet) None (first_at PIT_HZ from rises.first)

  -- nothing else moves a line
  others_quiet : QuietFrom 1 d from (to - from) ((from / d.slew_ns + 1) * d.slew_ns - from)
  others_quiet = quiet_run 1 (omega arith) known.sound known.order known.pulses (λ e. absurd (omega (arith, e))) known.quiet

  first-line : (j : ℕ) → j ≤ to - from → line_run d from j 0 (line_at 0 d) ≡ ticked_times (source d from 0 j) (line_at 0 d)
  first-line j le = line_after-counted others_quiet 0 (omega arith) j le

  pub lines-ticked : (ls : List TickParts) → length ls ≡ 10 → get_or ls 0 no_line ≡ ticked_times ticks (line_at 0 d)
      → ((k : ℕ) → k ≢ 0 → get_or ls k no_line ≡ line_at k d) → AreLines d from (to - from) ls
  lines-ticked ls places here others = record {
    places = places;
    first = here
        ∙ ap (λ (m : ℕ). ticked_times (cond (not (is_legacy d.hpet)) m 0) (line_at 0 d)) (known.count ∙ ap (rises_in (counter_of d.pit 0)) known.pulses.pit)
        ∙ sym (first-line (to - from) (omega arith));
    others = others;
  }

  -- when the first rise comes
  risen : (j : ℕ) → j ≤ to - from → ltb 0 (rises_in (counter_of d.pit 0) (pulses_from PIT_HZ from j)) ≡ is_up_at (from + j) (first_at PIT_HZ from rises.first)
  risen = event-up (rises_in (counter_of d.pit 0)) PIT_HZ from (to - from) rises.first (omega arith) (CountsUp-rises_in (counter_of d.pit 0))
      (rw known.pulses.pit at known.first)

  first-level : (j : ℕ) → j ≤ to - from → cond (is_legacy d.hpet) (output_of 0 d) (line_run d from j 0 (line_at 0 d)).up
      ≡ (cond (is_legacy d.hpet) (output_of 0 d) (line_at 0 d).up || is_up_at (from + j) rise)
  first-level j le =
      ap (λ (l : TickParts). cond (is_legacy d.hpet) (output_of 0 d) l.up) (first-line j le)
      ∙ ap (cond (is_legacy d.hpet) (output_of 0 d)) (ticked-up (source d from 0 j) (line_at 0 d))
      ∙ first-up (is_legacy d.hpet) (line_at 0 d).up (output_of 0 d) (rises_in (counter_of d.pit 0) (pulses_from PIT_HZ from j)) (from + j)
      (first_at PIT_HZ from rises.first) (risen j le)

  abbrev level : Bool
  level = cond (is_legacy d.hpet) (output_of 0 d) (line_at 0 d).up

  abbrev others : List Bool
  others = tail (levels_with true d)

  starts : levels d ≡ level ∷ others
  unfolding levels
  starts = refl

  told : (j : ℕ) → from + j ≤ to → levels (run from j d).state ≡ (level || is_up_at (from + j) rise) ∷ others
  told j le =
      levels-first others_quiet j (omega (arith, le, known.order))
      ∙ ap (λ (b : Bool). b ∷ others) (first-level j (omega (arith, le, known.order)))

  pub has_first : (by_end : (t : ℕ) → rise ≡ Some t → t ≤ to) → HasFirst d from to level others rise
  has_first by_end = record {
    start = starts;
    five = refl;
    told = told;
    rises = λ t e.
        let both : (level ≡ false) × (first_at PIT_HZ from rises.first ≡ Some t) = down (is_legacy d.hpet) (line_at 0 d).up (output_of 0 d) _ t e in
        (both.0, behind from t (first_at PIT_HZ from rises.first) both.1 at_start, by_end t e);
  }
    where
      at_start : is_up_at from (first_at PIT_HZ from rises.first) ≡ false
      at_start =
          let none : rises_in (counter_of d.pit 0) (pulses_from PIT_HZ from 0) ≡ 0 =
          (counts-at (rises_in (counter_of d.pit 0)) PIT_HZ from (omega arith) (CountsUp-rises_in (counter_of d.pit 0))).none in
          let here : from ≡ from + 0 = omega arith in
          ap (λ (s : ℕ). is_up_at s (first_at PIT_HZ from rises.first)) here ∙ sym (risen 0 (omega arith))
          ∙ le-ltb 0 (rises_in (counter_of d.pit 0) (pulses_from PIT_HZ from 0)) (omega (arith, none))

  -- what the devices are then
  abbrev pub ticked_with : List TickParts → DeviceParts
  ticked_with ls = record d {
    pit = pit_pulsed_times p.pit d.pit;
    rtc = rtc_pulsed_times p.rtc d.rtc;
    hpet = hpet_pulsed_times p.hpet d.hpet;
    ticks = ls;
  }

  pub ticked-joined : (ls : List TickParts) → AreLines d from (to - from) ls → IsDevices (ticked_with ls)
  ticked-joined ls lines = joined-with 1 (omega arith) known.sound known.order known.pulses (λ e. absurd (omega (arith, e))) known.quiet ls lines

  pub ticked : (ls : List TickParts) → AreLines d from (to - from) ls → get_or ls 0 no_line ≡ ticked_times ticks (line_at 0 d)
      → rises.count ≤ to - from → ((t : ℕ) → rise ≡ Some t → t ≤ to) → HasTicked from to d (ticked_with ls) rise
  ticked ls lines here few by_end = record {
    state = state;
    edges = first-edges level others rise known.order (has_first by_end);
    due = due;
    lifts = λ n. first-lifts level others rise known.order (has_first by_end) n
        ∙ ap (λ (e : DeviceParts). one_if (level_of line_numbers (levels e) n)) (sym state);
  }
    where
      state : ticked_with ls ≡ (run from (to - from) d).state
      state = state-is 1 (omega arith) known.sound known.order known.pulses (λ e. absurd (omega (arith, e))) known.quiet ls lines

      due : (k : ℕ) → k < 10 → (get_or ls k no_line).counts.due ≤ (line_at k d).counts.due + (to - from)
      due zero less =
          let same : (get_or ls 0 no_line).counts.due ≡ (line_at 0 d).counts.due + ticks = ap (λ (l : TickParts). l.counts.due) here
          ∙ due_ticked_times ticks (line_at 0 d) in
          omega (arith, same, few, few-ticks (not (is_legacy d.hpet)) rises.count)
      due (suc k) less =
          let same : (get_or ls (suc k) no_line).counts.due ≡ (line_at (suc k) d).counts.due =
          ap (λ (l : TickParts). l.counts.due) (lines.others (suc k) (λ e. absurd (omega (arith, e)))) in
          omega (arith, same)

-- where nothing comes, the run has no edge
pub still-ticked : (from to : ℕ) (d after : DeviceParts) → from ≤ to → HasAdvanced from to d after false [] → HasTicked from to d after None
still-ticked from to d after order ran = record {
  state = ran.state;
  edges = edges-still d from to ran.levels (to - from) (omega (arith, order));
  due = ran.due;
  lifts = λ n. still-lifts n from to d order ran.levels ∙ ap (λ (e : DeviceParts). one_if (level_of line_numbers (levels e) n)) (sym ran.state);
}
