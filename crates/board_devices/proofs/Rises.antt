-- Counts of rises: an access lets a line fall once at most.
use Rattle.std.proofs.Common.{◌≡◌, ℕ, zero, suc, ◌+◌, ◌-◌, ◌<◌, ◌≤◌, Bool, true, false, cond, eqb, ◌&&◌, ◌||◌, not, List, [], ◌∷◌, ◌++◌, length}
use Rattle.std.proofs.Common.{get_or, Option, refl, ap, sym, subst, ◌∙◌, inl, inr, arith}
use Rattle.std.proofs.Math.Bool.{or-true}
use Rattle.std.proofs.lemmas.Bool.{cases_Bool, eqb-true, false≢true}
use Rattle.irq_edges.specs.declared.edges.Edge.{Edge}
use Rattle.irq_edges.specs.Lines.{change, changes, level_of, line_numbers}
use Rattle.irq_edges.specs.Rises.{levels_at, rises_of}
use Rattle.irq_edges.proofs.UpFrom.{is_up_at-mono}
use Rattle.irq_edges.proofs.RisesOf.{rises_of-zero, rises_of-more}
use Rattle.rtc_registers.specs.declared.parts.RtcParts.{RtcParts}
use Rattle.rtc_registers.specs.Registers.{irqf_of, pf_of, af_of, uf_of, pie_of, aie_of, uie_of}
use Rattle.rtc_registers.specs.Parts.{IsRtc}
use Rattle.rtc_registers.specs.Access.{after_rtc_read, flagged}
use Rattle.clk_units.specs.Bits.{bit}
use Rattle.rtc_registers.proofs.Flags.{IsRtc-after_rtc_read, pf_of-flagged, af_of-flagged, uf_of-flagged, register_b-flagged}
use Rattle.tick_policy.specs.Line.{goes_again}
use Rattle.board_devices.specs.declared.act.Act.{Act}
use Rattle.board_devices.specs.declared.act.Act.TheVariants.{PitRead, PitWrite, IndexRead, IndexWrite, ClockRead, ClockWrite, HpetRead, HpetWrite, Ack, Nothing}
use Rattle.board_devices.specs.Act.{acks, reads_c, acked_where, down_where, acted, first_part, act_edges}
use Rattle.hpet_comparator.specs.Parts.{is_level}
use Rattle.hpet_registers.specs.Parts.{timer_at, is_legacy}
use Rattle.hpet_registers.specs.Outputs.{level_output, is_message}
use Rattle.tick_policy.specs.declared.parts.TickParts.{TickParts}
use Rattle.board_devices.specs.declared.parts.DeviceParts.{DeviceParts}
use Rattle.board_devices.specs.Places.{each, line_at, no_line}
use Rattle.board_devices.specs.Run.{run}
use Rattle.board_devices.proofs.Edges.{edges-run}
use Rattle.board_devices.specs.Lines.{output_of, drives, routed, levels}
use Rattle.board_devices.specs.Rises.{one_if, lifts, rises_with}

-- how many edges of the list let this line fall
abbrev pub falls : ℕ → List Edge → ℕ
falls line [] = 0
falls line (e ∷ es) = one_if (not e.up && eqb e.line line) + falls line es

abbrev pub member : ℕ → List ℕ → Bool
member n [] = false
member n (m ∷ ms) = eqb m n || member n ms

abbrev pub distinct : List ℕ → Bool
distinct [] = true
distinct (m ∷ ms) = not (member m ms) && distinct ms

pub lifts-++ : (n : ℕ) (xs ys : List Edge) → lifts n (xs ++ ys) ≡ lifts n xs + lifts n ys
lifts-++ n [] ys = omega arith
lifts-++ n (x ∷ xs) ys = omega (arith, lifts-++ n xs ys)

falls-++ : (n : ℕ) (xs ys : List Edge) → falls n (xs ++ ys) ≡ falls n xs + falls n ys
falls-++ n [] ys = omega arith
falls-++ n (x ∷ xs) ys = omega (arith, falls-++ n xs ys)

choice-zero : (s : Bool) → let none : ℕ = 0 in none ≡ cond s 0 0
choice-zero true = refl
choice-zero false = refl

choice-one : (s : Bool) → one_if s + 0 ≡ cond s 1 0
choice-one true = refl
choice-one false = refl

lifts-change : (t m n : ℕ) (b a : Bool) → lifts n (change t m b a) ≡ cond (eqb m n) (one_if (not b && a)) 0
lifts-change t m n true true = choice-zero (eqb m n)
lifts-change t m n true false = choice-zero (eqb m n)
lifts-change t m n false true = choice-one (eqb m n)
lifts-change t m n false false = choice-zero (eqb m n)

falls-change : (t m n : ℕ) (b a : Bool) → falls n (change t m b a) ≡ cond (eqb m n) (one_if (b && not a)) 0
falls-change t m n true true = choice-zero (eqb m n)
falls-change t m n true false = choice-one (eqb m n)
falls-change t m n false true = choice-zero (eqb m n)
falls-change t m n false false = choice-zero (eqb m n)

-- a line that isn't among them has no edges
or-false-parts : (a b : Bool) → (a || b) ≡ false → (a ≡ false) × (b ≡ false)
or-false-parts true b h = cc
or-false-parts false b h = (refl, h)

absent : (n t : ℕ) (ns : List ℕ) (before after : List Bool) → member n ns ≡ false
    → (lifts n (changes t ns before after) ≡ 0) × (falls n (changes t ns before after) ≡ 0)
absent n t [] before after h = (refl, refl)
absent n t (m ∷ ms) [] after h = (refl, refl)
absent n t (m ∷ ms) (b ∷ bs) [] h = (refl, refl)
absent n t (m ∷ ms) (b ∷ bs) (a ∷ cs) h =
    let parts : (eqb m n ≡ false) × (member n ms ≡ false) = or-false-parts (eqb m n) (member n ms) h in
    let rest : (lifts n (changes t ms bs cs) ≡ 0) × (falls n (changes t ms bs cs) ≡ 0) = absent n t ms bs cs parts.1 in
    let up : lifts n (change t m b a) ≡ 0 = lifts-change t m n b a ∙ ap (λ (s : Bool). cond s (one_if (not b && a)) 0) parts.0 in
    let down : falls n (change t m b a) ≡ 0 = falls-change t m n b a ∙ ap (λ (s : Bool). cond s (one_if (b && not a)) 0) parts.0 in
    (omega (arith, lifts-++ n (change t m b a) (changes t ms bs cs), up, rest.0), omega (arith, falls-++ n (change t m b a) (changes t ms bs cs), down, rest.1))

and-parts : (a b : Bool) → (a && b) ≡ true → (a ≡ true) × (b ≡ true)
and-parts true b h = (refl, h)
and-parts false b h = cc

not-true : (b : Bool) → not b ≡ true → b ≡ false
not-true true h = cc
not-true false h = refl

one-line : (b a : Bool) → (one_if (not b && a) + one_if b ≡ one_if (b && not a) + one_if a) × (one_if (b && not a) ≤ 1)
one-line true true = (refl, omega arith)
one-line true false = (refl, omega arith)
one-line false true = (refl, omega arith)
one-line false false = (refl, omega arith)

member-same : (m n : ℕ) (ms : List ℕ) → eqb m n ≡ true → member m ms ≡ false → member n ms ≡ false
member-same m n ms same h = subst (λ (x : ℕ). member x ms ≡ false) (eqb-true m n same) h

-- edges up and the level before are edges down and the level after; and at most one edge is down
pub balance : (n t : ℕ) (ns : List ℕ) (before after : List Bool) → distinct ns ≡ true → length before ≡ length ns → length after ≡ length ns
    → (lifts n (changes t ns before after) + one_if (level_of ns before n) ≡ falls n (changes t ns before after) + one_if (level_of ns after n)) ×
    (falls n (changes t ns before after) ≤ 1)
balance n t [] before after d e f = (refl, omega arith)
balance n t (m ∷ ms) [] after d e f = absurd (omega (arith, e))
balance n t (m ∷ ms) (b ∷ bs) [] d e f = absurd (omega (arith, f))
balance n t (m ∷ ms) (b ∷ bs) (a ∷ cs) d e f =
    let ds : (not (member m ms) ≡ true) × (distinct ms ≡ true) = and-parts (not (member m ms)) (distinct ms) d in
    elim (cases_Bool (eqb m n)) [
      | inl same ↦
          let none : (lifts n (changes t ms bs cs) ≡ 0) × (falls n (changes t ms bs cs) ≡ 0) = absent n t ms bs cs
          (member-same m n ms same (not-true (member m ms) ds.0)) in
          let up : lifts n (change t m b a) ≡ one_if (not b && a) = lifts-change t m n b a ∙ ap (λ (s : Bool). cond s (one_if (not b && a)) 0) same in
          let down : falls n (change t m b a) ≡ one_if (b && not a) = falls-change t m n b a ∙ ap (λ (s : Bool). cond s (one_if (b && not a)) 0) same in
          let lb : one_if (cond (eqb m n) b (level_of ms bs n)) ≡ one_if b = ap (λ (s : Bool). one_if (cond s b (level_of ms bs n))) same in
          let la : one_if (cond (eqb m n) a (level_of ms cs n)) ≡ one_if a = ap (λ (s : Bool). one_if (cond s a (level_of ms cs n))) same in (
            omega (
              arith,
              lifts-++ n (change t m b a) (changes t ms bs cs),
              falls-++ n (change t m b a) (changes t ms bs cs),
              up,
              down,
              none,
              lb,
              la,
              (one-line b a).0,
            ),
            omega (arith, falls-++ n (change t m b a) (changes t ms bs cs), down, none.1, (one-line b a).1),
          )
      | inr other ↦
          let rest = balance n t ms bs cs ds.1 (omega (arith, e)) (omega (arith, f)) in
          let up : lifts n (change t m b a) ≡ 0 = lifts-change t m n b a ∙ ap (λ (s : Bool). cond s (one_if (not b && a)) 0) other in
          let down : falls n (change t m b a) ≡ 0 = falls-change t m n b a ∙ ap (λ (s : Bool). cond s (one_if (b && not a)) 0) other in
          let lb : one_if (cond (eqb m n) b (level_of ms bs n)) ≡ one_if (level_of ms bs n) = ap (λ (s : Bool). one_if (cond s b (level_of ms bs n))) other in
          let la : one_if (cond (eqb m n) a (level_of ms cs n)) ≡ one_if (level_of ms cs n) = ap (λ (s : Bool). one_if (cond s a (level_of ms cs n))) other in (
            omega (arith, lifts-++ n (change t m b a) (changes t ms bs cs), falls-++ n (change t m b a) (changes t ms bs cs), up, down, lb, la, rest.0),
            omega (arith, falls-++ n (change t m b a) (changes t ms bs cs), down, rest.1),
          )
    ]

-- nothing that is up before is down after
abbrev pub Below : List Bool → List Bool → Type 0
Below [] after = Unit {0}
Below (b ∷ bs) [] = Unit {0}
Below (b ∷ bs) (a ∷ cs) = (b ≡ true → a ≡ true) × Below bs cs

no-fall : (b a : Bool) → (b ≡ true → a ≡ true) → (b && not a) ≡ false
no-fall true true h = refl
no-fall true false h = sym (h refl)
no-fall false a h = refl

-- .. so no edge is down
pub no-falls : (n t : ℕ) (ns : List ℕ) (before after : List Bool) → Below before after → falls n (changes t ns before after) ≡ 0
no-falls n t [] before after h = refl
no-falls n t (m ∷ ms) [] after h = refl
no-falls n t (m ∷ ms) (b ∷ bs) [] h = refl
no-falls n t (m ∷ ms) (b ∷ bs) (a ∷ cs) h =
    let here : falls n (change t m b a) ≡ 0 = falls-change t m n b a ∙ ap (λ (f : Bool). cond (eqb m n) (one_if f) 0) (no-fall b a h.0)
    ∙ sym (choice-zero (eqb m n)) in
    omega (arith, falls-++ n (change t m b a) (changes t ms bs cs), here, no-falls n t ms bs cs h.1)

levels_at-below : (a b : ℕ) (us : List (Option ℕ)) → a ≤ b → Below (levels_at a us) (levels_at b us)
levels_at-below a b [] h = tt
levels_at-below a b (u ∷ us) h = (is_up_at-mono a b u h, levels_at-below a b us h)

length-levels_at : (t : ℕ) (us : List (Option ℕ)) → length (levels_at t us) ≡ length us
length-levels_at t [] = refl
length-levels_at t (u ∷ us) = ap suc (length-levels_at t us)

-- a run lifts a line by as much as its level grows
pub lifts-run : (n : ℕ) (us : List (Option ℕ)) (t k : ℕ) → length us ≡ 6
    → lifts n (rises_of line_numbers us t k) + one_if (level_of line_numbers (levels_at t us) n) ≡ one_if (level_of line_numbers (levels_at (t + k) us) n)
lifts-run n us t zero six =
    let place : t + 0 ≡ t = omega arith in
    let none : lifts n (rises_of line_numbers us t 0) ≡ 0 = ap (lifts n) (rises_of-zero line_numbers us t) in
    let same : one_if (level_of line_numbers (levels_at (t + 0) us) n)
    ≡ one_if (level_of line_numbers (levels_at t us) n) = ap (λ (s : ℕ). one_if (level_of line_numbers (levels_at s us) n)) place in
    omega (arith, none, same)
lifts-run n us t (suc k) six =
    let place : t + suc k ≡ t + k + 1 = omega arith in
    let last = balance n (t + k + 1) line_numbers (levels_at (t + k) us) (levels_at (t + k + 1) us) refl (length-levels_at (t + k) us ∙ six)
    (length-levels_at (t + k + 1) us ∙ six) in
    let flat : falls n (changes (t + k + 1) line_numbers (levels_at (t + k) us) (levels_at (t + k + 1) us))
    ≡ 0 = no-falls n (t + k + 1) line_numbers (levels_at (t + k) us) (levels_at (t + k + 1) us) (levels_at-below (t + k) (t + k + 1) us (omega arith)) in
    let more : lifts n (rises_of line_numbers us t (suc k))
    ≡ lifts n (rises_of line_numbers us t k) + lifts n (changes (t + k + 1) line_numbers (levels_at (t + k) us) (levels_at (t + k + 1) us)) = ap (lifts n)
    (rises_of-more line_numbers us t k)
    ∙ lifts-++ n (rises_of line_numbers us t k) (changes (t + k + 1) line_numbers (levels_at (t + k) us) (levels_at (t + k + 1) us)) in
    let same : one_if (level_of line_numbers (levels_at (t + suc k) us) n)
    ≡ one_if (level_of line_numbers (levels_at (t + k + 1) us) n) = ap (λ (s : ℕ). one_if (level_of line_numbers (levels_at s us) n)) place in
    omega (arith, lifts-run n us t k six, last.0, flat, more, same)

-- an access of two parts, of which the second lifts alone, lets a line fall once at most
pub lifts-parts : (n t : ℕ) (a b c : List Bool) → length a ≡ 6 → length b ≡ 6 → length c ≡ 6 → Below b c
    → lifts n (changes t line_numbers a b ++ changes t line_numbers b c) + one_if (level_of line_numbers a n) ≤ 1 + one_if (level_of line_numbers c n)
lifts-parts n t a b c la lb lc below =
    let first = balance n t line_numbers a b refl la lb in
    let second = balance n t line_numbers b c refl lb lc in
    omega (arith, first, second.0, no-falls n t line_numbers b c below, lifts-++ n (changes t line_numbers a b) (changes t line_numbers b c))

and-grows : (a b c : Bool) → (b ≡ true → c ≡ true) → (a && b) ≡ true → (a && c) ≡ true
and-grows true b c h e = h e
and-grows false b c h e = e

-- levels grow with the tick lines and IRQF
output-below : (k : ℕ) (d : DeviceParts) (r : RtcParts) (ls : List TickParts) → ((i : ℕ) → (line_at i d).up ≡ true → (get_or ls i no_line).up ≡ true)
    → output_of k d ≡ true → output_of k (record d { rtc = r; ticks = ls }) ≡ true
output-below k d r ls grow up = by_type (is_level (timer_at k d.hpet)) up
  where
    by_type : (b : Bool) → cond b (level_output k d.hpet) (not (is_message k d.hpet) && (line_at (suc (suc k)) d).up) ≡ true
        → cond b (level_output k d.hpet) (not (is_message k d.hpet) && (get_or ls (suc (suc k)) no_line).up) ≡ true
    by_type true h = h
    by_type false h = and-grows (not (is_message k d.hpet)) (line_at (suc (suc k)) d).up (get_or ls (suc (suc k)) no_line).up (grow (suc (suc k))) h

or-grows : (a b c d : Bool) → (a ≡ true → c ≡ true) → (b ≡ true → d ≡ true) → (a || b) ≡ true → (c || d) ≡ true
or-grows true b c d h k e = ap (λ (x : Bool). x || d) (h refl)
or-grows false true c d h k e = ap (λ (x : Bool). c || x) (k refl) ∙ or-true c
or-grows false false c d h k e = cc

routed-below : (line k : ℕ) (d : DeviceParts) (r : RtcParts) (ls : List TickParts) → ((i : ℕ) → (line_at i d).up ≡ true → (get_or ls i no_line).up ≡ true)
    → routed line k d ≡ true → routed line k (record d { rtc = r; ticks = ls }) ≡ true
routed-below line zero d r ls grow up = up
routed-below line (suc k) d r ls grow up =
    or-grows (routed line k d) (drives line k d.hpet && output_of k d) (routed line k (record d { rtc = r; ticks = ls }))
    (drives line k d.hpet && output_of k (record d { rtc = r; ticks = ls }))
    (routed-below line k d r ls grow)
    (and-grows (drives line k d.hpet) (output_of k d) (output_of k (record d { rtc = r; ticks = ls })) (output-below k d r ls grow)) up

choose-below : (l a b c d : Bool) → (a ≡ true → c ≡ true) → (b ≡ true → d ≡ true) → cond l a b ≡ true → cond l c d ≡ true
choose-below true a b c d h k e = h e
choose-below false a b c d h k e = k e

pub levels-below : (d : DeviceParts) (r : RtcParts) (ls : List TickParts) → ((i : ℕ) → (line_at i d).up ≡ true → (get_or ls i no_line).up ≡ true)
    → (irqf_of d.rtc ≡ true → irqf_of r ≡ true) → Below (levels d) (levels (record d { rtc = r; ticks = ls }))
unfolding levels
levels-below d r ls grow irq = (
  choose-below (is_legacy d.hpet) (output_of 0 d) (line_at 0 d).up (output_of 0 (record d { rtc = r; ticks = ls })) (get_or ls 0 no_line).up
      (output-below 0 d r ls grow) (grow 0),
  (
    choose-below (is_legacy d.hpet) (output_of 1 d) (irqf_of d.rtc) (output_of 1 (record d { rtc = r; ticks = ls })) (irqf_of r)
        (output-below 1 d r ls grow) irq,
    (
      routed-below 20 8 d r ls grow,
      (routed-below 21 8 d r ls grow, (routed-below 22 8 d r ls grow, (routed-below 23 8 d r ls grow, tt))),
    ),
  ),
)

-- a line that is down in the middle of an acknowledgement may be up after it
grows : (test : ℕ → Bool) (k i : ℕ) (ls : List TickParts) → (get_or (each (λ j l. down_where (test j) l) k ls) i no_line).up ≡ true
    → (get_or (each (λ j l. acked_where (test j) l) k ls) i no_line).up ≡ true
grows test k i [] h = h
grows test k zero (l ∷ ls) h = here (test k) l h
  where
    here : (b : Bool) (l : TickParts) → (down_where b l).up ≡ true → (acked_where b l).up ≡ true
    here true l h = absurd (false≢true h)
    here false l h = h
grows test k (suc i) (l ∷ ls) h = grows test (suc k) i ls h

-- PF set lets IRQF stay
irqf-grows : (b : Bool) (r : RtcParts) → IsRtc r → irqf_of r ≡ true → irqf_of (cond b (flagged r) r) ≡ true
irqf-grows false r valid h = h
irqf-grows true r valid h =
    or-grows (pf_of r && pie_of r) ((af_of r && aie_of r) || (uf_of r && uie_of r)) (pf_of (flagged r) && pie_of (flagged r))
    ((af_of (flagged r) && aie_of (flagged r)) || (uf_of (flagged r) && uie_of (flagged r)))
    (λ e. same_enable (pf_of (flagged r)) (pf_of-flagged r valid) (ap (bit 6) (register_b-flagged r valid) ∙ second (pf_of r) (pie_of r) e))
    (λ e. ap (λ (x : Bool). (x && aie_of (flagged r)) || (uf_of (flagged r) && uie_of (flagged r))) (af_of-flagged r valid)
    ∙ ap (λ (x : Bool). (af_of r && aie_of (flagged r)) || (x && uie_of (flagged r))) (uf_of-flagged r valid)
    ∙ ap (λ (n : ℕ). (af_of r && bit 5 n) || (uf_of r && bit 4 n)) (register_b-flagged r valid) ∙ e)
    h
  where
    second : (a b : Bool) → (a && b) ≡ true → b ≡ true
    second true b e = e
    second false b e = absurd (false≢true e)

    same_enable : (a : Bool) {b : Bool} → a ≡ true → b ≡ true → (a && b) ≡ true
    same_enable a e f = cc

Below-same : (bs : List Bool) → Below bs bs
Below-same [] = tt
Below-same (b ∷ bs) = (λ e. e, Below-same bs)

length-levels : (d : DeviceParts) → length (levels d) ≡ 6
unfolding levels
length-levels d = refl

-- the second part of an access lets no line fall
pub second-below : (a : Act) (d : DeviceParts) → IsRtc d.rtc → Below (levels (first_part a d)) (levels (acted a d))
unfolding first_part acted
second-below (Ack line) d valid = levels-below (record d { ticks = each (λ k l. down_where (acks line d.hpet k) l) 0 d.ticks }) d.rtc
    (each (λ k l. acked_where (acks line d.hpet k) l) 0 d.ticks) (λ i. grows (acks line d.hpet) 0 i d.ticks) (λ e. e)
second-below ClockRead d valid =
    levels-below (record d { rtc = after_rtc_read d.rtc; ticks = each (λ k l. down_where (reads_c d k) l) 0 d.ticks })
    (cond (reads_c d 1 && goes_again (line_at 1 d)) (flagged (after_rtc_read d.rtc)) (after_rtc_read d.rtc))
    (each (λ k l. acked_where (reads_c d k) l) 0 d.ticks)
    (λ i. grows (reads_c d) 0 i d.ticks) (irqf-grows (reads_c d 1 && goes_again (line_at 1 d)) (after_rtc_read d.rtc) (IsRtc-after_rtc_read d.rtc valid))
second-below (PitRead port) d valid = Below-same (levels (acted (PitRead port) d))
second-below (PitWrite port byte) d valid = Below-same (levels (acted (PitWrite port byte) d))
second-below IndexRead d valid = Below-same (levels d)
second-below (IndexWrite byte) d valid = Below-same (levels (acted (IndexWrite byte) d))
second-below (ClockWrite byte) d valid = Below-same (levels (acted (ClockWrite byte) d))
second-below (HpetRead offset width) d valid = Below-same (levels d)
second-below (HpetWrite offset width v) d valid = Below-same (levels (acted (HpetWrite offset width v) d))
second-below Nothing d valid = Below-same (levels d)

-- so an access of the devices lifts a line as often as its level grows, and once more at most
pub lifts-act : (n t : ℕ) (a : Act) (d : DeviceParts) → IsRtc d.rtc
    → lifts n (act_edges t a d) + one_if (level_of line_numbers (levels d) n) ≤ 1 + one_if (level_of line_numbers (levels (acted a d)) n)
lifts-act n t a d valid = lifts-parts n t (levels d) (levels (first_part a d)) (levels (acted a d)) (length-levels d) (length-levels (first_part a d))
    (length-levels (acted a d)) (second-below a d valid)

-- the same of a run
pub lifts-of_run : (n t to : ℕ) (d : DeviceParts) (us : List (Option ℕ)) → t ≤ to → length us ≡ 6
    → ((j : ℕ) → t + j ≤ to → levels (run t j d).state ≡ levels_at (t + j) us)
    → lifts n (run t (to - t) d).edges + one_if (level_of line_numbers (levels d) n) ≡ one_if (level_of line_numbers (levels (run t (to - t) d).state) n)
unfolding run
lifts-of_run n t to d us order six levels_are =
    let edges : lifts n (run t (to - t) d).edges
    ≡ lifts n (rises_of line_numbers us t (to - t)) = ap (lifts n) (edges-run d us t to levels_are (to - t) (omega arith)) in
    let place : t + 0 ≡ t = omega arith in
    let start : one_if (level_of line_numbers (levels d) n)
    ≡ one_if (level_of line_numbers (levels_at t us) n) = ap (λ (bs : List Bool). one_if (level_of line_numbers bs n))
    (levels_are 0 (omega arith) ∙ ap (λ (s : ℕ). levels_at s us) place) in
    let end : one_if (level_of line_numbers (levels (run t (to - t) d).state) n)
    ≡ one_if (level_of line_numbers (levels_at (t + (to - t)) us) n) = ap (λ (bs : List Bool). one_if (level_of line_numbers bs n))
    (levels_are (to - t) (omega arith)) in
    omega (arith, edges, start, end, lifts-run n us t (to - t) six)

pub at-rises_with : (es : List Edge) (ns rises : List ℕ) (k : ℕ) → length rises ≡ length ns → k < length ns → get_or (rises_with es ns rises) k 0
    ≡ get_or rises k 0 + lifts (get_or ns k 0) es
at-rises_with es [] rises k e h = absurd (omega arith)
at-rises_with es (n ∷ ns) [] k e h = absurd (omega (arith, e))
at-rises_with es (n ∷ ns) (r ∷ rises) zero e h = refl
at-rises_with es (n ∷ ns) (r ∷ rises) (suc k) e h = at-rises_with es ns rises k (omega (arith, e)) (omega arith)

-- counted or not, a count is at most that with the edges
pub at-counted : (b : Bool) (es : List Edge) (rises : List ℕ) (k : ℕ) → length rises ≡ 6 → k < 6
    → get_or (cond b (rises_with es line_numbers rises) rises) k 0 ≤ get_or rises k 0 + lifts (get_or line_numbers k 0) es
at-counted true es rises k six less = omega (arith, at-rises_with es line_numbers rises k six less)
at-counted false es rises k six less = omega arith
