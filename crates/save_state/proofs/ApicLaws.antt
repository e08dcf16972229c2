-- The timers of local APICs with their tick lines: their fields cover them, what is read is written as its bytes are, and valid ones are written and read as
-- they were.
use Rattle.save_state.proofs.Names.{apic_line, apic, no_apic, apic_pairs, apics, ApicTimerFits, ApicsFit, read_below-at, read_below-after, length-read_below}
use Rattle.save_state.proofs.Names.{pairs-at, length-pairs, pairs-halves, any, Apic, apic_timer, all_here-append, number-written, blocks-none, fault_in, None}
use Rattle.save_state.proofs.Names.{byte-written, plain-here, blocks-here, drop-blank, apics_of, apics_in, AreApics, IsBoard, now_of, zip, moved}
use Rattle.save_state.proofs.Names.{read_below, plain, ◌⨾◌, AllHere, le-ltb, ltb-false, cases_lt, length-map, Discard, TickParts, ApicParts}
use Rattle.save_state.proofs.Names.{divisor, IsApicTimer, IsPlaceOf, BoardParts, ◌≡◌, ℕ, ◌+◌, ◌-◌, ◌<◌, ◌≤◌, ltb, List, ◌++◌, length, map, get_or, replicate}
use Rattle.save_state.proofs.Names.{inl, inr, refl, ap, sym, subst, ◌∙◌, arith, apics_few, processors_few, apic-size}
use Rattle.local_apics.specs.Places.{no_timer, no_line, timer_at, line_at}
use Rattle.save_state.proofs.Blocks.{ticks-here, TicksHold, ticks-hold}
use Rattle.save_state.proofs.BlockRows.{rows-valid, apic-rows}

-- a timer with another tick line
abbrev with_ticks : TickParts → Apic → Apic
with_ticks x a = (a.0, x)

-- the policy of the tick line is Discard in each saved state
apic-covers : (k : ℕ) (a : Apic) → a.1.policy ≡ Discard → moved (apic k) a no_apic ≡ a
unfolding apic_timer apic_line plain
apic-covers k a is = λ i. (a.0, record a.1 { policy = sym is i })

-- a timer
timer-here : (b : BoardParts) (a : Apic) (bytes : List ℕ) → IsApicTimer a.0 → ApicTimerFits a.0 → AllHere apic_timer b a bytes
unfolding apic_timer
timer-here b a bytes is fits =
    let p : ApicParts = a.0 in
    plain-here _ _ _ _ _ _ b a bytes (number-written 4 p.lvt fits.lvt) (grind arith) ⨾ plain-here _ _ _ _ _ _ b a bytes (byte-written p.divide) (grind arith)
    ⨾ plain-here _ _ _ _ _ _ b a bytes (number-written 4 p.initial fits.initial) (grind arith)
    ⨾ plain-here _ _ _ _ _ _ b a bytes (number-written 4 p.current fits.current) (grind arith)
    ⨾ plain-here _ _ _ _ _ _ b a bytes (byte-written p.phase) (grind arith)
    ⨾ plain-here _ _ _ _ _ _ b a bytes (number-written 8 p.deadline fits.deadline) (grind arith) ⨾ tt

timer-valid : (b : BoardParts) (k : ℕ) (a : Apic) (place : ℕ) (bytes : List ℕ) → fault_in (apic k) b a place bytes ≡ None
    → IsApicTimer a.0 × TicksHold b a.1
timer-valid b k a place bytes none =
    let h = rows-valid bytes place _ (sym (apic-rows k b a place bytes) ∙ none) in (
      record {
        bits = grind arith;
        mode = grind arith;
        divide = grind arith;
        initial = λ e. grind arith;
        current = grind arith;
        reload = λ e e'. grind arith;
        phase = grind arith;
        stopped = λ e. grind arith;
        deadline = λ other. grind arith;
      },
      ticks-hold b a.1 h.1.1.1.1.1.1.1.0 h.1.1.1.1.1.1.1.1.1.0 h.1.1.1.1.1.1.1.1.1.1.0,
    )

-- how many timers a board has
abbrev count : BoardParts → ℕ
count b = apics_of b.format b.cpus

-- the places of a valid board
module _ (b : BoardParts) (is : IsBoard b) where
  few : count b ≤ 64
  few = apics_few b.format b.cpus (omega (arith, is.joined.format.most_cpus, processors_few b.format))

  same : length b.apic ≡ length b.apic_ticks
  same = is.joined.apics.places.timers ∙ sym is.joined.apics.places.lines

  at : (k : ℕ) → get_or (apic_pairs b) k no_apic ≡ (timer_at k (apics_in b), line_at k (apics_in b))
  at k = pairs-at no_timer no_line b.apic b.apic_ticks k same

  long : length (apic_pairs b) ≡ 64
  long = length-pairs b.apic b.apic_ticks same ∙ is.joined.apics.places.timers

  place : (k : ℕ) → k < 64 → IsPlaceOf (ltb k (count b)) (get_or (apic_pairs b) k no_apic).0 (get_or (apic_pairs b) k no_apic).1
  place k less = subst (λ (a : Apic). IsPlaceOf (ltb k (count b)) a.0 a.1) (sym (at k)) (is.joined.apics.places.place k less)

  here : (bytes : List ℕ) → ApicsFit b → (k : ℕ) → k < count b → AllHere (apic k) b (get_or (apic_pairs b) k no_apic) bytes
  unfolding apic_line
  here bytes fits k less =
      let a : Apic = get_or (apic_pairs b) k no_apic in
      let p = place k (omega (arith, less, few)) in
      let due : a.1.counts.due ≤ now_of b + b.accesses =
      subst (λ (x : Apic). x.1.counts.due ≤ now_of b + b.accesses) (sym (at k)) (is.joined.apics.due k (omega (arith, less, few))) in
      all_here-append apic_timer apic_line b a bytes (timer-here b a bytes p.timer (fits k less).timer)
      (ticks-here b a bytes (λ (x : Apic). x.1) with_ticks any p.line refl due (fits k less).line)

  absent : (k : ℕ) → count b ≤ k → k < 64 → get_or (apic_pairs b) k no_apic ≡ no_apic
  absent k le less =
      let p = is.joined.apics.places.place k less in
      at k ∙ (λ i. (p.no_timer (le-ltb k (count b) le) i, p.no_line (le-ltb k (count b) le) i))

  pub apics-here : (bytes : List ℕ) → ApicsFit b → AllHere (apics (apics_of b.format b.cpus)) b b bytes
  unfolding apics
  apics-here bytes fits =
      blocks-here (count b) 64 apic no_apic _ _ b b bytes (λ k less. apic-covers k _ (place k (omega (arith, less, long))).policy) (omega (arith, few, long))
      (λ j low less. here bytes fits j (omega arith)) (drop-blank no_apic (count b) 64 (apic_pairs b) long few absent) ⨾ tt

-- the place of a timer that isn't there
none : IsApicTimer no_timer
unfolding divisor
none = grind arith

-- what holds of each board that is read: 64 places, those that aren't there are empty, and the policy is Discard
pub record AreRead (n : ℕ) (b : BoardParts) : Type 0 where
  pub timers : length b.apic ≡ 64
  pub lines : length b.apic_ticks ≡ 64
  pub absent : (k : ℕ) → n ≤ k → get_or (apic_pairs b) k no_apic ≡ no_apic
  pub policy : (k : ℕ) → (get_or (apic_pairs b) k no_apic).1.policy ≡ Discard

abbrev pub apics_read : ℕ → ℕ → List ℕ → List Apic
apics_read n place bytes = read_below apic no_apic 0 n place bytes ++ replicate (64 - n) no_apic

pub apics-read : (n place : ℕ) (bytes : List ℕ) (b : BoardParts) → n ≤ 64 → b.apic ≡ map (λ (a : Apic). a.0) (apics_read n place bytes)
    → b.apic_ticks ≡ map (λ (a : Apic). a.1) (apics_read n place bytes) → AreRead n b
unfolding apic_timer apic_line plain
apics-read n place bytes b few timers lines =
    let all : List Apic = apics_read n place bytes in
    let long : length all ≡ 64 = length-read_below apic no_apic 0 n 64 place bytes few in
    let pairs_are : apic_pairs b ≡ all = (λ i. zip (timers i) (lines i)) ∙ pairs-halves all in
    let absent : (k : ℕ) → n ≤ k → get_or (apic_pairs b) k no_apic ≡ no_apic =
    λ k le. ap (λ (xs : List Apic). get_or xs k no_apic) pairs_are ∙ read_below-after apic no_apic 0 n place bytes (64 - n) k le in
    record {
      timers = ap (λ (ps : List ApicParts). length ps) timers ∙ length-map all (λ (a : Apic). a.0) ∙ long;
      lines = ap (λ (ls : List TickParts). length ls) lines ∙ length-map all (λ (a : Apic). a.1) ∙ long;
      absent = absent;
      policy = λ k. elim (cases_lt k n) [
        | inl less ↦ ap (λ (xs : List Apic). (get_or xs k no_apic).1.policy) pairs_are
            ∙ ap (λ (a : Apic). a.1.policy) (read_below-at apic no_apic 55 apic-size 0 n place bytes (replicate (64 - n) no_apic) k less)
        | inr more ↦ ap (λ (a : Apic). a.1.policy) (absent k more)
      ];
    }

-- a board whose conditions hold has valid timers
module _ (b : BoardParts) (is : AreRead (apics_of b.format b.cpus) b) (start : ℕ) (bytes : List ℕ)
    (none-of : fault_in (apics (apics_of b.format b.cpus)) b b start bytes ≡ None) where
  read-at : (k : ℕ) → get_or (apic_pairs b) k no_apic ≡ (timer_at k (apics_in b), line_at k (apics_in b))
  read-at k = pairs-at no_timer no_line b.apic b.apic_ticks k (is.timers ∙ sym is.lines)

  there : (k : ℕ) → k < count b → IsApicTimer (get_or (apic_pairs b) k no_apic).0 × TicksHold b (get_or (apic_pairs b) k no_apic).1
  unfolding apics
  there k less =
      let one = blocks-none (count b) 64 apic no_apic _ _ b b start bytes none-of k less in
      timer-valid b k (get_or (apic_pairs b) k no_apic) one.0 bytes one.1

  empty : (k : ℕ) → count b ≤ k → IsPlaceOf (ltb k (count b)) no_timer no_line
  empty k more = record { timer = none; line = record { sum = refl; policy = refl }; policy = refl; no_timer = λ _. refl; no_line = λ _. refl }

  valid-place : (k : ℕ) → IsPlaceOf (ltb k (count b)) (get_or (apic_pairs b) k no_apic).0 (get_or (apic_pairs b) k no_apic).1
  valid-place k = elim (cases_lt k (count b)) [
    | inl less ↦ record {
      timer = (there k less).0;
      line = (there k less).1.valid;
      policy = is.policy k;
      no_timer = λ e. absurd (omega (arith, less, ltb-false k (count b) e));
      no_line = λ e. absurd (omega (arith, less, ltb-false k (count b) e));
    }
    | inr more ↦ subst (λ (a : Apic). IsPlaceOf (ltb k (count b)) a.0 a.1) (sym (is.absent k more)) (empty k more)
  ]

  few-due : (k : ℕ) → (get_or (apic_pairs b) k no_apic).1.counts.due ≤ now_of b + b.accesses
  few-due k = elim (cases_lt k (count b)) [
    | inl less ↦ (there k less).1.due
    | inr more ↦ subst (λ (a : Apic). a.1.counts.due ≤ now_of b + b.accesses) (sym (is.absent k more)) (omega arith)
  ]

  pub apics-valid : AreApics b.format b.cpus (now_of b + b.accesses) (apics_in b)
  apics-valid = record {
    places = record {
      timers = is.timers;
      lines = is.lines;
      place = λ k less. subst (λ (a : Apic). IsPlaceOf (ltb k (count b)) a.0 a.1) (read-at k) (valid-place k);
    };
    due = λ k less. subst (λ (a : Apic). a.1.counts.due ≤ now_of b + b.accesses) (read-at k) (few-due k);
  }
