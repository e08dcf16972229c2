-- The loop over the timers, and the status that it leaves.
use Rattle.std.proofs.Common.{◌≡◌, ℕ, zero, suc, ◌+◌, ◌^◌, ◌<◌, ◌≤◌, Bool, true, false, cond, ◌&&◌, ltb, List, [], ◌∷◌, map, length, get_or, bit_or, refl, ap}
use Rattle.std.proofs.Common.{sym, subst, ◌∙◌, ◌⊎◌, inl, inr, arith}
use Rattle.std.proofs.Math.ListN.{set, length-set}
use Rattle.std.proofs.lemmas.Bool.{cases_eq, cases_lt}
use Rattle.std.proofs.lemmas.List.{get_or-set_same, get_or-set_other, ext_get_or, length-map, set-get_or}
use Rattle.hpet_comparator.specs.Counter.{counter_after}
use Rattle.hpet_comparator.specs.declared.parts.TimerParts.{TimerParts}
use Rattle.hpet_comparator.specs.declared.stretch.Matches.{Matches}
use Rattle.hpet_comparator.specs.Parts.{is_level}
use Rattle.hpet_comparator.specs.Stretch.{pulsed_times, matches_in}
use Rattle.hpet_registers.specs.declared.parts.HpetParts.{HpetParts}
use Rattle.hpet_registers.specs.Parts.{no_timer, timer_at, IsHpet, is_running}
use Rattle.hpet_registers.specs.Stretch.{with_bits, hpet_pulsed_times, matches_of, no_matches, timer_matches}
use Rattle.hpet_registers.specs.private.Matches.{AreMatches}
use Rattle.hpet_registers.proofs.Bits.{with_bits-same}
use Rattle.hpet_registers.proofs.Conditions.{pulsed_times-no_timer}
use Rattle.hpet_registers.proofs.After.{timer_at-absent}
use Rattle.hpet_registers.proofs.Product.{same_fields, kept-hpet_pulsed_times, counter-hpet_pulsed_times, timer-hpet_pulsed_times, status-hpet_pulsed_times}
use Rattle.hpet_registers.proofs.Product.{matches_of-running, matches_of-absent, get_or-pulsed_times}

-- what holds of each place below i, and of place i that is set, holds of each below i + 1
pub set-more : {A : Type 0} (P : ℕ → A → Type 0) (l : List A) (i : ℕ) (x d : A) → i < length l → ((j : ℕ) → j < i → P j (get_or l j d)) → P i x → (j : ℕ)
    → j < i + 1 → P j (get_or (set l i x) j d)
set-more {A} P l i x d inside before here j less = elim (cases_eq j i) [
  | inl same ↦ subst (λ (y : A). P j y) (sym (ap (λ (k : ℕ). get_or (set l i x) k d) same ∙ get_or-set_same l i x d inside))
      (subst (λ (k : ℕ). P k x) (sym same) here)
  | inr other ↦ subst (λ (y : A). P j y) (sym (get_or-set_other l i j x d other)) (before j (below j i less other))
]
  where
    below : (j i : ℕ) → j < i + 1 → (j ≡ i → ⊥) → j < i
    below j i h apart = omega arith

-- a place after the one that is set is as it was
pub set-after : {A : Type 0} (l : List A) (i j : ℕ) (x d : A) → i + 1 ≤ j → get_or (set l i x) j d ≡ get_or l j d
set-after l i j x d past = get_or-set_other l i j x d (apart i j past)
  where
    apart : (i j : ℕ) → i + 1 ≤ j → j ≡ i → ⊥
    apart i j h e = omega arith

-- all places are pulsed where those of the timers are
pub all-pulsed : (c n : ℕ) (h : HpetParts) (us : List TimerParts) → IsHpet h → length h.timer ≡ 8 → length us ≡ 8
    → ((k : ℕ) → k < h.timers → get_or us k no_timer ≡ pulsed_times c n (timer_at k h)) → ((k : ℕ) → h.timers ≤ k → get_or us k no_timer ≡ timer_at k h)
    → us ≡ map (pulsed_times c n) h.timer
all-pulsed c n h us valid long size here behind =
    ext_get_or no_timer us (map (pulsed_times c n) h.timer) (size
    ∙ sym (length-map h.timer (pulsed_times c n) ∙ long)) (λ k small. place k (omega (arith, size, small)) ∙ sym (get_or-pulsed_times c n k h.timer))
  where
    place : (k : ℕ) → k < 8 → get_or us k no_timer ≡ pulsed_times c n (timer_at k h)
    place k small = elim (cases_lt k h.timers) [
      | inl inside ↦ here k inside
      | inr past ↦ behind k past
          ∙ (timer_at-absent k h valid small past ∙ (sym (pulsed_times-no_timer c n) ∙ ap (pulsed_times c n) (sym (timer_at-absent k h valid small past))))
    ]

-- the bits from the last timer on aren't raised
pub with_bits-timers : (p q : ℕ → Bool) (h : HpetParts) → IsHpet h → ((k : ℕ) → k < h.timers → p k ≡ q k) → ((k : ℕ) → h.timers ≤ k → q k ≡ false)
    → with_bits p h.timers h.status ≡ with_bits q 8 h.status
with_bits-timers p q h valid same none = split valid.timers
  where
    few : (n : ℕ) → h.timers ≤ n → with_bits q n h.status ≡ with_bits q (suc n) h.status
    few n past = sym (ap (λ (b : Bool). cond b (bit_or (with_bits q n h.status) (2 ^ n)) (with_bits q n h.status)) (none n past))

    split : (h.timers ≡ 3) ⊎ (h.timers ≡ 8) → with_bits p h.timers h.status ≡ with_bits q 8 h.status
    split (inl three) =
        with_bits-same p q h.timers h.status same
        ∙ (ap (λ (m : ℕ). with_bits q m h.status) three
        ∙ (few 3 (omega arith) ∙ (few 4 (omega arith) ∙ (few 5 (omega arith) ∙ (few 6 (omega arith) ∙ few 7 (omega arith))))))
    split (inr eight) = with_bits-same p q h.timers h.status same ∙ ap (λ (m : ℕ). with_bits q m h.status) eight

-- counter, timers and status together are the HPET after n pulses
pub stretched : (n : ℕ) (h : HpetParts) → IsHpet h → is_running h ≡ true → h.counter < 2 ^ 64
    → record h {
      counter = counter_after h.counter n;
      status = with_bits (λ j. ltb 0 (matches_in h.counter (timer_at j h) n) && is_level (timer_at j h)) h.timers h.status;
      timer = map (pulsed_times h.counter n) h.timer;
    } ≡ hpet_pulsed_times n h
stretched n h valid runs fits =
    same_fields h (sym (counter-hpet_pulsed_times n h runs fits)) (raised ∙ sym (status-hpet_pulsed_times n h)) (sym (timer-hpet_pulsed_times n h runs fits))
    ∙ sym (kept-hpet_pulsed_times n h)
  where
    raised : with_bits (λ j. ltb 0 (matches_in h.counter (timer_at j h) n) && is_level (timer_at j h)) h.timers h.status
        ≡ with_bits (λ k. ltb 0 (matches_of k h n) && is_level (timer_at k h)) 8 h.status
    raised = with_bits-timers (λ j. ltb 0 (matches_in h.counter (timer_at j h) n) && is_level (timer_at j h))
        (λ k. ltb 0 (matches_of k h n) && is_level (timer_at k h)) h valid
        (λ k inside. ap (λ (m : ℕ). ltb 0 m && is_level (timer_at k h)) (sym (matches_of-running k n h runs fits inside)))
        (λ k past. ap (λ (m : ℕ). ltb 0 m && is_level (timer_at k h)) (matches_of-absent k n h past))

-- the timers below k of an HPET that was h are after n pulses, and these are their matches
pub record ArePulsed (h : HpetParts) (n k : ℕ) (p : HpetParts) (ms : List Matches) : Type 0 where
  pub state : p ≡ record h { timer = p.timer; status = with_bits (λ j. ltb 0 (matches_in h.counter (timer_at j h) n) && is_level (timer_at j h)) k h.status }
  pub long : length h.timer ≡ 8
  pub size : length p.timer ≡ 8
  pub places : length ms ≡ 8
  pub here : (j : ℕ) → j < k → get_or p.timer j no_timer ≡ pulsed_times h.counter n (timer_at j h)
  pub ahead : (j : ℕ) → k ≤ j → get_or p.timer j no_timer ≡ timer_at j h
  pub matches : (j : ℕ) → j < k → AreMatches h.counter n (timer_at j h) (get_or ms j no_matches)
  pub none : (j : ℕ) → k ≤ j → get_or ms j no_matches ≡ no_matches

-- one timer more
pub ArePulsed-more : (h : HpetParts) (n k : ℕ) (p q : HpetParts) (ms : List Matches) (m : Matches) → ArePulsed h n k p ms → k < 8
    → q ≡ record p {
      timer = set p.timer k (pulsed_times p.counter n (timer_at k p));
      status = cond (ltb 0 m.count && is_level (timer_at k p))
          (bit_or p.status (2 ^ k)) p.status;
    }
    → AreMatches p.counter n (timer_at k p) m → ArePulsed h n (k + 1) q (set ms k m)
ArePulsed-more h n k p q ms m known small next found = record {
  state =
      next ∙ (ap (λ (x : HpetParts). record x { timer = moved; status = status }) known.state
      ∙ (ap (λ (ts : List TimerParts). record h { timer = ts; status = status }) (sym timers)
      ∙ ap (λ (s : ℕ). record h { timer = q.timer; status = s }) raised));
  long = known.long;
  size = ap length timers ∙ (length-set p.timer k (pulsed_times p.counter n (timer_at k p)) ∙ known.size);
  places = length-set ms k m ∙ known.places;
  here = λ j less. ap (λ (ts : List TimerParts). get_or ts j no_timer) timers
      ∙ set-more (λ i t. t ≡ pulsed_times h.counter n (timer_at i h)) p.timer k (pulsed_times p.counter n (timer_at k p)) no_timer
      (omega (arith, known.size)) known.here pulsed_here j less;
  ahead = λ j past. ap (λ (ts : List TimerParts). get_or ts j no_timer) timers
      ∙ (set-after p.timer k j (pulsed_times p.counter n (timer_at k p)) no_timer past ∙ known.ahead j (omega arith));
  matches = set-more (λ i x. AreMatches h.counter n (timer_at i h) x) ms k m no_matches (omega (arith, known.places)) known.matches found_here;
  none = λ j past. set-after ms k j m no_matches past ∙ known.none j (omega arith);
}
  where
    moved : List TimerParts
    moved = set p.timer k (pulsed_times p.counter n (timer_at k p))

    test : ℕ → Bool
    test j = ltb 0 (matches_in h.counter (timer_at j h) n) && is_level (timer_at j h)

    status : ℕ
    status = cond (ltb 0 m.count && is_level (timer_at k p)) (bit_or p.status (2 ^ k)) p.status

    timers : q.timer ≡ moved
    timers = ap (λ (x : HpetParts). x.timer) next

    counter : p.counter ≡ h.counter
    counter = ap (λ (x : HpetParts). x.counter) known.state

    timer : timer_at k p ≡ timer_at k h
    timer = known.ahead k (omega arith)

    pulsed_here : pulsed_times p.counter n (timer_at k p) ≡ pulsed_times h.counter n (timer_at k h)
    pulsed_here = ap (λ (c : ℕ). pulsed_times c n (timer_at k p)) counter ∙ ap (pulsed_times h.counter n) timer

    found_here : AreMatches h.counter n (timer_at k h) m
    found_here = subst (λ (t : TimerParts). AreMatches h.counter n t m) timer (subst (λ (c : ℕ). AreMatches c n (timer_at k p) m) counter found)

    before : p.status ≡ with_bits test k h.status
    before = ap (λ (x : HpetParts). x.status) known.state

    raised : status ≡ with_bits test (k + 1) h.status
    raised =
        let e : k + 1 ≡ suc k = omega arith in
        ap (λ (x : ℕ). cond (ltb 0 x && is_level (timer_at k p)) (bit_or p.status (2 ^ k)) p.status) found_here.count
        ∙ (ap (λ (t : TimerParts). cond (ltb 0 (matches_in h.counter (timer_at k h) n) && is_level t) (bit_or p.status (2 ^ k)) p.status) timer
        ∙ (ap (λ (s : ℕ). cond (test k) (bit_or s (2 ^ k)) s) before ∙ ap (λ (i : ℕ). with_bits test i h.status) (sym e)))

-- all timers
pub ArePulsed-all : (h : HpetParts) (n k : ℕ) (p : HpetParts) (ms : List Matches) → IsHpet h → ArePulsed h n k p ms → k ≡ h.timers
    → p ≡ record h {
      timer = map (pulsed_times h.counter n) h.timer;
      status = with_bits
          (λ j. ltb 0 (matches_in h.counter (timer_at j h) n) && is_level (timer_at j h)) h.timers h.status;
    }
ArePulsed-all h n k p ms valid known last =
    known.state
    ∙ (ap (λ (ts : List TimerParts). record h {
      timer = ts;
      status = with_bits
          (λ j. ltb 0 (matches_in h.counter (timer_at j h) n) && is_level (timer_at j h)) k h.status;
    })
    (all-pulsed h.counter n h p.timer valid known.long known.size (λ j less. known.here j (omega arith)) (λ j past. known.ahead j (omega arith)))
    ∙ ap (λ (i : ℕ). record h {
      timer = map (pulsed_times h.counter n) h.timer;
      status = with_bits
          (λ j. ltb 0 (matches_in h.counter (timer_at j h) n) && is_level (timer_at j h)) i h.status;
    }) last)

-- eight times no matches
pub timer_matches-none : (k : ℕ)
    → timer_matches (no_matches ∷ no_matches ∷ no_matches ∷ no_matches ∷ no_matches ∷ no_matches ∷ no_matches ∷ no_matches ∷ []) k ≡ no_matches
timer_matches-none zero = refl
timer_matches-none (suc zero) = refl
timer_matches-none (suc (suc zero)) = refl
timer_matches-none (suc (suc (suc zero))) = refl
timer_matches-none (suc (suc (suc (suc zero)))) = refl
timer_matches-none (suc (suc (suc (suc (suc zero))))) = refl
timer_matches-none (suc (suc (suc (suc (suc (suc zero)))))) = refl
timer_matches-none (suc (suc (suc (suc (suc (suc (suc zero))))))) = refl
timer_matches-none (suc (suc (suc (suc (suc (suc (suc (suc k)))))))) = refl

-- a timer without a match leaves all as it was
pub unmatched : (h : HpetParts) (k count : ℕ) (moved : TimerParts) → count ≡ 0 → moved ≡ timer_at k h
    → h ≡ record h { timer = set h.timer k moved; status = cond (ltb 0 count && is_level (timer_at k h)) (bit_or h.status (2 ^ k)) h.status }
unmatched h k count moved none still = sym (
    ap (λ (t : TimerParts). record h { timer = set h.timer k t; status = cond (ltb 0 count && is_level (timer_at k h)) (bit_or h.status (2 ^ k)) h.status })
    still
    ∙ (ap (λ (ts : List TimerParts). record h { timer = ts; status = cond (ltb 0 count && is_level (timer_at k h)) (bit_or h.status (2 ^ k)) h.status })
    (set-get_or h.timer k no_timer)
    ∙ ap (λ (m : ℕ). record h { status = cond (ltb 0 m && is_level (timer_at k h)) (bit_or h.status (2 ^ k)) h.status }) none))
