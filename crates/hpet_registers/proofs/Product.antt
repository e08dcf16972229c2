-- The pulses of the HPET part by part: what stays, the status, the counter and the timers, each timer's matches.
use Rattle.std.proofs.Common.{◌≡◌, ℕ, zero, suc, ◌+◌, ◌-◌, ◌^◌, ◌<◌, ◌≤◌, Bool, true, false, cond, ◌&&◌, ◌||◌, ltb, List, [], ◌∷◌, map, get_or, Option, Some}
use Rattle.std.proofs.Common.{None, refl, ap, sym, subst, ◌∙◌, arith}
use Rattle.std.proofs.Math.ListN.{get_or-map}
use Rattle.std.proofs.lemmas.Bool.{lt-ltb, le-ltb}
use Rattle.clk_units.specs.Bits.{bit}
use Rattle.clk_units.specs.Events.{CountsUp, IsFirst}
use Rattle.clk_units.proofs.Events.{CountsUp-by_test}
use Rattle.hpet_comparator.specs.Counter.{counter_after}
use Rattle.hpet_comparator.proofs.Counting.{counter_after-zero, counter_after-suc}
use Rattle.hpet_comparator.specs.declared.parts.TimerParts.{TimerParts}
use Rattle.hpet_comparator.specs.Parts.{is_level, is_enabled}
use Rattle.hpet_comparator.specs.Stretch.{matches_at, pulsed, pulsed_times, matches_in}
use Rattle.hpet_comparator.proofs.Steps.{config-pulsed}
use Rattle.hpet_registers.specs.declared.parts.HpetParts.{HpetParts}
use Rattle.hpet_registers.specs.Parts.{no_timer, timer_at, message_bit_at, message_word_at, is_running, is_legacy}
use Rattle.hpet_registers.specs.Stretch.{with_bits, matches_next, hpet_pulsed, hpet_pulsed_times, matches_of}
use Rattle.hpet_registers.proofs.Bits.{with_bits-same, with_bits-none, with_bits-twice, bit-with_bits}
use Rattle.hpet_registers.proofs.Conditions.{get_or-pulsed, pulsed_times-no_timer}

-- two stretches are one
pub hpet_pulsed_times-add : (m n : ℕ) (h : HpetParts) → hpet_pulsed_times (m + n) h ≡ hpet_pulsed_times n (hpet_pulsed_times m h)
hpet_pulsed_times-add m zero h = let e : m + 0 ≡ m = omega arith in ap (λ (x : ℕ). hpet_pulsed_times x h) e
hpet_pulsed_times-add m (suc n) h =
    let e : m + suc n ≡ suc (m + n) = omega arith in
    ap (λ (x : ℕ). hpet_pulsed_times x h) e ∙ ap hpet_pulsed (hpet_pulsed_times-add m n h)

-- pulses change the counter, the status and the timers, and nothing else
pub kept-hpet_pulsed_times : (n : ℕ) (h : HpetParts)
    → hpet_pulsed_times n h
    ≡ record h { counter = (hpet_pulsed_times n h).counter; status = (hpet_pulsed_times n h).status; timer = (hpet_pulsed_times n h).timer }
unfolding hpet_pulsed
kept-hpet_pulsed_times zero h = refl
kept-hpet_pulsed_times (suc n) h =
    let next : HpetParts = hpet_pulsed (hpet_pulsed_times n h) in
    ap (λ (s : HpetParts). record s { counter = next.counter; status = next.status; timer = next.timer }) (kept-hpet_pulsed_times n h)

pub config-hpet_pulsed_times : (n : ℕ) (h : HpetParts) → (hpet_pulsed_times n h).config ≡ h.config
config-hpet_pulsed_times n h = ap (λ (s : HpetParts). s.config) (kept-hpet_pulsed_times n h)

pub is_running-hpet_pulsed_times : (n : ℕ) (h : HpetParts) → is_running (hpet_pulsed_times n h) ≡ is_running h
is_running-hpet_pulsed_times n h = ap (bit 0) (config-hpet_pulsed_times n h)

pub is_legacy-hpet_pulsed_times : (n : ℕ) (h : HpetParts) → is_legacy (hpet_pulsed_times n h) ≡ is_legacy h
is_legacy-hpet_pulsed_times n h = ap (bit 1) (config-hpet_pulsed_times n h)

pub timers-hpet_pulsed_times : (n : ℕ) (h : HpetParts) → (hpet_pulsed_times n h).timers ≡ h.timers
timers-hpet_pulsed_times n h = ap (λ (s : HpetParts). s.timers) (kept-hpet_pulsed_times n h)

pub message_bit_at-hpet_pulsed_times : (k n : ℕ) (h : HpetParts) → message_bit_at k (hpet_pulsed_times n h) ≡ message_bit_at k h
message_bit_at-hpet_pulsed_times k n h = ap (λ (s : HpetParts). message_bit_at k s) (kept-hpet_pulsed_times n h)

pub message_word_at-hpet_pulsed_times : (k n : ℕ) (h : HpetParts) → message_word_at k (hpet_pulsed_times n h) ≡ message_word_at k h
message_word_at-hpet_pulsed_times k n h = ap (λ (s : HpetParts). message_word_at k s) (kept-hpet_pulsed_times n h)

-- a timer's configuration and its period stay
timer-config : (k n : ℕ) (h : HpetParts) → (timer_at k (hpet_pulsed_times n h)).config ≡ (timer_at k h).config
unfolding hpet_pulsed
timer-config k zero h = refl
timer-config k (suc n) h = stays (is_running (hpet_pulsed_times n h)) (counter_after (hpet_pulsed_times n h).counter 1) (hpet_pulsed_times n h).timer
    ∙ timer-config k n h
  where
    stays : (b : Bool) (c : ℕ) (ts : List TimerParts) → (get_or (cond b (map (pulsed c) ts) ts) k no_timer).config ≡ (get_or ts k no_timer).config
    stays true c ts = ap (λ (t : TimerParts). t.config) (get_or-pulsed c k ts) ∙ config-pulsed c (get_or ts k no_timer)
    stays false c ts = refl

pub timer_config-hpet_pulsed_times : (k n : ℕ) (h : HpetParts) → (timer_at k (hpet_pulsed_times n h)).config ≡ (timer_at k h).config
timer_config-hpet_pulsed_times k n h = timer-config k n h

-- and what they say
pub is_level-hpet_pulsed_times : (k n : ℕ) (h : HpetParts) → is_level (timer_at k (hpet_pulsed_times n h)) ≡ is_level (timer_at k h)
is_level-hpet_pulsed_times k n h = ap (bit 1) (timer-config k n h)

pub is_enabled-hpet_pulsed_times : (k n : ℕ) (h : HpetParts) → is_enabled (timer_at k (hpet_pulsed_times n h)) ≡ is_enabled (timer_at k h)
is_enabled-hpet_pulsed_times k n h = ap (bit 2) (timer-config k n h)

-- a status bit is raised by this pulse or was by those before
raised-suc : (b l : Bool) (m : ℕ) → ((b && l) || (ltb 0 m && l)) ≡ (ltb 0 (cond b (suc m) m) && l)
raised-suc false l m = refl
raised-suc true true m = sym (ap (λ (b : Bool). b && true) (lt-ltb 0 (suc m) (omega arith)))
raised-suc true false m = both-false (ltb 0 m) (ltb 0 (suc m))
  where
    both-false : (x y : Bool) → (x && false) ≡ (y && false)
    both-false true true = refl
    both-false true false = refl
    both-false false true = refl
    both-false false false = refl

-- the status after n pulses: the bits of the level timers that matched are set
pub status-hpet_pulsed_times : (n : ℕ) (h : HpetParts)
    → (hpet_pulsed_times n h).status ≡ with_bits (λ k. ltb 0 (matches_of k h n) && is_level (timer_at k h)) 8 h.status
unfolding hpet_pulsed
status-hpet_pulsed_times zero h = sym (with_bits-none (λ k. ltb 0 0 && is_level (timer_at k h)) 8 h.status (λ k. refl))
status-hpet_pulsed_times (suc n) h =
    let s : HpetParts = hpet_pulsed_times n h in
    let now : ℕ → Bool = λ k. matches_next k s && is_level (timer_at k h) in
    let before : ℕ → Bool = λ k. ltb 0 (matches_of k h n) && is_level (timer_at k h) in
    with_bits-same (λ k. matches_next k s && is_level (timer_at k s)) now 8 s.status
    (λ k small. ap (λ (b : Bool). matches_next k s && b) (is_level-hpet_pulsed_times k n h))
    ∙ (ap (with_bits now 8) (status-hpet_pulsed_times n h)
    ∙ (with_bits-twice now before 8 h.status
    ∙ with_bits-same (λ k. now k || before k) (λ k. ltb 0 (matches_of k h (suc n)) && is_level (timer_at k h)) 8 h.status
    (λ k small. raised-suc (matches_next k s) (is_level (timer_at k h)) (matches_of k h n))))

pub status_bit-hpet_pulsed_times : (k n : ℕ) (h : HpetParts) → k < 8
    → bit k (hpet_pulsed_times n h).status ≡ (bit k h.status || (ltb 0 (matches_of k h n) && is_level (timer_at k h)))
status_bit-hpet_pulsed_times k n h small =
    ap (bit k) (status-hpet_pulsed_times n h) ∙ bit-with_bits (λ j. ltb 0 (matches_of j h n) && is_level (timer_at j h)) 8 h.status k small

-- a timer's matches count up
pub CountsUp-matches_of : (k : ℕ) (h : HpetParts) → CountsUp (matches_of k h)
CountsUp-matches_of k h = CountsUp-by_test (matches_of k h) (λ n. matches_next k (hpet_pulsed_times n h)) refl (λ n. refl)

-- equal counters, statuses and timers
pub same_fields : (h : HpetParts) {c d s r : ℕ} {ts us : List TimerParts} → c ≡ d → s ≡ r → ts ≡ us
    → record h { counter = c; status = s; timer = ts } ≡ record h { counter = d; status = r; timer = us }
same_fields h {c} {d} {s} {r} {ts} {us} e f g =
    ap (λ (x : ℕ). record h { counter = x; status = s; timer = ts }) e
    ∙ (ap (λ (x : ℕ). record h { counter = d; status = x; timer = ts }) f
    ∙ ap (λ (x : List TimerParts). record h { counter = d; status = r; timer = x }) g)

-- a timer that isn't there has no match
pub matches_next-absent : (k n : ℕ) (h : HpetParts) → h.timers ≤ k → matches_next k (hpet_pulsed_times n h) ≡ false
unfolding matches_next
matches_next-absent k n h past =
    let s : HpetParts = hpet_pulsed_times n h in
    ap (λ (b : Bool). b && (is_running s && matches_at (counter_after s.counter 1) (timer_at k s))) (ap (ltb k) (timers-hpet_pulsed_times n h)
    ∙ le-ltb k h.timers past)

pub matches_of-absent : (k n : ℕ) (h : HpetParts) → h.timers ≤ k → matches_of k h n ≡ 0
matches_of-absent k zero h past = refl
matches_of-absent k (suc n) h past =
    ap (λ (b : Bool). cond b (suc (matches_of k h n)) (matches_of k h n)) (matches_next-absent k n h past) ∙ matches_of-absent k n h past

-- where the counter is halted there are no matches, and all stays
and-false : (a b : Bool) → b ≡ false → (a && b) ≡ false
and-false true b e = e
and-false false b e = refl

pub matches_next-standing : (k : ℕ) (h : HpetParts) → is_running h ≡ false → matches_next k h ≡ false
unfolding matches_next
matches_next-standing k h still =
    and-false (ltb k h.timers) (is_running h && matches_at (counter_after h.counter 1) (timer_at k h))
    (ap (λ (b : Bool). b && matches_at (counter_after h.counter 1) (timer_at k h)) still)

standing : (h : HpetParts) → is_running h ≡ false → hpet_pulsed h ≡ h
unfolding hpet_pulsed
standing h still = same_fields h
    (ap (λ (b : Bool). cond b (counter_after h.counter 1) h.counter) still)
    (with_bits-none (λ k. matches_next k h && is_level (timer_at k h)) 8 h.status
    (λ k. ap (λ (b : Bool). b && is_level (timer_at k h)) (matches_next-standing k h still)))
    (ap (λ (b : Bool). cond b (map (pulsed (counter_after h.counter 1)) h.timer) h.timer) still)

pub hpet_pulsed_times-standing : (n : ℕ) (h : HpetParts) → is_running h ≡ false → hpet_pulsed_times n h ≡ h
hpet_pulsed_times-standing zero h still = refl
hpet_pulsed_times-standing (suc n) h still = ap hpet_pulsed (hpet_pulsed_times-standing n h still) ∙ standing h still

pub matches_of-standing : (k n : ℕ) (h : HpetParts) → is_running h ≡ false → matches_of k h n ≡ 0
matches_of-standing k zero h still = refl
matches_of-standing k (suc n) h still =
    ap (λ (b : Bool). cond b (suc (matches_of k h n)) (matches_of k h n)) (ap (matches_next k) (hpet_pulsed_times-standing n h still)
    ∙ matches_next-standing k h still)
    ∙ matches_of-standing k n h still

-- where it runs, the counter goes on and every timer sees it
pub counter-hpet_pulsed_times : (n : ℕ) (h : HpetParts) → is_running h ≡ true → h.counter < 2 ^ 64 → (hpet_pulsed_times n h).counter ≡ counter_after h.counter n
unfolding hpet_pulsed
counter-hpet_pulsed_times zero h runs fits = sym (counter_after-zero h.counter fits)
counter-hpet_pulsed_times (suc n) h runs fits =
    let s : HpetParts = hpet_pulsed_times n h in
    ap (λ (b : Bool). cond b (counter_after s.counter 1) s.counter) (is_running-hpet_pulsed_times n h ∙ runs)
    ∙ (ap (λ (c : ℕ). counter_after c 1) (counter-hpet_pulsed_times n h runs fits) ∙ sym (counter_after-suc h.counter n))

map-none : (c : ℕ) (ts : List TimerParts) → map (pulsed_times c 0) ts ≡ ts
map-none c [] = refl
map-none c (t ∷ ts) = ap (λ (us : List TimerParts). t ∷ us) (map-none c ts)

map-suc : (c n : ℕ) (ts : List TimerParts) → map (pulsed (counter_after c (suc n))) (map (pulsed_times c n) ts) ≡ map (pulsed_times c (suc n)) ts
map-suc c n [] = refl
map-suc c n (t ∷ ts) = ap (λ (us : List TimerParts). pulsed (counter_after c (suc n)) (pulsed_times c n t) ∷ us) (map-suc c n ts)

pub timer-hpet_pulsed_times : (n : ℕ) (h : HpetParts) → is_running h ≡ true → h.counter < 2 ^ 64
    → (hpet_pulsed_times n h).timer ≡ map (pulsed_times h.counter n) h.timer
unfolding hpet_pulsed
timer-hpet_pulsed_times zero h runs fits = sym (map-none h.counter h.timer)
timer-hpet_pulsed_times (suc n) h runs fits =
    let s : HpetParts = hpet_pulsed_times n h in
    ap (λ (b : Bool). cond b (map (pulsed (counter_after s.counter 1)) s.timer) s.timer) (is_running-hpet_pulsed_times n h ∙ runs)
    ∙ (ap (λ (c : ℕ). map (pulsed (counter_after c 1)) s.timer) (counter-hpet_pulsed_times n h runs fits)
    ∙ (ap (map (pulsed (counter_after (counter_after h.counter n) 1))) (timer-hpet_pulsed_times n h runs fits)
    ∙ (ap (λ (c : ℕ). map (pulsed c) (map (pulsed_times h.counter n) h.timer)) (sym (counter_after-suc h.counter n))
    ∙ map-suc h.counter n h.timer)))

-- timer k among those that pulses made
pub get_or-pulsed_times : (c m k : ℕ) (ts : List TimerParts) → get_or (map (pulsed_times c m) ts) k no_timer ≡ pulsed_times c m (get_or ts k no_timer)
get_or-pulsed_times c m k ts = ap (get_or (map (pulsed_times c m) ts) k) (sym (pulsed_times-no_timer c m)) ∙ get_or-map (pulsed_times c m) ts k no_timer

pub timer_at-hpet_pulsed_times : (k n : ℕ) (h : HpetParts) → is_running h ≡ true → h.counter < 2 ^ 64
    → timer_at k (hpet_pulsed_times n h) ≡ pulsed_times h.counter n (timer_at k h)
timer_at-hpet_pulsed_times k n h runs fits = ap (λ (ts : List TimerParts). get_or ts k no_timer) (timer-hpet_pulsed_times n h runs fits)
    ∙ get_or-pulsed_times h.counter n k h.timer

-- the test of the next pulse, seen from the start
pub matches_next-hpet_pulsed_times : (k n : ℕ) (h : HpetParts) → is_running h ≡ true → h.counter < 2 ^ 64 → k < h.timers
    → matches_next k (hpet_pulsed_times n h) ≡ matches_at (counter_after h.counter (suc n)) (pulsed_times h.counter n (timer_at k h))
unfolding matches_next
matches_next-hpet_pulsed_times k n h runs fits inside =
    let s : HpetParts = hpet_pulsed_times n h in
    ap (λ (b : Bool). b && (is_running s && matches_at (counter_after s.counter 1) (timer_at k s))) (ap (ltb k) (timers-hpet_pulsed_times n h)
    ∙ lt-ltb k h.timers inside)
    ∙ (ap (λ (b : Bool). b && matches_at (counter_after s.counter 1) (timer_at k s)) (is_running-hpet_pulsed_times n h ∙ runs)
    ∙ (ap (λ (c : ℕ). matches_at (counter_after c 1) (timer_at k s)) (counter-hpet_pulsed_times n h runs fits)
    ∙ (ap (λ (c : ℕ). matches_at c (timer_at k s)) (sym (counter_after-suc h.counter n))
    ∙ ap (matches_at (counter_after h.counter (suc n))) (timer_at-hpet_pulsed_times k n h runs fits))))

-- the matches of timer k are its own
pub matches_of-running : (k n : ℕ) (h : HpetParts) → is_running h ≡ true → h.counter < 2 ^ 64 → k < h.timers
    → matches_of k h n ≡ matches_in h.counter (timer_at k h) n
matches_of-running k zero h runs fits inside = refl
matches_of-running k (suc n) h runs fits inside =
    ap (λ (b : Bool). cond b (suc (matches_of k h n)) (matches_of k h n)) (matches_next-hpet_pulsed_times k n h runs fits inside)
    ∙ ap (λ (m : ℕ). cond (matches_at (counter_after h.counter (suc n)) (pulsed_times h.counter n (timer_at k h))) (suc m) m)
    (matches_of-running k n h runs fits inside)

-- all of them, or none where the counter is halted
pub matches_of-seen : (k n : ℕ) (h : HpetParts) → h.counter < 2 ^ 64 → k < h.timers
    → matches_of k h n ≡ matches_in h.counter (timer_at k h) (cond (is_running h) n 0)
matches_of-seen k n h fits inside = by_test (is_running h) refl
  where
    by_test : (b : Bool) → is_running h ≡ b → matches_of k h n ≡ matches_in h.counter (timer_at k h) (cond b n 0)
    by_test true runs = matches_of-running k n h runs fits inside
    by_test false still = matches_of-standing k n h still

-- equal counts have one first
IsFirst-same : (f g : ℕ → ℕ) → ((j : ℕ) → f j ≡ g j) → (n : ℕ) (first : Option ℕ) → IsFirst f n first → IsFirst g n first
IsFirst-same f g e n None h = sym (e n) ∙ h
IsFirst-same f g e n (Some k) h = (h.0, h.1, sym (e (k - 1)) ∙ h.2, subst (λ (x : ℕ). 0 < x) (e k) h.3)

pub IsFirst-running : (k n : ℕ) (h : HpetParts) (first : Option ℕ) → is_running h ≡ true → h.counter < 2 ^ 64 → k < h.timers
    → IsFirst (matches_in h.counter (timer_at k h)) n first → IsFirst (matches_of k h) n first
IsFirst-running k n h first runs fits inside = IsFirst-same (matches_in h.counter (timer_at k h)) (matches_of k h)
    (λ j. sym (matches_of-running k j h runs fits inside)) n first
