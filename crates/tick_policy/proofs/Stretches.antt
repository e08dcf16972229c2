-- A tick line over a stretch of nanoseconds: what it is after each of them, and when it goes up.
use Rattle.std.proofs.Common.{◌≡◌, ℕ, zero, suc, ◌+◌, ◌-◌, ◌*◌, ◌/◌, ◌%◌, ◌<◌, ◌≤◌, ◌↔◌, ◌⊎◌, Bool, true, false, cond, ltb, leb, eqb, ◌&&◌, ◌||◌, Option, Some}
use Rattle.std.proofs.Common.{None, refl, sym, ap, ◌∙◌, inl, inr, arith}
use Rattle.std.proofs.Math.Nat.{div-mul-le_self, lt-div-mul-add, mul-le-mul_left, mul-mod_left}
use Rattle.std.proofs.lemmas.Bool.{cases_lt, cases_Bool, lt-ltb, le-ltb, le-leb, lt-leb, eq-eqb, ne_eqb, false≢true}
use Rattle.clk_units.specs.Events.{CountsUp, IsFirst, first_at}
use Rattle.clk_units.specs.Pulses.{pulses_by, pulses_from, time_of}
use Rattle.clk_units.proofs.Events.{CountsUp-mono, first_tick, first_tick-none}
use Rattle.irq_edges.specs.Rises.{is_up_at}
use Rattle.tick_policy.specs.declared.parts.TickParts.{TickParts}
use Rattle.tick_policy.specs.Line.{ticked, ticked_times, is_waiting, caught_up}
use Rattle.tick_policy.specs.Stretch.{ticked_where, caught_up_where, line_after, IsFirstPoint, IsFirstTick, is_caught, line_end, up_from, IsStretch}
use Rattle.tick_policy.proofs.Ticks.{ticked_times-zero, ticked_times-suc, up-ticked_times, up-ticked_times-up, is_waiting-up, caught_up-still, caught_up-again}

-- no nanoseconds
pub line_after-zero : (ticks : ℕ → ℕ) (slew t : ℕ) (l : TickParts) → line_after ticks slew t 0 l ≡ l
unfolding line_after
line_after-zero ticks slew t l = refl

-- one nanosecond more
pub line_after-suc : (ticks : ℕ → ℕ) (slew t n : ℕ) (l : TickParts)
    → line_after ticks slew t (suc n) l
    ≡ caught_up_where (eqb ((t + n + 1) % slew) 0) (ticked_where (ltb (ticks n) (ticks (suc n))) (line_after ticks slew t n l))
unfolding line_after
line_after-suc ticks slew t n l = refl

-- a nanosecond in which the source's count grows has one tick
ticked_where-step : (a b : ℕ) (l : TickParts) → a ≤ b → b ≤ suc a → ticked_where (ltb a b) (ticked_times a l) ≡ ticked_times b l
ticked_where-step a b l low high = elim (cases_lt a b) [
  | inl more ↦
      let e : suc a ≡ b = omega arith in
      ap (λ (v : Bool). ticked_where v (ticked_times a l)) (lt-ltb a b more) ∙ sym (ticked_times-suc a l) ∙ ap (λ (k : ℕ). ticked_times k l) e
  | inr same ↦
      let e : a ≡ b = omega arith in
      ap (λ (v : Bool). ticked_where v (ticked_times a l)) (le-ltb a b same) ∙ ap (λ (k : ℕ). ticked_times k l) e
]

-- a catch-up point leaves a line that doesn't wait
caught_up_where-still : (b : Bool) (l : TickParts) → is_waiting l ≡ false → caught_up_where b l ≡ l
caught_up_where-still true l none = caught_up-still l none
caught_up_where-still false l none = refl

-- after a catch-up point another one finds nothing to do
caught_up_where-again : (b : Bool) (n : ℕ) (l : TickParts) → caught_up_where b (ticked_times n (caught_up l)) ≡ ticked_times n (caught_up l)
caught_up_where-again b zero l = rw (ticked_times-zero (caught_up l)) (again b)
  where
    again : (b : Bool) → caught_up_where b (caught_up l) ≡ caught_up l
    again true = caught_up-again l
    again false = refl
caught_up_where-again b (suc n) l =
    caught_up_where-still b (ticked_times (suc n) (caught_up l))
    (is_waiting-up (ticked_times (suc n) (caught_up l)) (up-ticked_times (suc n) (caught_up l) (omega arith)))

-- no catch-up point comes before the first
before_first : (slew t c n : ℕ) → IsFirstPoint slew t c → suc n < c → eqb ((t + n + 1) % slew) 0 ≡ false
before_first slew t c n point h =
    let place : t + n + 1 ≡ t + suc n = omega arith in
    ne_eqb ((t + n + 1) % slew) 0 (λ e. point.first (suc n) (omega arith) h (ap (λ (s : ℕ). s % slew) (sym place) ∙ e))

-- before the first catch-up point, and after it where a tick came first, the line has just had its ticks
pub line_after-early : (ticks : ℕ → ℕ) (slew t c n : ℕ) (l : TickParts) → CountsUp ticks → IsFirstPoint slew t c → (n < c) ⊎ (0 < ticks c)
    → line_after ticks slew t n l ≡ ticked_times (ticks n) l
line_after-early ticks slew t c zero l up point early =
    line_after-zero ticks slew t l ∙ sym (ticked_times-zero l) ∙ ap (λ (k : ℕ). ticked_times k l) (sym up.none)
line_after-early ticks slew t c (suc n) l up point early =
    let before : line_after ticks slew t n l ≡ ticked_times (ticks n) l = line_after-early ticks slew t c n l up point (sooner early) in
    line_after-suc ticks slew t n l
    ∙ ap (λ (k : TickParts). caught_up_where (eqb ((t + n + 1) % slew) 0) (ticked_where (ltb (ticks n) (ticks (suc n))) k)) before
    ∙ ap (caught_up_where (eqb ((t + n + 1) % slew) 0)) (ticked_where-step (ticks n) (ticks (suc n)) l (up.keeps n) (up.few n))
    ∙ rest early
  where
    sooner : (suc n < c) ⊎ (0 < ticks c) → (n < c) ⊎ (0 < ticks c)
    sooner (inl h) = inl (omega arith)
    sooner (inr h) = inr h

    rest : (suc n < c) ⊎ (0 < ticks c) → caught_up_where (eqb ((t + n + 1) % slew) 0) (ticked_times (ticks (suc n)) l) ≡ ticked_times (ticks (suc n)) l
    rest (inl h) = ap (λ (b : Bool). caught_up_where b (ticked_times (ticks (suc n)) l)) (before_first slew t c n point h)
    rest (inr h) = elim (cases_lt (suc n) c) [
      | inl still ↦ ap (λ (b : Bool). caught_up_where b (ticked_times (ticks (suc n)) l)) (before_first slew t c n point still)
      | inr later ↦
          let ticked : 0 < ticks (suc n) = omega (arith, CountsUp-mono ticks up c (suc n) later) in
          caught_up_where-still (eqb ((t + n + 1) % slew) 0) (ticked_times (ticks (suc n)) l)
          (is_waiting-up (ticked_times (ticks (suc n)) l) (up-ticked_times (ticks (suc n)) l ticked))
    ]

-- from the first catch-up point on, where no tick came before it, the line was caught up and has had its ticks
pub line_after-late : (ticks : ℕ → ℕ) (slew t c n : ℕ) (l : TickParts) → CountsUp ticks → IsFirstPoint slew t c → c ≤ n → ticks c ≡ 0
    → line_after ticks slew t n l ≡ ticked_times (ticks n) (caught_up l)
line_after-late ticks slew t c zero l up point h quiet = absurd (omega (arith, point.later))
line_after-late ticks slew t c (suc n) l up point h quiet = elim (cases_lt n c) [
  | inl at_point ↦
      let e : suc n ≡ c = omega arith in
      let place : t + n + 1 ≡ t + c = omega arith in
      let none : ticks (suc n) ≡ 0 = ap ticks e ∙ quiet in
      let test : eqb ((t + n + 1) % slew) 0 ≡ true = eq-eqb ((t + n + 1) % slew) 0 (ap (λ (s : ℕ). s % slew) place ∙ point.divides) in
      line_after-suc ticks slew t n l
      ∙ ap (λ (k : TickParts). caught_up_where (eqb ((t + n + 1) % slew) 0) (ticked_where (ltb (ticks n) (ticks (suc n))) k))
      (line_after-early ticks slew t c n l up point (inl at_point))
      ∙ ap (caught_up_where (eqb ((t + n + 1) % slew) 0)) (ticked_where-step (ticks n) (ticks (suc n)) l (up.keeps n) (up.few n))
      ∙ ap (λ (k : ℕ). caught_up_where (eqb ((t + n + 1) % slew) 0) (ticked_times k l)) none
      ∙ ap (λ (b : Bool). caught_up_where b (ticked_times 0 l)) test
      ∙ ap caught_up (ticked_times-zero l)
      ∙ sym (ticked_times-zero (caught_up l))
      ∙ ap (λ (k : ℕ). ticked_times k (caught_up l)) (sym none)
  | inr behind ↦
      line_after-suc ticks slew t n l
      ∙ ap (λ (k : TickParts). caught_up_where (eqb ((t + n + 1) % slew) 0) (ticked_where (ltb (ticks n) (ticks (suc n))) k))
      (line_after-late ticks slew t c n l up point behind quiet)
      ∙ ap (caught_up_where (eqb ((t + n + 1) % slew) 0)) (ticked_where-step (ticks n) (ticks (suc n)) (caught_up l) (up.keeps n) (up.few n))
      ∙ caught_up_where-again (eqb ((t + n + 1) % slew) 0) (ticks (suc n)) l
]

-- the first catch-up point comes in the stretch and before the first tick, or it doesn't
caught_cases : (ticks : ℕ → ℕ) (t c n : ℕ) (first : Option ℕ) → IsFirstTick ticks t n first
    → ((is_caught (t + c) (t + n) first ≡ true) × (c ≤ n) × (ticks c ≡ 0)) ⊎ ((is_caught (t + c) (t + n) first ≡ false) × ((n < c) ⊎ (0 < ticks c)))
caught_cases ticks t c n first is_first = elim (cases_lt n c) [
  | inl past ↦ inr (beyond first (lt-leb (t + c) (t + n) (omega arith)), inl past)
  | inr inside ↦ within first is_first inside (le-leb (t + c) (t + n) (omega arith))
]
  where
    beyond : (first : Option ℕ) → leb (t + c) (t + n) ≡ false → is_caught (t + c) (t + n) first ≡ false
    beyond None e = e
    beyond (Some at) e = ap (λ (b : Bool). b && ltb (t + c) at) e

    within : (first : Option ℕ) → IsFirstTick ticks t n first → c ≤ n → leb (t + c) (t + n) ≡ true
        → ((is_caught (t + c) (t + n) first ≡ true) × (c ≤ n) × (ticks c ≡ 0)) ⊎ ((is_caught (t + c) (t + n) first ≡ false) × ((n < c) ⊎ (0 < ticks c)))
    within None none h e = inl (e, h, none c h)
    within (Some at) tick h e = elim (cases_lt (t + c) at) [
      | inl before ↦ inl (ap (λ (b : Bool). b && ltb (t + c) at) e ∙ lt-ltb (t + c) at before, h, no_tick (cases_lt 0 (ticks c)) before)
      | inr behind ↦ inr (ap (λ (b : Bool). b && ltb (t + c) at) e ∙ le-ltb (t + c) at behind, inr ((tick c h).1 behind))
    ]
      where
        no_tick : (0 < ticks c) ⊎ (ticks c ≤ 0) → t + c < at → ticks c ≡ 0
        no_tick (inl some) before = absurd (omega (arith, (tick c h).0 some))
        no_tick (inr none) before = omega arith

-- the line after a stretch
pub ended : (ticks : ℕ → ℕ) (slew t c n : ℕ) (first : Option ℕ) (l : TickParts) → CountsUp ticks → IsFirstPoint slew t c → IsFirstTick ticks t n first
    → line_after ticks slew t n l ≡ line_end (t + c) (t + n) first (ticks n) l
ended ticks slew t c n first l up point is_first = elim (caught_cases ticks t c n first is_first) [
  | inl late ↦ line_after-late ticks slew t c n l up point late.1 late.2 ∙ ap (λ (b : Bool). ticked_times (ticks n) (caught_up_where b l)) (sym late.0)
  | inr early ↦ line_after-early ticks slew t c n l up point early.1 ∙ ap (λ (b : Bool). ticked_times (ticks n) (caught_up_where b l)) (sym early.0)
]

-- a catch-up point leaves a line up
up-caught_up_where : (p : Bool) (l : TickParts) → l.up ≡ true → (caught_up_where p l).up ≡ true
up-caught_up_where true l up = ap (λ (b : Bool). b || is_waiting l) up
up-caught_up_where false l up = up

-- a line that is up stays up through a nanosecond ..
up-nanosecond : (p tick : Bool) (l : TickParts) → l.up ≡ true → (caught_up_where p (ticked_where tick l)).up ≡ true
up-nanosecond p true l up = up-caught_up_where p (ticked l) refl
up-nanosecond p false l up = up-caught_up_where p l up

-- .. and through a stretch
pub line_after-up : (ticks : ℕ → ℕ) (slew t n : ℕ) (l : TickParts) → l.up ≡ true → (line_after ticks slew t n l).up ≡ true
line_after-up ticks slew t zero l e = ap (λ (k : TickParts). k.up) (line_after-zero ticks slew t l) ∙ e
line_after-up ticks slew t (suc n) l e =
    ap (λ (k : TickParts). k.up) (line_after-suc ticks slew t n l)
    ∙ up-nanosecond (eqb ((t + n + 1) % slew) 0) (ltb (ticks n) (ticks (suc n))) (line_after ticks slew t n l) (line_after-up ticks slew t n l e)

-- a line that is down goes up with its first tick
up-by_ticks : (ticks : ℕ → ℕ) (t n j : ℕ) (first : Option ℕ) (l : TickParts) → l.up ≡ false → IsFirstTick ticks t n first → j ≤ n
    → (ticked_times (ticks j) l).up ≡ is_up_at (t + j) first
up-by_ticks ticks t n j None l down is_first h =
    ap (λ (k : ℕ). (ticked_times k l).up) (is_first j h) ∙ ap (λ (k : TickParts). k.up) (ticked_times-zero l) ∙ down
up-by_ticks ticks t n j (Some at) l down is_first h = elim (cases_lt (t + j) at) [
  | inl before ↦
      ap (λ (k : ℕ). (ticked_times k l).up) (no_tick (cases_lt 0 (ticks j)) before) ∙ ap (λ (k : TickParts). k.up) (ticked_times-zero l)
      ∙ down ∙ sym (lt-leb at (t + j) before)
  | inr behind ↦ up-ticked_times (ticks j) l ((is_first j h).1 behind) ∙ sym (le-leb at (t + j) behind)
]
  where
    no_tick : (0 < ticks j) ⊎ (ticks j ≤ 0) → t + j < at → ticks j ≡ 0
    no_tick (inl some) before = absurd (omega (arith, (is_first j h).0 some))
    no_tick (inr none) before = omega arith

-- a line that is down goes up at the first catch-up point, where that comes before a tick and finds a tick that waits ..
up-caught : (ticks : ℕ → ℕ) (slew t c n j : ℕ) (first : Option ℕ) (l : TickParts)
    → CountsUp ticks → IsFirstPoint slew t c → IsFirstTick ticks t n first → j ≤ n → l.up ≡ false
    → ticks c ≡ 0 → (line_after ticks slew t j l).up ≡ is_up_at (t + j) (cond (is_waiting l) (Some (t + c)) first)
up-caught ticks slew t c n j first l up point is_first h down quiet = elim (cases_Bool (is_waiting l)) [
  | inl waits ↦ elim (cases_lt j c) [
    | inl before ↦
        let none : ticks j ≡ 0 = omega (arith, CountsUp-mono ticks up j c (omega arith)) in
        ap (λ (k : TickParts). k.up) (line_after-early ticks slew t c j l up point (inl before))
        ∙ ap (λ (k : ℕ). (ticked_times k l).up) none
        ∙ ap (λ (k : TickParts). k.up) (ticked_times-zero l)
        ∙ down
        ∙ sym (lt-leb (t + c) (t + j) (omega arith))
        ∙ ap (λ (b : Bool). is_up_at (t + j) (cond b (Some (t + c)) first)) (sym waits)
    | inr from_point ↦
        ap (λ (k : TickParts). k.up) (line_after-late ticks slew t c j l up point from_point quiet)
        ∙ up-ticked_times-up (ticks j) (caught_up l) (or_right l.up (is_waiting l) waits)
        ∙ sym (le-leb (t + c) (t + j) (omega arith))
        ∙ ap (λ (b : Bool). is_up_at (t + j) (cond b (Some (t + c)) first)) (sym waits)
  ]
  | inr stays ↦
      plain (cases_lt j c) (caught_up-still l stays)
      ∙ up-by_ticks ticks t n j first l down is_first h
      ∙ ap (λ (b : Bool). is_up_at (t + j) (cond b (Some (t + c)) first)) (sym stays)
]
  where
    or_right : (a b : Bool) → b ≡ true → (a || b) ≡ true
    or_right true b e = refl
    or_right false b e = e

    plain : (j < c) ⊎ (c ≤ j) → caught_up l ≡ l → (line_after ticks slew t j l).up ≡ (ticked_times (ticks j) l).up
    plain (inl before) e = ap (λ (k : TickParts). k.up) (line_after-early ticks slew t c j l up point (inl before))
    plain (inr later) e = ap (λ (k : TickParts). k.up) (line_after-late ticks slew t c j l up point later quiet ∙ ap (ticked_times (ticks j)) e)

-- .. and else with its first tick
up-down : (ticks : ℕ → ℕ) (slew t c n j : ℕ) (first : Option ℕ) (l : TickParts)
    → CountsUp ticks → IsFirstPoint slew t c → IsFirstTick ticks t n first → j ≤ n → l.up ≡ false
    → (line_after ticks slew t j l).up ≡ is_up_at (t + j) (cond (is_caught (t + c) (t + n) first && is_waiting l) (Some (t + c)) first)
up-down ticks slew t c n j first l up point is_first h down = elim (caught_cases ticks t c n first is_first) [
  | inl late ↦
      up-caught ticks slew t c n j first l up point is_first h down late.2
      ∙ ap (λ (b : Bool). is_up_at (t + j) (cond (b && is_waiting l) (Some (t + c)) first)) (sym late.0)
  | inr early ↦
      ap (λ (k : TickParts). k.up) (line_after-early ticks slew t c j l up point (sooner early.1))
      ∙ up-by_ticks ticks t n j first l down is_first h
      ∙ ap (λ (b : Bool). is_up_at (t + j) (cond (b && is_waiting l) (Some (t + c)) first)) (sym early.0)
]
  where
    sooner : (n < c) ⊎ (0 < ticks c) → (j < c) ⊎ (0 < ticks c)
    sooner (inl past) = inl (omega arith)
    sooner (inr ticked) = inr ticked

-- the level of a line at each nanosecond of a stretch
pub up-after : (ticks : ℕ → ℕ) (slew t c n j : ℕ) (first : Option ℕ) (l : TickParts)
    → CountsUp ticks → IsFirstPoint slew t c → IsFirstTick ticks t n first → j ≤ n
    → (line_after ticks slew t j l).up ≡ is_up_at (t + j) (up_from t (t + c) (t + n) first l)
up-after ticks slew t c n j first l up point is_first h = elim (cases_Bool l.up) [
  | inl was_up ↦
      line_after-up ticks slew t j l was_up
      ∙ sym (le-leb t (t + j) (omega arith))
      ∙ ap (λ (b : Bool). is_up_at (t + j) (cond b (Some t) (cond (is_caught (t + c) (t + n) first && is_waiting l) (Some (t + c)) first))) (sym was_up)
  | inr down ↦
      up-down ticks slew t c n j first l up point is_first h down
      ∙ ap (λ (b : Bool). is_up_at (t + j) (cond b (Some t) (cond (is_caught (t + c) (t + n) first && is_waiting l) (Some (t + c)) first))) (sym down)
]

-- no multiple lies between two that follow one another
none_between : (q d slew t j : ℕ) → t + j ≡ slew * d → 0 < j → slew * q ≤ t → t + j < slew * q + slew → ⊥
none_between q d slew t j multiple behind low high = elim (cases_lt q d) [
  | inl above ↦ let next : q + 1 ≤ d = omega arith in omega (arith, mul-le-mul_left slew next)
  | inr below ↦ omega (arith, mul-le-mul_left slew below)
]

-- the first catch-up point, by division
pub next_point : (slew t : ℕ) → 0 < slew → IsFirstPoint slew t ((t / slew + 1) * slew - t)
next_point slew t runs =
    let below : t / slew * slew ≤ t = div-mul-le_self t slew in
    let above : t < t / slew * slew + slew = lt-div-mul-add runs in
    let place : t + ((t / slew + 1) * slew - t) ≡ (t / slew + 1) * slew = omega arith in
    record {
      later = omega arith;
      divides = rw place (mul-mod_left (t / slew + 1) slew);
      first = λ j low high divides.
          let multiple : t + j ≡ slew * ((t + j) / slew) = omega arith in
          none_between (t / slew) ((t + j) / slew) slew t j multiple low (omega arith) (omega arith);
    }

-- an event has come exactly where its time has
pub event-up : (count : ℕ → ℕ) (hz t n : ℕ) (first : Option ℕ) → 0 < hz → CountsUp count → IsFirst count (pulses_from hz t n) first
    → (j : ℕ) → j ≤ n → ltb 0 (count (pulses_from hz t j)) ≡ is_up_at (t + j) (first_at hz t first)
event-up count hz t n None runs up is j h = ap (ltb 0) (first_tick-none count hz t n up is j h) ∙ le-ltb 0 0 (omega arith)
event-up count hz t n (Some k) runs up is j h =
    same_test (count (pulses_from hz t j)) (time_of hz (pulses_by hz t + k)) (t + j) (first_tick count hz t n k runs up is j)
  where
    same_test : (m a b : ℕ) → (0 < m) ↔ (a ≤ b) → ltb 0 m ≡ leb a b
    same_test m a b e = elim (cases_lt 0 m) [
      | inl some ↦ lt-ltb 0 m some ∙ sym (le-leb a b (e.0 some))
      | inr none ↦ elim (cases_lt b a) [
        | inl late ↦ le-ltb 0 m none ∙ sym (lt-leb a b late)
        | inr reached ↦ absurd (let some : 0 < m = e.1 reached in omega arith)
      ]
    ]

-- a line that was up, or that has had a tick, is up
pub up-line_after : (ticks : ℕ → ℕ) (slew t n : ℕ) (l : TickParts) → ticks 0 ≡ 0 → (l.up || ltb 0 (ticks n)) ≡ true → (line_after ticks slew t n l).up ≡ true
up-line_after ticks slew t zero l none h =
    line_after-up ticks slew t zero l (or_left l.up (ltb 0 (ticks 0)) (ap (ltb 0) none ∙ le-ltb 0 0 (omega arith)) h)
  where
    or_left : (a b : Bool) → b ≡ false → (a || b) ≡ true → a ≡ true
    or_left true b e h = refl
    or_left false b e h = absurd (false≢true (sym e ∙ h))
up-line_after ticks slew t (suc n) l none h = elim (cases_Bool (l.up || ltb 0 (ticks n))) [
  | inl before ↦
      ap (λ (k : TickParts). k.up) (line_after-suc ticks slew t n l)
      ∙ up-nanosecond (eqb ((t + n + 1) % slew) 0) (ltb (ticks n) (ticks (suc n))) (line_after ticks slew t n l) (up-line_after ticks slew t n l none before)
  | inr not_before ↦
      ap (λ (k : TickParts). k.up) (line_after-suc ticks slew t n l)
      ∙ by_tick (eqb ((t + n + 1) % slew) 0) l.up (ticks n) (ticks (suc n)) (line_after ticks slew t n l) not_before h
]
  where
    by_tick : (p up : Bool) (a b : ℕ) (k : TickParts) → (up || ltb 0 a) ≡ false → (up || ltb 0 b) ≡ true
        → (caught_up_where p (ticked_where (ltb a b) k)).up ≡ true
    by_tick p true a b k down some = absurd (false≢true (sym down))
    by_tick p false a b k down some =
        let zero_before : a ≡ 0 = not_above (cases_lt 0 a) down in
        ap (λ (m : ℕ). (caught_up_where p (ticked_where (ltb m b) k)).up) zero_before
        ∙ ap (λ (e : Bool). (caught_up_where p (ticked_where e k)).up) some
        ∙ up-caught_up_where p (ticked k) refl
      where
        not_above : (0 < a) ⊎ (a ≤ 0) → ltb 0 a ≡ false → a ≡ 0
        not_above (inl some) e = absurd (false≢true (sym e ∙ lt-ltb 0 a some))
        not_above (inr none) e = omega arith

-- the line after a stretch that is known by its first tick and its first catch-up point
pub line_end-is : (source : ℕ → ℕ) (slew from to n point ticks : ℕ) (first : Option ℕ) (l : TickParts)
    → to ≡ from + n → IsStretch source slew from n point ticks first
    → line_end point to first ticks l ≡ line_after source slew from n l
line_end-is source slew from to n point ticks first l length stretch =
    ap (λ (p : ℕ). line_end p to first ticks l) stretch.first_point.1
    ∙ ap (λ (p : ℕ). line_end (from + stretch.first_point.0) p first ticks l) length
    ∙ ap (λ (k : ℕ). line_end (from + stretch.first_point.0) (from + n) first k l) (sym stretch.number)
    ∙ sym (ended source slew from stretch.first_point.0 n first l stretch.counts stretch.first_point.2 stretch.first_tick)

-- its level at each nanosecond
pub up_from-is : (source : ℕ → ℕ) (slew from to n point ticks : ℕ) (first : Option ℕ) (l : TickParts)
    → to ≡ from + n → IsStretch source slew from n point ticks first
    → (j : ℕ) → j ≤ n → (line_after source slew from j l).up ≡ is_up_at (from + j) (up_from from point to first l)
up_from-is source slew from to n point ticks first l length stretch j h =
    up-after source slew from stretch.first_point.0 n j first l stretch.counts stretch.first_point.2 stretch.first_tick h
    ∙ ap (λ (p : ℕ). is_up_at (from + j) (up_from from (from + stretch.first_point.0) p first l)) (sym length)
    ∙ ap (λ (p : ℕ). is_up_at (from + j) (up_from from p to first l)) (sym stretch.first_point.1)
