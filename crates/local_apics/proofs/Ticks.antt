-- The ticks of one timer.
use Rattle.std.proofs.Common.{◌≡◌, ℕ, zero, suc, ◌+◌, ◌-◌, ◌<◌, ◌≤◌, Bool, true, false, cond, not, ◌&&◌, eqb, Option, Some, None, is_some, inl, inr}
use Rattle.std.proofs.Common.{refl, sym, ap, subst, ◌∙◌, arith}
use Rattle.std.proofs.lemmas.Bool.{cases_lt, cases_eq, eq-eqb, ne_eqb, eqb-true, and_parts, false≢true}
use Rattle.clk_units.specs.Bits.{bit}
use Rattle.tick_policy.specs.declared.parts.TickParts.{TickParts}
use Rattle.tick_policy.specs.Line.{ticked_times}
use Rattle.tick_policy.specs.Stretch.{ticked_where}
use Rattle.tick_policy.proofs.Ticks.{ticked_times-zero, ticked_times-one}
use Rattle.host_counter.specs.declared.Anchor.{Anchor}
use Rattle.tsc_scale.specs.declared.Tsc.{Tsc}
use Rattle.tsc_scale.specs.Tsc.{tsc_at}
use Rattle.lapic_timer.specs.declared.parts.ApicParts.{ApicParts}
use Rattle.lapic_timer.specs.Parts.{is_masked, ticks_of, is_deadline, mode_of, divisor}
use Rattle.lapic_timer.specs.Stretch.{passed, passed_times, fires_next, fires_in, nanosecond, nanoseconds}
use Rattle.lapic_timer.specs.Deadline.{is_reached, looked, IsFirstAt, count_at, is_reached_at}
use Rattle.lapic_timer.proofs.Steps.{passed-stopped}
use Rattle.lapic_timer.proofs.Nanoseconds.{lvt-passed, lvt-passed_times, nanoseconds-passed_times, nanoseconds-deadline}
use Rattle.local_apics.specs.Nanosecond.{fires_with, tick_with, ticks_at, looks_due}
use Rattle.local_apics.specs.Parts.{is_idle}
use Rattle.local_apics.specs.private.Stretch.{ticks_in}

-- outside deadline mode, whatever the TSC
tick-counting : (t : ℕ) (q p : ApicParts) → q.lvt ≡ p.lvt → (mode_of p.lvt ≡ 2 → ⊥) → tick_with t q ≡ (not (is_masked p) && fires_next q)
tick-counting t q p e other =
    ap (λ (v : ℕ). not (bit 16 v) && cond (eqb (mode_of v) 2) (is_reached q.deadline t) (fires_next q)) e
    ∙ ap (λ (b : Bool). not (bit 16 p.lvt) && cond b (is_reached q.deadline t) (fires_next q)) (ne_eqb (mode_of p.lvt) 2 other)

counted : (m b : Bool) (n : ℕ) → cond (not m && b) (suc (cond m 0 n)) (cond m 0 n) ≡ cond m 0 (cond b (suc n) n)
counted true b n = refl
counted false b n = refl

pub ticks_in-counting : (tsc : ℕ → ℕ) (from n : ℕ) (p : ApicParts) → (mode_of p.lvt ≡ 2 → ⊥) → ticks_in tsc from p n ≡ cond (is_masked p) 0 (fires_in p n)
ticks_in-counting tsc from zero p other = by_mask (is_masked p)
  where
    by_mask : (m : Bool) → ◌≡◌ {A = ℕ} 0 (cond m 0 0)
    by_mask true = refl
    by_mask false = refl
ticks_in-counting tsc from (suc n) p other =
    let t : ℕ = tsc (from + n + 1) in
    let test : tick_with t (nanoseconds tsc from n p) ≡ (not (is_masked p) && fires_next (passed_times n p)) =
    ap (tick_with t) (nanoseconds-passed_times tsc from n p other) ∙ tick-counting t (passed_times n p) p (lvt-passed_times n p) other in
    ap (λ (b : Bool). cond b (suc (ticks_in tsc from p n)) (ticks_in tsc from p n)) test
    ∙ ap (λ (x : ℕ). cond (not (is_masked p) && fires_next (passed_times n p)) (suc x) x) (ticks_in-counting tsc from n p other)
    ∙ counted (is_masked p) (fires_next (passed_times n p)) (fires_in p n)

-- without a fire there is no tick
pub ticks_in-quiet : (tsc : ℕ → ℕ) (from n : ℕ) (p : ApicParts) → (mode_of p.lvt ≡ 2 → ⊥) → fires_in p n ≡ 0 → ticks_in tsc from p n ≡ 0
ticks_in-quiet tsc from n p other none = ticks_in-counting tsc from n p other ∙ ap (cond (is_masked p) 0) none ∙ by (is_masked p)
  where
    by : (m : Bool) → ◌≡◌ {A = ℕ} (cond m 0 0) 0
    by true = refl
    by false = refl

-- in deadline mode
tick-deadline : (t d : ℕ) (p : ApicParts) → mode_of p.lvt ≡ 2 → tick_with t (record p { deadline = d }) ≡ (not (is_masked p) && is_reached d t)
tick-deadline t d p deadline =
    ap (λ (b : Bool). not (bit 16 p.lvt) && cond b (is_reached d t) (fires_next (record p { deadline = d }))) (eq-eqb (mode_of p.lvt) 2 deadline)

never : (m : Bool) → (not m && false) ≡ false
never true = refl
never false = refl

ever : (m : Bool) → ◌≡◌ {A = ℕ} (cond (not m && true) 1 0) (cond m 0 1)
ever true = refl
ever false = refl

still : (tsc : ℕ → ℕ) (from n : ℕ) (p : ApicParts) → mode_of p.lvt ≡ 2
    → ((t : ℕ) → from < t → t ≤ from + n → is_reached p.deadline (tsc t) ≡ false) → ticks_in tsc from p n ≡ 0
still tsc from zero p deadline none = refl
still tsc from (suc n) p deadline none =
    let t : ℕ = tsc (from + n + 1) in
    let same : nanoseconds tsc from n p ≡ p = nanoseconds-deadline tsc from n p None deadline (λ t after within. none t after (omega arith)) in
    let test : tick_with t (nanoseconds tsc from n p) ≡ false =
    ap (tick_with t) same ∙ tick-deadline t p.deadline p deadline
    ∙ ap (λ (b : Bool). not (is_masked p) && b) (none (from + n + 1) (omega arith) (omega arith)) ∙ never (is_masked p) in
    ap (λ (b : Bool). cond b (suc (ticks_in tsc from p n)) (ticks_in tsc from p n)) test
    ∙ still tsc from n p deadline (λ t after within. none t after (omega arith))

once : (tsc : ℕ → ℕ) (from n first : ℕ) (p : ApicParts) → mode_of p.lvt ≡ 2
    → IsFirstAt (λ t. is_reached p.deadline (tsc t)) from (from + n) (Some first) → ticks_in tsc from p n ≡ cond (is_masked p) 0 1
once tsc from zero first p deadline is = absurd (omega (arith, is.0, is.1))
once tsc from (suc n) first p deadline is = elim (cases_lt (from + n) first) [
  | inr early ↦
      let t : ℕ = tsc (from + n + 1) in
      let before : IsFirstAt (λ t. is_reached p.deadline (tsc t)) from (from + n) (Some first) = (is.0, early, is.2, is.3) in
      let over : nanoseconds tsc from n p ≡ record p { deadline = 0 } = nanoseconds-deadline tsc from n p (Some first) deadline before in
      let test : tick_with t (nanoseconds tsc from n p) ≡ false =
      ap (tick_with t) over ∙ tick-deadline t 0 p deadline ∙ never (is_masked p) in
      ap (λ (b : Bool). cond b (suc (ticks_in tsc from p n)) (ticks_in tsc from p n)) test ∙ once tsc from n first p deadline before
  | inl last ↦
      let t : ℕ = tsc (from + n + 1) in
      let e : first ≡ from + n + 1 = omega (arith, last, is.1) in
      let reached : is_reached p.deadline t ≡ true = ap (λ (u : ℕ). is_reached p.deadline (tsc u)) (sym e) ∙ is.2 in
      let none : (u : ℕ) → from < u → u ≤ from + n → is_reached p.deadline (tsc u) ≡ false = λ u after within. is.3 u after (omega arith) in
      let same : nanoseconds tsc from n p ≡ p = nanoseconds-deadline tsc from n p None deadline none in
      let test : tick_with t (nanoseconds tsc from n p) ≡ (not (is_masked p) && true) =
      ap (tick_with t) same ∙ tick-deadline t p.deadline p deadline ∙ ap (λ (b : Bool). not (is_masked p) && b) reached in
      ap (λ (b : Bool). cond b (suc (ticks_in tsc from p n)) (ticks_in tsc from p n)) test
      ∙ ap (λ (x : ℕ). cond (not (is_masked p) && true) (suc x) x) (still tsc from n p deadline none)
      ∙ ever (is_masked p)
]

pub ticks_in-deadline : (tsc : ℕ → ℕ) (from n : ℕ) (p : ApicParts) (first : Option ℕ) → mode_of p.lvt ≡ 2
    → IsFirstAt (λ t. is_reached p.deadline (tsc t)) from (from + n) first → ticks_in tsc from p n ≡ cond (is_some first) (cond (is_masked p) 0 1) 0
ticks_in-deadline tsc from n p (Some first) deadline is = once tsc from n first p deadline is
ticks_in-deadline tsc from n p None deadline is = still tsc from n p deadline is

-- what the call that finds a deadline says, in these words
pub first-is : (anchor : Anchor) (ratio : ℕ) (tsc : Tsc) (d from to : ℕ) (first : Option ℕ) → IsFirstAt (is_reached_at anchor ratio tsc d) from to first
    → IsFirstAt (λ t. is_reached d (tsc_at tsc (count_at anchor t) ratio)) from to first
unfolding is_reached_at
first-is anchor ratio tsc d from to first is = is

-- what the call that looks at a deadline says, in these words
pub reached-is : (anchor : Anchor) (ratio : ℕ) (tsc : Tsc) (d t : ℕ) → is_reached_at anchor ratio tsc d t ≡ is_reached d (tsc_at tsc (count_at anchor t) ratio)
unfolding is_reached_at
reached-is anchor ratio tsc d t = refl

-- a look that finds no deadline reached does nothing, and another disarms
pub looked-quiet : (t : ℕ) (p : ApicParts) → is_reached p.deadline t ≡ false → looked t p ≡ p
looked-quiet t p none = ap (λ (b : Bool). cond b (record p { deadline = 0 }) p) none

pub looked-some : (t : ℕ) (p : ApicParts) → is_reached p.deadline t ≡ true → looked t p ≡ record p { deadline = 0 }
looked-some t p some = ap (λ (b : Bool). cond b (record p { deadline = 0 }) p) some

-- there is a first nanosecond, or none
find-first : (test : ℕ → Bool) (from n : ℕ) → (first : Option ℕ) × IsFirstAt test from (from + n) first
find-first test from zero = (None, λ t after within. absurd (omega (arith, after, within)))
find-first test from (suc n) = more (find-first test from n).0 (find-first test from n).1 (test (from + suc n)) refl
  where
    more : (first : Option ℕ) → IsFirstAt test from (from + n) first → (b : Bool) → test (from + suc n) ≡ b
        → (first : Option ℕ) × IsFirstAt test from (from + suc n) first
    more (Some first) is b e = (Some first, (is.0, omega (arith, is.1), is.2, is.3))
    more None is true e = (Some (from + suc n), (omega arith, omega arith, e, λ t after before. is t after (omega (arith, before))))
    more None is false e = (
      None,
      λ t after within. elim (cases_eq t (from + suc n)) [
        | inl last ↦ ap test last ∙ e
        | inr other ↦ is t after (omega (arith, within, other))
      ],
    )

-- a run that reaches no deadline
pub reached-none : (tsc : ℕ → ℕ) (from n : ℕ) (p : ApicParts) → mode_of p.lvt ≡ 2
    → ((t : ℕ) → from < t → t ≤ from + n → is_reached p.deadline (tsc t) ≡ false)
    → (nanoseconds tsc from n p ≡ p) × (ticks_in tsc from p n ≡ 0)
reached-none tsc from n p deadline none =
    (nanoseconds-deadline tsc from n p None deadline none, ticks_in-deadline tsc from n p None deadline none)

-- .. and one that reaches it in some nanosecond
pub reached-some : (tsc : ℕ → ℕ) (from n t : ℕ) (p : ApicParts) → mode_of p.lvt ≡ 2 → from < t → t ≤ from + n → is_reached p.deadline (tsc t) ≡ true
    → (nanoseconds tsc from n p ≡ record p { deadline = 0 }) × (ticks_in tsc from p n ≡ cond (is_masked p) 0 1)
reached-some tsc from n t p deadline after within reached =
    by (find-first (λ u. is_reached p.deadline (tsc u)) from n).0 (find-first (λ u. is_reached p.deadline (tsc u)) from n).1
  where
    by : (first : Option ℕ) → IsFirstAt (λ u. is_reached p.deadline (tsc u)) from (from + n) first
        → (nanoseconds tsc from n p ≡ record p { deadline = 0 }) × (ticks_in tsc from p n ≡ cond (is_masked p) 0 1)
    by (Some first) is = (nanoseconds-deadline tsc from n p (Some first) deadline is, ticks_in-deadline tsc from n p (Some first) deadline is)
    by None is = absurd (false≢true (sym (is t after within) ∙ reached))

-- an idle timer
pub nanosecond-idle : (t : ℕ) (p : ApicParts) → p.current ≡ 0 → p.deadline ≡ 0 → nanosecond t p ≡ p
nanosecond-idle t p none free = by_mode (is_deadline p)
  where
    by_mode : (b : Bool) → cond b (looked t p) (passed p) ≡ p
    by_mode true = ap (λ (d : ℕ). cond (is_reached d t) (record p { deadline = 0 }) p) free
    by_mode false = passed-stopped p none

pub nanoseconds-idle : (tsc : ℕ → ℕ) (from n : ℕ) (p : ApicParts) → p.current ≡ 0 → p.deadline ≡ 0 → nanoseconds tsc from n p ≡ p
nanoseconds-idle tsc from zero p none free = refl
nanoseconds-idle tsc from (suc n) p none free =
    ap (nanosecond (tsc (from + n + 1))) (nanoseconds-idle tsc from n p none free) ∙ nanosecond-idle (tsc (from + n + 1)) p none free

nothing_next : (a : Bool) (x : Bool) → (a && (false && x)) ≡ false
nothing_next true x = refl
nothing_next false x = refl

fires_next-idle : (p : ApicParts) → p.current ≡ 0 → fires_next p ≡ false
unfolding fires_next
fires_next-idle p none =
    ap (λ (c : ℕ). not (is_deadline p) && (eqb c 1 && eqb (p.phase + 1) (divisor p.divide))) none
    ∙ nothing_next (not (is_deadline p)) (eqb (p.phase + 1) (divisor p.divide))

pub tick-idle : (t : ℕ) (p : ApicParts) → p.current ≡ 0 → p.deadline ≡ 0 → tick_with t p ≡ false
tick-idle t p none free =
    ap (λ (b : Bool). not (is_masked p) && b) (by_mode (is_deadline p)) ∙ never (is_masked p)
  where
    by_mode : (b : Bool) → cond b (is_reached p.deadline t) (fires_next p) ≡ false
    by_mode true = ap (λ (d : ℕ). is_reached d t) free
    by_mode false = fires_next-idle p none

pub ticks_in-idle : (tsc : ℕ → ℕ) (from n : ℕ) (p : ApicParts) → p.current ≡ 0 → p.deadline ≡ 0 → ticks_in tsc from p n ≡ 0
ticks_in-idle tsc from zero p none free = refl
ticks_in-idle tsc from (suc n) p none free =
    let t : ℕ = tsc (from + n + 1) in
    let test : tick_with t (nanoseconds tsc from n p) ≡ false = ap (tick_with t) (nanoseconds-idle tsc from n p none free) ∙ tick-idle t p none free in
    ap (λ (b : Bool). cond b (suc (ticks_in tsc from p n)) (ticks_in tsc from p n)) test ∙ ticks_in-idle tsc from n p none free

-- what an idle timer has
pub idle_parts : (p : ApicParts) → is_idle p ≡ true → (p.current ≡ 0) × (p.deadline ≡ 0)
idle_parts p h =
    let both : (eqb p.current 0 ≡ true) × (eqb p.deadline 0 ≡ true) = and_parts (eqb p.current 0) (eqb p.deadline 0) h in
    (eqb-true p.current 0 both.0, eqb-true p.deadline 0 both.1)

-- at most one a nanosecond
pub ticks_in-few : (tsc : ℕ → ℕ) (from n : ℕ) (p : ApicParts) → ticks_in tsc from p n ≤ n
ticks_in-few tsc from zero p = omega arith
ticks_in-few tsc from (suc n) p = one (tick_with (tsc (from + n + 1)) (nanoseconds tsc from n p)) (ticks_in tsc from p n) n (ticks_in-few tsc from n p)
  where
    one : (b : Bool) (x n : ℕ) → x ≤ n → cond b (suc x) x ≤ suc n
    one true x n h = omega (arith, h)
    one false x n h = omega (arith, h)

-- the LVT stays
lvt-looked : (t : ℕ) (p : ApicParts) → (looked t p).lvt ≡ p.lvt
lvt-looked t p = by (is_reached p.deadline t)
  where
    by : (b : Bool) → (cond b (record p { deadline = 0 }) p).lvt ≡ p.lvt
    by true = refl
    by false = refl

pub lvt-nanosecond : (t : ℕ) (p : ApicParts) → (nanosecond t p).lvt ≡ p.lvt
lvt-nanosecond t p = by (is_deadline p)
  where
    by : (b : Bool) → (cond b (looked t p) (passed p)).lvt ≡ p.lvt
    by true = lvt-looked t p
    by false = lvt-passed p

pub lvt-nanoseconds : (tsc : ℕ → ℕ) (from n : ℕ) (p : ApicParts) → (nanoseconds tsc from n p).lvt ≡ p.lvt
lvt-nanoseconds tsc from zero p = refl
lvt-nanoseconds tsc from (suc n) p = lvt-nanosecond (tsc (from + n + 1)) (nanoseconds tsc from n p) ∙ lvt-nanoseconds tsc from n p

-- the ticks of a look that reaches a deadline
pub ticked-looked : (x : ℕ) (p : ApicParts) (l : TickParts) → is_reached p.deadline x ≡ true
    → ticked_times (ticks_of (looked x p) 1) l ≡ ticked_where (looks_due x p) l
ticked-looked x p l reached =
    ap (λ (v : ℕ). ticked_times (cond (bit 16 v) 0 1) l) (lvt-looked x p)
    ∙ by (is_masked p)
    ∙ ap (λ (b : Bool). ticked_where (not (is_masked p) && b) l) (sym reached)
  where
    by : (m : Bool) → ticked_times (cond m 0 1) l ≡ ticked_where (not m && true) l
    by true = ticked_times-zero l
    by false = ticked_times-one l

-- a masked timer never ticks
pub ticks_at-masked : (tsc : ℕ → ℕ) (from t : ℕ) (p : ApicParts) → is_masked p ≡ true → ticks_at tsc from p t ≡ false
ticks_at-masked tsc from t p masked =
    let q : ApicParts = nanoseconds tsc from (t - from - 1) p in
    ap (λ (v : ℕ). not (bit 16 v) && fires_with (tsc t) q) (lvt-nanoseconds tsc from (t - from - 1) p)
    ∙ ap (λ (b : Bool). not b && fires_with (tsc t) q) masked

-- the next tick of a deadline is where it is reached
module _ (tsc : ℕ → ℕ) (from to : ℕ) (p : ApicParts) (deadline : mode_of p.lvt ≡ 2) (open_ : is_masked p ≡ false) where
  at_deadline : (t : ℕ) → from < t → ((u : ℕ) → from < u → u < t → is_reached p.deadline (tsc u) ≡ false)
      → ticks_at tsc from p t ≡ is_reached p.deadline (tsc t)
  at_deadline t after none =
      let same : nanoseconds tsc from (t - from - 1) p ≡ p =
      nanoseconds-deadline tsc from (t - from - 1) p None deadline (λ u later before. none u later (omega (arith, before, after))) in
      ap (tick_with (tsc t)) same ∙ tick-deadline (tsc t) p.deadline p deadline ∙ ap (λ (b : Bool). not b && is_reached p.deadline (tsc t)) open_

  pub next-deadline : (first : Option ℕ) → IsFirstAt (λ t. is_reached p.deadline (tsc t)) from to first → IsFirstAt (ticks_at tsc from p) from to first
  next-deadline None is = λ t after within. at_deadline t after (λ u later before. is u later (omega (arith, before, within))) ∙ is t after within
  next-deadline (Some first) is = (
    is.0,
    is.1,
    at_deadline first is.0 is.3 ∙ is.2,
    λ t after before. at_deadline t after (λ u later sooner. is.3 u later (omega (arith, sooner, before))) ∙ is.3 t after before,
  )

-- the next tick of a timer that counts is its first fire
module _ (tsc : ℕ → ℕ) (from : ℕ) (p : ApicParts) (counts : mode_of p.lvt ≡ 2 → ⊥) (open_ : is_masked p ≡ false) where
  at_fire : (n : ℕ) → ticks_at tsc from p (from + suc n) ≡ fires_next (passed_times n p)
  at_fire n =
      let e : from + suc n - from - 1 ≡ n = omega arith in
      ap (λ (m : ℕ). tick_with (tsc (from + suc n)) (nanoseconds tsc from m p)) e
      ∙ ap (tick_with (tsc (from + suc n))) (nanoseconds-passed_times tsc from n p counts)
      ∙ tick-counting (tsc (from + suc n)) (passed_times n p) p (lvt-passed_times n p) counts
      ∙ ap (λ (b : Bool). not b && fires_next (passed_times n p)) open_

  -- no fire in n nanoseconds and one more
  none-more : (b : Bool) (n : ℕ) → cond b (suc n) n ≡ 0 → (b ≡ false) × (n ≡ 0)
  none-more true n e = absurd (omega (arith, e))
  none-more false n e = (refl, e)

  none-before : (n m : ℕ) → fires_in p n ≡ 0 → m < n → fires_next (passed_times m p) ≡ false
  none-before zero m e less = absurd (omega (arith, less))
  none-before (suc n) m e less = elim (cases_eq m n) [
    | inl same ↦ ap (λ (i : ℕ). fires_next (passed_times i p)) same ∙ (none-more (fires_next (passed_times n p)) (fires_in p n) e).0
    | inr other ↦ none-before n m (none-more (fires_next (passed_times n p)) (fires_in p n) e).1 (omega (arith, less, other))
  ]

  pub none-fires : (n t : ℕ) → fires_in p n ≡ 0 → from < t → t ≤ from + n → ticks_at tsc from p t ≡ false
  none-fires n t e after within =
      let is : t ≡ from + suc (t - from - 1) = omega (arith, after) in
      ap (ticks_at tsc from p) is ∙ at_fire (t - from - 1) ∙ none-before n (t - from - 1) e (omega (arith, after, within))

  pub fires-there : (k : ℕ) → 0 < k → fires_in p (k - 1) ≡ 0 → 0 < fires_in p k → ticks_at tsc from p (from + k) ≡ true
  fires-there zero some e f = absurd (omega (arith, some))
  fires-there (suc n) some e f = at_fire n ∙ fired (fires_next (passed_times n p)) (fires_in p n) (subst (λ (i : ℕ). fires_in p i ≡ 0) (omega arith) e) f
    where
      fired : (b : Bool) (n : ℕ) → n ≡ 0 → 0 < cond b (suc n) n → b ≡ true
      fired true n e f = refl
      fired false n e f = absurd (omega (arith, e, f))
