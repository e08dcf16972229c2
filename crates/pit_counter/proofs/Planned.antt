-- Pulses that are planned.
use Rattle.std.proofs.Common.{◌≡◌, ℕ, ◌+◌, ◌-◌, ◌*◌, ◌/◌, ◌%◌, ◌<◌, ◌≤◌, min, Bool, true, false, not, ◌&&◌, ◌||◌, cond, eqb}
use Rattle.std.proofs.Common.{refl, sym, ap, ◌∙◌, arith, inl, inr, subst}
use Rattle.std.proofs.lemmas.Bool.{and_parts, cond_both, cases_lt, eqb-true, ne_eqb, eq-eqb}
use Rattle.pit_counter.specs.Mode.{mode_of, is_bcd, is_rate}
use Rattle.pit_counter.specs.Count.{modulus, meant_count}
use Rattle.pit_counter.specs.Table.{effect_in, pulsed_times, rises_in}
use Rattle.pit_counter.specs.Reading.{status_of, with_count_latched, with_status_latched, status_released, count_released, after_read}
use Rattle.pit_counter.specs.private.Stretch.{step_of, is_still, forever, height, quiet_for, glided_count, glided, is_dividing, is_rate_running, DividesBy, divides}
use Rattle.pit_counter.specs.private.Plan.{planned_for, planned_period, plan_by, plan_of}
use Rattle.pit_counter.specs.declared.mode.Mode.{Mode}
use Rattle.pit_counter.specs.declared.mode.Mode.TheVariants.{TerminalCount, OneShot, RateGenerator, SquareWave, SoftwareStrobe, HardwareStrobe}
use Rattle.pit_counter.specs.declared.table.Effect.{Effect}
use Rattle.pit_counter.specs.declared.table.Effect.TheVariants.{Load, DownToHigh, DownToLow, DownByTwo, DownToStrobe, Stand}
use Rattle.pit_counter.specs.declared.plan.Plan.{Plan}
use Rattle.pit_counter.specs.declared.parts.CounterParts.{CounterParts}
use Rattle.pit_counter.proofs.Divided.{modulus-le, meant_count-le}
use Rattle.pit_counter.proofs.Periods.{Counting, Counting-from, effect-rate, not_from, rate-from}
use Rattle.pit_counter.proofs.Quiet.{next_effect, rate_effect, square_effect, effect_in-glided, pulsed_times-glided, rises_in-glided, pulsed_times-still, rises_in-still}

-- a count that doesn't pass 0
glided_count-above : (bits ce down : ℕ) → ce < modulus bits → down ≤ ce → glided_count bits ce down ≡ ce - down
unfolding glided_count modulus
glided_count-above bits ce down = cond_both (is_bcd bits) 10000 65536 (λ m. ce < m → down ≤ ce → (ce + m - down % m) % m ≡ ce - down)
    (λ _ h k. omega arith) (λ _ h k. omega arith)

-- ---- for how many pulses a plan holds, by the count alone

abbrev simple : Effect → Bool → Bool → Bool → ℕ → ℕ
simple (Load level) out odd armed ce = 0
simple DownToHigh true odd armed ce = ce - 1
simple DownToHigh false odd armed ce = ce - 2
simple DownToLow out odd armed ce = ce - 3
simple DownByTwo true true armed ce = ce / 2 - 1
simple DownByTwo true false armed ce = ce / 2 - 2
simple DownByTwo false odd armed ce = ce / 2 - 2
simple DownToStrobe true odd true ce = ce - 2
simple DownToStrobe true odd false ce = ce - 1
simple DownToStrobe false odd armed ce = 0
simple (Stand level) out odd armed ce = 0

-- the count doesn't pass 0
above : (e : Effect) (out odd armed : Bool) (ce n : ℕ) → n ≤ simple e out odd armed ce → step_of e * n ≤ ce
above (Load level) out odd armed ce n h = omega arith
above DownToHigh true odd armed ce n h = omega arith
above DownToHigh false odd armed ce n h = omega arith
above DownToLow out odd armed ce n h = omega arith
above DownByTwo true true armed ce n h = omega arith
above DownByTwo true false armed ce n h = omega arith
above DownByTwo false odd armed ce n h = omega arith
above DownToStrobe true odd true ce n h = omega arith
above DownToStrobe true odd false ce n h = omega arith
above DownToStrobe false odd armed ce n h = omega arith
above (Stand level) out odd armed ce n h = omega arith

-- each pulse leaves one fewer
left : (e : Effect) (out odd armed : Bool) (ce n : ℕ) → simple e out odd armed (ce - step_of e * n) ≡ simple e out odd armed ce - n
left (Load level) out odd armed ce n = omega arith
left DownToHigh true odd armed ce n = omega arith
left DownToHigh false odd armed ce n = omega arith
left DownToLow out odd armed ce n = omega arith
left DownByTwo true true armed ce n = omega arith
left DownByTwo true false armed ce n = omega arith
left DownByTwo false odd armed ce n = omega arith
left DownToStrobe true odd true ce n = omega arith
left DownToStrobe true odd false ce n = omega arith
left DownToStrobe false odd armed ce n = omega arith
left (Stand level) out odd armed ce n = omega arith

-- where the count is 0 nothing is planned, and else the height is the count
low : (c : CounterParts) (k : ℕ) → min (height c - k) c.ce - 1 ≡ c.ce - k - 1
unfolding height
low c k = cond_both (eqb c.ce 0) (modulus c.bits) c.ce (λ h. min (h - k) c.ce - 1 ≡ c.ce - k - 1) (λ e. omega (arith, eqb-true c.ce 0 e)) (λ e. omega arith)

half : (c : CounterParts) → min (height c / 2 - 1) c.ce - 1 ≡ c.ce / 2 - 2
unfolding height
half c = cond_both (eqb c.ce 0) (modulus c.bits) c.ce (λ h. min (h / 2 - 1) c.ce - 1 ≡ c.ce / 2 - 2) (λ e. omega (arith, eqb-true c.ce 0 e)) (λ e. omega arith)

by_high : (out odd armed : Bool) (h ce : ℕ) → ce ≤ 65536 → min (h - 1) ce - 1 ≡ ce - 2 → min (cond out forever (h - 1)) ce - 1 ≡ simple DownToHigh out odd armed ce
by_high true odd armed h ce few e = omega arith
by_high false odd armed h ce few e = e

by_two : (out odd armed : Bool) (h ce : ℕ) → min (h / 2 - 1) ce - 1 ≡ ce / 2 - 2 → min (cond (out && odd) (ce / 2) (h / 2 - 1)) ce - 1 ≡ simple DownByTwo out odd armed ce
by_two true true armed h ce e = omega arith
by_two true false armed h ce e = e
by_two false odd armed h ce e = e

by_strobe : (out odd armed : Bool) (h ce : ℕ) → ce ≤ 65536 → min (h - 1) ce - 1 ≡ ce - 2
    → min (cond out (cond armed (h - 1) forever) 0) ce - 1 ≡ simple DownToStrobe out odd armed ce
by_strobe true odd true h ce few e = e
by_strobe true odd false h ce few e = omega arith
by_strobe false odd armed h ce few e = omega arith

by_stand : (b : Bool) (ce : ℕ) → b ≡ false → min (cond b forever 0) ce - 1 ≡ 0
by_stand true ce e = cc
by_stand false ce e = omega arith

simply : (e : Effect) (c : CounterParts) → c.ce ≤ 65536 → is_still e c.out ≡ false → min (quiet_for e c) c.ce - 1 ≡ simple e c.out c.odd c.armed c.ce
unfolding quiet_for
simply (Load level) c few loud = omega arith
simply DownToHigh c few loud = by_high c.out c.odd c.armed (height c) c.ce few (low c 1 ∙ omega arith)
simply DownToLow c few loud = low c 2 ∙ omega arith
simply DownByTwo c few loud = by_two c.out c.odd c.armed (height c) c.ce (half c)
simply DownToStrobe c few loud = by_strobe c.out c.odd c.armed (height c) c.ce few (low c 1 ∙ omega arith)
simply (Stand level) c few loud = by_stand (is_still (Stand level) c.out) c.ce loud

-- ---- what stands has no step

step-still : (e : Effect) (out : Bool) → is_still e out ≡ true → step_of e ≡ 0
step-still (Stand level) out h = refl
step-still (Load level) out h = refl
step-still other out h = cc

-- ---- pulses that are planned

module _ (c : CounterParts) (n : ℕ) (below : c.ce < modulus c.bits) where
  abbrev effect : Effect
  effect = next_effect c

  abbrev later : CounterParts
  later = record c { ce = c.ce - step_of effect * n }

  few : c.ce ≤ 65536
  few = omega (arith, below, modulus-le c.bits)

  module _ (loud : is_still effect c.out ≡ false) (within : n ≤ min (quiet_for effect c) c.ce - 1) where
    down : step_of effect * n ≤ c.ce
    down = above effect c.out c.odd c.armed c.ce n (omega (arith, within, simply effect c few loud))

    glides : later ≡ glided effect n c
    unfolding glided
    glides = ap (λ (x : ℕ). record c { ce = x }) (sym (glided_count-above c.bits c.ce (step_of effect * n) below down))

    same_effect : next_effect later ≡ effect
    unfolding glided
    same_effect = elim (cases_lt 0 n) [
      | inl some ↦ ap next_effect glides ∙ effect_in-glided (mode_of c.bits) c n below (omega (arith, some, within))
      | inr none ↦
          let zero : n ≡ 0 = omega (arith, none) in
          let same : c.ce - step_of effect * n ≡ c.ce = ap (λ (k : ℕ). c.ce - step_of effect * k) zero ∙ omega arith in
          ap (λ (x : ℕ). next_effect (record c { ce = x })) same
    ]

    fewer : planned_for effect later ≡ planned_for effect c - n
    fewer =
        ap (λ (b : Bool). cond b forever (min (quiet_for effect later) later.ce - 1)) loud
        ∙ simply effect later (omega (arith, few)) loud
        ∙ left effect c.out c.odd c.armed c.ce n
        ∙ ap (λ (k : ℕ). k - n) (sym (simply effect c few loud))
        ∙ ap (λ (b : Bool). cond b forever (min (quiet_for effect c) c.ce - 1) - n) (sym loud)

    planned_later : record { quiet = planned_for effect c - n; period = planned_period effect c; step = step_of effect } ≡ plan_by (next_effect later) later
    planned_later = ap (λ (k : ℕ). record { quiet = k; period = planned_period effect c; step = step_of effect }) (sym fewer) ∙ ap (λ (e : Effect). plan_by e later) (sym same_effect)

  either : {P : Type 0} → n ≤ planned_for effect c → (is_still effect c.out ≡ true → P)
      → (is_still effect c.out ≡ false → n ≤ min (quiet_for effect c) c.ce - 1 → P) → P
  either {P} h still loud = cond_both (is_still effect c.out) forever (min (quiet_for effect c) c.ce - 1) (λ q. n ≤ q → P) (λ e _. still e) (λ e l. loud e l) h

  stands : is_still effect c.out ≡ true → later ≡ c
  stands still =
      let none : step_of effect ≡ 0 = step-still effect c.out still in
      ap (λ (s : ℕ). record c { ce = c.ce - s * n }) none ∙ ap (λ (x : ℕ). record c { ce = x }) (omega arith)

  -- the count doesn't pass 0
  pub step-planned : n ≤ (plan_of c).quiet → (plan_of c).step * n ≤ c.ce
  unfolding plan_of
  step-planned h = either h
      (λ still. let none : step_of effect * n ≡ 0 = ap (λ (s : ℕ). s * n) (step-still effect c.out still) ∙ omega arith in omega (arith, none))
      (λ loud within. down loud within)

  -- they leave what n pulses leave ..
  pub pulsed_times-planned : n ≤ (plan_of c).quiet → record c { ce = c.ce - (plan_of c).step * n } ≡ pulsed_times n c
  unfolding plan_of
  pulsed_times-planned h = either h
      (λ still. stands still ∙ sym (pulsed_times-still c n still))
      (λ loud within. glides loud within ∙ sym (pulsed_times-glided c n below (omega (arith, within))))

  -- .. bring no rise ..
  pub rises_in-planned : n ≤ (plan_of c).quiet → rises_in c n ≡ 0
  unfolding plan_of
  rises_in-planned h = either h (λ still. rises_in-still c n still) (λ loud within. rises_in-glided c n below (omega (arith, within)))

  -- .. and leave the rest of the plan
  pub plan_of-planned : ((plan_of c).step ≡ 0 → ⊥) → n ≤ (plan_of c).quiet
      → record (plan_of c) { quiet = (plan_of c).quiet - n } ≡ plan_of (record c { ce = c.ce - (plan_of c).step * n })
  unfolding plan_of
  plan_of-planned counts h = either h (λ still. absurd (counts (step-still effect c.out still))) (λ loud within. planned_later loud within)

-- ---- the same of a plan that is kept beside the counter

module _ (c : CounterParts) (n : ℕ) (plan : Plan) (is : plan ≡ plan_of c) (below : c.ce < modulus c.bits) where
  pub step-of_plan : n ≤ plan.quiet → plan.step * n ≤ c.ce
  step-of_plan = subst (λ (x : Plan). n ≤ x.quiet → x.step * n ≤ c.ce) (sym is) (step-planned c n below)

  pub pulsed_times-of_plan : n ≤ plan.quiet → record c { ce = c.ce - plan.step * n } ≡ pulsed_times n c
  pulsed_times-of_plan =
      subst (λ (x : Plan). n ≤ x.quiet → record c { ce = c.ce - x.step * n } ≡ pulsed_times n c) (sym is) (pulsed_times-planned c n below)

  pub rises_in-of_plan : n ≤ plan.quiet → rises_in c n ≡ 0
  rises_in-of_plan = subst (λ (x : Plan). n ≤ x.quiet → rises_in c n ≡ 0) (sym is) (rises_in-planned c n below)

  pub plan_of-of_plan : (plan.step ≡ 0 → ⊥) → n ≤ plan.quiet
      → record plan { quiet = plan.quiet - n } ≡ plan_of (record c { ce = c.ce - plan.step * n })
  plan_of-of_plan =
      subst (λ (x : Plan). (x.step ≡ 0 → ⊥) → n ≤ x.quiet → record x { quiet = x.quiet - n } ≡ plan_of (record c { ce = c.ce - x.step * n })) (sym is)
      (plan_of-planned c n below)

-- ---- latches, and the order of the bytes, are no matter of a plan

-- a counter with nothing latched
abbrev bare : CounterParts → CounterParts
bare c = record c { high_next = false; count_latched = false; latched_count = 0; status_latched = false; latched_status = 0 }

effect_in-bare : (m : Mode) (c : CounterParts) → effect_in m (bare c) ≡ effect_in m c
unfolding effect_in
effect_in-bare TerminalCount c = refl
effect_in-bare OneShot c = refl
effect_in-bare RateGenerator c = refl
effect_in-bare SquareWave c = refl
effect_in-bare SoftwareStrobe c = refl
effect_in-bare HardwareStrobe c = refl

planned_for-bare : (e : Effect) (c : CounterParts) → planned_for e (bare c) ≡ planned_for e c
unfolding quiet_for height
planned_for-bare (Load level) c = refl
planned_for-bare DownToHigh c = refl
planned_for-bare DownToLow c = refl
planned_for-bare DownByTwo c = refl
planned_for-bare DownToStrobe c = refl
planned_for-bare (Stand level) c = refl

plan_of-bare : (c : CounterParts) → plan_of (bare c) ≡ plan_of c
unfolding plan_of
plan_of-bare c =
    ap (λ (e : Effect). plan_by e (bare c)) (effect_in-bare (mode_of c.bits) c)
    ∙ ap (λ (k : ℕ). record { quiet = k; period = planned_period (next_effect c) c; step = step_of (next_effect c) }) (planned_for-bare (next_effect c) c)

plan_of-same : (c d : CounterParts) → bare d ≡ bare c → plan_of d ≡ plan_of c
plan_of-same c d e = sym (plan_of-bare d) ∙ ap plan_of e ∙ plan_of-bare c

pub plan_of-after_read : (c : CounterParts) → plan_of (after_read c) ≡ plan_of c
unfolding after_read status_released count_released
plan_of-after_read c = plan_of-same c (after_read c)
    (cond_both c.status_latched (status_released c) (count_released c) (λ d. bare d ≡ bare c) (λ _. refl) (λ _. refl))

pub plan_of-count_latched : (c : CounterParts) → plan_of (with_count_latched c) ≡ plan_of c
unfolding with_count_latched
plan_of-count_latched c = plan_of-same c (with_count_latched c) refl

pub plan_of-status_latched : (c : CounterParts) → plan_of (with_status_latched c) ≡ plan_of c
unfolding with_status_latched
plan_of-status_latched c = plan_of-same c (with_status_latched c)
    (cond_both c.status_latched c (record c { status_latched = true; latched_status = status_of c }) (λ d. bare d ≡ bare c) (λ _. refl) (λ _. refl))

-- ---- a counter that divides

running-counts : (c : CounterParts) → is_rate_running c ≡ true → (mode_of c.bits ≡ RateGenerator) × Counting c
running-counts c h =
    let b = and_parts _ _ h in
    let d = and_parts _ _ b.0 in
    let e = and_parts _ _ d.0 in
    (rate-from (mode_of c.bits) e.0, Counting-from c e.1 d.1 (not_from c.trig b.1))

running-effect : (c : CounterParts) (ends : Bool) → is_rate_running c ≡ true → eqb c.ce 1 ≡ ends → next_effect c ≡ rate_effect false true ends c.out
running-effect c ends h e =
    let k = running-counts c h in
    effect-rate c c.ce c.out k.1 k.0 ∙ ap (λ (b : Bool). rate_effect false true b c.out) e

plan_of-by : (c : CounterParts) (e : Effect) → next_effect c ≡ e → plan_by e c ≡ plan_of c
unfolding plan_of
plan_of-by c e h = ap (λ (x : Effect). plan_by x c) (sym h)

-- the last pulse of a period loads
pub plan_of-last : (c : CounterParts) → is_rate_running c ≡ true → c.ce ≡ 1 → record { quiet = c.ce - 3; period = 0; step = 0 } ≡ plan_of c
unfolding quiet_for
plan_of-last c h one =
    let none : c.ce - 3 ≡ min 0 c.ce - 1 = omega (arith, one) in
    let plan : record { quiet = c.ce - 3; period = 0; step = 0 } ≡ plan_by (Load true) c =
    ap (λ (q : ℕ). record { quiet = q; period = 0; step = 0 }) none in
    plan ∙ plan_of-by c (Load true) (running-effect c true h (eq-eqb c.ce 1 one))

-- the pulses before count
pub plan_of-running : (c : CounterParts) → is_rate_running c ≡ true → (c.ce ≡ 1 → ⊥)
    → record { quiet = c.ce - 3; period = meant_count c.bits c.cr; step = 1 } ≡ plan_of c
unfolding quiet_for
plan_of-running c h other =
    let quiet : c.ce - 3 ≡ min (height c - 2) c.ce - 1 = omega (arith, low c 2) in
    let plan : record { quiet = c.ce - 3; period = meant_count c.bits c.cr; step = 1 } ≡ plan_by DownToLow c =
    ap (λ (q : ℕ). record { quiet = q; period = meant_count c.bits c.cr; step = 1 }) quiet in
    plan ∙ plan_of-by c DownToLow (running-effect c false h (ne_eqb c.ce 1 other))

-- ---- where a period is planned the counter divides

clash : (b : Bool) → b ≡ true → b ≡ false → ⊥
clash b e f = cc

neither : (a b : Bool) (x y z : Effect) → divides x ≡ false → divides y ≡ false → divides z ≡ false → divides (cond a x (cond b y z)) ≡ false
neither true b x y z e f g = e
neither false true x y z e f g = f
neither false false x y z e f g = g

square_never : (begins counts out odd at_zero at_two : Bool) → divides (square_effect begins counts out odd at_zero at_two) ≡ false
square_never true counts out odd z t = refl
square_never false false out odd z t = refl
square_never false true false odd z true = refl
square_never false true false odd z false = refl
square_never false true true false z true = refl
square_never false true true false z false = refl
square_never false true true true true t = refl
square_never false true true true false t = refl

rate_divides : (full live trig gate ends out : Bool) → divides (rate_effect ((full && not live) || trig) (live && gate) ends out) ≡ true
    → (gate && live && not trig && not ends) ≡ true
rate_divides true true false true false out h = refl
rate_divides false true false true false out h = refl
rate_divides true true true gate ends out h = cc
rate_divides true false trig gate ends out h = cc
rate_divides true true false false ends out h = cc
rate_divides true true false true true out h = cc
rate_divides false live true gate ends out h = cc
rate_divides false false false gate ends out h = cc
rate_divides false true false false ends out h = cc
rate_divides false true false true true out h = cc

dividing-in : (m : Mode) (c : CounterParts) → divides (effect_in m c) ≡ true → (is_rate m && c.gate && c.live && not c.trig && not (eqb c.ce 1)) ≡ true
unfolding effect_in
dividing-in RateGenerator c h = rate_divides c.full c.live c.trig c.gate (eqb c.ce 1) c.out h
dividing-in TerminalCount c h =
    absurd (clash _ h (neither (c.null && c.full) (c.live && c.gate && not c.part_there) (Load c.out) DownToHigh (Stand c.out) refl refl refl))
dividing-in OneShot c h = absurd (clash _ h (neither c.trig c.live (Load false) DownToHigh (Stand c.out) refl refl refl))
dividing-in SquareWave c h =
    absurd (clash _ h (square_never ((c.full && not c.live) || c.trig) (c.live && c.gate) c.out c.odd (eqb c.ce 0) (eqb c.ce 2)))
dividing-in SoftwareStrobe c h = absurd (clash _ h (neither (c.null && c.full) (c.live && c.gate) (Load true) DownToStrobe (Stand true) refl refl refl))
dividing-in HardwareStrobe c h = absurd (clash _ h (neither c.trig c.live (Load true) DownToStrobe (Stand true) refl refl refl))

pub DividesBy-planned : (c : CounterParts) (plan : Plan) → plan ≡ plan_of c → c.cr < 65536 → (plan.period ≡ 0 → ⊥) → DividesBy plan.period c
unfolding plan_of is_dividing
DividesBy-planned c plan is few some = by_test (divides (next_effect c)) refl
  where
    period : plan.period ≡ planned_period (next_effect c) c
    period = ap (λ (x : Plan). x.period) is

    by_test : (b : Bool) → divides (next_effect c) ≡ b → DividesBy plan.period c
    by_test true e =
        let meant = period ∙ ap (λ (b : Bool). cond b (meant_count c.bits c.cr) 0) e in
        record { counts = dividing-in (mode_of c.bits) c e; period = meant; short = omega (arith, meant, meant_count-le c.bits c.cr few) }
    by_test false e = absurd (some (period ∙ ap (λ (b : Bool). cond b (meant_count c.bits c.cr) 0) e))
