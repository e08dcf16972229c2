-- Pulses that are planned: the divider's count alone changes.
use Rattle.std.proofs.Common.{◌≡◌, ℕ, ◌+◌, ◌-◌, ◌*◌, ◌/◌, ◌%◌, ◌<◌, ◌≤◌, min, Bool, true, false, not, ◌&&◌, ◌||◌, cond, leb}
use Rattle.std.proofs.Common.{Some, refl, sym, ap, ◌∙◌, ◌⊎◌, inl, inr, arith}
use Rattle.std.proofs.Math.Bool.{and-false}
use Rattle.std.proofs.lemmas.Bool.{cases_eq, cases_lt, cases_Bool, cond_both, eq-eqb, ne_eqb, lt-ltb, le-ltb, le-leb, lt-leb}
use Rattle.std.proofs.lemmas.Nat.{div-add-mod', mod-mul-add, mod_below}
use Rattle.clk_units.specs.Events.{IsFirst}
use Rattle.rtc_cycle.specs.declared.parts.DividerParts.{DividerParts}
use Rattle.rtc_cycle.specs.Divider.{period, frequency, pulsed_times, ticks_in, updates_in}
use Rattle.rtc_cycle.specs.Parts.{IsDivider}
use Rattle.rtc_cycle.proofs.Times.{period-some, period-times, ticks_in-none, ticks_in-second, updates_in-none}
use Rattle.rtc_cycle.proofs.Recurs.{ticks_in-recurs, ticks_in-held, held-pulsed_times, pulsed_times-is}
use Rattle.rtc_cycle.proofs.Quiet.{updates_in-before}
use Rattle.rtc_registers.specs.declared.parts.RtcParts.{RtcParts}
use Rattle.rtc_registers.specs.Registers.{pf_of, divider_of}
use Rattle.rtc_registers.specs.Parts.{IsRtc}
use Rattle.rtc_registers.specs.Pulses.{rtc_pulsed_times}
use Rattle.rtc_registers.specs.private.Plan.{forever, before_turn, before_tick, plan_by, plan_of}
use Rattle.rtc_registers.proofs.Times.{rtc_pulsed_times-no_event}
use Rattle.rtc_registers.proofs.Flags.{rtc_pulsed_times-counted}

-- ---- the pulses before the next periodic event

module _ (p : DividerParts) (valid : IsDivider p) (runs : p.dv ≡ 2) where
  -- so many bring none, and one more does
  none_before : (n : ℕ) → 0 < p.rs → n < period p.rs - p.d % period p.rs → ticks_in p n ≡ 0
  none_before n some less = sym (ticks_in-recurs p valid runs some n) ∙ rw (lt-ltb n (period p.rs - p.d % period p.rs) less) refl

  some_from : (n : ℕ) → 0 < p.rs → period p.rs - p.d % period p.rs ≤ n → 0 < ticks_in p n
  some_from n some from =
      let count : (n - (period p.rs - p.d % period p.rs)) / period p.rs + 1 ≡ ticks_in p n =
      rw (le-ltb n (period p.rs - p.d % period p.rs) from) at (ticks_in-recurs p valid runs some n) in
      omega (arith, count)

  -- the pulse of the first says how many come before it
  pub before_tick-first : (n k : ℕ) → IsFirst (ticks_in p) n (Some k) → k - 1 ≡ before_tick p
  before_tick-first n k first = elim (cases_eq p.rs 0) [
    | inl none ↦ absurd (omega (arith, first.3, ticks_in-none k p none))
    | inr rate ↦
        let some : 0 < p.rs = omega arith in
        elim (cases_lt k (period p.rs - p.d % period p.rs)) [
          | inl early ↦ absurd (omega (arith, first.3, none_before k some early))
          | inr there ↦ elim (cases_lt (k - 1) (period p.rs - p.d % period p.rs)) [
            | inl before ↦ rw (ne_eqb p.rs 0 rate) (omega arith)
            | inr late ↦ absurd (omega (arith, first.2, some_from (k - 1) some late))
          ]
        ]
  ]

  -- a second without one is at rate 0
  pub before_tick-none : ticks_in p 32768 ≡ 0 → forever ≡ before_tick p
  before_tick-none none = elim (cases_eq p.rs 0) [
    | inl zero ↦ rw (eq-eqb p.rs 0 zero) refl
    | inr rate ↦
        let some : 0 < p.rs = omega arith in
        let never : frequency p.rs ≡ 0 = sym (ticks_in-second p runs valid.below valid.rs) ∙ none in
        let whole : period p.rs * 0 ≡ 32768 = ap (λ (f : ℕ). period p.rs * f) (sym never) ∙ period-times p.rs some valid.rs in
        absurd (omega (arith, whole))
  ]

  pub ticks_in-before_tick : (n : ℕ) → n ≤ before_tick p → ticks_in p n ≡ 0
  ticks_in-before_tick n within = elim (cases_eq p.rs 0) [
    | inl zero ↦ ticks_in-none n p zero
    | inr rate ↦
        let some : 0 < p.rs = omega arith in
        let below : n ≤ period p.rs - 1 - p.d % period p.rs = rw (ne_eqb p.rs 0 rate) at within in
        none_before n some (omega (arith, below, mod_below p.d (period p.rs) (period-some p.rs some valid.rs)))
  ]

-- ---- the pulses within the second, or the update cycle in progress

module _ (n : ℕ) (p : DividerParts) (valid : IsDivider p) (within : n ≤ before_turn p) where
  pub room-turn : p.d + n ≤ 32767
  room-turn = elim (cases_Bool p.cycle) [
    | inl on ↦ let less : n ≤ 64 - p.d = rw on at within in omega (arith, less, (valid.in_cycle on).2)
    | inr off ↦ let less : n ≤ 32767 - p.d = rw off at within in omega (arith, less, valid.below)
  ]

  pub updates_in-turn : updates_in p n ≡ 0
  updates_in-turn = updates_in-before p valid n (elim (cases_Bool p.cycle) [
    | inl on ↦ let less : n ≤ 64 - p.d = rw on at within in rw on (omega (arith, less, (valid.in_cycle on).2))
    | inr off ↦ rw off (omega (arith, room-turn))
  ])

  -- an update cycle in progress goes on, and none begins
  cycle_stays : (not p.set && (leb ((p.d + n) % 32768) 64 && (p.cycle || leb 32768 (p.d + n)))) ≡ p.cycle
  cycle_stays = elim (cases_Bool p.cycle) [
    | inl on ↦
        let less : n ≤ 64 - p.d = rw on at within in
        rw (on, (valid.in_cycle on).1, le-leb ((p.d + n) % 32768) 64 (omega (arith, less, (valid.in_cycle on).2))) refl
    | inr off ↦ rw (off, lt-leb 32768 (p.d + n) (omega (arith, room-turn)), and-false (leb ((p.d + n) % 32768) 64), and-false (not p.set)) refl
  ]

  pub pulsed_times-turn : p.dv ≡ 2 → pulsed_times n p ≡ record p { d = p.d + n }
  pulsed_times-turn runs =
      let count : (p.d + n) % 32768 ≡ p.d + n = omega (arith, room-turn) in
      pulsed_times-is n p valid
      ∙ rw (eq-eqb p.dv 2 runs)
      (ap (λ (d : ℕ). record p { d = d; cycle = not p.set && (leb ((p.d + n) % 32768) 64 && (p.cycle || leb 32768 (p.d + n))) }) count
      ∙ ap (λ (c : Bool). record p { d = p.d + n; cycle = c }) cycle_stays)

-- ---- the plan

plan_by-running : (pf : Bool) (p : DividerParts) → p.dv ≡ 2 → plan_by pf p ≡ cond pf (before_turn p) (min (before_turn p) (before_tick p))
unfolding plan_by
plan_by-running pf p runs = ap (λ (b : Bool). cond b (cond pf (before_turn p) (min (before_turn p) (before_tick p))) forever) (eq-eqb p.dv 2 runs)

plan_by-held : (pf : Bool) (p : DividerParts) → (p.dv ≡ 2 → ⊥) → plan_by pf p ≡ forever
unfolding plan_by
plan_by-held pf p held = ap (λ (b : Bool). cond b (cond pf (before_turn p) (min (before_turn p) (before_tick p))) forever) (ne_eqb p.dv 2 held)

plan_by-turn : (pf : Bool) (p : DividerParts) → p.dv ≡ 2 → plan_by pf p ≤ before_turn p
plan_by-turn true p runs = omega (arith, plan_by-running true p runs)
plan_by-turn false p runs = omega (arith, plan_by-running false p runs)

plan_by-tick : (pf : Bool) (p : DividerParts) → p.dv ≡ 2 → pf ≡ false → plan_by pf p ≤ before_tick p
plan_by-tick true p runs down = cc
plan_by-tick false p runs down = omega (arith, plan_by-running false p runs)

before_turn-few : (p : DividerParts) → before_turn p ≤ 32767
before_turn-few p = cond_both p.cycle 64 32767 (λ last. last - p.d ≤ 32767) (λ _. omega arith) (λ _. omega arith)

-- each pulse leaves one fewer
before_turn-after : (n : ℕ) (p : DividerParts) → before_turn (record p { d = p.d + n }) ≡ before_turn p - n
before_turn-after n p = cond_both p.cycle 64 32767 (λ last. last - (p.d + n) ≡ last - p.d - n) (λ _. omega arith) (λ _. omega arith)

rest-after : (d n m : ℕ) → d % m + n < m → (d + n) % m ≡ d % m + n
rest-after d n m less =
    let whole : d + n ≡ d / m * m + (d % m + n) = omega (arith, div-add-mod' d m) in
    ap (λ (x : ℕ). x % m) whole ∙ mod-mul-add (d / m) m (d % m + n) less

least-after : (n : ℕ) (p : DividerParts) → IsDivider p → n ≤ min (before_turn p) (before_tick p)
    → min (before_turn (record p { d = p.d + n })) (before_tick (record p { d = p.d + n })) ≡ min (before_turn p) (before_tick p) - n
least-after n p valid within =
    let turn : before_turn (record p { d = p.d + n }) ≡ before_turn p - n = before_turn-after n p in
    let few : before_turn p ≤ 32767 = before_turn-few p in
    elim (cases_eq p.rs 0) [
      | inl zero ↦
          let never : before_tick p ≡ forever = rw (eq-eqb p.rs 0 zero) refl in
          let still : before_tick (record p { d = p.d + n }) ≡ forever = rw (eq-eqb p.rs 0 zero) refl in
          omega (arith, turn, few, never, still)
      | inr rate ↦
          let some : 0 < p.rs = omega arith in
          let before : before_tick p ≡ period p.rs - 1 - p.d % period p.rs = rw (ne_eqb p.rs 0 rate) refl in
          let after : before_tick (record p { d = p.d + n }) ≡ period p.rs - 1 - (p.d + n) % period p.rs = rw (ne_eqb p.rs 0 rate) refl in
          let rest : (p.d + n) % period p.rs ≡ p.d % period p.rs + n =
          rest-after p.d n (period p.rs) (omega (arith, before, within, mod_below p.d (period p.rs) (period-some p.rs some valid.rs))) in
          omega (arith, turn, before, after, rest)
    ]

plan_by-after : (pf : Bool) (n : ℕ) (p : DividerParts) → IsDivider p → p.dv ≡ 2 → n ≤ plan_by pf p → plan_by pf (record p { d = p.d + n }) ≡ plan_by pf p - n
plan_by-after true n p valid runs within =
    omega (arith, plan_by-running true (record p { d = p.d + n }) runs, plan_by-running true p runs, before_turn-after n p)
plan_by-after false n p valid runs within =
    omega (
      arith,
      plan_by-running false (record p { d = p.d + n }) runs,
      plan_by-running false p runs,
      least-after n p valid (omega (arith, within, plan_by-running false p runs)),
    )

-- ---- pulses of a clock's plan

module _ (n quiet : ℕ) (r : RtcParts) (valid : IsRtc r) (planned : quiet ≡ plan_of r) where
  abbrev p : DividerParts
  p = divider_of r

  held : quiet ≡ forever → p.dv ≡ 2 → ⊥
  held stands runs = omega (arith, stands, planned, plan_by-turn (pf_of r) p runs, before_turn-few p)

  running : (quiet ≡ forever → ⊥) → p.dv ≡ 2
  running counts = elim (cases_eq p.dv 2) [ inl runs ↦ runs | inr stands ↦ absurd (counts (planned ∙ plan_by-held (pf_of r) p stands)) ]

  -- where the divider is held they change nothing
  pub pulsed-standing : quiet ≡ forever → r ≡ rtc_pulsed_times n r
  pulsed-standing stands =
      rtc_pulsed_times-no_event n r valid p (sym (held-pulsed_times n p (held stands))) (ticks_in-held n p (held stands))
      (updates_in-none n p valid.divider (λ runs _. held stands runs))

  module _ (within : n ≤ quiet) where
    in_turn : p.dv ≡ 2 → n ≤ before_turn p
    in_turn runs = omega (arith, within, planned, plan_by-turn (pf_of r) p runs)

    -- they bring no update, and no periodic event unless PF is up ..
    pub updates_in-planned : updates_in (divider_of r) n ≡ 0
    updates_in-planned = elim (cases_eq p.dv 2) [
      | inl runs ↦ updates_in-turn n p valid.divider (in_turn runs)
      | inr stands ↦ updates_in-none n p valid.divider (λ runs _. stands runs)
    ]

    pub ticks_in-planned : pf_of r ≡ false → ticks_in (divider_of r) n ≡ 0
    ticks_in-planned down = elim (cases_eq p.dv 2) [
      | inl runs ↦ ticks_in-before_tick p valid.divider runs n (omega (arith, within, planned, plan_by-tick (pf_of r) p runs down))
      | inr stands ↦ ticks_in-held n p stands
    ]

    -- .. and where the divider runs they raise its count, and leave the rest of the plan
    module _ (counts : quiet ≡ forever → ⊥) where
      pub room-planned : r.d + n ≤ 32767
      room-planned = room-turn n p valid.divider (in_turn (running counts))

      quiet_flags : (pf_of r ≡ true) ⊎ (ticks_in p n ≡ 0)
      quiet_flags = elim (cases_Bool (pf_of r)) [ inl up ↦ inl up | inr down ↦ inr (ticks_in-planned down) ]

      pub pulsed-planned : record r { d = r.d + n } ≡ rtc_pulsed_times n r
      pulsed-planned = rtc_pulsed_times-counted n r valid quiet_flags updates_in-planned
          (pulsed_times-turn n p valid.divider (in_turn (running counts)) (running counts))

      pub plan_of-planned : quiet - n ≡ plan_of (record r { d = r.d + n })
      plan_of-planned =
          ap (λ (q : ℕ). q - n) planned ∙ sym (plan_by-after (pf_of r) n p valid.divider (running counts) (omega (arith, within, planned)))
