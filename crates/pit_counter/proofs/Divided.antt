-- The count of mode 2 while it counts, pulse by pulse.
use Rattle.std.proofs.Common.{
  ◌≡◌,
  ℕ,
  zero,
  suc,
  ◌+◌,
  ◌-◌,
  ◌*◌,
  ◌/◌,
  ◌%◌,
  ◌<◌,
  ◌≤◌,
  Bool,
  true,
  false,
  not,
  ◌&&◌,
  ◌||◌,
  cond,
  eqb,
  Some,
  None,
  refl,
  sym,
  ap,
  ◌∙◌,
  arith,
  subst,
}
use Rattle.std.proofs.lemmas.Bool.{and_parts, cond_both, eqb-true, ne_eqb}
use Rattle.clk_units.proofs.Events.{CountsUp-mono}
use Rattle.std.proofs.Math.Nat.{mod-lt, mod-eq-sub-div-mul, div-mul-le_self}
use Rattle.pit_counter.specs.Mode.{mode_of, is_bcd, is_rate, is_square, is_periodic, has_strobe}
use Rattle.pit_counter.specs.Count.{modulus, from_digits, number_in, meant_count, lowered}
use Rattle.pit_counter.specs.Table.{affected, pulsed, pulsed_times, rises_in}
use Rattle.pit_counter.specs.Parts.{IsCounter, flags_valid, ce_valid}
use Rattle.pit_counter.specs.private.Stretch.{height, is_dividing, DividesBy, with_left}
use Rattle.pit_counter.specs.private.Taken.{HasTaken}
use Rattle.pit_counter.specs.declared.mode.Mode.{Mode}
use Rattle.pit_counter.specs.declared.rises.Rises.{Rises}
use Rattle.pit_counter.specs.declared.mode.Mode.TheVariants.{RateGenerator}
use Rattle.pit_counter.specs.declared.table.Effect.{Effect}
use Rattle.pit_counter.specs.declared.table.Effect.TheVariants.{Load}
use Rattle.pit_counter.specs.declared.parts.CounterParts.{CounterParts}
use Rattle.pit_counter.proofs.Keeps.{loaded_count-below, IsCounter-ce}
use Rattle.pit_counter.proofs.Quiet.{rate_effect}
use Rattle.pit_counter.proofs.Times.{pulsed_times-zero, pulsed_times-suc, CountsUp-rises_in}
use Rattle.pit_counter.proofs.Joins.{pulsed_times-joined, HasTaken-joined}
use Rattle.pit_counter.proofs.Periods.{Counting, Counting-from, ending, to_load, state_ending, rises_ending, first_ending, effect-rate, height-loaded, height-two, load_rate, meant_count-some, not_from, rate-from}

-- a count has 16 bits
pub modulus-le : (bits : ℕ) → modulus bits ≤ 65536
unfolding modulus
modulus-le bits = cond_both (is_bcd bits) 10000 65536 (λ m. m ≤ 65536) (λ _. omega arith) (λ _. omega arith)

-- and a count register too, so that the count that it means is in its range
number_by : (bcd : Bool) (digits cr : ℕ) → cr < 65536 → cond bcd (digits % 10000) cr < cond {A = ℕ} bcd 10000 65536
number_by true digits cr h = omega arith
number_by false digits cr h = h

number_in-lt : (bits cr : ℕ) → cr < 65536 → number_in bits cr < modulus bits
unfolding number_in modulus
number_in-lt bits cr h = number_by (is_bcd bits) (from_digits cr) cr h

pub meant_count-le : (bits cr : ℕ) → cr < 65536 → meant_count bits cr ≤ modulus bits
unfolding meant_count
meant_count-le bits cr h =
    let few = number_in-lt bits cr h in
    let n : ℕ = number_in bits cr in
    cond_both (eqb n 0) (modulus bits) (cond (eqb n 1 && is_periodic (mode_of bits)) 2 n) (λ x. x ≤ modulus bits) (λ _. omega arith)
    (λ some. cond_both (eqb n 1 && is_periodic (mode_of bits)) 2 n (λ x. x ≤ modulus bits)
    (λ one. omega (arith, few, eqb-true n 1 (and_parts _ _ one).0)) (λ _. omega (arith, few)))

-- at first the whole height is left
pub height-left : (c : CounterParts) → c.ce < modulus c.bits → c.ce ≡ (height c - 0) % modulus c.bits
unfolding height modulus
height-left c = cond_both (is_bcd c.bits) 10000 65536 (λ m. c.ce < m → c.ce ≡ (cond (eqb c.ce 0) m c.ce - 0) % m)
    (λ _ h. cond_both (eqb c.ce 0) 10000 c.ce (λ x. c.ce ≡ (x - 0) % 10000) (λ z. omega (arith, eqb-true c.ce 0 z)) (λ z. omega arith))
    (λ _ h. cond_both (eqb c.ce 0) 65536 c.ce (λ x. c.ce ≡ (x - 0) % 65536) (λ z. omega (arith, eqb-true c.ce 0 z)) (λ z. omega arith))

pub height-le : (c : CounterParts) → c.ce < modulus c.bits → height c ≤ modulus c.bits
unfolding height
height-le c h = cond_both (eqb c.ce 0) (modulus c.bits) c.ce (λ x. x ≤ modulus c.bits) (λ _. omega arith) (λ _. omega arith)

-- one of two and more leaves one and more
left-not-one : (bits n : ℕ) → 2 ≤ n → n ≤ modulus bits → n % modulus bits ≡ 1 → ⊥
unfolding modulus
left-not-one bits n = cond_both (is_bcd bits) 10000 65536 (λ m. 2 ≤ n → n ≤ m → n % m ≡ 1 → ⊥) (λ _ h k e. omega arith) (λ _ h k e. omega arith)

left-less : (bits n : ℕ) → 2 ≤ n → n ≤ modulus bits → lowered bits (n % modulus bits) 1 ≡ (n - 1) % modulus bits
unfolding lowered modulus
left-less bits n = cond_both (is_bcd bits) 10000 65536 (λ m. 2 ≤ n → n ≤ m → (n % m + m - 1) % m ≡ (n - 1) % m) (λ _ h k. omega arith) (λ _ h k. omega arith)

pub small : (bits n : ℕ) → n < modulus bits → n % modulus bits ≡ n
unfolding modulus
small bits n = cond_both (is_bcd bits) 10000 65536 (λ m. n < m → n % m ≡ n) (λ _ h. omega arith) (λ _ h. omega arith)

-- the counter after n pulses of a period: the count is what is left, and OUT has some level
-- which is low at the last of them alone, where it is high at first
record Left (c : CounterParts) (n : ℕ) : Type 0 where
  level : Bool
  high : c.out ≡ true → eqb c.ce 1 ≡ false → level ≡ not (eqb (height c - n) 1)
  state : pulsed_times n c ≡ record c { ce = (height c - n) % modulus c.bits; out = level }

left-after : (c : CounterParts) (n : ℕ) → Counting c → mode_of c.bits ≡ RateGenerator → c.ce < modulus c.bits → n < height c → Left c n
unfolding pulsed
left-after c zero k m below h = record {
  level = c.out;
  high = λ out other. out ∙ ap not (sym (ne_eqb (height c - 0) 1 (λ one. omega (arith, one, height-two c other))));
  state = pulsed_times-zero c ∙ ap (λ (x : ℕ). record c { ce = x }) (height-left c below);
}
left-after c (suc n) k m below h =
    let before = left-after c n k m below (omega arith) in
    let left : ℕ = height c - n in
    let x : ℕ = left % modulus c.bits in
    let few = height-le c below in
    let other : eqb x 1 ≡ false = ne_eqb x 1 (λ e. left-not-one c.bits left (omega arith) (omega arith) e) in
    let less : left - 1 ≡ height c - suc n = omega arith in
    let next : lowered c.bits x 1 ≡ (height c - suc n) % modulus c.bits = left-less c.bits left (omega arith) (omega arith)
    ∙ ap (λ (y : ℕ). y % modulus c.bits) less in
    let place : (height c - suc n) % modulus c.bits ≡ height c - suc n = small c.bits (height c - suc n) (omega arith) in
    let above : eqb left 1 ≡ false = ne_eqb left 1 (λ one. omega arith) in
    record {
      level = before.level && not (eqb (lowered c.bits x 1) 1);
      high = λ out first.
          ap (λ (b : Bool). b && not (eqb (lowered c.bits x 1) 1)) (before.high out first ∙ ap not above)
          ∙ ap (λ (y : ℕ). not (eqb y 1)) (next ∙ place);
      state = pulsed_times-suc n c ∙ ap pulsed before.state
          ∙ ap (λ (e : Effect). affected e (record c { ce = x; out = before.level }))
          (effect-rate c x before.level k m ∙ ap (λ (b : Bool). rate_effect false true b before.level) other)
          ∙ ap (λ (y : ℕ). record c { ce = y; out = before.level && not (eqb (lowered c.bits x 1) 1) }) next;
    }

-- the count in the present period
pub count-first : (c : CounterParts) (n : ℕ) → is_dividing c ≡ true → c.ce < modulus c.bits → n < height c
    → (height c - n) % modulus c.bits ≡ (pulsed_times n c).ce
unfolding is_dividing
count-first c n h below within =
    let a = and_parts _ _ h in
    let b = and_parts _ _ a.0 in
    let d = and_parts _ _ b.0 in
    let e = and_parts _ _ d.0 in
    let left = left-after c n (Counting-from c e.1 d.1 (not_from c.trig b.1)) (rate-from (mode_of c.bits) e.0) below within in
    sym (ap (λ (x : CounterParts). x.ce) left.state)

-- the count in a period after a load
count-loaded : (c : CounterParts) (n : ℕ) → is_dividing c ≡ true → meant_count c.bits c.cr ≤ modulus c.bits → n < meant_count c.bits c.cr
    → (meant_count c.bits c.cr - n) % modulus c.bits ≡ (pulsed_times n (affected (Load true) c)).ce
unfolding is_dividing
count-loaded c n h few within =
    let a = and_parts _ _ h in
    let b = and_parts _ _ a.0 in
    let d = and_parts _ _ b.0 in
    let e = and_parts _ _ d.0 in
    let m = rate-from (mode_of c.bits) e.0 in
    let loaded : CounterParts = affected (Load true) c in
    let count : loaded.ce ≡ meant_count c.bits c.cr % modulus c.bits =
    sym (ap (λ (x : CounterParts). x.ce) (load_rate c (meant_count c.bits c.cr) h refl)) in
    let tall : height loaded ≡ meant_count c.bits c.cr =
    height-loaded loaded (meant_count c.bits c.cr) count (meant_count-some c.bits c.cr (ap is_periodic m)) few in
    let left = left-after loaded n (Counting-from loaded e.1 refl refl) m (loaded_count-below c.bits c.cr) (omega (arith, tall)) in
    ap (λ (t : ℕ). (t - n) % modulus c.bits) (sym tall) ∙ sym (ap (λ (x : CounterParts). x.ce) left.state)

-- the count in a later period
pub count-later : (c : CounterParts) (n : ℕ) → is_dividing c ≡ true → c.ce < modulus c.bits → meant_count c.bits c.cr ≤ modulus c.bits
    → 0 < meant_count c.bits c.cr → height c ≤ n
    → (meant_count c.bits c.cr - (n - height c) % meant_count c.bits c.cr) % modulus c.bits ≡ (pulsed_times n c).ce
count-later c n h below few some past =
    let period : ℕ = meant_count c.bits c.cr in
    let whole : ℕ = (n - height c) / period in
    let rest : ℕ = (n - height c) % period in
    let all : n ≡ height c + whole * period + rest = omega (arith, mod-eq-sub-div-mul (n - height c) period, div-mul-le_self (n - height c) period, past) in
    count-loaded c rest h few (mod-lt (n - height c) some)
    ∙ ap (λ (d : CounterParts). (pulsed_times rest d).ce) (sym (state_ending c (height c) whole (ending c h below few)))
    ∙ ap (λ (d : CounterParts). d.ce) (sym (ap (λ (k : ℕ). pulsed_times k c) all ∙ pulsed_times-joined c (height c + whole * period) rest))

-- the period isn't 0
pub DividesBy-some : (n : ℕ) (c : CounterParts) → DividesBy n c → 0 < n
unfolding is_dividing
DividesBy-some n c d =
    let a = and_parts _ _ d.counts in
    let b = and_parts _ _ a.0 in
    let e = and_parts _ _ b.0 in
    let f = and_parts _ _ e.0 in
    let m = rate-from (mode_of c.bits) f.0 in
    omega (arith, d.period, meant_count-some c.bits c.cr (ap is_periodic m))

-- in binary
pub modulus-binary : (bits : ℕ) → is_bcd bits ≡ false → modulus bits ≡ 65536
unfolding modulus
modulus-binary bits h = ap (λ (b : Bool). cond b 10000 65536) h

-- ---- what pulses leave, and their rises

-- a counter that divides, by what the test and the conditions on its fields say
record Dividing (c : CounterParts) : Type 0 where
  mode : mode_of c.bits ≡ RateGenerator
  counting : Counting c
  out : c.out ≡ true
  other : eqb c.ce 1 ≡ false
  armed : c.armed ≡ false
  odd : c.odd ≡ false

-- a flag that is set only where it cannot be
pub unset : (a b : Bool) → b ≡ false → (not a || b) ≡ true → a ≡ false
unset false b e h = refl
unset true true e h = cc
unset true false e h = cc

high_from : (rate out one : Bool) → rate ≡ true → one ≡ false → (not (rate && not out) || one) ≡ true → out ≡ true
high_from rate true one e f h = refl
high_from true false true e f h = cc
high_from true false false e f h = cc
high_from false false one e f h = cc

Dividing-from : (c : CounterParts) → IsCounter c → is_dividing c ≡ true → Dividing c
unfolding is_dividing flags_valid ce_valid
Dividing-from c valid h =
    let a = and_parts _ _ h in
    let b = and_parts _ _ a.0 in
    let d = and_parts _ _ b.0 in
    let e = and_parts _ _ d.0 in
    let m = rate-from (mode_of c.bits) e.0 in
    let other = not_from (eqb c.ce 1) a.1 in
    let flags = and_parts _ _ valid.flags in
    let by_mode = and_parts _ _ (and_parts _ _ flags.0).1 in
    let low = and_parts _ _ valid.ce in
    record {
      mode = m;
      counting = Counting-from c e.1 d.1 (not_from c.trig b.1);
      out = high_from (is_rate (mode_of c.bits)) c.out (eqb c.ce 1) e.0 other low.1;
      other = other;
      armed = unset c.armed _ (ap (λ (k : Mode). has_strobe k && c.live) m) (and_parts _ _ by_mode.0).0;
      odd = unset c.odd _ (ap (λ (k : Mode). is_square k && c.live) m) by_mode.1;
    }

-- two pulses at least are left of its period
pub height-dividing : (c : CounterParts) → is_dividing c ≡ true → 2 ≤ height c
unfolding is_dividing
height-dividing c h = let a = and_parts _ _ h in height-two c (not_from (eqb c.ce 1) a.1)

-- pulses within a period
taken-within : (c : CounterParts) (n : ℕ) → Counting c → mode_of c.bits ≡ RateGenerator → c.ce < modulus c.bits → c.out ≡ true → eqb c.ce 1 ≡ false
    → rises_in c (height c - 1) ≡ 0 → n < height c → HasTaken n c (with_left (height c - n) c) (record { count = 0; first = None })
taken-within c n k m below out other quiet within =
    let left = left-after c n k m below within in
    let none : rises_in c n ≡ 0 = omega (arith, quiet, CountsUp-mono (rises_in c) (CountsUp-rises_in c) n (height c - 1) (omega arith)) in
    record {
      state = sym (left.state ∙ ap (λ (b : Bool). record c { ce = (height c - n) % modulus c.bits; out = b }) (left.high out other));
      count = sym none;
      first = none;
    }

-- pulses within the present period
pub taken-first : (c : CounterParts) (n : ℕ) → IsCounter c → is_dividing c ≡ true → n < height c
    → HasTaken n c (with_left (height c - n) c) (record { count = 0; first = None })
taken-first c n valid h within =
    let d = Dividing-from c valid h in
    let below = IsCounter-ce c valid in
    let two = height-two c d.other in
    let place : height c ≡ suc (suc (height c - 2)) = omega arith in
    let before : height c - 1 ≡ suc (height c - 2) = omega arith in
    let quiet : rises_in c (height c - 1) ≡ 0 = ap (rises_in c) before ∙ (to_load c (height c - 2) d.counting d.mode below place).1 in
    taken-within c n d.counting d.mode below d.out d.other quiet within

-- pulses within a period after a load
taken-loaded : (c : CounterParts) (n : ℕ) → IsCounter c → is_dividing c ≡ true → meant_count c.bits c.cr ≤ modulus c.bits → n < meant_count c.bits c.cr
    → HasTaken n (affected (Load true) c) (with_left (meant_count c.bits c.cr - n) (record c { null = false })) (record { count = 0; first = None })
taken-loaded c n valid h few within =
    let d = Dividing-from c valid h in
    let period : ℕ = meant_count c.bits c.cr in
    let loaded : CounterParts = affected (Load true) c in
    let same = load_rate c period h refl in
    let count : loaded.ce ≡ period % modulus c.bits = sym (ap (λ (x : CounterParts). x.ce) same) in
    let some = meant_count-some c.bits c.cr (ap is_periodic d.mode) in
    let tall : height loaded ≡ period = height-loaded loaded period count some few in
    let quiet : rises_in loaded (height loaded - 1) ≡ 0 =
    ap (λ (x : ℕ). rises_in loaded (x - 1)) tall ∙ (ending c h (IsCounter-ce c valid) few).later.quiet in
    let begins : Counting loaded = Counting-from loaded (counting-gate c d.counting) refl refl in
    let other : eqb loaded.ce 1 ≡ false = ne_eqb loaded.ce 1 (λ one. left-not-one c.bits period some few (sym count ∙ one)) in
    let left : CounterParts = with_left (period - n) (record c { null = false }) in
    let whole : with_left (period - n) loaded ≡ left =
    ap (with_left (period - n)) (sym same) ∙ (λ i. record left { armed = sym d.armed i; odd = sym d.odd i }) in
    subst (λ (x : CounterParts). HasTaken n loaded x (record { count = 0; first = None }))
    (ap (λ (x : ℕ). with_left (x - n) loaded) tall ∙ whole)
    (taken-within loaded n begins d.mode (loaded_count-below c.bits c.cr) refl other quiet (omega (arith, tall)))
  where
    gate_of : (live gate : Bool) → (live && gate) ≡ true → gate ≡ true
    gate_of live gate h = (and_parts live gate h).1

    counting-gate : (c : CounterParts) → Counting c → c.gate ≡ true
    counting-gate c k = gate_of c.live c.gate k.counts

-- pulses beyond the present period
pub taken-later : (c : CounterParts) (n : ℕ) → IsCounter c → is_dividing c ≡ true → meant_count c.bits c.cr ≤ modulus c.bits
    → 0 < meant_count c.bits c.cr → height c ≤ n
    → HasTaken n c (with_left (meant_count c.bits c.cr - (n - height c) % meant_count c.bits c.cr) (record c { null = false }))
    (record { count = 1 + (n - height c) / meant_count c.bits c.cr; first = Some (height c) })
taken-later c n valid h few some past =
    let period : ℕ = meant_count c.bits c.cr in
    let whole : ℕ = (n - height c) / period in
    let rest : ℕ = (n - height c) % period in
    let all : height c + whole * period + rest ≡ n = omega (arith, mod-eq-sub-div-mul (n - height c) period, div-mul-le_self (n - height c) period, past) in
    let ends = ending c h (IsCounter-ce c valid) few in
    let left : CounterParts = with_left (period - rest) (record c { null = false }) in
    let rises : Rises = record { count = 1 + whole; first = Some (height c) } in
    subst (λ (k : ℕ). HasTaken k c left rises) all
    (HasTaken-joined (height c + whole * period) rest c (affected (Load true) c) left rises (record { count = 0; first = None }) rises
    (record {
      state = sym (state_ending c (height c) whole ends);
      count = sym (rises_ending c (height c) whole ends);
      first = first_ending c (height c) whole ends;
    })
    (taken-loaded c rest valid h few (mod-lt (n - height c) some))
    (omega arith) refl)
