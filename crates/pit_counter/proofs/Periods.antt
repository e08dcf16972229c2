-- Whole periods of modes 2 and 3.
use Rattle.std.proofs.Common.{
  ◌≡◌,
  ℕ,
  zero,
  suc,
  ◌+◌,
  ◌-◌,
  ◌*◌,
  ◌%◌,
  ◌<◌,
  ◌≤◌,
  Bool,
  true,
  false,
  not,
  ◌&&◌,
  ◌||◌,
  cond,
  eqb,
  Some,
  refl,
  sym,
  ap,
  ◌∙◌,
  arith,
  subst,
  lit≤,
}
use Rattle.std.proofs.lemmas.Bool.{and_parts, cond_both, eqb-true, eqb-false, ne_eqb, eq-eqb}
use Rattle.clk_units.specs.Events.{IsFirst}
use Rattle.pit_counter.specs.Mode.{mode_of, is_bcd, is_rate, is_periodic, is_square, has_strobe}
use Rattle.pit_counter.specs.Count.{
  modulus,
  number_in,
  meant_count,
  loaded_count,
  is_odd_square,
  lowered,
}
use Rattle.pit_counter.specs.Table.{effect_in, affected, pulsed, pulsed_times, rises_next, rises_in}
use Rattle.pit_counter.specs.private.Stretch.{quiet_for, height, glided_count, glided, is_dividing}
use Rattle.pit_counter.specs.declared.mode.Mode.{Mode}
use Rattle.pit_counter.specs.declared.mode.Mode.TheVariants.{RateGenerator, SquareWave}
use Rattle.pit_counter.specs.declared.table.Effect.{Effect}
use Rattle.pit_counter.specs.declared.table.Effect.TheVariants.{Load, DownToLow}
use Rattle.pit_counter.specs.declared.parts.CounterParts.{CounterParts}
use Rattle.pit_counter.proofs.Quiet.{
  next_effect,
  rate_effect,
  square_effect,
  two,
  glided_count-height,
  pulsed_times-glided,
  rises_in-glided,
}
use Rattle.pit_counter.proofs.Keeps.{loaded_count-below}
use Rattle.pit_counter.proofs.Times.{
  pulsed_times-zero,
  pulsed_times-suc,
  rises_in-zero,
  rises_in-suc,
}
use Rattle.pit_counter.proofs.Joins.{pulsed_times-joined, rises_in-joined}

-- n pulses to a load, with one rise, at the last
pub record Rising (c : CounterParts) (n : ℕ) : Type 0 where
  pub state : pulsed_times n c ≡ affected (Load true) c
  pub some : 0 < n
  pub quiet : rises_in c (n - 1) ≡ 0
  pub rise : rises_in c n ≡ 1

-- one pulse after some without a rise
pub one_more : (c d e : CounterParts) (n : ℕ) → pulsed_times n c ≡ d → rises_in c n ≡ 0 → pulsed d ≡ e → (rises : Bool) → rises_next d ≡ rises
    → (pulsed_times (suc n) c ≡ e) × (rises_in c (suc n) ≡ cond rises 1 0)
one_more c d e n here none next rises test = (
  pulsed_times-suc n c ∙ ap pulsed here ∙ next,
  rises_in-suc c n ∙ ap (λ (b : Bool). cond b (suc (rises_in c n)) (rises_in c n)) (ap rises_next here ∙ test) ∙ ap (λ (x : ℕ). cond rises (suc x) x) none,
)

pub not_from : (b : Bool) → not b ≡ true → b ≡ false
not_from true h = cc
not_from false h = refl

-- ---- mode 2

-- a pulse counts, and loads only at the end
pub record Counting (c : CounterParts) : Type 0 where
  pub begins : ((c.full && not c.live) || c.trig) ≡ false
  pub counts : (c.live && c.gate) ≡ true

pub Counting-from : (c : CounterParts) → c.gate ≡ true → c.live ≡ true → c.trig ≡ false → Counting c
Counting-from c gate live trig = record {
  begins = simp (live, trig) (by_full c.full);
  counts = simp (live, gate);
}
  where
    by_full : (b : Bool) → ((b && false) || false) ≡ false
    by_full true = refl
    by_full false = refl

-- the height of the count that a load leaves
pub height-loaded : (c : CounterParts) (n : ℕ) → c.ce ≡ n % modulus c.bits → 2 ≤ n → n ≤ modulus c.bits → height c ≡ n
unfolding height modulus
height-loaded c n = cond_both (is_bcd c.bits) 10000 65536 (λ m. c.ce ≡ n % m → 2 ≤ n → n ≤ m → cond (eqb c.ce 0) m c.ce ≡ n)
    (λ _ e some few. cond_both (eqb c.ce 0) 10000 c.ce (λ x. x ≡ n) (λ z. omega (arith, eqb-true c.ce 0 z)) (λ z. omega (arith, eqb-false c.ce 0 z)))
    (λ _ e some few. cond_both (eqb c.ce 0) 65536 c.ce (λ x. x ≡ n) (λ z. omega (arith, eqb-true c.ce 0 z)) (λ z. omega (arith, eqb-false c.ce 0 z)))

lowered-two : (bits : ℕ) → lowered bits 2 1 ≡ 1
unfolding lowered modulus
lowered-two bits = cond_both (is_bcd bits) 10000 65536 (λ m. (2 + m - 1) % m ≡ 1) (λ _. refl) (λ _. refl)

-- the effect of a pulse at another count and level
pub effect-rate : (c : CounterParts) (x : ℕ) (o : Bool) → Counting c → mode_of c.bits ≡ RateGenerator
    → effect_in (mode_of c.bits) (record c { ce = x; out = o }) ≡ rate_effect false true (eqb x 1) o
unfolding effect_in
effect-rate c x o k m =
    ap (λ (n : Mode). effect_in n (record c { ce = x; out = o })) m
    ∙ ap (λ (b : Bool). rate_effect b (c.live && c.gate) (eqb x 1) o) k.begins
    ∙ ap (λ (b : Bool). rate_effect false b (eqb x 1) o) k.counts

pub effect-square : (c : CounterParts) (x : ℕ) (o : Bool) → Counting c → mode_of c.bits ≡ SquareWave
    → effect_in (mode_of c.bits) (record c { ce = x; out = o }) ≡ square_effect false true o c.odd (eqb x 0) (eqb x 2)
unfolding effect_in
effect-square c x o k m =
    ap (λ (n : Mode). effect_in n (record c { ce = x; out = o })) m
    ∙ ap (λ (b : Bool). square_effect b (c.live && c.gate) o c.odd (eqb x 0) (eqb x 2)) k.begins
    ∙ ap (λ (b : Bool). square_effect false b o c.odd (eqb x 0) (eqb x 2)) k.counts

-- a height of 2 is a count of 2
low-height : (c : CounterParts) → height c ≡ 2 → c.ce ≡ 2
unfolding height modulus
low-height c = cond_both (is_bcd c.bits) 10000 65536 (λ m. cond (eqb c.ce 0) m c.ce ≡ 2 → c.ce ≡ 2)
    (λ _. cond_both (eqb c.ce 0) 10000 c.ce (λ x. x ≡ 2 → c.ce ≡ 2) (λ _ h. absurd (omega arith)) (λ _ h. h))
    (λ _. cond_both (eqb c.ce 0) 65536 c.ce (λ x. x ≡ 2 → c.ce ≡ 2) (λ _ h. absurd (omega arith)) (λ _ h. h))

-- above it the count is none of the last ones
not_low : (x m low : ℕ) → 0 < low → low < cond (eqb x 0) m x → x ≡ low → ⊥
not_low x m low some h e = let above : low < cond (eqb low 0) m low = subst (λ (y : ℕ). low < cond (eqb y 0) m y) e h in
    let nonzero : eqb low 0 ≡ false = ne_eqb low 0 (λ z. omega arith) in
    let below : low < low = simp nonzero at above in omega arith

count-not : (c : CounterParts) (low : ℕ) → 0 < low → low < height c → eqb c.ce low ≡ false
unfolding height
count-not c low some h = ne_eqb c.ce low (not_low c.ce (modulus c.bits) low some h)

-- down to 2
to_two : (c : CounterParts) (q : ℕ) → Counting c → mode_of c.bits ≡ RateGenerator → c.ce < modulus c.bits → height c ≡ suc (suc q)
    → (pulsed_times q c ≡ record c { ce = 2 }) × (rises_in c q ≡ 0)
unfolding quiet_for glided
to_two c zero k m below h = (pulsed_times-zero c ∙ ap (λ (x : ℕ). record c { ce = x }) (low-height c h), rises_in-zero c)
to_two c (suc q) k m below h =
    let effect : next_effect c ≡ DownToLow = effect-rate c c.ce c.out k m
    ∙ ap (λ (b : Bool). rate_effect false true b c.out) (count-not c 1 (omega arith) (omega (arith, h))) in
    let within : suc q ≤ quiet_for (next_effect c) c = subst (λ (e : Effect). suc q ≤ quiet_for e c) (sym effect) (omega (arith, h)) in
    let place : glided_count c.bits c.ce (suc q) ≡ height c - suc q = glided_count-height c (suc q) below (omega arith) (omega (arith, h)) in
    let one : 1 * suc q ≡ suc q = omega arith in (
      pulsed_times-glided c (suc q) below within ∙ ap (λ (e : Effect). glided e (suc q) c) effect
          ∙ ap (λ (x : ℕ). record c { ce = x }) (ap (glided_count c.bits c.ce) one ∙ place ∙ omega (arith, h)),
      rises_in-glided c (suc q) below within,
    )

low_at_one : (o : Bool) (x : ℕ) → x ≡ 1 → (o && not (eqb x 1)) ≡ false
low_at_one true x e = ap not (eq-eqb x 1 e)
low_at_one false x e = refl

no_level : (b : Bool) → (b && false) ≡ false
no_level true = refl
no_level false = refl

-- what is left of a period of mode 2: down to 1, and a load
pub to_load : (c : CounterParts) (q : ℕ) → Counting c → mode_of c.bits ≡ RateGenerator → c.ce < modulus c.bits → height c ≡ suc (suc q)
    → (pulsed_times (suc (suc q)) c ≡ affected (Load true) c) × (rises_in c (suc q) ≡ 0) × (rises_in c (suc (suc q)) ≡ 1)
unfolding pulsed rises_next
to_load c q k m below h =
    let down = to_two c q k m below h in
    let falls : pulsed (record c { ce = 2 }) ≡ record c { ce = 1; out = false } =
    ap (λ (e : Effect). affected e (record c { ce = 2 })) (effect-rate c 2 c.out k m)
    ∙ two c _ _ _ _ (lowered-two c.bits) (low_at_one c.out (lowered c.bits 2 1) (lowered-two c.bits)) in
    let no_rise : rises_next (record c { ce = 2 }) ≡ false = ap (λ (d : CounterParts). not c.out && d.out) falls ∙ no_level (not c.out) in
    let first = one_more c (record c { ce = 2 }) (record c { ce = 1; out = false }) q down.0 down.1 falls false no_rise in
    let loads : pulsed (record c { ce = 1; out = false }) ≡ affected (Load true) c =
    ap (λ (e : Effect). affected e (record c { ce = 1; out = false })) (effect-rate c 1 false k m) in
    let rises : rises_next (record c { ce = 1; out = false }) ≡ true = ap (λ (d : CounterParts). d.out) loads in
    let second = one_more c (record c { ce = 1; out = false }) (affected (Load true) c) (suc q) first.0 first.1 loads true rises in
    (second.0, first.1, second.1)

-- the count meant is 2 at least there
pub meant_count-some : (bits cr : ℕ) → is_periodic (mode_of bits) ≡ true → 2 ≤ meant_count bits cr
unfolding meant_count modulus
meant_count-some bits cr p =
    cond_both (eqb (number_in bits cr) 0) (cond (is_bcd bits) 10000 65536)
    (cond (eqb (number_in bits cr) 1 && is_periodic (mode_of bits)) 2 (number_in bits cr)) (λ x. 2 ≤ x)
    (λ _. cond_both (is_bcd bits) 10000 65536 (λ x. 2 ≤ x) (λ _. lit≤ tt) (λ _. lit≤ tt))
    (λ zero_. cond_both (eqb (number_in bits cr) 1 && is_periodic (mode_of bits)) 2 (number_in bits cr) (λ x. 2 ≤ x)
    (λ _. lit≤ tt)
    (λ one. let not_one : eqb (number_in bits cr) 1 ≡ false = not_first (eqb (number_in bits cr) 1) (is_periodic (mode_of bits)) p one in
    omega (arith, eqb-false (number_in bits cr) 0 zero_, eqb-false (number_in bits cr) 1 not_one)))
  where
    not_first : (a b : Bool) → b ≡ true → (a && b) ≡ false → a ≡ false
    not_first false b e f = refl
    not_first true b e f = absurd (true_false b e f)
      where
        true_false : (b : Bool) → b ≡ true → b ≡ false → ⊥
        true_false b e f = cc

-- ---- many periods after a load, each of which ends with one

state_many : (c : CounterParts) (n q : ℕ) → Rising (affected (Load true) c) n → pulsed_times (q * n) (affected (Load true) c) ≡ affected (Load true) c
state_many c n zero r = ap (λ (k : ℕ). pulsed_times k (affected (Load true) c)) (omega arith) ∙ pulsed_times-zero (affected (Load true) c)
state_many c n (suc q) r =
    let d : CounterParts = affected (Load true) c in
    let e : suc q * n ≡ n + q * n = omega arith in
    ap (λ (k : ℕ). pulsed_times k d) e ∙ pulsed_times-joined d n (q * n) ∙ ap (pulsed_times (q * n)) r.state ∙ state_many c n q r

rises_many : (c : CounterParts) (n q : ℕ) → Rising (affected (Load true) c) n → rises_in (affected (Load true) c) (q * n) ≡ q
rises_many c n zero r = ap (rises_in (affected (Load true) c)) (omega arith) ∙ rises_in-zero (affected (Load true) c)
rises_many c n (suc q) r =
    let d : CounterParts = affected (Load true) c in
    let e : suc q * n ≡ n + q * n = omega arith in
    ap (rises_in d) e ∙ rises_in-joined d n (q * n) ∙ omega (arith, r.rise, ap (λ (x : CounterParts). rises_in x (q * n)) r.state, rises_many c n q r)

-- ---- mode 2 from any count on

pub rate-from : (m : Mode) → is_rate m ≡ true → m ≡ RateGenerator
rate-from RateGenerator h = refl
rate-from other h = cc

-- a load of mode 2 while it counts, by the count that is meant
pub load_rate : (c : CounterParts) (n : ℕ) → is_dividing c ≡ true → n ≡ meant_count c.bits c.cr
    → record c { ce = n % modulus c.bits; out = true; null = false; armed = false; odd = false } ≡ affected (Load true) c
unfolding is_dividing loaded_count is_odd_square
load_rate c n h meant =
    let a = and_parts _ _ h in
    let b = and_parts _ _ a.0 in
    let d = and_parts _ _ b.0 in
    let e = and_parts _ _ d.0 in
    let m = rate-from (mode_of c.bits) e.0 in
    let trig : c.trig ≡ false = not_from c.trig b.1 in
    let strobe : false ≡ has_strobe (mode_of c.bits) = sym (ap has_strobe m) in
    let odd : false ≡ (is_square (mode_of c.bits) && eqb (meant_count c.bits c.cr % 2) 1) =
    sym (ap (λ (k : Mode). is_square k && eqb (meant_count c.bits c.cr % 2) 1) m) in
    let none : n ≡ meant_count c.bits c.cr - cond {A = ℕ} false 1 0 = omega (arith, meant) in
    let count : n % modulus c.bits ≡ (meant_count c.bits c.cr - cond (is_square (mode_of c.bits) && eqb (meant_count c.bits c.cr % 2) 1) 1 0)
    % modulus c.bits =
    ap (λ (k : ℕ). k % modulus c.bits) none ∙ ap (λ (x : Bool). (meant_count c.bits c.cr - cond x 1 0) % modulus c.bits) odd in
    λ i. record c { ce = count i; out = true; null = false; live = d.1 i; trig = trig i; armed = strobe i; odd = odd i }

-- where the count isn't 1 there are two pulses at least
pub height-two : (c : CounterParts) → eqb c.ce 1 ≡ false → 2 ≤ height c
unfolding height modulus
height-two c other = cond_both (eqb c.ce 0) (cond (is_bcd c.bits) 10000 65536) c.ce (λ x. 2 ≤ x)
    (λ _. cond_both (is_bcd c.bits) 10000 65536 (λ x. 2 ≤ x) (λ _. lit≤ tt) (λ _. lit≤ tt))
    (λ some. omega (arith, eqb-false c.ce 0 some, eqb-false c.ce 1 other))

-- n pulses to a load, and whole periods after it
pub record Ending (c : CounterParts) (n : ℕ) : Type 0 where
  pub first : Rising c n
  pub later : Rising (affected (Load true) c) (meant_count c.bits c.cr)

rising-rate : (c : CounterParts) → Counting c → mode_of c.bits ≡ RateGenerator → c.ce < modulus c.bits → 2 ≤ height c → Rising c (height c)
rising-rate c k m below tall =
    let place : height c ≡ suc (suc (height c - 2)) = omega arith in
    let before : height c - 1 ≡ suc (height c - 2) = omega arith in
    let all = to_load c (height c - 2) k m below place in
    record {
      state = ap (λ (n : ℕ). pulsed_times n c) place ∙ all.0;
      some = omega arith;
      quiet = ap (rises_in c) before ∙ all.1;
      rise = ap (rises_in c) place ∙ all.2;
    }

pub ending : (c : CounterParts) → is_dividing c ≡ true → c.ce < modulus c.bits → meant_count c.bits c.cr ≤ modulus c.bits → Ending c (height c)
unfolding is_dividing
ending c h below few =
    let a = and_parts _ _ h in
    let b = and_parts _ _ a.0 in
    let d = and_parts _ _ b.0 in
    let e = and_parts _ _ d.0 in
    let m = rate-from (mode_of c.bits) e.0 in
    let period : ℕ = meant_count c.bits c.cr in
    let loaded : CounterParts = affected (Load true) c in
    let count : loaded.ce ≡ period % modulus c.bits = sym (ap (λ (x : CounterParts). x.ce) (load_rate c period h refl)) in
    let some = meant_count-some c.bits c.cr (ap is_periodic m) in
    let tall : height loaded ≡ period = height-loaded loaded period count some few in
    record {
      first = rising-rate c (Counting-from c e.1 d.1 (not_from c.trig b.1)) m below (height-two c (not_from (eqb c.ce 1) a.1));
      later = subst (λ (n : ℕ). Rising loaded n) tall
          (rising-rate loaded (Counting-from loaded e.1 refl refl) m (loaded_count-below c.bits c.cr) (omega (arith, tall, some)));
    }

-- q whole periods after what is left of one
pub state_ending : (c : CounterParts) (n q : ℕ) → Ending c n → pulsed_times (n + q * meant_count c.bits c.cr) c ≡ affected (Load true) c
state_ending c n q r =
    pulsed_times-joined c n (q * meant_count c.bits c.cr) ∙ ap (pulsed_times (q * meant_count c.bits c.cr)) r.first.state
    ∙ state_many c (meant_count c.bits c.cr) q r.later

pub rises_ending : (c : CounterParts) (n q : ℕ) → Ending c n → rises_in c (n + q * meant_count c.bits c.cr) ≡ 1 + q
rises_ending c n q r =
    rises_in-joined c n (q * meant_count c.bits c.cr)
    ∙ omega (
      arith,
      r.first.rise,
      ap (λ (d : CounterParts). rises_in d (q * meant_count c.bits c.cr)) r.first.state,
      rises_many c (meant_count c.bits c.cr) q r.later,
    )

pub first_ending : (c : CounterParts) (n q : ℕ) → Ending c n → IsFirst (rises_in c) (n + q * meant_count c.bits c.cr) (Some n)
first_ending c n q r = (r.first.some, omega arith, r.first.quiet, omega (arith, r.first.rise))
