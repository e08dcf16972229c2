-- Mode 3 from any count on: what is left of a half, and the place in a period after it.
use Rattle.std.proofs.Common.{
  ◌≡◌,
  ℕ,
  zero,
  suc,
  ◌+◌,
  ◌-◌,
  ◌*◌,
  ◌/◌,
  ◌%◌,
  ◌<◌,
  ◌≤◌,
  Bool,
  true,
  false,
  not,
  ◌&&◌,
  ◌||◌,
  cond,
  eqb,
  Some,
  None,
  refl,
  sym,
  ap,
  ◌∙◌,
  arith,
  subst,
}
use Rattle.std.proofs.lemmas.Bool.{and_parts, cond_both, eqb-true, eqb-false, ne_eqb, eq-eqb}
use Rattle.std.proofs.Math.Nat.{mod-lt, mod-eq-sub-div-mul, div-mul-le_self}
use Rattle.clk_units.proofs.Events.{CountsUp-mono}
use Rattle.pit_counter.specs.Mode.{mode_of, is_bcd, is_square, is_periodic, has_strobe}
use Rattle.pit_counter.specs.Count.{modulus, meant_count, loaded_count, is_odd_square}
use Rattle.pit_counter.specs.Table.{affected, pulsed, pulsed_times, rises_next, rises_in}
use Rattle.pit_counter.specs.Parts.{IsCounter, flags_valid, ce_valid}
use Rattle.pit_counter.specs.private.Stretch.{height, quiet_for, glided, glided_count, is_halving, half_left, to_rise}
use Rattle.pit_counter.specs.private.Taken.{HasTaken}
use Rattle.pit_counter.specs.declared.mode.Mode.{Mode}
use Rattle.pit_counter.specs.declared.mode.Mode.TheVariants.{SquareWave}
use Rattle.pit_counter.specs.declared.table.Effect.{Effect}
use Rattle.pit_counter.specs.declared.table.Effect.TheVariants.{Load, DownByTwo}
use Rattle.pit_counter.specs.declared.parts.CounterParts.{CounterParts}
use Rattle.pit_counter.specs.declared.rises.Rises.{Rises}
use Rattle.pit_counter.proofs.Keeps.{IsCounter-ce, loaded_count-below, loaded_count-even}
use Rattle.pit_counter.proofs.Times.{pulsed_times-zero, rises_in-zero, CountsUp-rises_in}
use Rattle.pit_counter.proofs.Joins.{pulsed_times-joined, rises_in-joined, HasTaken-joined}
use Rattle.pit_counter.proofs.Quiet.{next_effect, square_effect, height-some, pulsed_times-glided, rises_in-glided}
use Rattle.pit_counter.proofs.Divided.{small, height-left, unset}
use Rattle.pit_counter.proofs.Periods.{Ending, height-loaded, Counting, Counting-from, Rising, effect-square, one_more, not_from, meant_count-some, state_ending, rises_ending, first_ending}

-- ---- what is left of a half

-- a counter that makes a square wave
pub record Halving (c : CounterParts) : Type 0 where
  pub mode : mode_of c.bits ≡ SquareWave
  pub counting : Counting c
  pub below : c.ce < modulus c.bits
  pub even : c.ce % 2 ≡ 0

-- an even count has an even height, of two at least
height-even : (c : CounterParts) → c.ce % 2 ≡ 0 → (height c % 2 ≡ 0) × (2 ≤ height c)
unfolding height modulus
height-even c e = cond_both (is_bcd c.bits) 10000 65536 (λ m. (cond (eqb c.ce 0) m c.ce % 2 ≡ 0) × (2 ≤ cond (eqb c.ce 0) m c.ce))
    (λ _. cond_both (eqb c.ce 0) 10000 c.ce (λ x. (x % 2 ≡ 0) × (2 ≤ x)) (λ z. (omega arith, omega arith)) (λ z. (e, omega (arith, e, eqb-false c.ce 0 z))))
    (λ _. cond_both (eqb c.ce 0) 65536 c.ce (λ x. (x % 2 ≡ 0) × (2 ≤ x)) (λ z. (omega arith, omega arith)) (λ z. (e, omega (arith, e, eqb-false c.ce 0 z))))

glided_count-left : (c : CounterParts) (down : ℕ) → c.ce < modulus c.bits → down ≤ height c → glided_count c.bits c.ce down ≡ (height c - down) % modulus c.bits
unfolding glided_count height modulus
glided_count-left c down = cond_both (is_bcd c.bits) 10000 65536
    (λ m. c.ce < m → down ≤ cond (eqb c.ce 0) m c.ce → (c.ce + m - down % m) % m ≡ (cond (eqb c.ce 0) m c.ce - down) % m)
    (λ _ below. cond_both (eqb c.ce 0) 10000 c.ce (λ x. down ≤ x → (c.ce + 10000 - down % 10000) % 10000 ≡ (x - down) % 10000)
    (λ e h. omega (arith, eqb-true c.ce 0 e)) (λ e h. omega (arith, eqb-false c.ce 0 e)))
    (λ _ below. cond_both (eqb c.ce 0) 65536 c.ce (λ x. down ≤ x → (c.ce + 65536 - down % 65536) % 65536 ≡ (x - down) % 65536)
    (λ e h. omega (arith, eqb-true c.ce 0 e)) (λ e h. omega (arith, eqb-false c.ce 0 e)))

small-two : (bits : ℕ) → 2 % modulus bits ≡ 2
unfolding modulus
small-two bits = cond_both (is_bcd bits) 10000 65536 (λ m. 2 % m ≡ 2) (λ _. omega arith) (λ _. omega arith)

none-mod : (bits : ℕ) → 0 % modulus bits ≡ 0
unfolding modulus
none-mod bits = cond_both (is_bcd bits) 10000 65536 (λ m. 0 % m ≡ 0) (λ _. omega arith) (λ _. omega arith)

-- by the level and the count: the effect before the end of a half, and how far it is
abbrev ends_at : Bool → ℕ
ends_at long = cond long 0 2

effect-before : (o odd zero_ two_ : Bool) → cond (o && odd) zero_ two_ ≡ false → square_effect false true o odd zero_ two_ ≡ DownByTwo
effect-before true true zero_ two_ h = ap (λ (b : Bool). square_effect false true true true b two_) h
effect-before true false zero_ two_ h = ap (λ (b : Bool). square_effect false true true false zero_ b) h
effect-before false odd zero_ two_ h = ap (λ (b : Bool). square_effect false true false odd zero_ b) h

effect-end : (o odd zero_ two_ : Bool) → cond (o && odd) zero_ two_ ≡ true → square_effect false true o odd zero_ two_ ≡ Load (not o)
effect-end true true zero_ two_ h = ap (λ (b : Bool). square_effect false true true true b two_) h
effect-end true false zero_ two_ h = ap (λ (b : Bool). square_effect false true true false zero_ b) h
effect-end false odd zero_ two_ h = ap (λ (b : Bool). square_effect false true false odd zero_ b) h

-- before its end the count is none of the last ones
not_end : (c : CounterParts) (long : Bool) (k : ℕ) → suc k < cond long (c.ce / 2 + 1) (height c / 2) → cond long (eqb c.ce 0) (eqb c.ce 2) ≡ false
unfolding height
not_end c true k h = ne_eqb c.ce 0 (λ z. omega arith)
not_end c false k h = ne_eqb c.ce 2 (λ z. let tall : height c ≡ 2 = height-of-two c z in omega arith)
  where
    height-of-two : (c : CounterParts) → c.ce ≡ 2 → height c ≡ 2
    height-of-two c z = ap (λ (x : ℕ). cond (eqb x 0) (modulus c.bits) x) z

quiet-half : (c : CounterParts) (long : Bool) (k : ℕ) → suc k < cond long (c.ce / 2 + 1) (height c / 2) → suc k ≤ cond long (c.ce / 2) (height c / 2 - 1)
quiet-half c true k h = omega arith
quiet-half c false k h = omega arith

half-low : (c : CounterParts) (long : Bool) (n : ℕ) → n < cond long (c.ce / 2 + 1) (height c / 2) → c.ce ≤ height c → 2 * n ≤ height c
half-low c true n h few = omega arith
half-low c false n h few = omega arith

ce-height : (c : CounterParts) → c.ce ≤ height c
unfolding height
ce-height c = cond_both (eqb c.ce 0) (modulus c.bits) c.ce (λ x. c.ce ≤ x) (λ z. omega (arith, eqb-true c.ce 0 z)) (λ _. omega arith)

-- pulses within a half
pub within : (c : CounterParts) (n : ℕ) → Halving c → n < half_left c
    → (pulsed_times n c ≡ record c { ce = (height c - 2 * n) % modulus c.bits }) × (rises_in c n ≡ 0)
unfolding half_left quiet_for glided
within c zero s h = (pulsed_times-zero c ∙ ap (λ (x : ℕ). record c { ce = x }) (height-left c s.below), rises_in-zero c)
within c (suc k) s h =
    let effect : next_effect c ≡ DownByTwo = effect-square c c.ce c.out s.counting s.mode
    ∙ effect-before c.out c.odd (eqb c.ce 0) (eqb c.ce 2) (not_end c (c.out && c.odd) k h) in
    let quiet : suc k ≤ quiet_for (next_effect c) c = subst (λ (e : Effect). suc k ≤ quiet_for e c) (sym effect) (quiet-half c (c.out && c.odd) k h) in
    let place = glided_count-left c (2 * suc k) s.below (half-low c (c.out && c.odd) (suc k) h (ce-height c)) in (
      pulsed_times-glided c (suc k) s.below quiet ∙ ap (λ (e : Effect). glided e (suc k) c) effect ∙ ap (λ (x : ℕ). record c { ce = x }) place,
      rises_in-glided c (suc k) s.below quiet,
    )

end-count : (c : CounterParts) (long : Bool) → Halving c → (height c - 2 * (cond long (c.ce / 2 + 1) (height c / 2) - 1)) % modulus c.bits ≡ cond long 0 2
end-count c true s = by_zero (eqb c.ce 0) refl
  where
    by_zero : (b : Bool) → eqb c.ce 0 ≡ b → (height c - 2 * (c.ce / 2 + 1 - 1)) % modulus c.bits ≡ 0
    by_zero true z =
        let none : 2 * (c.ce / 2 + 1 - 1) ≡ 0 = omega (arith, eqb-true c.ce 0 z) in
        ap (λ (x : ℕ). (height c - x) % modulus c.bits) none ∙ sym (height-left c s.below) ∙ eqb-true c.ce 0 z
    by_zero false z =
        let all : height c - 2 * (c.ce / 2 + 1 - 1) ≡ 0 = omega (arith, s.even, height-some c z) in
        ap (λ (x : ℕ). x % modulus c.bits) all ∙ none-mod c.bits
end-count c false s =
    let tall = height-even c s.even in
    let two_ : height c - 2 * (height c / 2 - 1) ≡ 2 = omega (arith, tall.0, tall.1) in
    ap (λ (x : ℕ). x % modulus c.bits) two_ ∙ small-two c.bits

at_end : (long : Bool) (x : ℕ) → x ≡ cond long 0 2 → cond long (eqb x 0) (eqb x 2) ≡ true
at_end true x e = eq-eqb x 0 e
at_end false x e = eq-eqb x 2 e

pub half-some : (c : CounterParts) → Halving c → 0 < half_left c
unfolding half_left
half-some c s = cond_both (c.out && c.odd) (c.ce / 2 + 1) (height c / 2) (λ x. 0 < x) (λ _. omega arith)
    (λ _. let tall = height-even c s.even in omega (arith, tall.0, tall.1))

both_same : (b : Bool) → (b && b) ≡ b
both_same true = refl
both_same false = refl

-- the toggle at its end
pub record Toggle (c : CounterParts) : Type 0 where
  pub some : 0 < half_left c
  pub state : pulsed_times (half_left c) c ≡ affected (Load (not c.out)) c
  pub quiet : rises_in c (half_left c - 1) ≡ 0
  pub rise : rises_in c (half_left c) ≡ cond (not c.out) 1 0

pub toggle : (c : CounterParts) → Halving c → Toggle c
unfolding pulsed rises_next half_left
toggle c s =
    let last : ℕ = half_left c - 1 in
    let some = half-some c s in
    let x : ℕ = (height c - 2 * last) % modulus c.bits in
    let down = within c last s (omega arith) in
    let turns : pulsed (record c { ce = x }) ≡ affected (Load (not c.out)) c =
    ap (λ (e : Effect). affected e (record c { ce = x }))
    (effect-square c x c.out s.counting s.mode
    ∙ effect-end c.out c.odd (eqb x 0) (eqb x 2) (at_end (c.out && c.odd) x (end-count c (c.out && c.odd) s))) in
    let rises : rises_next (record c { ce = x }) ≡ not c.out = ap (λ (d : CounterParts). not c.out && d.out) turns ∙ both_same (not c.out) in
    let more = one_more c (record c { ce = x }) (affected (Load (not c.out)) c) last down.0 down.1 turns (not c.out) rises in
    let place : suc last ≡ half_left c = omega arith in
    record {
      some = some;
      state = ap (λ (n : ℕ). pulsed_times n c) (sym place) ∙ more.0;
      quiet = down.1;
      rise = ap (rises_in c) (sym place) ∙ more.1;
    }

-- ---- the place in a period

implied : (a b : Bool) → a ≡ true → (not a || b) ≡ true → b ≡ true
implied true b e h = h
implied false b e h = cc

square-from : (m : Mode) → is_square m ≡ true → m ≡ SquareWave
square-from SquareWave h = refl
square-from other h = cc

-- what the test and the conditions on the fields say
pub record Square (c : CounterParts) : Type 0 where
  pub halving : Halving c
  pub gate : c.gate ≡ true
  pub live : c.live ≡ true
  pub trig : c.trig ≡ false
  pub armed : c.armed ≡ false

pub Square-from : (c : CounterParts) → IsCounter c → is_halving c ≡ true → Square c
unfolding is_halving flags_valid ce_valid
Square-from c valid h =
    let a = and_parts _ _ h in
    let b = and_parts _ _ a.0 in
    let d = and_parts _ _ b.0 in
    let m = square-from (mode_of c.bits) d.0 in
    let trig = not_from c.trig a.1 in
    let flags = and_parts _ _ valid.flags in
    let by_mode = and_parts _ _ (and_parts _ _ flags.0).1 in
    let count = and_parts _ _ (and_parts _ _ valid.ce).0 in
    record {
      halving = record {
        mode = m;
        counting = Counting-from c d.1 b.1 trig;
        below = IsCounter-ce c valid;
        even = eqb-true _ _ (implied (is_square (mode_of c.bits)) _ d.0 count.1);
      };
      gate = d.1;
      live = b.1;
      trig = trig;
      armed = unset c.armed _ (ap (λ (k : Mode). has_strobe k && c.live) m) (and_parts _ _ by_mode.0).0;
    }

Halving-loaded : (c : CounterParts) (level : Bool) → c.gate ≡ true → mode_of c.bits ≡ SquareWave → Halving (affected (Load level) c)
Halving-loaded c level gate m = record {
  mode = m;
  counting = Counting-from (affected (Load level) c) gate refl refl;
  below = loaded_count-below c.bits c.cr;
  even = loaded_count-even c.bits c.cr (ap is_square m);
}

pub odd-square : (c : CounterParts) → mode_of c.bits ≡ SquareWave → is_odd_square c.bits c.cr ≡ eqb (meant_count c.bits c.cr % 2) 1
unfolding is_odd_square
odd-square c m = ap (λ (k : Mode). is_square k && eqb (meant_count c.bits c.cr % 2) 1) m

even-part : (n : ℕ) → n - cond (eqb (n % 2) 1) 1 0 ≡ 2 * (n / 2)
even-part n = cond_both (eqb (n % 2) 1) 1 0 (λ k. n - k ≡ 2 * (n / 2)) (λ e. omega (arith, eqb-true _ _ e)) (λ e. omega (arith, eqb-false _ _ e))

loaded-even : (c : CounterParts) → mode_of c.bits ≡ SquareWave → loaded_count c.bits c.cr ≡ 2 * (meant_count c.bits c.cr / 2) % modulus c.bits
unfolding loaded_count
loaded-even c m =
    ap (λ (b : Bool). (meant_count c.bits c.cr - cond b 1 0) % modulus c.bits) (odd-square c m)
    ∙ ap (λ (x : ℕ). x % modulus c.bits) (even-part (meant_count c.bits c.cr))

height-half : (c : CounterParts) (level : Bool) → mode_of c.bits ≡ SquareWave → meant_count c.bits c.cr ≤ modulus c.bits
    → height (affected (Load level) c) ≡ 2 * (meant_count c.bits c.cr / 2)
height-half c level m few =
    let some = meant_count-some c.bits c.cr (ap is_periodic m) in
    height-loaded (affected (Load level) c) (2 * (meant_count c.bits c.cr / 2)) (loaded-even c m) (omega (arith, some)) (omega (arith, few))

-- the low half
low-half : (c : CounterParts) → mode_of c.bits ≡ SquareWave → meant_count c.bits c.cr ≤ modulus c.bits
    → half_left (affected (Load false) c) ≡ meant_count c.bits c.cr / 2
unfolding half_left
low-half c m few = omega (arith, height-half c false m few)

-- the high half
high-half : (c : CounterParts) → mode_of c.bits ≡ SquareWave → meant_count c.bits c.cr ≤ modulus c.bits
    → half_left (affected (Load true) c) ≡ meant_count c.bits c.cr - meant_count c.bits c.cr / 2
unfolding half_left
high-half c m few =
    let n : ℕ = meant_count c.bits c.cr in
    let ce : ℕ = loaded_count c.bits c.cr in
    let tall = height-half c true m few in
    ap (λ (b : Bool). cond b (ce / 2 + 1) (height (affected (Load true) c) / 2)) (odd-square c m)
    ∙ cond_both (eqb (n % 2) 1) (ce / 2 + 1) (height (affected (Load true) c) / 2) (λ x. x ≡ n - n / 2)
    (λ e. let halves = eqb-true _ _ e in
    let count : ce ≡ 2 * (n / 2) = loaded-even c m ∙ small c.bits (2 * (n / 2)) (omega (arith, halves, few)) in omega (arith, halves, count))
    (λ e. let halves = eqb-false _ _ e in omega (arith, halves, tall))

-- pulses after a load
pub place-high : (c : CounterParts) (at : ℕ) → Square c → meant_count c.bits c.cr ≤ modulus c.bits → at < meant_count c.bits c.cr - meant_count c.bits c.cr / 2
    → pulsed_times at (affected (Load true) c) ≡ record (affected (Load true) c) { ce = 2 * (meant_count c.bits c.cr / 2 - at) % modulus c.bits }
place-high c at s few h =
    let m = s.halving.mode in
    let n : ℕ = meant_count c.bits c.cr in
    let count : height (affected (Load true) c) - 2 * at ≡ 2 * (n / 2 - at) = omega (arith, height-half c true m few) in
    (within (affected (Load true) c) at (Halving-loaded c true s.gate m) (omega (arith, h, high-half c m few))).0
    ∙ ap (λ (x : ℕ). record (affected (Load true) c) { ce = x % modulus c.bits }) count

-- the rest of a period after its high half
pub after-high : (c : CounterParts) (k : ℕ) → Square c → meant_count c.bits c.cr ≤ modulus c.bits
    → pulsed_times (meant_count c.bits c.cr - meant_count c.bits c.cr / 2 + k) (affected (Load true) c) ≡ pulsed_times k (affected (Load false) c)
after-high c k s few =
    let m = s.halving.mode in
    let high = high-half c m few in
    ap (λ (x : ℕ). pulsed_times (x + k) (affected (Load true) c)) (sym high)
    ∙ pulsed_times-joined (affected (Load true) c) (half_left (affected (Load true) c)) k
    ∙ ap (pulsed_times k) (toggle (affected (Load true) c) (Halving-loaded c true s.gate m)).state

pub place-low : (c : CounterParts) (at : ℕ) → Square c → meant_count c.bits c.cr ≤ modulus c.bits → meant_count c.bits c.cr - meant_count c.bits c.cr / 2 ≤ at
    → at < meant_count c.bits c.cr
    → pulsed_times at (affected (Load true) c) ≡ record (affected (Load false) c) { ce = 2 * (meant_count c.bits c.cr - at) % modulus c.bits }
place-low c at s few h within_ =
    let m = s.halving.mode in
    let n : ℕ = meant_count c.bits c.cr in
    let k : ℕ = at - (n - n / 2) in
    let place : at ≡ n - n / 2 + k = omega (arith, h) in
    let count : height (affected (Load false) c) - 2 * k ≡ 2 * (n - at) = omega (arith, height-half c false m few, h) in
    ap (λ (x : ℕ). pulsed_times x (affected (Load true) c)) place
    ∙ after-high c k s few
    ∙ (within (affected (Load false) c) k (Halving-loaded c false s.gate m) (omega (arith, low-half c m few, h, within_))).0
    ∙ ap (λ (x : ℕ). record (affected (Load false) c) { ce = x % modulus c.bits }) count

-- the fields that a load writes where the counter makes a square wave
pub placed : (c : CounterParts) (x : ℕ) (level odd : Bool) → Square c → odd ≡ eqb (meant_count c.bits c.cr % 2) 1
    → record c { ce = x; out = level; null = false; odd = odd } ≡ record (affected (Load level) c) { ce = x }
placed c x level odd s e =
    let strobe : c.armed ≡ has_strobe (mode_of c.bits) = s.armed ∙ sym (ap has_strobe s.halving.mode) in
    let same : odd ≡ is_odd_square c.bits c.cr = e ∙ sym (odd-square c s.halving.mode) in
    let live = s.live in
    let trig = s.trig in
    λ i. record c { ce = x; out = level; null = false; live = live i; trig = trig i; armed = strobe i; odd = same i }

-- ---- up to the next rise

rising-square : (c : CounterParts) → Halving c → c.gate ≡ true → meant_count c.bits c.cr ≤ modulus c.bits → Rising c (to_rise c)
unfolding to_rise
rising-square c s gate few = by_level c.out refl
  where
    by_level : (o : Bool) → c.out ≡ o → Rising c (half_left c + cond o (meant_count c.bits c.cr / 2) 0)
    by_level false o =
        let t = toggle c s in
        let n : ℕ = half_left c in
        let place : n + 0 ≡ n = omega arith in
        let before : n + 0 - 1 ≡ n - 1 = omega arith in
        record {
          state = ap (λ (k : ℕ). pulsed_times k c) place ∙ t.state ∙ ap (λ (b : Bool). affected (Load (not b)) c) o;
          some = omega (arith, t.some);
          quiet = ap (rises_in c) before ∙ t.quiet;
          rise = ap (rises_in c) place ∙ t.rise ∙ ap (λ (b : Bool). cond (not b) 1 0) o;
        }
    by_level true o =
        let t = toggle c s in
        let d : CounterParts = affected (Load false) c in
        let u = toggle d (Halving-loaded c false gate s.mode) in
        let low : half_left d ≡ meant_count c.bits c.cr / 2 = low-half c s.mode few in
        let n : ℕ = half_left c in
        let k : ℕ = meant_count c.bits c.cr / 2 in
        let here : pulsed_times n c ≡ d = t.state ∙ ap (λ (b : Bool). affected (Load (not b)) c) o in
        let none : rises_in c n ≡ 0 = t.rise ∙ ap (λ (b : Bool). cond (not b) 1 0) o in
        let before : n + k - 1 ≡ n + (k - 1) = omega (arith, u.some, low) in
        record {
          state = pulsed_times-joined c n k ∙ ap (pulsed_times k) here ∙ ap (λ (x : ℕ). pulsed_times x d) (sym low) ∙ u.state;
          some = omega (arith, t.some);
          quiet = ap (rises_in c) before ∙ rises_in-joined c n (k - 1)
              ∙ omega (arith, none, ap (λ (x : CounterParts). rises_in x (k - 1)) here, ap (λ (x : ℕ). rises_in d (x - 1)) low, u.quiet);
          rise = rises_in-joined c n k
              ∙ omega (arith, none, ap (λ (x : CounterParts). rises_in x k) here, ap (λ (x : ℕ). rises_in d x) low, u.rise);
        }

-- after a load a whole period is left
to_rise-loaded : (c : CounterParts) → mode_of c.bits ≡ SquareWave → meant_count c.bits c.cr ≤ modulus c.bits
    → to_rise (affected (Load true) c) ≡ meant_count c.bits c.cr
unfolding to_rise
to_rise-loaded c m few = omega (arith, high-half c m few)

pub ending-square : (c : CounterParts) → Square c → meant_count c.bits c.cr ≤ modulus c.bits → Ending c (to_rise c)
ending-square c s few =
    let m = s.halving.mode in
    let loaded : CounterParts = affected (Load true) c in
    record {
      first = rising-square c s.halving s.gate few;
      later = subst (λ (n : ℕ). Rising loaded n) (to_rise-loaded c m few) (rising-square loaded (Halving-loaded c true s.gate m) s.gate few);
    }

-- ---- what pulses leave, and their rises

pub low-enough : (c : CounterParts) (n : ℕ) → n < half_left c → 2 * n ≤ height c
unfolding half_left
low-enough c n h = half-low c (c.out && c.odd) n h (ce-height c)

-- within the present half
pub taken-half : (c : CounterParts) (n : ℕ) → Square c → n < half_left c
    → HasTaken n c (record c { ce = (height c - 2 * n) % modulus c.bits }) (record { count = 0; first = None })
taken-half c n s h = let here = within c n s.halving h in record { state = sym here.0; count = sym here.1; first = here.1 }

-- in the low half after it
pub taken-low : (c : CounterParts) (n : ℕ) → Square c → meant_count c.bits c.cr ≤ modulus c.bits → half_left c ≤ n → n < to_rise c
    → (to_rise c - n ≤ meant_count c.bits c.cr / 2)
    × HasTaken n c (pulsed_times (meant_count c.bits c.cr - (to_rise c - n)) (affected (Load true) c)) (record { count = 0; first = None })
unfolding to_rise
taken-low c n s few past h = by_level c.out refl h (ending-square c s few).first.quiet
  where
    by_level : (o : Bool) → c.out ≡ o → n < half_left c + cond o (meant_count c.bits c.cr / 2) 0
        → rises_in c (half_left c + cond o (meant_count c.bits c.cr / 2) 0 - 1) ≡ 0
        → (half_left c + cond o (meant_count c.bits c.cr / 2) 0 - n ≤ meant_count c.bits c.cr / 2)
        × HasTaken n c (pulsed_times (meant_count c.bits c.cr - (half_left c + cond o (meant_count c.bits c.cr / 2) 0 - n)) (affected (Load true) c))
        (record { count = 0; first = None })
    by_level false o h quiet = absurd (omega (arith, past, h))
    by_level true o h quiet =
        let period : ℕ = meant_count c.bits c.cr in
        let k : ℕ = n - half_left c in
        let whole : half_left c + k ≡ n = omega (arith, past) in
        let place : period - period / 2 + k ≡ period - (half_left c + period / 2 - n) = omega (arith, past, h) in
        let here : pulsed_times (half_left c) c ≡ affected (Load false) c =
        (toggle c s.halving).state ∙ ap (λ (b : Bool). affected (Load (not b)) c) o in
        let none : rises_in c n ≡ 0 =
        omega (arith, quiet, CountsUp-mono (rises_in c) (CountsUp-rises_in c) n (half_left c + period / 2 - 1) (omega (arith, h))) in (
          omega (arith, past),
          record {
            state = ap (λ (x : ℕ). pulsed_times x (affected (Load true) c)) (sym place) ∙ after-high c k s few
                ∙ ap (pulsed_times k) (sym here) ∙ sym (pulsed_times-joined c (half_left c) k) ∙ ap (λ (x : ℕ). pulsed_times x c) whole;
            count = sym none;
            first = none;
          },
        )

-- from the next rise on
pub taken-rising : (c : CounterParts) (n : ℕ) → Square c → meant_count c.bits c.cr ≤ modulus c.bits → to_rise c ≤ n
    → HasTaken n c (pulsed_times ((n - to_rise c) % meant_count c.bits c.cr) (affected (Load true) c))
    (record { count = 1 + (n - to_rise c) / meant_count c.bits c.cr; first = Some (to_rise c) })
taken-rising c n s few past =
    let period : ℕ = meant_count c.bits c.cr in
    let loaded : CounterParts = affected (Load true) c in
    let left : ℕ = to_rise c in
    let whole : ℕ = (n - left) / period in
    let rest : ℕ = (n - left) % period in
    let all : left + whole * period + rest ≡ n = omega (arith, mod-eq-sub-div-mul (n - left) period, div-mul-le_self (n - left) period, past) in
    let ends = ending-square c s few in
    let less : rest < period = mod-lt (n - left) ends.later.some in
    let none : rises_in loaded rest ≡ 0 =
    omega (arith, ends.later.quiet, CountsUp-mono (rises_in loaded) (CountsUp-rises_in loaded) rest (period - 1) (omega (arith, less))) in
    let rises : Rises = record { count = 1 + whole; first = Some left } in
    subst (λ (k : ℕ). HasTaken k c (pulsed_times rest loaded) rises) all
    (HasTaken-joined (left + whole * period) rest c loaded (pulsed_times rest loaded) rises (record { count = 0; first = None }) rises
    (record {
      state = sym (state_ending c left whole ends);
      count = sym (rises_ending c left whole ends);
      first = first_ending c left whole ends;
    })
    (record { state = refl; count = sym none; first = none })
    (omega arith) refl)
