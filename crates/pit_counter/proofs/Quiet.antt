-- Quiet pulses are pulses.
use Rattle.std.proofs.Common.{
  ◌≡◌,
  ℕ,
  zero,
  suc,
  ◌+◌,
  ◌-◌,
  ◌*◌,
  ◌/◌,
  ◌%◌,
  ◌<◌,
  ◌≤◌,
  Bool,
  true,
  false,
  not,
  ◌&&◌,
  ◌||◌,
  cond,
  eqb,
  refl,
  sym,
  ap,
  ◌∙◌,
  arith,
}
use Rattle.std.proofs.lemmas.Bool.{cond_both, eqb-true, eqb-false, ne_eqb}
use Rattle.pit_counter.specs.Mode.{mode_of, is_bcd}
use Rattle.pit_counter.specs.Programming.{programmed, counter_at_power_on}
use Rattle.pit_counter.specs.Count.{modulus, lowered}
use Rattle.pit_counter.specs.Table.{effect_in, affected, pulsed, pulsed_times, rises_next, rises_in}
use Rattle.pit_counter.specs.private.Stretch.{
  step_of,
  is_still,
  forever,
  height,
  quiet_for,
  glided_count,
  glided,
}
use Rattle.pit_counter.specs.declared.mode.Mode.{Mode}
use Rattle.pit_counter.specs.declared.mode.Mode.TheVariants.{RateGenerator, SquareWave}
use Rattle.pit_counter.specs.declared.table.Effect.{Effect}
use Rattle.pit_counter.specs.declared.table.Effect.TheVariants.{
  Load,
  DownToHigh,
  DownToLow,
  DownByTwo,
  DownToStrobe,
  Stand,
}
use Rattle.pit_counter.specs.declared.parts.CounterParts.{CounterParts}

-- ---- counts

-- no way down
pub glided_count-zero : (bits ce : ℕ) → ce < modulus bits → glided_count bits ce 0 ≡ ce
unfolding glided_count modulus
glided_count-zero bits ce = cond_both (is_bcd bits) 10000 65536 (λ m. ce < m → (ce + m - 0 % m) % m ≡ ce) (λ _ h. omega arith) (λ _ h. omega arith)

-- one step further
lowered-glided : (bits ce down by : ℕ) → by ≤ 2 → lowered bits (glided_count bits ce down) by ≡ glided_count bits ce (down + by)
unfolding glided_count lowered modulus
lowered-glided bits ce down by h =
    cond_both (is_bcd bits) 10000 65536 (λ m. ((ce + m - down % m) % m + m - by) % m ≡ (ce + m - (down + by) % m) % m) (λ _. omega arith) (λ _. omega arith)

-- on the way down the count is what is left of the height
pub glided_count-height : (c : CounterParts) (down : ℕ) → c.ce < modulus c.bits → 0 < down → down < height c → glided_count c.bits c.ce down ≡ height c - down
unfolding glided_count height modulus
glided_count-height c down = cond_both (is_bcd c.bits) 10000 65536
    (λ m. c.ce < m → 0 < down → down < cond (eqb c.ce 0) m c.ce → (c.ce + m - down % m) % m ≡ cond (eqb c.ce 0) m c.ce - down)
    (λ _ below some within. cond_both (eqb c.ce 0) 10000 c.ce (λ x. down < x → (c.ce + 10000 - down % 10000) % 10000 ≡ x - down)
    (λ e h. omega (arith, eqb-true c.ce 0 e)) (λ e h. omega (arith, eqb-false c.ce 0 e)) within)
    (λ _ below some within. cond_both (eqb c.ce 0) 65536 c.ce (λ x. down < x → (c.ce + 65536 - down % 65536) % 65536 ≡ x - down)
    (λ e h. omega (arith, eqb-true c.ce 0 e)) (λ e h. omega (arith, eqb-false c.ce 0 e)) within)

-- ---- one quiet pulse, by its effect

pub two : (c : CounterParts) (x y : ℕ) (o p : Bool) → x ≡ y → o ≡ p → record c { ce = x; out = o } ≡ record c { ce = y; out = p }
two c x y o p e f = ap (λ (z : ℕ). record c { ce = z; out = o }) e ∙ ap (λ (q : Bool). record c { ce = y; out = q }) f

three : (c : CounterParts) (x y : ℕ) (o p a b : Bool) → x ≡ y → o ≡ p → a ≡ b
    → record c { ce = x; out = o; armed = a } ≡ record c { ce = y; out = p; armed = b }
three c x y o p a b e f g = two (record c { armed = a }) x y o p e f ∙ ap (λ (q : Bool). record c { ce = y; out = p; armed = q }) g

high_stays : (out : Bool) (z : ℕ) → (out ≡ false → z ≡ 0 → ⊥) → (out || eqb z 0) ≡ out
high_stays true z h = refl
high_stays false z h = ne_eqb z 0 (h refl)

low_stays : (out : Bool) (z : ℕ) → (z ≡ 1 → ⊥) → (out && not (eqb z 1)) ≡ out
low_stays true z h = ap not (ne_eqb z 1 h)
low_stays false z h = refl

strobe_stays : (out armed : Bool) (k height z : ℕ) → k < cond out (cond armed (height - 1) forever) 0 → (k < height - 1 → z ≡ 0 → ⊥)
    → (not (armed && eqb z 0) ≡ out) × ((armed && not (eqb z 0)) ≡ armed)
strobe_stays true true k height z h f = (ap not (ne_eqb z 0 (f h)), ap not (ne_eqb z 0 (f h)))
strobe_stays true false k height z h f = (refl, refl)
strobe_stays false armed k height z h f = absurd (omega arith)

level_stays : (level out : Bool) (k : ℕ) → k < cond (cond level out (not out)) forever 0 → level ≡ out
level_stays true true k h = refl
level_stays false false k h = refl
level_stays level out k h = absurd (omega arith)

next_of : (c : CounterParts) (k : ℕ) → lowered c.bits (glided_count c.bits c.ce (1 * k)) 1 ≡ glided_count c.bits c.ce (1 * suc k)
next_of c k = lowered-glided c.bits c.ce (1 * k) 1 (omega arith) ∙ ap (glided_count c.bits c.ce) (omega arith)

next_height : (c : CounterParts) (k : ℕ) → c.ce < modulus c.bits → suc k < height c → lowered c.bits (glided_count c.bits c.ce (1 * k)) 1 ≡ height c - suc k
next_height c k below h =
    let one : 1 * suc k ≡ suc k = omega arith in
    next_of c k ∙ ap (glided_count c.bits c.ce) one ∙ glided_count-height c (suc k) below (omega arith) h

affected-glided : (e : Effect) (c : CounterParts) (k : ℕ) → c.ce < modulus c.bits → k < quiet_for e c → affected e (glided e k c) ≡ glided e (suc k) c
unfolding glided quiet_for
affected-glided (Load level) c k below h = absurd (omega arith)
affected-glided DownToHigh c k below h =
    two c _ _ _ _ (next_of c k) (high_stays c.out (lowered c.bits (glided_count c.bits c.ce (1 * k)) 1)
    (λ low zero. let within : k < height c - 1 = simp low at h in let next = next_height c k below (omega arith) in omega arith))
affected-glided DownToLow c k below h =
    two c _ _ _ _ (next_of c k) (low_stays c.out (lowered c.bits (glided_count c.bits c.ce (1 * k)) 1)
    (λ one. let next = next_height c k below (omega arith) in omega arith))
affected-glided DownByTwo c k below h =
    ap (λ (x : ℕ). record c { ce = x }) (lowered-glided c.bits c.ce (2 * k) 2 (omega arith) ∙ ap (glided_count c.bits c.ce) (omega arith))
affected-glided DownToStrobe c k below h =
    let stays = strobe_stays c.out c.armed k (height c) (lowered c.bits (glided_count c.bits c.ce (1 * k)) 1) h
    (λ within zero. let next = next_height c k below (omega arith) in omega arith) in
    three c _ _ _ _ _ _ (next_of c k) stays.0 stays.1
affected-glided (Stand level) c k below h =
    let none : 0 * k ≡ 0 * suc k = omega arith in
    two c _ _ _ _ (ap (glided_count c.bits c.ce) none) (level_stays level c.out k h)

-- ---- the effect stays through quiet pulses

-- the count isn't the one that ends a stretch
apart : (c : CounterParts) (down end : ℕ) → c.ce < modulus c.bits → eqb c.ce end ≡ false → down < height c → end < height c - down
    → eqb (glided_count c.bits c.ce down) end ≡ false
apart c zero end below first within above = ap (λ (x : ℕ). eqb x end) (glided_count-zero c.bits c.ce below) ∙ first
apart c (suc k) end below first within above =
    let place = glided_count-height c (suc k) below (omega arith) within in
    ne_eqb _ _ (λ same. omega arith)

abbrev pub rate_effect : Bool → Bool → Bool → Bool → Effect
rate_effect begins counts ends out = cond begins (Load true) (cond (counts && ends) (Load true) (cond counts DownToLow (Stand out)))

rate_stays : (begins counts ends out : Bool) (c : CounterParts) (k : ℕ) → c.ce < modulus c.bits → eqb c.ce 1 ≡ ends
    → k < quiet_for (rate_effect begins counts ends out) c
    → rate_effect begins counts (eqb (glided_count c.bits c.ce (step_of (rate_effect begins counts ends out) * k)) 1) out ≡ rate_effect begins counts ends out
unfolding quiet_for
rate_stays true counts ends out c k below at_end h = refl
rate_stays false false ends out c k below at_end h = refl
rate_stays false true true out c k below at_end h = absurd (omega arith)
rate_stays false true false out c k below at_end h =
    ap (λ (b : Bool). cond b (Load true) DownToLow) (apart c (1 * k) 1 below at_end (omega arith) (omega arith))

abbrev pub square_effect : Bool → Bool → Bool → Bool → Bool → Bool → Effect
square_effect begins counts out odd at_zero at_two =
    cond begins (Load true)
    (cond (counts && out && odd && at_zero) (Load false)
    (cond (counts && out && odd) DownByTwo
    (cond (counts && at_two) (Load (not out))
    (cond counts DownByTwo (Stand out)))))

pub height-some : (c : CounterParts) → eqb c.ce 0 ≡ false → height c ≡ c.ce
unfolding height
height-some c e = simp e

square_stays : (begins counts out odd at_zero at_two : Bool) (c : CounterParts) (k : ℕ) → c.ce < modulus c.bits → eqb c.ce 0 ≡ at_zero → eqb c.ce 2 ≡ at_two
    → c.out ≡ out → c.odd ≡ odd
    → k < quiet_for (square_effect begins counts out odd at_zero at_two) c
    → square_effect begins counts out odd (eqb (glided_count c.bits c.ce (step_of (square_effect begins counts out odd at_zero at_two) * k)) 0)
    (eqb (glided_count c.bits c.ce (step_of (square_effect begins counts out odd at_zero at_two) * k)) 2)
    ≡ square_effect begins counts out odd at_zero at_two
unfolding quiet_for
square_stays true counts out odd at_zero at_two c k below ez et eo ed h = refl
square_stays false false out odd at_zero at_two c k below ez et eo ed h = refl
square_stays false true true true true at_two c k below ez et eo ed h = absurd (omega arith)
square_stays false true true true false at_two c k below ez et eo ed h =
    let within : k < c.ce / 2 = simp (eo, ed) at h in
    let whole = height-some c ez in
    ap (λ (b : Bool). cond b (Load false) DownByTwo) (apart c (2 * k) 0 below ez (omega arith) (omega arith))
square_stays false true true false at_zero true c k below ez et eo ed h = absurd (omega arith)
square_stays false true true false at_zero false c k below ez et eo ed h =
    let within : k < height c / 2 - 1 = simp (eo, ed) at h in
    ap (λ (b : Bool). cond b (Load false) DownByTwo) (apart c (2 * k) 2 below et (omega arith) (omega arith))
square_stays false true false odd at_zero true c k below ez et eo ed h = absurd (omega arith)
square_stays false true false odd at_zero false c k below ez et eo ed h =
    let within : k < height c / 2 - 1 = simp eo at h in
    ap (λ (b : Bool). cond b (Load true) DownByTwo) (apart c (2 * k) 2 below et (omega arith) (omega arith))

pub effect_in-glided : (m : Mode) (c : CounterParts) (k : ℕ) → c.ce < modulus c.bits → k < quiet_for (effect_in m c) c
    → effect_in m (glided (effect_in m c) k c) ≡ effect_in m c
unfolding effect_in glided
effect_in-glided RateGenerator c k below h = rate_stays ((c.full && not c.live) || c.trig) (c.live && c.gate) (eqb c.ce 1) c.out c k below refl h
effect_in-glided SquareWave c k below h = square_stays ((c.full && not c.live) || c.trig) (c.live && c.gate) c.out c.odd (eqb c.ce 0)
    (eqb c.ce 2) c k below refl refl refl refl h
effect_in-glided other c k below h = refl

-- ---- quiet pulses

-- the effect of the next pulse
abbrev pub next_effect : CounterParts → Effect
next_effect c = effect_in (mode_of c.bits) c

pulsed-glided : (c : CounterParts) (k : ℕ) → c.ce < modulus c.bits → k < quiet_for (next_effect c) c
    → pulsed (glided (next_effect c) k c) ≡ glided (next_effect c) (suc k) c
unfolding pulsed glided
pulsed-glided c k below h =
    ap (λ (e : Effect). affected e (glided (next_effect c) k c)) (effect_in-glided (mode_of c.bits) c k below h) ∙ affected-glided (next_effect c) c k below h

glided-zero : (e : Effect) (c : CounterParts) → c.ce < modulus c.bits → glided e 0 c ≡ c
unfolding glided
glided-zero e c below =
    let none : step_of e * 0 ≡ 0 = omega arith in
    ap (λ (x : ℕ). record c { ce = x }) (ap (glided_count c.bits c.ce) none ∙ glided_count-zero c.bits c.ce below)

-- they leave what n pulses leave
pub pulsed_times-glided : (c : CounterParts) (n : ℕ) → c.ce < modulus c.bits → n ≤ quiet_for (next_effect c) c → pulsed_times n c ≡ glided (next_effect c) n c
unfolding pulsed_times
pulsed_times-glided c zero below h = sym (glided-zero (next_effect c) c below)
pulsed_times-glided c (suc n) below h = ap pulsed (pulsed_times-glided c n below (omega arith)) ∙ pulsed-glided c n below (omega arith)

never_both : (b : Bool) → (not b && b) ≡ false
never_both true = refl
never_both false = refl

-- and bring no rise
pub rises_in-glided : (c : CounterParts) (n : ℕ) → c.ce < modulus c.bits → n ≤ quiet_for (next_effect c) c → rises_in c n ≡ 0
unfolding rises_in rises_next glided pulsed_times
rises_in-glided c zero below h = refl
rises_in-glided c (suc n) below h =
    let before = ap (λ (d : CounterParts). d.out) (pulsed_times-glided c n below (omega arith)) in
    let after = ap (λ (d : CounterParts). d.out) (pulsed_times-glided c (suc n) below h) in
    let still : (not (pulsed_times n c).out && (pulsed (pulsed_times n c)).out) ≡ false =
    ap (λ (b : Bool). not b && (pulsed (pulsed_times n c)).out) before ∙ ap (λ (b : Bool). not c.out && b) after ∙ never_both c.out in
    ap (λ (b : Bool). cond b (suc (rises_in c n)) (rises_in c n)) still ∙ rises_in-glided c n below (omega arith)

-- ---- a counter that doesn't count

is_low : (b : Bool) → not b ≡ true → false ≡ b
is_low true h = h
is_low false h = refl

affected-still : (e : Effect) (c : CounterParts) → is_still e c.out ≡ true → affected e c ≡ c
affected-still (Stand true) c h = ap (λ (b : Bool). record c { out = b }) (sym h)
affected-still (Stand false) c h = ap (λ (b : Bool). record c { out = b }) (is_low c.out h)
affected-still other c h = cc

-- it stays as it is ..
pub pulsed_times-still : (c : CounterParts) (n : ℕ) → is_still (next_effect c) c.out ≡ true → pulsed_times n c ≡ c
unfolding pulsed_times pulsed
pulsed_times-still c zero h = refl
pulsed_times-still c (suc n) h = ap pulsed (pulsed_times-still c n h) ∙ affected-still (next_effect c) c h

-- .. and OUT doesn't rise
pub rises_in-still : (c : CounterParts) (n : ℕ) → is_still (next_effect c) c.out ≡ true → rises_in c n ≡ 0
unfolding rises_in rises_next pulsed
rises_in-still c zero h = refl
rises_in-still c (suc n) h =
    let same : pulsed_times n c ≡ c = pulsed_times-still c n h in
    let after : (pulsed c).out ≡ c.out = ap (λ (d : CounterParts). d.out) (affected-still (next_effect c) c h) in
    let still : (not (pulsed_times n c).out && (pulsed (pulsed_times n c)).out) ≡ false =
    ap (λ (d : CounterParts). not d.out && (pulsed d).out) same ∙ ap (λ (b : Bool). not c.out && b) after ∙ never_both c.out in
    ap (λ (b : Bool). cond b (suc (rises_in c n)) (rises_in c n)) still ∙ rises_in-still c n h

-- a counter at power on stays as it is
pub pulsed_times-counter_at_power_on : (gate : Bool) (n : ℕ) → pulsed_times n (counter_at_power_on gate) ≡ counter_at_power_on gate
unfolding effect_in mode_of programmed
pulsed_times-counter_at_power_on gate n = pulsed_times-still (counter_at_power_on gate) n refl
