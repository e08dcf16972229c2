-- No condition of a timer fails exactly where all hold.
use Rattle.std.proofs.Common.{◌≡◌, Bool, true, false, cond, ◌&&◌, leb, eqb, bit_and, Option, Some, None, refl, ap, ◌∙◌}
use Rattle.std.proofs.lemmas.Bool.{ltb-true, leb-true, eqb-true, lt-ltb, le-leb, eq-eqb}
use Rattle.hpet_comparator.specs.declared.parts.TimerParts.{TimerParts}
use Rattle.hpet_comparator.specs.declared.parts.TimerField.{TimerField}
use Rattle.hpet_comparator.specs.declared.parts.TimerField.TheVariants.{Config, Comparator, Period}
use Rattle.hpet_comparator.specs.Parts.{IsTimer, timer_fault, writable_bits, route_of, modulus, config_valid, comparator_valid, period_valid}

-- a condition that holds, and no fault after it
pub peel : (b : Bool) (f : TimerField) (rest : Option TimerField) → cond b rest (Some f) ≡ None → (b ≡ true) × (rest ≡ None)
peel true f rest e = (refl, e)
peel false f rest e = cc

both-true : (a b : Bool) → (a && b) ≡ true → (a ≡ true) × (b ≡ true)
both-true true b e = (refl, e)
both-true false b e = cc

-- no fault: all conditions hold ..
pub IsTimer-no_fault : (t : TimerParts) → timer_fault t ≡ None → IsTimer t
IsTimer-no_fault t none =
    let config : (config_valid t ≡ true) × (cond (comparator_valid t) (cond (period_valid t) None (Some Period)) (Some Comparator) ≡ None) = peel
    (config_valid t) Config (cond (comparator_valid t) (cond (period_valid t) None (Some Period)) (Some Comparator)) none in
    let comparator : (comparator_valid t ≡ true) × (cond (period_valid t) None (Some Period) ≡ None) = peel (comparator_valid t) Comparator
    (cond (period_valid t) None (Some Period)) config.1 in
    let period : (period_valid t ≡ true) × (None ≡ None) = peel (period_valid t) Period None comparator.1 in
    let bits : (eqb (bit_and t.config writable_bits) t.config ≡ true) × ((leb 20 (route_of t.config) && leb (route_of t.config) 23) ≡ true) = both-true
    (eqb (bit_and t.config writable_bits) t.config) (leb 20 (route_of t.config) && leb (route_of t.config) 23) config.0 in
    let routes : (leb 20 (route_of t.config) ≡ true) × (leb (route_of t.config) 23 ≡ true) = both-true (leb 20 (route_of t.config))
    (leb (route_of t.config) 23) bits.1 in
    record {
      bits = eqb-true (bit_and t.config writable_bits) t.config bits.0;
      low_route = leb-true 20 (route_of t.config) routes.0;
      high_route = leb-true (route_of t.config) 23 routes.1;
      comparator = ltb-true t.comparator (modulus t) comparator.0;
      period = ltb-true t.period (modulus t) period.0;
    }

-- .. and where they hold there is none
pub no_fault-IsTimer : (t : TimerParts) → IsTimer t → timer_fault t ≡ None
no_fault-IsTimer t h =
    ap (λ (b : Bool). cond (b && (leb 20 (route_of t.config) && leb (route_of t.config) 23))
    (cond (comparator_valid t) (cond (period_valid t) None (Some Period)) (Some Comparator)) (Some Config))
    (eq-eqb (bit_and t.config writable_bits) t.config h.bits)
    ∙ (ap (λ (b : Bool). cond (b && leb (route_of t.config) 23) (cond (comparator_valid t) (cond (period_valid t) None (Some Period)) (Some Comparator))
    (Some Config)) (le-leb 20 (route_of t.config) h.low_route)
    ∙ (ap (λ (b : Bool). cond b (cond (comparator_valid t) (cond (period_valid t) None (Some Period)) (Some Comparator)) (Some Config))
    (le-leb (route_of t.config) 23 h.high_route)
    ∙ (ap (λ (b : Bool). cond b (cond (period_valid t) None (Some Period)) (Some Comparator)) (lt-ltb t.comparator (modulus t) h.comparator)
    ∙ ap (λ (b : Bool). cond b None (Some Period)) (lt-ltb t.period (modulus t) h.period))))
