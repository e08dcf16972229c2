-- Writes and pulses keep a timer's conditions.
use Rattle.std.proofs.Common.{◌≡◌, ℕ, ◌+◌, ◌*◌, ◌/◌, ◌%◌, ◌^◌, ◌<◌, ◌≤◌, Bool, true, false, cond, ◌&&◌, not, eqb, bit_and, refl, ap, sym, subst, ◌∙◌, arith}
use Rattle.std.proofs.lemmas.Nat.{and_le_r, and_block, and_mask, and_mod, and_assoc, and_shr, mod_below}
use Rattle.std.proofs.lemmas.Nat.Bits.{bit_at_and}
use Rattle.hpet_comparator.specs.Part.{part_written}
use Rattle.hpet_comparator.specs.declared.parts.TimerParts.{TimerParts}
use Rattle.clk_units.specs.Bits.{bit}
use Rattle.hpet_comparator.specs.Parts.{IsTimer, route_of, modulus, is_32_bit, is_periodic, takes_comparator, writable_bits}
use Rattle.hpet_comparator.specs.Config.{switch_bits, chosen_route, config_written}
use Rattle.hpet_comparator.specs.Comparator.{comparator_written}
use Rattle.hpet_comparator.specs.Stretch.{matches_at, pulsed}

-- a timer's counter has values
pub modulus-pos : (t : TimerParts) → 0 < modulus t
modulus-pos t = positive (is_32_bit t)
  where
    positive : (b : Bool) → 0 < cond b (2 ^ 32) (2 ^ 64)
    positive true = omega arith
    positive false = omega arith

-- one of two numbers that are below a third
pub below : (b : Bool) {x y m : ℕ} → x < m → y < m → cond b x y < m
below true f g = f
below false f g = g

-- the route that a write leaves is one of 20 to 23
chosen_route-within : (new old : ℕ) → 20 ≤ old → old ≤ 23 → (20 ≤ chosen_route new old) × (chosen_route new old ≤ 23)
chosen_route-within new old low high = grind arith

-- a configuration of these switches and this route has writable bits alone ..
writable-parts : (v r : ℕ) → r ≤ 23 → bit_and (bit_and v switch_bits + r * 2 ^ 9) writable_bits ≡ bit_and v switch_bits + r * 2 ^ 9
writable-parts v r small =
    let below : bit_and v 334 ≤ 334 = and_le_r v 334 in
    let route : bit_and r 31 ≡ r = and_mask r 5 ∙ omega arith in
    let switches : bit_and (bit_and v 334) 334 ≡ bit_and v 334 = and_assoc 334 v 334 in
    let block : bit_and (r * 2 ^ 9 + bit_and v 334) (31 * 2 ^ 9 + 334)
    ≡ bit_and r 31 * 2 ^ 9 + bit_and (bit_and v 334) 334 = and_block 9 r 31 (bit_and v 334) 334 (omega arith) (omega arith) in
    let turned : bit_and v 334 + r * 2 ^ 9 ≡ r * 2 ^ 9 + bit_and v 334 = omega arith in
    rw turned (block ∙ omega (arith, route, switches))

-- .. and this route
pub route_of-parts : (v r : ℕ) → r ≤ 23 → route_of (bit_and v switch_bits + r * 2 ^ 9) ≡ r
route_of-parts v r small = omega (arith, and_le_r v 334)

-- a write of the configuration keeps the conditions
pub IsTimer-config_written : (v : ℕ) (t : TimerParts) → IsTimer t → IsTimer (config_written v t)
unfolding config_written
IsTimer-config_written v t h =
    let within : (20 ≤ chosen_route (route_of v) (route_of t.config)) × (chosen_route (route_of v) (route_of t.config) ≤ 23) = chosen_route-within
    (route_of v) (route_of t.config) h.low_route h.high_route in
    let next : TimerParts = record t { config = bit_and v switch_bits + chosen_route (route_of v) (route_of t.config) * 2 ^ 9 } in
    record {
      bits = writable-parts v (chosen_route (route_of v) (route_of t.config)) within.1;
      low_route = rw (route_of-parts v (chosen_route (route_of v) (route_of t.config)) within.1) within.0;
      high_route = rw (route_of-parts v (chosen_route (route_of v) (route_of t.config)) within.1) within.1;
      comparator = mod_below t.comparator (modulus next) (modulus-pos next);
      period = mod_below t.period (modulus next) (modulus-pos next);
    }

-- clearing VAL_SET leaves the other bits ..
pub bit-cleared : (c place : ℕ) → 0xffbf / 2 ^ place % 2 ≡ 1 → bit place (bit_and c 0xffbf) ≡ bit place c
bit-cleared c place other = ap (λ (x : ℕ). eqb x 1) (omega (arith, bit_at_and c 0xffbf place, other))

-- .. and the route
pub route_of-cleared : (c : ℕ) → route_of (bit_and c 0xffbf) ≡ route_of c
route_of-cleared c =
    let high : bit_and c 0xffbf / 2 ^ 9 ≡ bit_and (c / 2 ^ 9) 127 = and_shr c 0xffbf 9 in
    let field : bit_and (c / 2 ^ 9) 127 % 2 ^ 5 ≡ bit_and (c / 2 ^ 9 % 2 ^ 5) 31 = and_mod (c / 2 ^ 9) 127 5 in
    let whole : bit_and (c / 2 ^ 9 % 2 ^ 5) 31 ≡ c / 2 ^ 9 % 2 ^ 5 % 2 ^ 5 = and_mask (c / 2 ^ 9 % 2 ^ 5) 5 in
    ap (λ (x : ℕ). x % 2 ^ 5) high ∙ (field ∙ omega (arith, whole))

-- .. and writable bits alone
writable-cleared : (c : ℕ) → bit_and c writable_bits ≡ c → bit_and (bit_and c 0xffbf) writable_bits ≡ bit_and c 0xffbf
writable-cleared c h =
    let left : bit_and (bit_and c 0xffbf) 0x3f4e ≡ bit_and c 0x3f0e = and_assoc 0x3f4e c 0xffbf in
    let right : bit_and (bit_and c 0x3f4e) 0xffbf ≡ bit_and c 0x3f0e = and_assoc 0xffbf c 0x3f4e in
    left ∙ (sym right ∙ ap (λ (x : ℕ). bit_and x 0xffbf) h)

-- a write of the comparator keeps the conditions
pub IsTimer-comparator_written : (width : ℕ) (high : Bool) (v : ℕ) (t : TimerParts) → IsTimer t → IsTimer (comparator_written width high v t)
unfolding comparator_written
IsTimer-comparator_written width high v t h =
    let same : modulus t ≡ modulus (comparator_written width high v t) = ap (λ (b : Bool). cond b (2 ^ 32) (2 ^ 64)) (sym (bit-cleared t.config 8 refl)) in
    let cut : (x : ℕ) → x % modulus t < modulus t = λ x. mod_below x (modulus t) (modulus-pos t) in
    record {
      bits = writable-cleared t.config h.bits;
      low_route = rw (route_of-cleared t.config) h.low_route;
      high_route = rw (route_of-cleared t.config) h.high_route;
      comparator = subst (λ (m : ℕ). (comparator_written width high v t).comparator < m) same
          (below (is_periodic t && not (takes_comparator t)) h.comparator (cut (part_written width high v t.comparator)));
      period = subst (λ (m : ℕ). (comparator_written width high v t).period < m) same (cut (part_written width high v t.period));
    }

-- a pulse keeps the conditions
pub IsTimer-pulsed : (c : ℕ) (t : TimerParts) → IsTimer t → IsTimer (pulsed c t)
unfolding pulsed
IsTimer-pulsed c t h = record {
  bits = h.bits;
  low_route = h.low_route;
  high_route = h.high_route;
  comparator = below (matches_at c t && is_periodic t) (mod_below (t.comparator + t.period) (modulus t) (modulus-pos t)) h.comparator;
  period = h.period;
}
