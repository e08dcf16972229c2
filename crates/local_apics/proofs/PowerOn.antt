-- The timers at power on.
use Rattle.std.proofs.Common.{◌≡◌, ℕ, zero, suc, ◌+◌, ◌-◌, ◌<◌, ◌≤◌, true, List, ◌∷◌, ◌++◌, length, get_or, set, replicate, refl, ap, ◌∙◌, arith}
use Rattle.lapic_timer.specs.declared.parts.ApicParts.{ApicParts}
use Rattle.lapic_timer.specs.Parts.{apic_at_power_on}
use Rattle.local_apics.specs.Parts.{is_idle, timers_at_power_on}
use Rattle.local_apics.specs.Places.{no_timer, no_line}
use Rattle.local_apics.specs.private.Mask.{no_deadline}
use Rattle.local_apics.proofs.Ticks.{idle_parts}
use Rattle.std.proofs.lemmas.Bool.{eq-eqb}
use Rattle.tick_policy.specs.declared.parts.Policy.TheVariants.{Discard}

set-replicate : (k m : ℕ) (a b : ApicParts) → set (replicate k a ++ replicate (suc m) b) k a ≡ replicate (suc k) a ++ replicate m b
set-replicate zero m a b = refl
set-replicate (suc k) m a b = ap (λ (xs : List ApicParts). a ∷ xs) (set-replicate k m a b)

pub power_on-more : (k : ℕ) → k < 64 → set (timers_at_power_on k) k apic_at_power_on ≡ timers_at_power_on (k + 1)
power_on-more k less =
    let e : 64 - k ≡ suc (63 - k) = omega arith in
    let f : 63 - k ≡ 64 - (k + 1) = omega arith in
    let g : suc k ≡ k + 1 = omega arith in
    ap (λ (n : ℕ). set (replicate k apic_at_power_on ++ replicate n no_timer) k apic_at_power_on) e
    ∙ set-replicate k (63 - k) apic_at_power_on no_timer
    ∙ ap (λ (n : ℕ). replicate (suc k) apic_at_power_on ++ replicate n no_timer) f
    ∙ ap (λ (n : ℕ). replicate n apic_at_power_on ++ replicate (64 - (k + 1)) no_timer) g

length-more : (k m : ℕ) (a b : ApicParts) → length (replicate k a ++ replicate m b) ≡ k + m
length-more zero zero a b = refl
length-more zero (suc m) a b = ap suc (length-more zero m a b) ∙ omega arith
length-more (suc k) m a b = ap suc (length-more k m a b) ∙ omega arith

pub power_on-length : (cpus : ℕ) → cpus ≤ 64 → length (timers_at_power_on cpus) ≡ 64
power_on-length cpus few = length-more cpus (64 - cpus) apic_at_power_on no_timer ∙ omega arith

idle : (k m j : ℕ) → is_idle (get_or (replicate k apic_at_power_on ++ replicate m no_timer) j no_timer) ≡ true
idle zero zero j = refl
idle zero (suc m) zero = refl
idle zero (suc m) (suc j) = idle zero m j
idle (suc k) m zero = refl
idle (suc k) m (suc j) = idle k m j

-- all of them are idle
pub power_on-idle : (cpus j : ℕ) → is_idle (get_or (timers_at_power_on cpus) j no_timer) ≡ true
power_on-idle cpus j = idle cpus (64 - cpus) j

-- and so none waits for a deadline
pub power_on-unset : (cpus j : ℕ) → no_deadline (get_or (timers_at_power_on cpus) j no_timer) ≡ true
power_on-unset cpus j =
    eq-eqb (get_or (timers_at_power_on cpus) j no_timer).deadline 0
    (idle_parts (get_or (timers_at_power_on cpus) j no_timer) (power_on-idle cpus j)).1

pub no_lines-policy : (m j : ℕ) → (get_or (replicate m no_line) j no_line).policy ≡ Discard
no_lines-policy zero j = refl
no_lines-policy (suc m) zero = refl
no_lines-policy (suc m) (suc j) = no_lines-policy m j
