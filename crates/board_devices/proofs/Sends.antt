-- Whether a timer of edge type sends messages, by whether it has ticks.
use Rattle.std.proofs.Common.{◌≡◌, ℕ, Bool, true, false, ◌&&◌, not, ltb, refl, sym, subst}
use Rattle.hpet_comparator.specs.Parts.{is_level, is_enabled}
use Rattle.hpet_registers.specs.declared.parts.HpetParts.{HpetParts}
use Rattle.hpet_registers.specs.Parts.{timer_at, message_bit_at, is_legacy}
use Rattle.hpet_registers.specs.Outputs.{has_ticks, is_message}

-- of an enabled timer, and of one that isn't
one_of : (enabled bit there : Bool) → (not ((enabled && true) && not (bit && ((enabled && true) && there))) && enabled) ≡ (bit && ((enabled && true) && there))
one_of true true true = refl
one_of true true false = refl
one_of true false there = refl
one_of false true there = refl
one_of false false there = refl

pub message_by_ticks : (k : ℕ) (h : HpetParts) → is_level (timer_at k h) ≡ false → (not (has_ticks k h) && is_enabled (timer_at k h)) ≡ is_message k h
message_by_ticks k h edge =
    let e : Bool = is_enabled (timer_at k h) in
    let b : Bool = message_bit_at k h in
    let t : Bool = not (is_legacy h && ltb k 2) in
    subst (λ (l : Bool). (not ((e && not l) && not (b && ((e && not l) && t))) && e) ≡ (b && ((e && not l) && t))) (sym edge) (one_of e b t)
