-- A block of three timers reads as the one that is written out.
use Rattle.std.proofs.Common.{◌≡◌, ℕ, ◌+◌, ◌-◌, ◌*◌, ◌/◌, ◌%◌, ◌^◌, ◌<◌, ◌≤◌, Bool, true, false, cond, eqb, List, map, get_or, refl, ap, sym, ◌∙◌, arith}
use Rattle.std.proofs.lemmas.List.FromFn.{get_or-map-range_with_len}
use Rattle.std.proofs.lemmas.Bool.{false≢true}
use Rattle.std.specs.List.{range_with_len}
use Rattle.hpet_registers.specs.declared.parts.HpetParts.{HpetParts}
use Rattle.hpet_registers.specs.declared.register.Register.{Register}
use Rattle.hpet_registers.specs.declared.register.Register.TheVariants.{Capabilities, Configuration, Status, MainCounter, TimerConfig, TimerComparator}
use Rattle.hpet_registers.specs.declared.register.Register.TheVariants.{TimerMessage, Reserved}
use Rattle.hpet_registers.specs.Parts.{IsHpet, timer_at, message_bit_at}
use Rattle.hpet_registers.specs.Register.{register_at, IsRegister}
use Rattle.hpet_registers.specs.Access.{register_value, hpet_read, is_effective, part_of}
use Rattle.hpet_registers.specs.ThreeTimers.{three_timer_register, three_timer_value, three_timer_read}
use Rattle.hpet_comparator.specs.Config.{config_register}

-- the register map of three timers, all 128 places of it
map-three : map (λ i. register_at 3 false (8 * i)) (range_with_len 0 128) ≡ map (λ i. three_timer_register (8 * i)) (range_with_len 0 128)
map-three = refl

register-three : (i : ℕ) → i < 128 → register_at 3 false (8 * i) ≡ three_timer_register (8 * i)
register-three i inside =
    sym (get_or-map-range_with_len (λ (j : ℕ). register_at 3 false (8 * j)) 0 128 i i Reserved inside (omega arith))
    ∙ (ap (λ (l : List Register). get_or l i Reserved) map-three
    ∙ get_or-map-range_with_len (λ (j : ℕ). three_timer_register (8 * j)) 0 128 i i Reserved inside (omega arith))

-- a register of three timers
pick : (b : Bool) (r s : Register) → IsRegister 3 false r → IsRegister 3 false s → IsRegister 3 false (cond b r s)
pick true r s f g = f
pick false r s f g = g

IsRegister-three : (o : ℕ) → IsRegister 3 false (three_timer_register o)
IsRegister-three o =
    pick (eqb o 0x000) Capabilities _ tt
    (pick (eqb o 0x010) Configuration _ tt
    (pick (eqb o 0x020) Status _ tt
    (pick (eqb o 0x0f0) MainCounter _ tt
    (pick (eqb o 0x100) (TimerConfig 0) _ (omega arith)
    (pick (eqb o 0x108) (TimerComparator 0) _ (omega arith)
    (pick (eqb o 0x120) (TimerConfig 1) _ (omega arith)
    (pick (eqb o 0x128) (TimerComparator 1) _ (omega arith)
    (pick (eqb o 0x140) (TimerConfig 2) _ (omega arith)
    (pick (eqb o 0x148) (TimerComparator 2) Reserved (omega arith) tt)))))))))

-- what they read
value-three : (r : Register) (h : HpetParts) → h.timers ≡ 3 → h.messages ≡ false → ((k : ℕ) → k < 8 → message_bit_at k h ≡ false) → IsRegister 3 false r
    → register_value r h ≡ three_timer_value r h
value-three Capabilities h three off bits range = omega arith
value-three Configuration h three off bits range = refl
value-three Status h three off bits range = refl
value-three MainCounter h three off bits range = refl
value-three (TimerConfig k) h three off bits range =
    ap (λ (b : Bool). config_register (timer_at k h) + cond b 0x4000 0 + cond h.messages 0x8000 0) (bits k (omega arith))
    ∙ (ap (λ (b : Bool). config_register (timer_at k h) + 0 + cond b 0x8000 0) off ∙ omega arith)
value-three (TimerComparator k) h three off bits range = refl
value-three (TimerMessage k) h three off bits range = absurd (false≢true range.1)
value-three Reserved h three off bits range = refl

-- with three timers there are no messages
no-messages : (h : HpetParts) → IsHpet h → h.timers ≡ 3 → h.messages ≡ false
no-messages h valid three = off h.messages valid.messages
  where
    off : (b : Bool) → (b ≡ true → h.timers ≡ 8) → b ≡ false
    off false e = refl
    off true e = absurd (omega (arith, e refl, three))

pub read-three : (offset width : ℕ) (h : HpetParts) → IsHpet h → h.timers ≡ 3 → offset ≤ 1023 → hpet_read offset width h ≡ three_timer_read offset width h
read-three offset width h valid three inside =
    let off : h.messages ≡ false = no-messages h valid three in
    let o : ℕ = offset - offset % 8 in
    let place : o ≡ 8 * (offset / 8) = omega arith in
    let here : register_at h.timers h.messages o ≡ three_timer_register o =
    ap (λ (n : ℕ). register_at n h.messages o) three
    ∙ (ap (λ (b : Bool). register_at 3 b o) off
    ∙ (ap (register_at 3 false) place ∙ (register-three (offset / 8) (omega arith) ∙ ap three_timer_register (sym place)))) in
    let value : register_value (register_at h.timers h.messages o) h ≡ three_timer_value (three_timer_register o) h =
    ap (λ (r : Register). register_value r h) here
    ∙ value-three (three_timer_register o) h three off (λ k small. (valid.plain off k small).0) (IsRegister-three o) in
    ap (λ (v : ℕ). cond (is_effective offset width) (part_of width (eqb (offset % 8) 4) v) (2 ^ (8 * width) - 1)) value
