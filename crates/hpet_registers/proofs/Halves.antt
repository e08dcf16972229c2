-- A whole write of a plain register is the writes of its low and then of its high half.
use Rattle.std.proofs.Common.{◌≡◌, ℕ, zero, suc, ◌+◌, ◌-◌, ◌*◌, ◌/◌, ◌%◌, ◌^◌, ◌<◌, ◌≤◌, Bool, true, false, cond, ◌&&◌, eqb, leb, bit_and, bit_or, List, []}
use Rattle.std.proofs.Common.{◌∷◌, get_or, refl, ap, sym, ◌∙◌, arith}
use Rattle.std.proofs.Math.ListN.{set}
use Rattle.std.proofs.Math.Nat.{mod-mod}
use Rattle.std.proofs.lemmas.Bool.{eq-eqb, ne_eqb, false≢true}
use Rattle.std.proofs.lemmas.Nat.{and_le_r, and_mask, and_mod, and_assoc, or_disjoint, and_or_apart}
use Rattle.hpet_comparator.specs.Part.{part_written}
use Rattle.hpet_comparator.proofs.Halves.{part_written-halves}
use Rattle.hpet_comparator.specs.declared.parts.TimerParts.{TimerParts}
use Rattle.clk_units.specs.Bits.{bit}
use Rattle.hpet_comparator.specs.Parts.{route_of, modulus}
use Rattle.hpet_comparator.specs.Config.{switch_bits, chosen_route, narrowed, config_written, config_register}
use Rattle.hpet_registers.specs.declared.parts.HpetParts.{HpetParts}
use Rattle.hpet_registers.specs.declared.register.Register.{Register}
use Rattle.hpet_registers.specs.declared.register.Register.TheVariants.{Capabilities, Configuration, Status, MainCounter, TimerConfig, TimerComparator}
use Rattle.hpet_registers.specs.declared.register.Register.TheVariants.{TimerMessage, Reserved}
use Rattle.hpet_registers.specs.Parts.{no_timer, timer_at, message_bit_at, message_word_at}
use Rattle.hpet_registers.specs.Register.{register_at}
use Rattle.hpet_registers.specs.Access.{register_written, timer_config_register, is_effective, is_plain, hpet_written}

-- a place that is set twice, where the second value may depend on the first
set-again : {A : Type 0} (l : List A) (k : ℕ) (x y z d : A) → (get_or (set l k x) k d ≡ x → y ≡ z) → set (set l k x) k y ≡ set l k z
set-again [] k x y z d same = refl
set-again {A} (a ∷ l) zero x y z d same = ap (λ (b : A). b ∷ l) (same refl)
set-again {A} (a ∷ l) (suc k) x y z d same = ap (λ (m : List A). a ∷ m) (set-again l k x y z d same)

-- a status loses no bits to the high half
status-halves : (v s : ℕ)
    → bit_and s (0xff - v % 2 ^ 8)
    ≡ bit_and (bit_and s (0xff - part_written 4 false (v % 2 ^ 32) 0 % 2 ^ 8)) (0xff - part_written 4 true (v / 2 ^ 32) 0 % 2 ^ 8)
status-halves v s =
    let low : part_written 4 false (v % 2 ^ 32) 0 % 2 ^ 8 ≡ v % 2 ^ 8 = omega arith in
    let high : 0xff - part_written 4 true (v / 2 ^ 32) 0 % 2 ^ 8 ≡ 0xff = omega arith in
    let mask : bit_and (bit_and s (0xff - v % 2 ^ 8)) 0xff ≡ bit_and s (0xff - v % 2 ^ 8) % 2 ^ 8 = and_mask (bit_and s (0xff - v % 2 ^ 8)) 8 in
    let small : bit_and s (0xff - v % 2 ^ 8) % 2 ^ 8 ≡ bit_and s (0xff - v % 2 ^ 8) = omega (arith, and_le_r s (0xff - v % 2 ^ 8)) in
    sym (ap (λ (x : ℕ). bit_and (bit_and s (0xff - x)) (0xff - part_written 4 true (v / 2 ^ 32) 0 % 2 ^ 8)) low
    ∙ (ap (bit_and (bit_and s (0xff - v % 2 ^ 8))) high ∙ (mask ∙ small)))

-- the switches are among the low bits
switches-low : (x y : ℕ) → x % 2 ^ 9 ≡ y % 2 ^ 9 → bit_and x switch_bits ≡ bit_and y switch_bits
switches-low x y same = cut x ∙ (ap (λ (z : ℕ). bit_and z 334) same ∙ sym (cut y))
  where
    cut : (z : ℕ) → bit_and z 334 ≡ bit_and (z % 2 ^ 9) 334
    cut z = omega (arith, and_le_r z 334, and_mod z 334 9)

-- the two fixed bits beside them aren't switches
switches-fixed : (v : ℕ) → bit_and (bit_and v switch_bits + 48) switch_bits ≡ bit_and v switch_bits
switches-fixed v =
    let apart : bit_and (bit_and v 334) 48 ≡ 0 = and_assoc 48 v 334 ∙ omega (arith, and_le_r v 0) in
    let plus : bit_or (bit_and v 334) 48 ≡ bit_and v 334 + 48 = or_disjoint (bit_and v 334) 48 apart in
    ap (λ (x : ℕ). bit_and x 334) (sym plus) ∙ (and_or_apart 334 (bit_and v 334) 48 refl ∙ and_assoc 334 v 334)

-- what the high half's write leaves of a configuration register: its switches, route and message enable as they read
config_low : ℕ → ℕ → ℕ → Bool → Bool → ℕ
config_low u s r p q = part_written 4 true u (0x00f0000000000030 + (s + r * 2 ^ 9) + cond p 0x4000 0 + cond q 0x8000 0)

config_low-switches : (u s r : ℕ) (p q : Bool) → s ≤ 334 → config_low u s r p q % 2 ^ 9 ≡ (s + 48) % 2 ^ 9
unfolding config_low
config_low-switches u s r true true small = omega arith
config_low-switches u s r true false small = omega arith
config_low-switches u s r false true small = omega arith
config_low-switches u s r false false small = omega arith

config_low-route : (u s r : ℕ) (p q : Bool) → s ≤ 334 → r < 32 → route_of (config_low u s r p q) ≡ r
unfolding config_low
config_low-route u s r true true small inside = omega arith
config_low-route u s r true false small inside = omega arith
config_low-route u s r false true small inside = omega arith
config_low-route u s r false false small inside = omega arith

message-kept : (u c : ℕ) (p q : Bool) → c < 2 ^ 14 - 48 → bit 14 (part_written 4 true u (0x00f0000000000030 + c + cond p 0x4000 0 + cond q 0x8000 0)) ≡ p
message-kept u c true true small = eq-eqb _ 1 (omega arith)
message-kept u c true false small = eq-eqb _ 1 (omega arith)
message-kept u c false true small = ne_eqb _ 1 (λ e. omega arith)
message-kept u c false false small = ne_eqb _ 1 (λ e. omega arith)

-- the route that is left
chosen_route-lt : (v old : ℕ) → chosen_route (route_of v) (route_of old) < 32
chosen_route-lt v old = pick (leb 20 (route_of v) && leb (route_of v) 23)
  where
    pick : (b : Bool) → cond b (route_of v) (route_of old) < 32
    pick true = omega arith
    pick false = omega arith

chosen_route-same : (r : ℕ) → chosen_route r r ≡ r
chosen_route-same r = pick (leb 20 r && leb r 23)
  where
    pick : (b : Bool) → cond b r r ≡ r
    pick true = refl
    pick false = refl

-- a timer's configuration is written by its switches and its route
config_written-same : (w v : ℕ) (t : TimerParts) → bit_and w switch_bits ≡ bit_and v switch_bits → route_of w ≡ route_of v
    → config_written w t ≡ config_written v t
unfolding config_written
config_written-same w v t switches route = cc

-- cut once more it stays
narrowed-again : (t : TimerParts) → narrowed (narrowed t) ≡ narrowed t
narrowed-again t =
    ap (λ (x : ℕ). record t { comparator = x; period = t.period % modulus t % modulus t }) (mod-mod t.comparator (modulus t))
    ∙ ap (λ (x : ℕ). record t { comparator = t.comparator % modulus t; period = x }) (mod-mod t.period (modulus t))

-- written once more it stays
config_written-again : (w v : ℕ) (t : TimerParts) → bit_and w switch_bits ≡ bit_and v switch_bits → route_of w ≡ chosen_route (route_of v) (route_of t.config)
    → config_written w (config_written v t) ≡ config_written v t
unfolding config_written
config_written-again w v t switches route =
    let read : route_of (bit_and v switch_bits + chosen_route (route_of v) (route_of t.config) * 2 ^ 9)
    ≡ chosen_route (route_of v) (route_of t.config) = omega (arith, and_le_r v 334, chosen_route-lt v t.config) in
    let left : chosen_route (route_of w) (route_of (bit_and v switch_bits + chosen_route (route_of v) (route_of t.config) * 2 ^ 9))
    ≡ chosen_route (route_of v) (route_of t.config) =
    ap (λ (x : ℕ). chosen_route x (route_of (bit_and v switch_bits + chosen_route (route_of v) (route_of t.config) * 2 ^ 9))) route
    ∙ (ap (chosen_route (chosen_route (route_of v) (route_of t.config))) read ∙ chosen_route-same (chosen_route (route_of v) (route_of t.config))) in
    let now : TimerParts = record t { config = bit_and v switch_bits + chosen_route (route_of v) (route_of t.config) * 2 ^ 9 } in
    ap (λ (x : ℕ). narrowed (record (narrowed now) { config = x + chosen_route (route_of w) (route_of now.config) * 2 ^ 9 })) switches
    ∙ (ap (λ (x : ℕ). narrowed (record (narrowed now) { config = bit_and v switch_bits + x * 2 ^ 9 })) left ∙ narrowed-again now)

-- the high half's write leaves it
config-kept : (u v : ℕ) (p q : Bool) (t : TimerParts)
    → config_written (part_written 4 true u (config_register (config_written v t) + cond p 0x4000 0 + cond q 0x8000 0)) (config_written v t)
    ≡ config_written v t
unfolding config_written config_low
config-kept u v p q t =
    config_written-again (config_low u (bit_and v switch_bits) (chosen_route (route_of v) (route_of t.config)) p q) v t
    (switches-low (config_low u (bit_and v switch_bits) (chosen_route (route_of v) (route_of t.config)) p q) (bit_and v switch_bits + 48)
    (config_low-switches u (bit_and v switch_bits) (chosen_route (route_of v) (route_of t.config)) p q (and_le_r v 334)) ∙ switches-fixed v)
    (config_low-route u (bit_and v switch_bits) (chosen_route (route_of v) (route_of t.config)) p q (and_le_r v 334) (chosen_route-lt v t.config))

-- a place that is set holds a configuration that is no longer than the new one, or none
config-small : (l : List TimerParts) (k n : ℕ) (x : TimerParts) → 0 < n → x.config < n → (get_or (set l k x) k no_timer).config < n
config-small [] k n x some small = some
config-small (t ∷ l) zero n x some small = small
config-small (t ∷ l) (suc k) n x some small = config-small l k n x some small

config_written-small : (v : ℕ) (t : TimerParts) → (config_written v t).config < 2 ^ 14 - 48
unfolding config_written
config_written-small v t = omega (arith, and_le_r v 334, chosen_route-lt v t.config)

-- the message bits, where there are any
bits-again : (b : Bool) (l : List Bool) (k : ℕ) (m y : Bool) → (get_or (cond b (set l k m) l) k false ≡ m → y ≡ m)
    → cond b (set (cond b (set l k m) l) k y) (cond b (set l k m) l) ≡ cond b (set l k m) l
bits-again true l k m y same = set-again l k m y m false same
bits-again false l k m y same = refl

same_lists : (h : HpetParts) {ts us : List TimerParts} {ms ns : List Bool} → ts ≡ us → ms ≡ ns
    → record h { timer = ts; message_bit = ms } ≡ record h { timer = us; message_bit = ns }
same_lists h {ts} {us} {ms} {ns} e f =
    ap (λ (x : List TimerParts). record h { timer = x; message_bit = ms }) e ∙ ap (λ (x : List Bool). record h { timer = us; message_bit = x }) f

-- a timer's configuration register: the low half writes all of it ..
config-low_half : (k : ℕ) (high : Bool) (v : ℕ) (h : HpetParts)
    → register_written (TimerConfig k) 4 false (v % 2 ^ 32) h ≡ register_written (TimerConfig k) 8 high v h
config-low_half k high v h = same_lists h
    (ap (set h.timer k)
    (config_written-same (low (timer_config_register k h)) v (timer_at k h)
    (switches-low (low (timer_config_register k h)) v (low-switches (timer_config_register k h))) (low-route (timer_config_register k h))))
    (ap (λ (b : Bool). cond h.messages (set h.message_bit k b) h.message_bit) (ap (λ (x : ℕ). eqb x 1) (low-message (timer_config_register k h))))
  where
    low : ℕ → ℕ
    low r = part_written 4 false (v % 2 ^ 32) r

    low-switches : (r : ℕ) → part_written 4 false (v % 2 ^ 32) r % 2 ^ 9 ≡ v % 2 ^ 9
    low-switches r = omega arith

    low-route : (r : ℕ) → route_of (part_written 4 false (v % 2 ^ 32) r) ≡ route_of v
    low-route r = omega arith

    low-message : (r : ℕ) → part_written 4 false (v % 2 ^ 32) r / 2 ^ 14 % 2 ≡ v / 2 ^ 14 % 2
    low-message r = omega arith

-- .. and the high half, which writes the low one as it reads, leaves it
config-high_half : (k u : ℕ) (high : Bool) (v : ℕ) (h : HpetParts)
    → register_written (TimerConfig k) 4 true u (register_written (TimerConfig k) 8 high v h) ≡ register_written (TimerConfig k) 8 high v h
config-high_half k u high v h =
    let next : HpetParts = register_written (TimerConfig k) 8 high v h in
    let p : Bool = message_bit_at k next in
    same_lists h
    (set-again h.timer k (config_written v (timer_at k h)) (config_written (part_written 4 true u (timer_config_register k next)) (timer_at k next))
    (config_written v (timer_at k h)) no_timer
    (λ here. ap (λ (t : TimerParts). config_written (part_written 4 true u (config_register t + cond p 0x4000 0 + cond h.messages 0x8000 0)) t) here
    ∙ config-kept u v p h.messages (timer_at k h)))
    (bits-again h.messages h.message_bit k (bit 14 v) (bit 14 (part_written 4 true u (timer_config_register k next)))
    (λ here. message-kept u (timer_at k next).config p h.messages
    (config-small h.timer k (2 ^ 14 - 48) (config_written v (timer_at k h)) (omega arith) (config_written-small v (timer_at k h))) ∙ here))

-- a write of each register
register-halves : (r : Register) (high : Bool) (v : ℕ) (h : HpetParts) → is_plain r ≡ true
    → register_written r 8 high v h ≡ register_written r 4 true (v / 2 ^ 32) (register_written r 4 false (v % 2 ^ 32) h)
register-halves Capabilities high v h plain = refl
register-halves Reserved high v h plain = refl
register-halves Configuration high v h plain = ap (λ (x : ℕ). record h { config = x }) (low v h.config)
  where
    low : (v c : ℕ) → v % 2 ^ 2 ≡ part_written 4 true (v / 2 ^ 32) (part_written 4 false (v % 2 ^ 32) c % 2 ^ 2) % 2 ^ 2
    low v c = omega arith
register-halves Status high v h plain = ap (λ (x : ℕ). record h { status = x }) (status-halves v h.status)
register-halves MainCounter high v h plain = ap (λ (x : ℕ). record h { counter = x }) (part_written-halves high v h.counter)
register-halves (TimerConfig k) high v h plain = sym (ap (register_written (TimerConfig k) 4 true (v / 2 ^ 32)) (config-low_half k high v h)
    ∙ config-high_half k (v / 2 ^ 32) high v h)
register-halves (TimerComparator k) high v h plain = absurd (false≢true plain)
register-halves (TimerMessage k) high v h plain = ap (λ (x : List ℕ). record h { message_word = x })
    (sym (set-again h.message_word k (part_written 4 false (v % 2 ^ 32) (message_word_at k h)) _ v 0 (λ here. ap (part_written 4 true (v / 2 ^ 32)) here
    ∙ sym (part_written-halves high v (message_word_at k h)))))

-- a write leaves the register map
timers-kept : (r : Register) (width : ℕ) (high : Bool) (v : ℕ) (h : HpetParts) → (register_written r width high v h).timers ≡ h.timers
timers-kept Capabilities width high v h = refl
timers-kept Configuration width high v h = refl
timers-kept Status width high v h = refl
timers-kept MainCounter width high v h = refl
timers-kept (TimerConfig k) width high v h = refl
timers-kept (TimerComparator k) width high v h = refl
timers-kept (TimerMessage k) width high v h = refl
timers-kept Reserved width high v h = refl

messages-kept : (r : Register) (width : ℕ) (high : Bool) (v : ℕ) (h : HpetParts) → (register_written r width high v h).messages ≡ h.messages
messages-kept Capabilities width high v h = refl
messages-kept Configuration width high v h = refl
messages-kept Status width high v h = refl
messages-kept MainCounter width high v h = refl
messages-kept (TimerConfig k) width high v h = refl
messages-kept (TimerComparator k) width high v h = refl
messages-kept (TimerMessage k) width high v h = refl
messages-kept Reserved width high v h = refl

-- a write that reaches the register at a place
hpet_written-at : (place offset width v : ℕ) (high : Bool) (h : HpetParts) → is_effective offset width ≡ true → offset - offset % 8 ≡ place
    → eqb (offset % 8) 4 ≡ high → hpet_written offset width v h ≡ register_written (register_at h.timers h.messages place) width high v h
hpet_written-at place offset width v high h reaches here half =
    ap (λ (b : Bool). cond b (register_written (register_at h.timers h.messages (offset - offset % 8)) width (eqb (offset % 8) 4) v h) h) reaches
    ∙ (ap (λ (o : ℕ). register_written (register_at h.timers h.messages o) width (eqb (offset % 8) 4) v h) here
    ∙ ap (λ (b : Bool). register_written (register_at h.timers h.messages place) width b v h) half)

-- a write at an offset
pub hpet_written-halves : (offset v : ℕ) (h : HpetParts) → offset % 8 ≡ 0 → is_plain (register_at h.timers h.messages offset) ≡ true
    → hpet_written offset 8 v h ≡ hpet_written (offset + 4) 4 (v / 2 ^ 32) (hpet_written offset 4 (v % 2 ^ 32) h)
hpet_written-halves offset v h aligned plain =
    let r : Register = register_at h.timers h.messages offset in
    let low : HpetParts = register_written r 4 false (v % 2 ^ 32) h in
    let whole : hpet_written offset 8 v h
    ≡ register_written r 8 false v h = hpet_written-at offset offset 8 v false h (eq-eqb (offset % 8) 0 aligned) (omega arith)
    (ne_eqb (offset % 8) 4 (λ e. omega arith)) in
    let first : hpet_written offset 4 (v % 2 ^ 32) h
    ≡ low = hpet_written-at offset offset 4 (v % 2 ^ 32) false h (eq-eqb (offset % 4) 0 (omega arith)) (omega arith)
    (ne_eqb (offset % 8) 4 (λ e. omega arith)) in
    let second : hpet_written (offset + 4) 4 (v / 2 ^ 32) low
    ≡ register_written (register_at low.timers low.messages offset) 4 true (v / 2 ^ 32) low = hpet_written-at offset (offset + 4) 4 (v / 2 ^ 32) true low
    (eq-eqb ((offset + 4) % 4) 0 (omega arith)) (omega arith) (eq-eqb ((offset + 4) % 8) 4 (omega arith)) in
    let map : register_at low.timers low.messages offset ≡ r =
    ap (λ (n : ℕ). register_at n low.messages offset) (timers-kept r 4 false (v % 2 ^ 32) h)
    ∙ ap (λ (b : Bool). register_at h.timers b offset) (messages-kept r 4 false (v % 2 ^ 32) h) in
    whole
    ∙ (register-halves r false v h plain
    ∙ sym (ap (hpet_written (offset + 4) 4 (v / 2 ^ 32)) first ∙ (second ∙ ap (λ (q : Register). register_written q 4 true (v / 2 ^ 32) low) map)))
