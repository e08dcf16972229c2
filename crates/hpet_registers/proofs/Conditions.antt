-- Writes and pulses keep the conditions on the HPET's fields.
use Rattle.std.proofs.Common.{◌≡◌, ℕ, zero, suc, ◌-◌, ◌%◌, ◌^◌, ◌<◌, ◌≤◌, Bool, true, false, cond, ◌&&◌, ltb, List, [], ◌∷◌, map, get_or, ◌⊎◌, refl, ap, sym}
use Rattle.std.proofs.Common.{subst, ◌∙◌, inl, inr, arith}
use Rattle.std.proofs.Math.ListN.{set, get_or-map}
use Rattle.std.proofs.lemmas.List.{get_or-set_other}
use Rattle.std.proofs.lemmas.Bool.{cases_eq, lt-ltb, le-ltb, false≢true}
use Rattle.std.proofs.lemmas.Nat.{and_le_l}
use Rattle.hpet_comparator.specs.Counter.{counter_after}
use Rattle.hpet_comparator.specs.Part.{part_written}
use Rattle.hpet_comparator.specs.declared.parts.TimerParts.{TimerParts}
use Rattle.clk_units.specs.Bits.{bit}
use Rattle.hpet_comparator.specs.Parts.{IsTimer, is_periodic, is_level}
use Rattle.hpet_comparator.specs.Stretch.{matches_at, pulsed, pulsed_times}
use Rattle.hpet_comparator.specs.Config.{config_written}
use Rattle.hpet_comparator.specs.Comparator.{comparator_written}
use Rattle.hpet_comparator.proofs.Writes.{IsTimer-config_written, IsTimer-comparator_written, IsTimer-pulsed}
use Rattle.hpet_registers.specs.declared.parts.HpetParts.{HpetParts}
use Rattle.hpet_registers.specs.declared.register.Register.{Register}
use Rattle.hpet_registers.specs.declared.register.Register.TheVariants.{Capabilities, Configuration, Status, MainCounter, TimerConfig, TimerComparator}
use Rattle.hpet_registers.specs.declared.register.Register.TheVariants.{TimerMessage, Reserved}
use Rattle.hpet_registers.specs.Parts.{no_timer, timer_at, IsPlace, IsHpet, is_running}
use Rattle.hpet_registers.specs.Register.{IsRegister}
use Rattle.hpet_registers.specs.Access.{register_written, timer_config_register}
use Rattle.hpet_registers.specs.Stretch.{matches_next, hpet_pulsed, hpet_pulsed_times}
use Rattle.hpet_registers.proofs.Bits.{with_bits-lt}

-- pulses leave a place without a timer
pub pulsed-no_timer : (c : ℕ) → pulsed c no_timer ≡ no_timer
unfolding pulsed
pulsed-no_timer c = ap (λ (x : ℕ). record no_timer { comparator = x }) (still (matches_at c no_timer))
  where
    still : (b : Bool) → cond (b && is_periodic no_timer) (0 % 2 ^ 64) 0 ≡ 0
    still true = refl
    still false = refl

pub pulsed_times-no_timer : (from n : ℕ) → pulsed_times from n no_timer ≡ no_timer
pulsed_times-no_timer from zero = refl
pulsed_times-no_timer from (suc n) = ap (pulsed (counter_after from (suc n))) (pulsed_times-no_timer from n) ∙ pulsed-no_timer (counter_after from (suc n))

-- a place that is set holds the new timer, or, past the end, what it held
set_at : (l : List TimerParts) (k : ℕ) (x d : TimerParts) → (get_or (set l k x) k d ≡ x) ⊎ (get_or (set l k x) k d ≡ get_or l k d)
set_at [] k x d = inr refl
set_at (y ∷ l) zero x d = inl refl
set_at (y ∷ l) (suc k) x d = set_at l k x d

-- timers stay timers where one is set
places-set : (timers k : ℕ) (l : List TimerParts) (x : TimerParts) → k < timers → IsTimer x → ((j : ℕ) → j < 8 → IsPlace (ltb j timers) (get_or l j no_timer))
    → (j : ℕ) → j < 8 → IsPlace (ltb j timers) (get_or (set l k x) j no_timer)
places-set timers k l x inside valid places j small = elim (cases_eq j k) [
  | inl same ↦ elim (set_at l k x no_timer) [
    | inl new ↦ subst (λ (t : TimerParts). IsPlace (ltb j timers) t) (sym (ap (λ (i : ℕ). get_or (set l k x) i no_timer) same ∙ new))
        (subst (λ (b : Bool). IsPlace b x) (sym (lt-ltb j timers (omega arith))) valid)
    | inr old ↦ subst (λ (t : TimerParts). IsPlace (ltb j timers) t)
        (sym (ap (λ (i : ℕ). get_or (set l k x) i no_timer) same ∙ (old ∙ ap (λ (i : ℕ). get_or l i no_timer) (sym same)))) (places j small)
  ]
  | inr other ↦ subst (λ (t : TimerParts). IsPlace (ltb j timers) t) (sym (get_or-set_other l k j x no_timer other)) (places j small)
]

-- timer k is one, where there are more than k
pub IsTimer-at : (k : ℕ) (h : HpetParts) → IsHpet h → k < h.timers → IsTimer (timer_at k h)
IsTimer-at k h valid inside = subst (λ (b : Bool). IsPlace b (timer_at k h)) (lt-ltb k h.timers inside) (valid.places k (small valid.timers))
  where
    small : (h.timers ≡ 3) ⊎ (h.timers ≡ 8) → k < 8
    small (inl e) = omega arith
    small (inr e) = omega arith

-- a write to a register keeps the conditions
pub IsHpet-register_written : (r : Register) (width : ℕ) (high : Bool) (v : ℕ) (h : HpetParts) → IsHpet h → IsRegister h.timers h.messages r
    → IsHpet (register_written r width high v h)
IsHpet-register_written Capabilities width high v h valid range = valid
IsHpet-register_written Reserved width high v h valid range = valid
IsHpet-register_written Configuration width high v h valid range = record {
  config = omega arith;
  timers = valid.timers;
  status = valid.status;
  places = valid.places;
  messages = valid.messages;
  plain = valid.plain;
}
IsHpet-register_written Status width high v h valid range = record {
  config = valid.config;
  timers = valid.timers;
  status = λ three. omega (arith, and_le_l h.status (0xff - part_written width high v 0 % 2 ^ 8), valid.status three);
  places = valid.places;
  messages = valid.messages;
  plain = valid.plain;
}
IsHpet-register_written MainCounter width high v h valid range = record {
  config = valid.config;
  timers = valid.timers;
  status = valid.status;
  places = valid.places;
  messages = valid.messages;
  plain = valid.plain;
}
IsHpet-register_written (TimerConfig k) width high v h valid range = record {
  config = valid.config;
  timers = valid.timers;
  status = valid.status;
  places = places-set h.timers k h.timer (config_written (part_written width high v (timer_config_register k h)) (timer_at k h)) range
      (IsTimer-config_written (part_written width high v (timer_config_register k h)) (timer_at k h) (IsTimer-at k h valid range)) valid.places;
  messages = valid.messages;
  plain = λ off j small. (
    ap (λ (b : Bool). get_or (cond b (set h.message_bit k (bit 14 (part_written width high v (timer_config_register k h)))) h.message_bit) j false) off
        ∙ (valid.plain off j small).0,
    (valid.plain off j small).1,
  );
}
IsHpet-register_written (TimerComparator k) width high v h valid range = record {
  config = valid.config;
  timers = valid.timers;
  status = valid.status;
  places = places-set h.timers k h.timer (comparator_written width high v (timer_at k h)) range
      (IsTimer-comparator_written width high v (timer_at k h) (IsTimer-at k h valid range)) valid.places;
  messages = valid.messages;
  plain = valid.plain;
}
IsHpet-register_written (TimerMessage k) width high v h valid range = record {
  config = valid.config;
  timers = valid.timers;
  status = valid.status;
  places = valid.places;
  messages = valid.messages;
  plain = λ off j small. absurd (false≢true (sym off ∙ range.1));
}

-- a pulse keeps a place
IsPlace-pulsed : (b : Bool) (c : ℕ) (t : TimerParts) → IsPlace b t → IsPlace b (pulsed c t)
IsPlace-pulsed true c t h = IsTimer-pulsed c t h
IsPlace-pulsed false c t h = ap (pulsed c) h ∙ pulsed-no_timer c

-- a timer that the map of pulses made
pub get_or-pulsed : (c k : ℕ) (l : List TimerParts) → get_or (map (pulsed c) l) k no_timer ≡ pulsed c (get_or l k no_timer)
get_or-pulsed c k l = ap (get_or (map (pulsed c) l) k) (sym (pulsed-no_timer c)) ∙ get_or-map (pulsed c) l k no_timer

-- a place without a timer is never of level type
not-level : (h : HpetParts) → IsHpet h → h.timers ≡ 3 → (k : ℕ) → 3 ≤ k → k < 8 → is_level (timer_at k h) ≡ false
not-level h valid three k past small =
    let place : IsPlace false (timer_at k h) = subst (λ (b : Bool). IsPlace b (timer_at k h)) (le-ltb k h.timers (omega arith)) (valid.places k small) in
    ap is_level place

pub and-false : (b c : Bool) → c ≡ false → (b && c) ≡ false
and-false true c e = e
and-false false c e = refl

-- a pulse keeps the conditions
pub IsHpet-hpet_pulsed : (h : HpetParts) → IsHpet h → IsHpet (hpet_pulsed h)
unfolding hpet_pulsed
IsHpet-hpet_pulsed h valid = record {
  config = valid.config;
  timers = valid.timers;
  status = λ three. omega (
    arith,
    with_bits-lt (λ k. matches_next k h && is_level (timer_at k h)) 8 h.status (omega (arith, valid.status three))
        (λ k past small. and-false (matches_next k h) (is_level (timer_at k h)) (not-level h valid three k past small)),
  );
  places = λ k small. kept (is_running h) k (valid.places k small);
  messages = valid.messages;
  plain = valid.plain;
}
  where
    kept : (b : Bool) (k : ℕ) → IsPlace (ltb k h.timers) (timer_at k h)
        → IsPlace (ltb k h.timers) (get_or (cond b (map (pulsed (counter_after h.counter 1)) h.timer) h.timer) k no_timer)
    kept false k p = p
    kept true k p = subst (λ (t : TimerParts). IsPlace (ltb k h.timers) t) (sym (get_or-pulsed (counter_after h.counter 1) k h.timer))
        (IsPlace-pulsed (ltb k h.timers) (counter_after h.counter 1) (timer_at k h) p)

pub IsHpet-hpet_pulsed_times : (n : ℕ) (h : HpetParts) → IsHpet h → IsHpet (hpet_pulsed_times n h)
IsHpet-hpet_pulsed_times zero h valid = valid
IsHpet-hpet_pulsed_times (suc n) h valid = IsHpet-hpet_pulsed (hpet_pulsed_times n h) (IsHpet-hpet_pulsed_times n h valid)
