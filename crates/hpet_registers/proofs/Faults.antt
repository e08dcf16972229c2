-- No field's condition fails exactly where all hold.
use Rattle.std.proofs.Common.{◌≡◌, ℕ, zero, suc, ◌+◌, ◌<◌, ◌≤◌, Bool, true, false, cond, ◌||◌, not, ltb, leb, eqb, Option, Some, None, ◌⊎◌, refl, ap, sym, ◌∙◌}
use Rattle.std.proofs.Common.{inl, inr, arith}
use Rattle.std.proofs.lemmas.Bool.{cases_lt, cases_eq, leb-true, eqb-true, le-leb, eq-eqb}
use Rattle.hpet_comparator.specs.declared.parts.TimerParts.{TimerParts}
use Rattle.hpet_comparator.specs.declared.parts.TimerField.{TimerField}
use Rattle.hpet_comparator.proofs.Conditions.{peel, IsTimer-no_fault, no_fault-IsTimer}
use Rattle.hpet_comparator.specs.declared.parts.TimerField.TheVariants as timer_field
use Rattle.hpet_registers.specs.declared.parts.HpetParts.{HpetParts}
use Rattle.hpet_registers.specs.declared.parts.HpetField.{HpetField}
use Rattle.hpet_registers.specs.declared.parts.HpetField.TheVariants.{Timers, Messages, Config, Status, MessageBit, MessageWord}
use Rattle.hpet_registers.specs.Parts.{no_timer, timer_at, message_bit_at, message_word_at, IsPlace, IsHpet, timers_valid, messages_valid, hpet_config_valid}
use Rattle.hpet_registers.specs.Parts.{hpet_status_valid, rest_fault, place_fault, of_timer, timer_fault_at, message_fault_at, or_else, first_below, hpet_fault}

-- one place more
pub first_below-more : (fault : ℕ → Option HpetField) (n : ℕ) (r : Option HpetField) → first_below fault n ≡ None → fault n ≡ r → first_below fault (n + 1) ≡ r
unfolding first_below
first_below-more fault n r none here =
    let e : n + 1 ≡ suc n = omega arith in
    ap (first_below fault) e ∙ (ap (λ (x : Option HpetField). or_else x (fault n)) none ∙ here)

-- the first fault stays the first
pub first_below-stays : (fault : ℕ → Option HpetField) (m n : ℕ) (x : HpetField) → first_below fault n ≡ Some x → n ≤ m → first_below fault m ≡ Some x
unfolding first_below
first_below-stays fault zero n x some le = let e : n ≡ 0 = omega arith in ap (first_below fault) (sym e) ∙ some
first_below-stays fault (suc m) n x some le = elim (cases_lt m n) [
  | inl here ↦ let e : suc m ≡ n = omega arith in ap (first_below fault) e ∙ some
  | inr before ↦ ap (λ (y : Option HpetField). or_else y (fault m)) (first_below-stays fault m n x some before)
]

both-none : (a b : Option HpetField) → or_else a b ≡ None → (a ≡ None) × (b ≡ None)
both-none None b e = (refl, e)
both-none (Some x) b e = cc

-- no fault below n: none at each place ..
pub first_below-none : (fault : ℕ → Option HpetField) (n : ℕ) → first_below fault n ≡ None → (k : ℕ) → k < n → fault k ≡ None
unfolding first_below
first_below-none fault zero none k less = absurd (omega arith)
first_below-none fault (suc n) none k less =
    let parts : (first_below fault n ≡ None) × (fault n ≡ None) = both-none (first_below fault n) (fault n) none in
    elim (cases_eq k n) [
      | inl same ↦ ap fault same ∙ parts.1
      | inr other ↦ first_below-none fault n parts.0 k (below k n less other)
    ]
  where
    below : (k n : ℕ) → k < suc n → (k ≡ n → ⊥) → k < n
    below k n h apart = omega arith

-- .. and back
pub none-first_below : (fault : ℕ → Option HpetField) (n : ℕ) → ((k : ℕ) → k < n → fault k ≡ None) → first_below fault n ≡ None
unfolding first_below
none-first_below fault zero none = refl
none-first_below fault (suc n) none =
    ap (λ (x : Option HpetField). or_else x (fault n)) (none-first_below fault n (λ k less. none k (omega arith))) ∙ none n (omega arith)

-- a place without a fault holds a timer, or nothing
of_timer-none : (k : ℕ) (f : Option TimerField) → of_timer k f ≡ None → f ≡ None
of_timer-none k None e = refl
of_timer-none k (Some field) e = cc

rest-none : (t : TimerParts) → rest_fault t ≡ None → t ≡ no_timer
rest-none t none =
    let config : (eqb t.config 0 ≡ true) ×
    (cond (eqb t.comparator 0) (cond (eqb t.period 0) None (Some timer_field.Period)) (Some timer_field.Comparator) ≡ None) = peel
    (eqb t.config 0) timer_field.Config
    (cond (eqb t.comparator 0) (cond (eqb t.period 0) None (Some timer_field.Period)) (Some timer_field.Comparator)) none in
    let comparator : (eqb t.comparator 0 ≡ true) × (cond (eqb t.period 0) None (Some timer_field.Period) ≡ None) = peel
    (eqb t.comparator 0) timer_field.Comparator (cond (eqb t.period 0) None (Some timer_field.Period)) config.1 in
    let period : (eqb t.period 0 ≡ true) × (None ≡ None) = peel (eqb t.period 0) timer_field.Period None comparator.1 in
    ap (λ (x : ℕ). record t { config = x }) (eqb-true t.config 0 config.0)
    ∙ (ap (λ (x : ℕ). record t { config = 0; comparator = x }) (eqb-true t.comparator 0 comparator.0)
    ∙ ap (λ (x : ℕ). record t { config = 0; comparator = 0; period = x }) (eqb-true t.period 0 period.0))

IsPlace-none : (b : Bool) (t : TimerParts) → place_fault b t ≡ None → IsPlace b t
IsPlace-none true t none = IsTimer-no_fault t none
IsPlace-none false t none = rest-none t none

none-IsPlace : (b : Bool) (t : TimerParts) → IsPlace b t → place_fault b t ≡ None
none-IsPlace true t place = no_fault-IsTimer t place
none-IsPlace false t place = ap rest_fault place

-- conditions one after the other
peeled : (b : Bool) (f : HpetField) (rest : Option HpetField) → cond (not b) (Some f) rest ≡ None → (b ≡ true) × (rest ≡ None)
peeled true f rest e = (refl, e)
peeled false f rest e = cc

peel_on : (b : Bool) (f : HpetField) (rest : Option HpetField) → b ≡ true → rest ≡ None → cond (not b) (Some f) rest ≡ None
peel_on true f rest e none = none
peel_on false f rest e none = cc

-- each condition as a fact
timers-fact : (n : ℕ) → (eqb n 3 || eqb n 8) ≡ true → (n ≡ 3) ⊎ (n ≡ 8)
timers-fact n = by_test (eqb n 3) refl
  where
    by_test : (b : Bool) → eqb n 3 ≡ b → (b || eqb n 8) ≡ true → (n ≡ 3) ⊎ (n ≡ 8)
    by_test true e _ = inl (eqb-true n 3 e)
    by_test false e h = inr (eqb-true n 8 h)

fact-timers : (n : ℕ) → (n ≡ 3) ⊎ (n ≡ 8) → (eqb n 3 || eqb n 8) ≡ true
fact-timers n (inl e) = ap (λ (x : ℕ). eqb x 3 || eqb x 8) e
fact-timers n (inr e) = ap (λ (x : ℕ). eqb x 3 || eqb x 8) e

messages-fact : (m : Bool) (n : ℕ) → (not m || eqb n 8) ≡ true → m ≡ true → n ≡ 8
messages-fact true n e on = eqb-true n 8 e
messages-fact false n e on = cc

fact-messages : (m : Bool) (n : ℕ) → (m ≡ true → n ≡ 8) → (not m || eqb n 8) ≡ true
fact-messages true n h = eq-eqb n 8 (h refl)
fact-messages false n h = refl

status-fact : (n s : ℕ) → (eqb n 8 || leb s 7) ≡ true → n ≡ 3 → s ≤ 7
status-fact n s e three = leb-true s 7 (ap (λ (x : ℕ). eqb x 8 || leb s 7) (sym three) ∙ e)

fact-status : (n s : ℕ) → (n ≡ 3) ⊎ (n ≡ 8) → (n ≡ 3 → s ≤ 7) → (eqb n 8 || leb s 7) ≡ true
fact-status n s (inl e) h = ap (λ (x : ℕ). eqb x 8 || leb s 7) e ∙ le-leb s 7 (h e)
fact-status n s (inr e) h = ap (λ (x : ℕ). eqb x 8 || leb s 7) e

plain-fact : (k : ℕ) (m b : Bool) (w : ℕ) → cond m None (cond b (Some (MessageBit k)) (cond (eqb w 0) None (Some (MessageWord k)))) ≡ None → m ≡ false
    → (b ≡ false) × (w ≡ 0)
plain-fact k true b w e off = cc
plain-fact k false true w e off = cc
plain-fact k false false w e off = (refl, by_test (eqb w 0) refl e)
  where
    by_test : (z : Bool) → eqb w 0 ≡ z → cond z None (Some (MessageWord k)) ≡ None → w ≡ 0
    by_test true t _ = eqb-true w 0 t
    by_test false t f = cc

fact-plain : (k : ℕ) (m b : Bool) (w : ℕ) → (m ≡ false → (b ≡ false) × (w ≡ 0))
    → cond m None (cond b (Some (MessageBit k)) (cond (eqb w 0) None (Some (MessageWord k)))) ≡ None
fact-plain k true b w h = refl
fact-plain k false b w h =
    ap (λ (x : Bool). cond x (Some (MessageBit k)) (cond (eqb w 0) None (Some (MessageWord k)))) (h refl).0
    ∙ ap (λ (x : ℕ). cond (eqb x 0) None (Some (MessageWord k))) (h refl).1

-- no fault: all conditions hold ..
pub IsHpet-no_fault : (h : HpetParts) → hpet_fault h ≡ None → IsHpet h
IsHpet-no_fault h none =
    let places : Option HpetField = or_else (first_below (timer_fault_at h) 8) (first_below (message_fault_at h) 8) in
    let status : Option HpetField = cond (not (hpet_status_valid h)) (Some Status) places in
    let config : Option HpetField = cond (not (hpet_config_valid h)) (Some Config) status in
    let messages : Option HpetField = cond (not (messages_valid h)) (Some Messages) config in
    let a : (timers_valid h ≡ true) × (messages ≡ None) = peeled (timers_valid h) Timers messages none in
    let b : (messages_valid h ≡ true) × (config ≡ None) = peeled (messages_valid h) Messages config a.1 in
    let c : (hpet_config_valid h ≡ true) × (status ≡ None) = peeled (hpet_config_valid h) Config status b.1 in
    let d : (hpet_status_valid h ≡ true) × (places ≡ None) = peeled (hpet_status_valid h) Status places c.1 in
    let e : (first_below (timer_fault_at h) 8 ≡ None) × (first_below (message_fault_at h) 8 ≡ None) = both-none (first_below (timer_fault_at h) 8)
    (first_below (message_fault_at h) 8) d.1 in
    record {
      config = leb-true h.config 3 c.0;
      timers = timers-fact h.timers a.0;
      status = status-fact h.timers h.status d.0;
      places = λ k small. IsPlace-none (ltb k h.timers) (timer_at k h)
          (of_timer-none k (place_fault (ltb k h.timers) (timer_at k h)) (first_below-none (timer_fault_at h) 8 e.0 k small));
      messages = messages-fact h.messages h.timers b.0;
      plain = λ off k small. plain-fact k h.messages (message_bit_at k h) (message_word_at k h) (first_below-none (message_fault_at h) 8 e.1 k small) off;
    }

-- .. and where they hold there is none
pub no_fault-IsHpet : (h : HpetParts) → IsHpet h → hpet_fault h ≡ None
no_fault-IsHpet h valid =
    let places : Option HpetField = or_else (first_below (timer_fault_at h) 8) (first_below (message_fault_at h) 8) in
    let status : Option HpetField = cond (not (hpet_status_valid h)) (Some Status) places in
    let config : Option HpetField = cond (not (hpet_config_valid h)) (Some Config) status in
    let messages : Option HpetField = cond (not (messages_valid h)) (Some Messages) config in
    let timer_none : first_below (timer_fault_at h) 8
    ≡ None = none-first_below (timer_fault_at h) 8 (λ k small. ap (of_timer k) (none-IsPlace (ltb k h.timers) (timer_at k h) (valid.places k small))) in
    let message_none : first_below (message_fault_at h) 8
    ≡ None = none-first_below (message_fault_at h) 8
    (λ k small. fact-plain k h.messages (message_bit_at k h) (message_word_at k h) (λ off. valid.plain off k small)) in
    peel_on (timers_valid h) Timers messages (fact-timers h.timers valid.timers)
    (peel_on (messages_valid h) Messages config (fact-messages h.messages h.timers valid.messages)
    (peel_on (hpet_config_valid h) Config status (le-leb h.config 3 valid.config)
    (peel_on (hpet_status_valid h) Status places (fact-status h.timers h.status valid.timers valid.status)
    (ap (λ (x : Option HpetField). or_else x (first_below (message_fault_at h) 8)) timer_none ∙ message_none))))

-- no place, no fault
pub first_below-nothing : (fault : ℕ → Option HpetField) → first_below fault 0 ≡ None
unfolding first_below
first_below-nothing fault = refl

-- what isn't a fault is none
pub none-some : (f : Option HpetField) → ((x : HpetField) → f ≡ Some x → ⊥) → f ≡ None
none-some None h = refl
none-some (Some x) h = absurd (h x refl)
