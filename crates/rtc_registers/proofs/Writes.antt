-- Lemmas on writes: which register each changes, and what it does to the divider.
use Rattle.std.proofs.Common.{◌≡◌, ◌≢◌, ℕ, ◌-◌, ◌/◌, ◌%◌, ◌<◌, ◌≤◌, Bool, true, false, not, ◌&&◌, ◌||◌, cond}
use Rattle.std.proofs.Common.{eqb, length, get_or, inl, inr, refl, sym, ap, subst, ◌∙◌, lit<, lit≤, arith}
use Rattle.std.proofs.lemmas.Bool.{cases_Bool, cases_eq, eq-eqb, ne_eqb, eqb-true, false≢true}
use Rattle.std.proofs.lemmas.List.{length-set, get_or-set_other, get_or-set_same}
use Rattle.clk_units.specs.Bits.{bit}
use Rattle.rtc_calendar.specs.declared.TimeBytes.{TimeBytes}
use Rattle.rtc_cycle.specs.declared.parts.DividerParts.{DividerParts}
use Rattle.rtc_cycle.specs.Divider.{with_dv}
use Rattle.rtc_cycle.specs.Parts.{IsDivider}
use Rattle.rtc_cycle.proofs.Writes.{IsDivider-with_dv, IsDivider-with_rate, IsDivider-with_set}
use Rattle.rtc_registers.specs.declared.parts.RtcParts.{RtcParts}
use Rattle.rtc_registers.specs.Registers.{register_a, register_b, register_c, register_d, set_of}
use Rattle.rtc_registers.specs.Registers.{divider_of, with_time}
use Rattle.rtc_registers.specs.Parts.{IsRtc, rtc_at_power_on}
use Rattle.rtc_registers.specs.Access.{b_stored, stored, divider_written, rtc_written}

-- a byte elsewhere than at the index stays
pub get_or-rtc_written_other : (byte k : ℕ) (r : RtcParts) → k ≢ r.index → get_or (rtc_written byte r).bytes k 0 ≡ get_or r.bytes k 0
unfolding rtc_written
get_or-rtc_written_other byte k r other = elim (cases_Bool (eqb r.index 12 || eqb r.index 13)) [
  | inl fixed ↦ rw fixed refl
  | inr free ↦ rw free (get_or-set_other r.bytes r.index k (stored byte r) 0 other)
]

-- the byte at the index is stored, but for registers C and D
pub get_or-rtc_written : (byte : ℕ) (r : RtcParts) → IsRtc r → (eqb r.index 12 || eqb r.index 13) ≡ false
    → get_or (rtc_written byte r).bytes r.index 0 ≡ stored byte r
unfolding rtc_written
get_or-rtc_written byte r valid free = rw free (get_or-set_same r.bytes r.index (stored byte r) 0 (omega (arith, valid.places, valid.index)))

get_or-rtc_written_fixed : (byte k : ℕ) (r : RtcParts) → (eqb r.index 12 || eqb r.index 13) ≡ true → get_or (rtc_written byte r).bytes k 0 ≡
    get_or r.bytes k 0
unfolding rtc_written
get_or-rtc_written_fixed byte k r fixed = rw fixed refl

length-rtc_written : (byte : ℕ) (r : RtcParts) → length (rtc_written byte r).bytes ≡ length r.bytes
unfolding rtc_written
length-rtc_written byte r = elim (cases_Bool (eqb r.index 12 || eqb r.index 13)) [
  | inl fixed ↦ rw fixed refl
  | inr free ↦ rw free (length-set r.bytes r.index (stored byte r))
]

free-index : (index k : ℕ) → index ≡ k → k < 12 → (eqb index 12 || eqb index 13) ≡ false
free-index index k e less = rw (ne_eqb index 12 (λ h. omega arith), ne_eqb index 13 (λ h. omega arith)) refl

-- registers C and D are read only
pub register_c-rtc_written : (byte : ℕ) (r : RtcParts) → register_c (rtc_written byte r) ≡ register_c r
register_c-rtc_written byte r = elim (cases_eq r.index 12) [
  | inl here ↦ get_or-rtc_written_fixed byte 12 r (rw (eq-eqb r.index 12 here) refl)
  | inr other ↦ get_or-rtc_written_other byte 12 r (λ e. other (sym e))
]

pub register_d-rtc_written : (byte : ℕ) (r : RtcParts) → register_d (rtc_written byte r) ≡ register_d r
register_d-rtc_written byte r = elim (cases_eq r.index 13) [
  | inl here ↦ get_or-rtc_written_fixed byte 13 r (rw (eq-eqb r.index 13 here, ne_eqb r.index 12 (λ e. omega arith)) refl)
  | inr other ↦ get_or-rtc_written_other byte 13 r (λ e. other (sym e))
]

-- register A is written at its index alone, without UIP
pub register_a-rtc_written : (byte : ℕ) (r : RtcParts) → IsRtc r → register_a (rtc_written byte r) ≡ cond (eqb r.index 10) (byte % 128) (register_a r)
register_a-rtc_written byte r valid = elim (cases_eq r.index 10) [
  | inl here ↦
      let at : get_or (rtc_written byte r).bytes r.index 0 ≡ stored byte r = get_or-rtc_written byte r valid (free-index r.index 10 here (lit< tt)) in
      let byte_stored : stored byte r ≡ byte % 128 = rw (eq-eqb r.index 10 here) refl in
      ap (λ (k : ℕ). get_or (rtc_written byte r).bytes k 0) (sym here) ∙ at ∙ byte_stored
      ∙ sym (ap (λ (b : Bool). cond b (byte % 128) (register_a r)) (eq-eqb r.index 10 here))
  | inr other ↦ get_or-rtc_written_other byte 10 r (λ e. other (sym e))
      ∙ sym (ap (λ (b : Bool). cond b (byte % 128) (register_a r)) (ne_eqb r.index 10 other))
]

-- register B is written at its index alone
pub register_b-rtc_written : (byte : ℕ) (r : RtcParts) → IsRtc r → register_b (rtc_written byte r) ≡ cond (eqb r.index 11) (b_stored byte r) (register_b r)
register_b-rtc_written byte r valid = elim (cases_eq r.index 11) [
  | inl here ↦
      let at : get_or (rtc_written byte r).bytes r.index 0 ≡ stored byte r = get_or-rtc_written byte r valid (free-index r.index 11 here (lit< tt)) in
      let byte_stored : stored byte r ≡ b_stored byte r = rw (ne_eqb r.index 10 (λ e. omega arith), eq-eqb r.index 11 here) refl in
      ap (λ (k : ℕ). get_or (rtc_written byte r).bytes k 0) (sym here) ∙ at ∙ byte_stored
      ∙ sym (ap (λ (b : Bool). cond b (b_stored byte r) (register_b r)) (eq-eqb r.index 11 here))
  | inr other ↦ get_or-rtc_written_other byte 11 r (λ e. other (sym e))
      ∙ sym (ap (λ (b : Bool). cond b (b_stored byte r) (register_b r)) (ne_eqb r.index 11 other))
]

-- what register B stores differs from the byte in UIE alone
b_stored-by : (ends : Bool) (byte : ℕ) (k : ℕ) → (bit 4 byte ≡ true → bit k (byte - 16) ≡ bit k byte) → (ends ≡ true → bit 4 byte ≡ true)
    → bit k (cond ends (byte - 16) byte) ≡ bit k byte
b_stored-by true byte k same has = same (has refl)
b_stored-by false byte k same has = refl

uie_had : (set old uie : Bool) → (set && (not old && uie)) ≡ true → uie ≡ true
uie_had true false true h = refl
uie_had true false false h = h
uie_had true true uie h = absurd (false≢true h)
uie_had false old uie h = absurd (false≢true h)

bit_7-without_16 : (byte : ℕ) → bit 4 byte ≡ true → bit 7 (byte - 16) ≡ bit 7 byte
bit_7-without_16 byte h = ap (λ (x : ℕ). eqb x 1) (omega (arith, eqb-true (byte / 16 % 2) 1 h))

pub set-b_stored : (byte : ℕ) (r : RtcParts) → bit 7 (b_stored byte r) ≡ bit 7 byte
set-b_stored byte r = b_stored-by (bit 7 byte && (not (set_of r) && bit 4 byte)) byte 7 (bit_7-without_16 byte) (uie_had (bit 7 byte) (set_of r) (bit 4 byte))

-- the divider is written as register A and SET are
one_divider : (p q : DividerParts) → p.d ≡ q.d → p.cycle ≡ q.cycle → p.dv ≡ q.dv → p.rs ≡ q.rs → p.set ≡ q.set → p ≡ q
one_divider p q e1 e2 e3 e4 e5 = λ i. record { d = e1 i; cycle = e2 i; dv = e3 i; rs = e4 i; set = e5 i }

d-rtc_written : (byte : ℕ) (r : RtcParts) → (rtc_written byte r).d ≡ (divider_written byte r).d
unfolding rtc_written
d-rtc_written byte r = refl

cycle-rtc_written : (byte : ℕ) (r : RtcParts) → (rtc_written byte r).cycle ≡ (divider_written byte r).cycle
unfolding rtc_written
cycle-rtc_written byte r = refl

pub divider_of-rtc_written : (byte : ℕ) (r : RtcParts) → IsRtc r → divider_of (rtc_written byte r) ≡ divider_written byte r
divider_of-rtc_written byte r valid = elim (cases_eq r.index 10) [
  | inl here ↦
      let a : register_a (rtc_written byte r) ≡ byte % 128 = rw (eq-eqb r.index 10 here) at (register_a-rtc_written byte r valid) in
      let b : register_b (rtc_written byte r) ≡ register_b r = rw (ne_eqb r.index 11 (λ e. omega arith)) at (register_b-rtc_written byte r valid) in
      one_divider (divider_of (rtc_written byte r)) (divider_written byte r) (d-rtc_written byte r) (cycle-rtc_written byte r)
      (rw (a, eq-eqb r.index 10 here) (omega arith)) (rw (a, eq-eqb r.index 10 here) (omega arith)) (rw (b, eq-eqb r.index 10 here) refl)
  | inr elsewhere ↦
      let a : register_a (rtc_written byte r) ≡ register_a r = rw (ne_eqb r.index 10 elsewhere) at (register_a-rtc_written byte r valid) in
      elim (cases_eq r.index 11) [
        | inl here ↦
            let b : register_b (rtc_written byte r) ≡ b_stored byte r = rw (eq-eqb r.index 11 here) at (register_b-rtc_written byte r valid) in
            one_divider (divider_of (rtc_written byte r)) (divider_written byte r) (d-rtc_written byte r) (cycle-rtc_written byte r)
            (rw (a, ne_eqb r.index 10 elsewhere, eq-eqb r.index 11 here) refl) (rw (a, ne_eqb r.index 10 elsewhere, eq-eqb r.index 11 here) refl)
            (ap (bit 7) b ∙ set-b_stored byte r ∙ sym (rw (ne_eqb r.index 10 elsewhere, eq-eqb r.index 11 here) refl))
        | inr other ↦
            let b : register_b (rtc_written byte r) ≡ register_b r = rw (ne_eqb r.index 11 other) at (register_b-rtc_written byte r valid) in
            one_divider (divider_of (rtc_written byte r)) (divider_written byte r) (d-rtc_written byte r) (cycle-rtc_written byte r)
            (rw (a, ne_eqb r.index 10 elsewhere, ne_eqb r.index 11 other) refl) (rw (a, ne_eqb r.index 10 elsewhere, ne_eqb r.index 11 other) refl)
            (rw (b, ne_eqb r.index 10 elsewhere, ne_eqb r.index 11 other) refl)
      ]
]

IsDivider-divider_written : (byte : ℕ) (r : RtcParts) → IsRtc r → IsDivider (divider_written byte r)
IsDivider-divider_written byte r valid = elim (cases_Bool (eqb r.index 10)) [
  | inl here ↦ rw here
      (IsDivider-with_rate (byte % 16) (with_dv (byte / 16 % 8) (divider_of r)) (omega arith)
      (IsDivider-with_dv (byte / 16 % 8) (divider_of r) (omega arith) valid.divider))
  | inr elsewhere ↦ elim (cases_Bool (eqb r.index 11)) [
    | inl here ↦ rw (elsewhere, here) (IsDivider-with_set (bit 7 byte) (divider_of r) valid.divider)
    | inr other ↦ rw (elsewhere, other) valid.divider
  ]
]

register_a-most : (here : Bool) (byte a : ℕ) → a ≤ 127 → cond here (byte % 128) a ≤ 127
register_a-most true byte a most = omega arith
register_a-most false byte a most = most

index-rtc_written : (byte : ℕ) (r : RtcParts) → (rtc_written byte r).index ≡ r.index
unfolding rtc_written
index-rtc_written byte r = refl

-- writes keep the conditions
pub IsRtc-rtc_written : (byte : ℕ) (r : RtcParts) → IsRtc r → IsRtc (rtc_written byte r)
IsRtc-rtc_written byte r valid = record {
  places = length-rtc_written byte r ∙ valid.places;
  index = omega (arith, index-rtc_written byte r, valid.index);
  register_a = rw (register_a-rtc_written byte r valid) (register_a-most (eqb r.index 10) byte (register_a r) valid.register_a);
  register_c = rw (register_c-rtc_written byte r) valid.register_c;
  register_d = register_d-rtc_written byte r ∙ valid.register_d;
  divider = subst IsDivider (sym (divider_of-rtc_written byte r valid)) (IsDivider-divider_written byte r valid);
}

pub IsRtc-rtc_at_power_on : (t : TimeBytes) → IsRtc (rtc_at_power_on t)
unfolding rtc_at_power_on with_time
IsRtc-rtc_at_power_on t = record {
  places = refl;
  index = lit≤ tt;
  register_a = lit≤ tt;
  register_c = refl;
  register_d = refl;
  divider = record {
    below = lit< tt;
    held = inr refl;
    in_cycle = λ h. absurd (false≢true h);
    dv = lit≤ tt;
    rs = lit≤ tt;
  };
}
