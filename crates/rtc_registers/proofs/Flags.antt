-- Lemmas on register C: a write of its flags keeps the rest of the clock, and setting PF goes past pulses.
use Rattle.std.proofs.Common.{◌≡◌, ℕ, ◌≤◌, ◌<◌, ◌+◌, Bool, true, false, ◌||◌, cond, eqb, List}
use Rattle.std.proofs.Common.{length, set, refl, sym, ap, subst, ◌∙◌, ◌⊎◌, inl, inr, arith}
use Rattle.std.proofs.lemmas.Bool.{cases_Bool, cases_lt}
use Rattle.std.proofs.lemmas.List.{set-get_or}
use Rattle.rtc_calendar.specs.declared.TimeBytes.{TimeBytes}
use Rattle.rtc_cycle.specs.declared.parts.DividerParts.{DividerParts}
use Rattle.rtc_cycle.specs.Divider.{pulsed, pulsed_times, ticks_next, updates_next, ticks_in, updates_in}
use Rattle.rtc_cycle.specs.Parts.{IsDivider}
use Rattle.rtc_registers.specs.declared.parts.RtcParts.{RtcParts}
use Rattle.clk_units.specs.Bits.{bit}
use Rattle.rtc_registers.specs.Registers.{register_b, register_c, flags_byte, pf_of, af_of, uf_of}
use Rattle.rtc_registers.specs.Registers.{divider_of, form_of, time_of, alarm_of}
use Rattle.rtc_registers.specs.Access.{after_rtc_read, flagged}
use Rattle.rtc_registers.specs.Parts.{IsRtc}
use Rattle.rtc_registers.specs.Pulses.{moved, time_next, flags_next, alarms_next, rtc_pulsed, rtc_pulsed_times}
use Rattle.rtc_registers.proofs.Bytes.{Moved, moved-bytes, Flagged, flagged-bytes, flags_byte-read, bit-pf}
use Rattle.rtc_registers.proofs.Bytes.{bit-af, bit-uf}
use Rattle.rtc_registers.proofs.Times.{time_next-by, alarms_next-by, flags_next-by, rtc_pulsed_times-no_event, rtc_pulsed_times-ticked}

-- register C is replaced
abbrev pub with_flags : ℕ → RtcParts → RtcParts
with_flags f r = record r { bytes = set r.bytes 12 f }

pub divider_of-with_flags : (f : ℕ) (r : RtcParts) → 14 ≤ length r.bytes → divider_of (with_flags f r) ≡ divider_of r
divider_of-with_flags f r h =
    let m : Flagged f r.bytes = flagged-bytes f r.bytes h in
    rw (m.register_a, m.register_b) refl

pub IsRtc-with_flags : (pf af uf : Bool) (r : RtcParts) → IsRtc r → IsRtc (with_flags (flags_byte pf af uf) r)
IsRtc-with_flags pf af uf r valid =
    let enough : 14 ≤ length r.bytes = omega (arith, valid.places) in
    let m : Flagged (flags_byte pf af uf) r.bytes = flagged-bytes (flags_byte pf af uf) r.bytes enough in
    record {
      places = m.places ∙ valid.places;
      index = valid.index;
      register_a = rw m.register_a valid.register_a;
      register_c = rw m.register_c (flags_byte-read pf af uf);
      register_d = m.register_d ∙ valid.register_d;
      divider = subst IsDivider (sym (divider_of-with_flags (flags_byte pf af uf) r enough)) valid.divider;
    }

-- a read keeps the conditions
pub IsRtc-after_rtc_read : (r : RtcParts) → IsRtc r → IsRtc (after_rtc_read r)
unfolding after_rtc_read
IsRtc-after_rtc_read r valid = elim (cases_Bool (eqb r.index 12)) [
  | inl c ↦ rw c (IsRtc-with_flags false false false r valid)
  | inr other ↦ rw other valid
]

-- PF set keeps them
pub IsRtc-flagged : (r : RtcParts) → IsRtc r → IsRtc (flagged r)
unfolding flagged
IsRtc-flagged r valid = IsRtc-with_flags true (af_of r) (uf_of r) r valid

-- what the clock shows with PF set
pub divider_of-flagged : (r : RtcParts) → IsRtc r → divider_of (flagged r) ≡ divider_of r
unfolding flagged
divider_of-flagged r valid = divider_of-with_flags (flags_byte true (af_of r) (uf_of r)) r (omega (arith, valid.places))

register_c-flagged : (r : RtcParts) → IsRtc r → register_c (flagged r) ≡ flags_byte true (af_of r) (uf_of r)
unfolding flagged
register_c-flagged r valid = (flagged-bytes (flags_byte true (af_of r) (uf_of r)) r.bytes (omega (arith, valid.places))).register_c

pub register_b-flagged : (r : RtcParts) → IsRtc r → register_b (flagged r) ≡ register_b r
unfolding flagged
register_b-flagged r valid = (flagged-bytes (flags_byte true (af_of r) (uf_of r)) r.bytes (omega (arith, valid.places))).register_b

pub pf_of-flagged : (r : RtcParts) → IsRtc r → pf_of (flagged r) ≡ true
pf_of-flagged r valid = ap (bit 6) (register_c-flagged r valid) ∙ bit-pf true (af_of r) (uf_of r)

pub af_of-flagged : (r : RtcParts) → IsRtc r → af_of (flagged r) ≡ af_of r
af_of-flagged r valid = ap (bit 5) (register_c-flagged r valid) ∙ bit-af true (af_of r) (uf_of r)

pub uf_of-flagged : (r : RtcParts) → IsRtc r → uf_of (flagged r) ≡ uf_of r
uf_of-flagged r valid = ap (bit 4) (register_c-flagged r valid) ∙ bit-uf true (af_of r) (uf_of r)

moved-flagged : (c : DividerParts) (t : TimeBytes) (f : ℕ) (r : RtcParts) → IsRtc r → moved c t f (flagged r) ≡ moved c t f r
unfolding moved flagged
moved-flagged c t f r valid =
    ap (λ (bs : List ℕ). let p : RtcParts = record { index = r.index; bytes = bs; d = c.d; cycle = c.cycle } in p)
    ((moved-bytes t f r.bytes (omega (arith, valid.places))).flags_before (flags_byte true (af_of r) (uf_of r)))

flagged-moved : (c : DividerParts) (t : TimeBytes) (pf af uf : Bool) (r : RtcParts) → IsRtc r
    → flagged (moved c t (flags_byte pf af uf) r) ≡ moved c t (flags_byte true af uf) r
unfolding moved flagged
flagged-moved c t pf af uf r valid =
    let m : Moved t (flags_byte pf af uf) r.bytes = moved-bytes t (flags_byte pf af uf) r.bytes (omega (arith, valid.places)) in
    rw (m.register_c, bit-af pf af uf, bit-uf pf af uf)
    (ap (λ (bs : List ℕ). let p : RtcParts = record { index = r.index; bytes = bs; d = c.d; cycle = c.cycle } in p) (m.flags_again (flags_byte true af uf)))

form_of-flagged : (r : RtcParts) → IsRtc r → form_of (flagged r) ≡ form_of r
form_of-flagged r valid = rw (register_b-flagged r valid) refl

alarm_of-flagged : (r : RtcParts) → IsRtc r → alarm_of (flagged r) ≡ alarm_of r
unfolding flagged
alarm_of-flagged r valid =
    let m : Flagged (flags_byte true (af_of r) (uf_of r)) r.bytes =
    flagged-bytes (flags_byte true (af_of r) (uf_of r)) r.bytes (omega (arith, valid.places)) in
    rw (m.alarm_sec, m.alarm_min, m.alarm_hour) refl

time_of-flagged : (r : RtcParts) → IsRtc r → time_of (flagged r) ≡ time_of r
unfolding flagged
time_of-flagged r valid = (flagged-bytes (flags_byte true (af_of r) (uf_of r)) r.bytes (omega (arith, valid.places))).time

-- the next pulse brings the same events with PF set
alarms_next-flagged : (r : RtcParts) → IsRtc r → alarms_next (flagged r) ≡ alarms_next r
unfolding alarms_next
alarms_next-flagged r valid =
    alarms_next-by (flagged r) (divider_of r) (form_of r) (alarm_of r) (time_of r) (divider_of-flagged r valid) (form_of-flagged r valid)
    (alarm_of-flagged r valid) (time_of-flagged r valid)

-- setting PF goes past a pulse ..
pub rtc_pulsed-flagged : (r : RtcParts) → IsRtc r → rtc_pulsed (flagged r) ≡ flagged (rtc_pulsed r)
unfolding rtc_pulsed
rtc_pulsed-flagged r valid =
    let time : time_next (flagged r) ≡ time_next r =
    time_next-by (flagged r) (divider_of r) (form_of r) (time_of r) (divider_of-flagged r valid) (form_of-flagged r valid) (time_of-flagged r valid) in
    let flags : flags_next (flagged r) ≡ flags_byte true (af_of r || alarms_next r) (uf_of r || updates_next (divider_of r)) =
    flags_next-by (flagged r) (divider_of r) true (af_of r) (uf_of r) (divider_of-flagged r valid) (register_c-flagged r valid)
    ∙ ap (λ (b : Bool). flags_byte true (af_of r || b) (uf_of r || updates_next (divider_of r))) (alarms_next-flagged r valid) in
    ap (λ (d : DividerParts). moved (pulsed d) (time_next (flagged r)) (flags_next (flagged r)) (flagged r)) (divider_of-flagged r valid)
    ∙ ap (λ (t : TimeBytes). moved (pulsed (divider_of r)) t (flags_next (flagged r)) (flagged r)) time
    ∙ ap (λ (f : ℕ). moved (pulsed (divider_of r)) (time_next r) f (flagged r)) flags
    ∙ moved-flagged (pulsed (divider_of r)) (time_next r) _ r valid
    ∙ sym (flagged-moved (pulsed (divider_of r)) (time_next r) (pf_of r || ticks_next (divider_of r)) (af_of r || alarms_next r)
    (uf_of r || updates_next (divider_of r)) r valid)

-- setting PF again changes nothing
pub flagged-still : (r : RtcParts) → IsRtc r → pf_of r ≡ true → flagged r ≡ r
unfolding flagged
flagged-still r valid up =
    let same : flags_byte true (af_of r) (uf_of r) ≡ register_c r = ap (λ (b : Bool). flags_byte b (af_of r) (uf_of r)) (sym up) ∙ sym valid.register_c in
    ap (λ (bs : List ℕ). let p : RtcParts = record { index = r.index; bytes = bs; d = r.d; cycle = r.cycle } in p)
    (ap (set r.bytes 12) same ∙ set-get_or r.bytes 12 0)

-- without an update, and with PF up or no tick, the divider alone moves
pub rtc_pulsed_times-counted : (n : ℕ) (r : RtcParts) → IsRtc r → (pf_of r ≡ true) ⊎ (ticks_in (divider_of r) n ≡ 0) → updates_in (divider_of r) n ≡ 0
    → pulsed_times n (divider_of r) ≡ record (divider_of r) { d = r.d + n } → record r { d = r.d + n } ≡ rtc_pulsed_times n r
rtc_pulsed_times-counted n r valid left no_update counted = elim (cases_lt 0 (ticks_in (divider_of r) n)) [
  | inl ticks ↦
      let up : pf_of r ≡ true = elim left [ inl up ↦ up | inr none ↦ absurd (omega (arith, ticks, none)) ] in
      ap (λ (p : RtcParts). let q : RtcParts = record { index = p.index; bytes = p.bytes; d = r.d + n; cycle = r.cycle } in q) (sym (flagged-still r valid up))
      ∙ rtc_pulsed_times-ticked n r valid (record (divider_of r) { d = r.d + n }) (sym counted) ticks no_update
  | inr none ↦ rtc_pulsed_times-no_event n r valid (record (divider_of r) { d = r.d + n }) (sym counted) (omega (arith, none)) no_update
]

-- a read elsewhere than at register C changes nothing
pub after_rtc_read-other : (r : RtcParts) → eqb r.index 12 ≡ false → after_rtc_read r ≡ r
unfolding after_rtc_read
after_rtc_read-other r other = rw other refl

-- one of register C clears its flags ..
pub register_c-after_rtc_read : (r : RtcParts) → IsRtc r → eqb r.index 12 ≡ true → register_c (after_rtc_read r) ≡ 0
unfolding after_rtc_read
register_c-after_rtc_read r valid here = rw here ((flagged-bytes 0 r.bytes (omega (arith, valid.places))).register_c)

pub pf_of-after_rtc_read : (r : RtcParts) → IsRtc r → eqb r.index 12 ≡ true → pf_of (after_rtc_read r) ≡ false
pf_of-after_rtc_read r valid here = ap (bit 6) (register_c-after_rtc_read r valid here)

-- .. and leaves all else
pub register_b-after_rtc_read : (r : RtcParts) → IsRtc r → register_b (after_rtc_read r) ≡ register_b r
unfolding after_rtc_read
register_b-after_rtc_read r valid = elim (cases_Bool (eqb r.index 12)) [
  | inl here ↦ rw here ((flagged-bytes 0 r.bytes (omega (arith, valid.places))).register_b)
  | inr other ↦ rw other refl
]

-- a byte below 80h shows no bit 7
pub uip-low : (on : Bool) (a shown : ℕ) → shown ≡ cond on 128 0 → a + shown < 128 → on ≡ false
uip-low true a shown e low = absurd (omega arith)
uip-low false a shown e low = refl
