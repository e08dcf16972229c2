-- A stretch of pulses at once: the divider, the time and the flags each go their own way.
use Rattle.std.proofs.Common.{◌≡◌, ℕ, zero, suc, ◌+◌, ◌-◌, ◌*◌, ◌<◌, ◌≤◌, Bool, true, false, ◌&&◌, ◌||◌, cond}
use Rattle.std.proofs.Common.{ltb, List, length, set, Option, Some, None, refl, sym, ap, subst, ◌∙◌, arith}
use Rattle.std.proofs.Math.Bool.{or-false, or-true}
use Rattle.std.proofs.lemmas.Bool.{lt-ltb, le-ltb, both_ways}
use Rattle.std.specs.Option.{is_some}
use Rattle.clk_units.specs.Events.{CountsUp, IsFirst}
use Rattle.clk_units.proofs.Events.{CountsUp-by_test, CountsUp-mono}
use Rattle.rtc_calendar.specs.declared.TimeBytes.{TimeBytes}
use Rattle.rtc_calendar.specs.declared.Form.{Form}
use Rattle.rtc_calendar.specs.declared.Alarm.{Alarm}
use Rattle.rtc_calendar.specs.Updates.{updated, updated_times}
use Rattle.rtc_calendar.specs.Alarms.{alarm_next, matches_in}
use Rattle.rtc_calendar.proofs.Times.{CountsUp-matches_in}
use Rattle.rtc_cycle.specs.declared.parts.DividerParts.{DividerParts}
use Rattle.rtc_cycle.specs.Divider.{pulsed, pulsed_times, ticks_next, updates_next, ticks_in, updates_in}
use Rattle.rtc_cycle.specs.Parts.{IsDivider}
use Rattle.rtc_cycle.proofs.Pulse.{IsDivider-pulsed_times, dv-pulsed_times, rs-pulsed_times, set-pulsed_times}
use Rattle.rtc_cycle.proofs.Times.{updates_in-apart, updates_in-none}
use Rattle.rtc_registers.specs.declared.parts.RtcParts.{RtcParts}
use Rattle.clk_units.specs.Bits.{bit}
use Rattle.rtc_registers.specs.Registers.{set_of, register_b, register_c, flags_byte, pf_of, af_of, uf_of}
use Rattle.rtc_registers.specs.Registers.{divider_of, form_of, time_of, alarm_of, with_time}
use Rattle.rtc_registers.specs.Access.{flagged}
use Rattle.rtc_registers.specs.Parts.{IsRtc}
use Rattle.rtc_registers.specs.Pulses.{moved, time_next, flags_next, alarms_next, rtc_pulsed}
use Rattle.rtc_registers.specs.Pulses.{rtc_pulsed_times, alarms_in}
use Rattle.rtc_registers.specs.private.Stretch.{second_apart}
use Rattle.rtc_registers.proofs.Bytes.{Moved, moved-bytes, flags_byte-read, same-bytes, same-time, bit-pf, bit-af}
use Rattle.rtc_registers.proofs.Bytes.{bit-uf}

same_clock : (c : DividerParts) (dv rs : ℕ) (on : Bool) → c.dv ≡ dv → c.rs ≡ rs → c.set ≡ on → record c { dv = dv; rs = rs; set = on } ≡ c
same_clock c dv rs on same_dv same_rs same_set =
    ap (λ (v : ℕ). let p : DividerParts = record { d = c.d; cycle = c.cycle; dv = v; rs = rs; set = on } in p) (sym same_dv)
    ∙ ap (λ (v : ℕ). let p : DividerParts = record { d = c.d; cycle = c.cycle; dv = c.dv; rs = v; set = on } in p) (sym same_rs)
    ∙ ap (λ (v : Bool). let p : DividerParts = record { d = c.d; cycle = c.cycle; dv = c.dv; rs = c.rs; set = v } in p) (sym same_set)

-- a divider with the clock's DV, RS and SET
pub record SameSetting (c : DividerParts) (r : RtcParts) : Type 0 where
  pub dv : c.dv ≡ (divider_of r).dv
  pub rs : c.rs ≡ (divider_of r).rs
  pub set : c.set ≡ (divider_of r).set

pub SameSetting-times : (n : ℕ) (r : RtcParts) → SameSetting (pulsed_times n (divider_of r)) r
SameSetting-times n r = record { dv = dv-pulsed_times n (divider_of r); rs = rs-pulsed_times n (divider_of r); set = set-pulsed_times n (divider_of r) }

-- what the clock shows, once its divider, time and flags are replaced
pub divider_of-moved : (c : DividerParts) (t : TimeBytes) (f : ℕ) (r : RtcParts) → 14 ≤ length r.bytes → SameSetting c r → divider_of (moved c t f r) ≡ c
unfolding moved
divider_of-moved c t f r h same =
    let m : Moved t f r.bytes = moved-bytes t f r.bytes h in
    rw (m.register_a, m.register_b) (same_clock c _ _ _ same.dv same.rs same.set)

pub form_of-moved : (c : DividerParts) (t : TimeBytes) (f : ℕ) (r : RtcParts) → 14 ≤ length r.bytes → form_of (moved c t f r) ≡ form_of r
unfolding moved
form_of-moved c t f r h = rw ((moved-bytes t f r.bytes h).register_b) refl

pub alarm_of-moved : (c : DividerParts) (t : TimeBytes) (f : ℕ) (r : RtcParts) → 14 ≤ length r.bytes → alarm_of (moved c t f r) ≡ alarm_of r
unfolding moved
alarm_of-moved c t f r h =
    let m : Moved t f r.bytes = moved-bytes t f r.bytes h in
    rw (m.alarm_sec, m.alarm_min, m.alarm_hour) refl

pub time_of-moved : (c : DividerParts) (t : TimeBytes) (f : ℕ) (r : RtcParts) → 14 ≤ length r.bytes → time_of (moved c t f r) ≡ t
unfolding moved
time_of-moved c t f r h = (moved-bytes t f r.bytes h).time

pub register_b-moved : (c : DividerParts) (t : TimeBytes) (f : ℕ) (r : RtcParts) → 14 ≤ length r.bytes → register_b (moved c t f r) ≡ register_b r
unfolding moved
register_b-moved c t f r h = (moved-bytes t f r.bytes h).register_b

pub register_c-moved : (c : DividerParts) (t : TimeBytes) (f : ℕ) (r : RtcParts) → 14 ≤ length r.bytes → register_c (moved c t f r) ≡ f
unfolding moved
register_c-moved c t f r h = (moved-bytes t f r.bytes h).register_c

-- the last replacement counts
pub moved-moved : (c d : DividerParts) (t u : TimeBytes) (f g : ℕ) (r : RtcParts) → 14 ≤ length r.bytes → moved d u g (moved c t f r) ≡ moved d u g r
unfolding moved
moved-moved c d t u f g r h =
    ap (λ (bs : List ℕ). let p : RtcParts = record r { bytes = bs; d = d.d; cycle = d.cycle } in p) ((moved-bytes t f r.bytes h).again u g)

-- the conditions hold
pub IsRtc-moved : (c : DividerParts) (t : TimeBytes) (pf af uf : Bool) (r : RtcParts) → IsRtc r → IsDivider c → SameSetting c r
    → IsRtc (moved c t (flags_byte pf af uf) r)
unfolding moved
IsRtc-moved c t pf af uf r valid clock same =
    let enough : 14 ≤ length r.bytes = omega (arith, valid.places) in
    let m : Moved t (flags_byte pf af uf) r.bytes = moved-bytes t (flags_byte pf af uf) r.bytes enough in
    record {
      places = m.places ∙ valid.places;
      index = valid.index;
      register_a = rw m.register_a valid.register_a;
      register_c = rw m.register_c (flags_byte-read pf af uf);
      register_d = m.register_d ∙ valid.register_d;
      divider = subst IsDivider (sym (divider_of-moved c t (flags_byte pf af uf) r enough same)) clock;
    }

-- the byte of register C after n pulses
abbrev pub flags_in : RtcParts → ℕ → ℕ
flags_in r n = flags_byte (pf_of r || ltb 0 (ticks_in (divider_of r) n)) (af_of r || ltb 0 (alarms_in r n)) (uf_of r || ltb 0 (updates_in (divider_of r) n))

-- n pulses, part by part
abbrev pub stretched : ℕ → RtcParts → RtcParts
stretched n r = moved (pulsed_times n (divider_of r)) (updated_times (form_of r) (updates_in (divider_of r) n) (time_of r)) (flags_in r n) r

-- no pulses leave the clock
stretched-none : (r : RtcParts) → IsRtc r → r ≡ stretched 0 r
unfolding moved
stretched-none r valid =
    let enough : 14 ≤ length r.bytes = omega (arith, valid.places) in
    let flags : flags_in r 0 ≡ register_c r = rw (or-false (pf_of r), or-false (af_of r), or-false (uf_of r)) (sym valid.register_c) in
    ap (λ (bs : List ℕ). let p : RtcParts = record r { bytes = bs } in p) (sym (ap (set (with_time (time_of r) r.bytes) 12) flags
    ∙ same-bytes r.bytes enough))

-- a flag is up where it was or where an event came
flag_more : (up event : Bool) (count : ℕ) → ((up || ltb 0 count) || event) ≡ (up || ltb 0 (cond event (suc count) count))
flag_more true event count = refl
flag_more false true count = or-true (ltb 0 count) ∙ sym (lt-ltb 0 (suc count) (omega arith))
flag_more false false count = or-false (ltb 0 count)

-- an update more
time_more : (form : Form) (t : TimeBytes) (event : Bool) (count : ℕ)
    → cond event (updated form (updated_times form count t)) (updated_times form count t) ≡ updated_times form (cond event (suc count) count) t
time_more form t true count = refl
time_more form t false count = refl

-- the next pulse, by what the clock shows
pub time_next-by : (x : RtcParts) (c : DividerParts) (form : Form) (t : TimeBytes) → divider_of x ≡ c → form_of x ≡ form → time_of x ≡ t
    → time_next x ≡ cond (updates_next c) (updated form t) t
time_next-by x c form t same_clock same_form same_time =
    ap (λ (d : DividerParts). cond (updates_next d) (updated (form_of x) (time_of x)) (time_of x)) same_clock
    ∙ ap (λ (f : Form). cond (updates_next c) (updated f (time_of x)) (time_of x)) same_form
    ∙ ap (λ (u : TimeBytes). cond (updates_next c) (updated form u) u) same_time

pub alarms_next-by : (x : RtcParts) (c : DividerParts) (form : Form) (alarm : Alarm) (t : TimeBytes) → divider_of x ≡ c → form_of x ≡ form
    → alarm_of x ≡ alarm → time_of x ≡ t
    → alarms_next x ≡ (updates_next c && alarm_next form alarm t)
unfolding alarms_next
alarms_next-by x c form alarm t same_clock same_form same_alarm same_time =
    ap (λ (d : DividerParts). updates_next d && alarm_next (form_of x) (alarm_of x) (time_of x)) same_clock
    ∙ ap (λ (f : Form). updates_next c && alarm_next f (alarm_of x) (time_of x)) same_form
    ∙ ap (λ (a : Alarm). updates_next c && alarm_next form a (time_of x)) same_alarm
    ∙ ap (λ (u : TimeBytes). updates_next c && alarm_next form alarm u) same_time

pub flags_next-by : (x : RtcParts) (c : DividerParts) (pf af uf : Bool) → divider_of x ≡ c → register_c x ≡ flags_byte pf af uf
    → flags_next x ≡ flags_byte (pf || ticks_next c) (af || alarms_next x) (uf || updates_next c)
flags_next-by x c pf af uf same_clock same_flags =
    ap (λ (d : DividerParts). flags_byte (pf_of x || ticks_next d) (af_of x || alarms_next x) (uf_of x || updates_next d)) same_clock
    ∙ ap (λ (b : Bool). flags_byte (b || ticks_next c) (af_of x || alarms_next x) (uf_of x || updates_next c)) (ap (bit 6) same_flags ∙ bit-pf pf af uf)
    ∙ ap (λ (b : Bool). flags_byte (pf || ticks_next c) (b || alarms_next x) (uf_of x || updates_next c)) (ap (bit 5) same_flags ∙ bit-af pf af uf)
    ∙ ap (λ (b : Bool). flags_byte (pf || ticks_next c) (af || alarms_next x) (b || updates_next c)) (ap (bit 4) same_flags ∙ bit-uf pf af uf)

-- one pulse more
stretched-suc : (n : ℕ) (r : RtcParts) → IsRtc r → rtc_pulsed_times n r ≡ stretched n r → rtc_pulsed (stretched n r) ≡ stretched (suc n) r
unfolding rtc_pulsed
stretched-suc n r valid so_far =
    let enough : 14 ≤ length r.bytes = omega (arith, valid.places) in
    let c : DividerParts = pulsed_times n (divider_of r) in
    let u : ℕ = updates_in (divider_of r) n in
    let t : TimeBytes = updated_times (form_of r) u (time_of r) in
    let clock : divider_of (stretched n r) ≡ c = divider_of-moved c t (flags_in r n) r enough (SameSetting-times n r) in
    let form : form_of (stretched n r) ≡ form_of r = form_of-moved c t (flags_in r n) r enough in
    let time : time_of (stretched n r) ≡ t = time_of-moved c t (flags_in r n) r enough in
    let flags : register_c (stretched n r) ≡ flags_in r n = register_c-moved c t (flags_in r n) r enough in
    let alarms : alarms_next (stretched n r) ≡ alarms_next (rtc_pulsed_times n r) = ap alarms_next (sym so_far) in
    let next_time : time_next (stretched n r) ≡ updated_times (form_of r) (updates_in (divider_of r) (suc n)) (time_of r) =
    time_next-by (stretched n r) c (form_of r) t clock form time ∙ time_more (form_of r) (time_of r) (updates_next c) u in
    let next_flags : flags_next (stretched n r) ≡ flags_in r (suc n) =
    flags_next-by (stretched n r) c (pf_of r || ltb 0 (ticks_in (divider_of r) n)) (af_of r || ltb 0 (alarms_in r n)) (uf_of r || ltb 0 u) clock flags
    ∙ ap (λ (b : Bool). flags_byte b ((af_of r || ltb 0 (alarms_in r n)) || alarms_next (stretched n r)) ((uf_of r || ltb 0 u) || updates_next c))
    (flag_more (pf_of r) (ticks_next c) (ticks_in (divider_of r) n))
    ∙ ap (λ (b : Bool). flags_byte (pf_of r || ltb 0 (ticks_in (divider_of r) (suc n))) b ((uf_of r || ltb 0 u) || updates_next c))
    (ap (λ (b : Bool). (af_of r || ltb 0 (alarms_in r n)) || b) alarms ∙ flag_more (af_of r) (alarms_next (rtc_pulsed_times n r)) (alarms_in r n))
    ∙ ap (λ (b : Bool). flags_byte (pf_of r || ltb 0 (ticks_in (divider_of r) (suc n))) (af_of r || ltb 0 (alarms_in r (suc n))) b)
    (flag_more (uf_of r) (updates_next c) u)
    in
    ap (λ (d : DividerParts). moved (pulsed d) (time_next (stretched n r)) (flags_next (stretched n r)) (stretched n r)) clock
    ∙ ap (λ (v : TimeBytes). moved (pulsed c) v (flags_next (stretched n r)) (stretched n r)) next_time
    ∙ ap (λ (f : ℕ). moved (pulsed c) (updated_times (form_of r) (updates_in (divider_of r) (suc n)) (time_of r)) f (stretched n r)) next_flags
    ∙ moved-moved c (pulsed c) t (updated_times (form_of r) (updates_in (divider_of r) (suc n)) (time_of r)) (flags_in r n) (flags_in r (suc n)) r enough

-- n pulses are the parts' n pulses
pub rtc_pulsed_times-is : (n : ℕ) (r : RtcParts) → IsRtc r → rtc_pulsed_times n r ≡ stretched n r
rtc_pulsed_times-is zero r valid = stretched-none r valid
rtc_pulsed_times-is (suc n) r valid = ap rtc_pulsed (rtc_pulsed_times-is n r valid) ∙ stretched-suc n r valid (rtc_pulsed_times-is n r valid)

-- the clock's parts after n pulses
pub divider_of-rtc_pulsed_times : (n : ℕ) (r : RtcParts) → IsRtc r → divider_of (rtc_pulsed_times n r) ≡ pulsed_times n (divider_of r)
divider_of-rtc_pulsed_times n r valid =
    ap divider_of (rtc_pulsed_times-is n r valid)
    ∙ divider_of-moved (pulsed_times n (divider_of r)) _ _ r (omega (arith, valid.places)) (SameSetting-times n r)

pub form_of-rtc_pulsed_times : (n : ℕ) (r : RtcParts) → IsRtc r → form_of (rtc_pulsed_times n r) ≡ form_of r
form_of-rtc_pulsed_times n r valid =
    ap form_of (rtc_pulsed_times-is n r valid) ∙ form_of-moved (pulsed_times n (divider_of r)) _ _ r (omega (arith, valid.places))

pub alarm_of-rtc_pulsed_times : (n : ℕ) (r : RtcParts) → IsRtc r → alarm_of (rtc_pulsed_times n r) ≡ alarm_of r
alarm_of-rtc_pulsed_times n r valid =
    ap alarm_of (rtc_pulsed_times-is n r valid) ∙ alarm_of-moved (pulsed_times n (divider_of r)) _ _ r (omega (arith, valid.places))

pub time_of-rtc_pulsed_times : (n : ℕ) (r : RtcParts) → IsRtc r
    → time_of (rtc_pulsed_times n r) ≡ updated_times (form_of r) (updates_in (divider_of r) n) (time_of r)
time_of-rtc_pulsed_times n r valid =
    ap time_of (rtc_pulsed_times-is n r valid) ∙ time_of-moved (pulsed_times n (divider_of r)) _ _ r (omega (arith, valid.places))

-- register B, so which interrupts are let through, stays
pub register_b-rtc_pulsed_times : (n : ℕ) (r : RtcParts) → IsRtc r → register_b (rtc_pulsed_times n r) ≡ register_b r
register_b-rtc_pulsed_times n r valid =
    ap register_b (rtc_pulsed_times-is n r valid) ∙ register_b-moved (pulsed_times n (divider_of r)) _ _ r (omega (arith, valid.places))

register_c-rtc_pulsed_times : (n : ℕ) (r : RtcParts) → IsRtc r → register_c (rtc_pulsed_times n r) ≡ flags_in r n
register_c-rtc_pulsed_times n r valid =
    ap register_c (rtc_pulsed_times-is n r valid) ∙ register_c-moved (pulsed_times n (divider_of r)) _ _ r (omega (arith, valid.places))

-- a flag after n pulses is the flag before, or a number of events above 0
pub pf_of-rtc_pulsed_times : (n : ℕ) (r : RtcParts) → IsRtc r → pf_of (rtc_pulsed_times n r) ≡ (pf_of r || ltb 0 (ticks_in (divider_of r) n))
pf_of-rtc_pulsed_times n r valid = ap (bit 6) (register_c-rtc_pulsed_times n r valid) ∙ bit-pf _ _ _

pub af_of-rtc_pulsed_times : (n : ℕ) (r : RtcParts) → IsRtc r → af_of (rtc_pulsed_times n r) ≡ (af_of r || ltb 0 (alarms_in r n))
af_of-rtc_pulsed_times n r valid = ap (bit 5) (register_c-rtc_pulsed_times n r valid) ∙ bit-af (pf_of r || ltb 0 (ticks_in (divider_of r) n)) _ _

pub uf_of-rtc_pulsed_times : (n : ℕ) (r : RtcParts) → IsRtc r → uf_of (rtc_pulsed_times n r) ≡ (uf_of r || ltb 0 (updates_in (divider_of r) n))
uf_of-rtc_pulsed_times n r valid =
    ap (bit 4) (register_c-rtc_pulsed_times n r valid) ∙ bit-uf (pf_of r || ltb 0 (ticks_in (divider_of r) n)) (af_of r || ltb 0 (alarms_in r n)) _

-- n pulses keep the conditions
pub IsRtc-rtc_pulsed_times : (n : ℕ) (r : RtcParts) → IsRtc r → IsRtc (rtc_pulsed_times n r)
IsRtc-rtc_pulsed_times n r valid =
    subst IsRtc (sym (rtc_pulsed_times-is n r valid))
    (IsRtc-moved (pulsed_times n (divider_of r)) _ _ _ _ r valid (IsDivider-pulsed_times n (divider_of r) valid.divider) (SameSetting-times n r))

-- one pulse more
pub alarms_in-suc : (r : RtcParts) (n : ℕ) → alarms_in r (suc n) ≡ cond (alarms_next (rtc_pulsed_times n r)) (suc (alarms_in r n)) (alarms_in r n)
alarms_in-suc r n = refl

-- alarms come at most one a pulse
pub CountsUp-alarms_in : (r : RtcParts) → CountsUp (alarms_in r)
CountsUp-alarms_in r = CountsUp-by_test (alarms_in r) (λ n. alarms_next (rtc_pulsed_times n r)) refl (alarms_in-suc r)

-- they are the updates that the alarm matches
pub alarms_in-is : (n : ℕ) (r : RtcParts) → IsRtc r → alarms_in r n ≡ matches_in (form_of r) (alarm_of r) (time_of r) (updates_in (divider_of r) n)
alarms_in-is zero r valid = refl
alarms_in-is (suc n) r valid =
    let next : alarms_next (rtc_pulsed_times n r) ≡
    (updates_next (pulsed_times n (divider_of r)) && alarm_next (form_of r) (alarm_of r)
    (updated_times (form_of r) (updates_in (divider_of r) n) (time_of r))) =
    alarms_next-by (rtc_pulsed_times n r) (pulsed_times n (divider_of r)) (form_of r) (alarm_of r)
    (updated_times (form_of r) (updates_in (divider_of r) n) (time_of r))
    (divider_of-rtc_pulsed_times n r valid) (form_of-rtc_pulsed_times n r valid) (alarm_of-rtc_pulsed_times n r valid) (time_of-rtc_pulsed_times n r valid) in
    ap (λ (b : Bool). cond b (suc (alarms_in r n)) (alarms_in r n)) next
    ∙ matched (form_of r) (alarm_of r) (time_of r) (updates_next (pulsed_times n (divider_of r))) (updates_in (divider_of r) n) (alarms_in r n)
    (alarms_in-is n r valid)
  where
    matched : (form : Form) (alarm : Alarm) (t : TimeBytes) (event : Bool) (u a : ℕ) → a ≡ matches_in form alarm t u
        → cond (event && alarm_next form alarm (updated_times form u t)) (suc a) a ≡ matches_in form alarm t (cond event (suc u) u)
    matched form alarm t true u a e = ap (λ (m : ℕ). cond (alarm_next form alarm (updated_times form u t)) (suc m) m) e
    matched form alarm t false u a e = e

-- the first update that matches is the first alarm
pub IsFirst-alarms_in : (n : ℕ) (r : RtcParts) → IsRtc r → (first matched : Option ℕ) → IsFirst (updates_in (divider_of r)) n first
    → IsFirst (matches_in (form_of r) (alarm_of r) (time_of r)) (updates_in (divider_of r) n) matched → IsFirst (alarms_in r) n (second_apart first matched)
IsFirst-alarms_in n r valid None matched none match = alarms_in-is n r valid ∙ ap (matches_in (form_of r) (alarm_of r) (time_of r)) none
IsFirst-alarms_in n r valid (Some f) None first match = alarms_in-is n r valid ∙ match
IsFirst-alarms_in n r valid (Some f) (Some k) first match =
    let count : ℕ → ℕ = matches_in (form_of r) (alarm_of r) (time_of r) in
    let p : ℕ = f + (k - 1) * 32768 in
    let apart : (p ≤ n) × (updates_in (divider_of r) p ≡ k) × (updates_in (divider_of r) (p - 1) ≡ k - 1) =
    updates_in-apart (divider_of r) valid.divider n f k first match.0 match.1 in
    let before : alarms_in r (p - 1) ≡ count (k - 1) = alarms_in-is (p - 1) r valid ∙ ap count apart.2 in
    let there : alarms_in r p ≡ count k = alarms_in-is p r valid ∙ ap count apart.1 in
    (omega (arith, first.0), apart.0, before ∙ match.2, omega (arith, there, match.3))

-- a first event is there exactly where the count is above 0
pub is_some-first : (count : ℕ → ℕ) → CountsUp count → (n : ℕ) (first : Option ℕ) → IsFirst count n first → is_some first ≡ ltb 0 (count n)
is_some-first count up n None first = sym (le-ltb 0 (count n) (omega (arith, first)))
is_some-first count up n (Some k) first = sym (lt-ltb 0 (count n) (omega (arith, CountsUp-mono count up k n first.1, first.3)))

-- what a body puts together is n pulses
pub moved-is : (n : ℕ) (r : RtcParts) → IsRtc r → (c : DividerParts) (t : TimeBytes) (f : ℕ) → c ≡ pulsed_times n (divider_of r)
    → t ≡ updated_times (form_of r) (updates_in (divider_of r) n) (time_of r) → f ≡ flags_in r n → moved c t f r ≡ rtc_pulsed_times n r
moved-is n r valid c t f clock time flags =
    ap (λ (d : DividerParts). moved d t f r) clock
    ∙ ap (λ (u : TimeBytes). moved (pulsed_times n (divider_of r)) u f r) time
    ∙ ap (λ (g : ℕ). moved (pulsed_times n (divider_of r)) (updated_times (form_of r) (updates_in (divider_of r) n) (time_of r)) g r) flags
    ∙ sym (rtc_pulsed_times-is n r valid)

pub flags_in-is : (n : ℕ) (r : RtcParts) (t u : ℕ) (a : Bool) → t ≡ ticks_in (divider_of r) n → a ≡ ltb 0 (alarms_in r n) → u ≡ updates_in (divider_of r) n
    → flags_byte (pf_of r || ltb 0 t) (af_of r || a) (uf_of r || ltb 0 u) ≡ flags_in r n
flags_in-is n r t u a ticks alarms updates =
    ap (λ (x : ℕ). flags_byte (pf_of r || ltb 0 x) (af_of r || a) (uf_of r || ltb 0 u)) ticks
    ∙ ap (λ (x : Bool). flags_byte (pf_of r || ltb 0 (ticks_in (divider_of r) n)) (af_of r || x) (uf_of r || ltb 0 u)) alarms
    ∙ ap (λ (x : ℕ). flags_byte (pf_of r || ltb 0 (ticks_in (divider_of r) n)) (af_of r || ltb 0 (alarms_in r n)) (uf_of r || ltb 0 x)) updates

-- whether the alarm matches an update of n pulses
pub is_some-match : (n : ℕ) (r : RtcParts) → IsRtc r → (matched : Option ℕ)
    → IsFirst (matches_in (form_of r) (alarm_of r) (time_of r)) (updates_in (divider_of r) n) matched → is_some matched ≡ ltb 0 (alarms_in r n)
is_some-match n r valid matched match =
    is_some-first (matches_in (form_of r) (alarm_of r) (time_of r)) (CountsUp-matches_in (form_of r) (alarm_of r) (time_of r))
    (updates_in (divider_of r) n) matched match
    ∙ ap (ltb 0) (sym (alarms_in-is n r valid))

-- the divider moves on where nothing else is replaced
pub moved-quiet : (c : DividerParts) (r : RtcParts) → 14 ≤ length r.bytes → record r { d = c.d; cycle = c.cycle } ≡ moved c (time_of r) (register_c r) r
unfolding moved
moved-quiet c r h = ap (λ (bs : List ℕ). let p : RtcParts =
    record { index = r.index; bytes = bs; d = c.d; cycle = c.cycle } in p) (sym (same-bytes r.bytes h))

-- without an update no alarm comes
pub alarms_in-no_update : (n : ℕ) (r : RtcParts) → IsRtc r → updates_in (divider_of r) n ≡ 0 → alarms_in r n ≡ 0
alarms_in-no_update n r valid none = alarms_in-is n r valid ∙ ap (matches_in (form_of r) (alarm_of r) (time_of r)) none

-- without an event register C stays
flags_in-no_event : (n : ℕ) (r : RtcParts) → IsRtc r → ticks_in (divider_of r) n ≡ 0 → updates_in (divider_of r) n ≡ 0 → flags_in r n ≡ register_c r
flags_in-no_event n r valid no_tick no_update =
    let no_alarm : alarms_in r n ≡ 0 = alarms_in-no_update n r valid no_update in
    rw (no_tick, no_alarm, no_update, or-false (pf_of r), or-false (af_of r), or-false (uf_of r)) (sym valid.register_c)

-- without an event the divider alone moves
pub rtc_pulsed_times-no_event : (n : ℕ) (r : RtcParts) → IsRtc r → (c : DividerParts) → c ≡ pulsed_times n (divider_of r)
    → ticks_in (divider_of r) n ≡ 0 → updates_in (divider_of r) n ≡ 0
    → record r { d = c.d; cycle = c.cycle } ≡ rtc_pulsed_times n r
rtc_pulsed_times-no_event n r valid c divider no_tick no_update =
    moved-quiet c r (omega (arith, valid.places))
    ∙ moved-is n r valid c (time_of r) (register_c r) divider (ap (λ (u : ℕ). updated_times (form_of r) u (time_of r)) (sym no_update))
    (sym (flags_in-no_event n r valid no_tick no_update))

-- without an update, but with a tick, it and PF do
ticked-flags : (n : ℕ) (r : RtcParts) → IsRtc r → 0 < ticks_in (divider_of r) n → updates_in (divider_of r) n ≡ 0
    → flags_byte true (af_of r) (uf_of r) ≡ flags_in r n
ticked-flags n r valid ticks no_update =
    let no_alarm : alarms_in r n ≡ 0 = alarms_in-no_update n r valid no_update in
    rw (no_alarm, no_update, lt-ltb 0 (ticks_in (divider_of r) n) ticks, or-true (pf_of r), or-false (af_of r), or-false (uf_of r)) refl

pub moved-flag : (c : DividerParts) (r : RtcParts) → 14 ≤ length r.bytes
    → record (flagged r) { d = c.d; cycle = c.cycle } ≡ moved c (time_of r) (flags_byte true (af_of r) (uf_of r)) r
unfolding moved flagged
moved-flag c r h = ap (λ (bs : List ℕ). let p : RtcParts =
    record { index = r.index; bytes = bs; d = c.d; cycle = c.cycle } in p) (sym (same-time (flags_byte true (af_of r) (uf_of r)) r.bytes h))

pub rtc_pulsed_times-ticked : (n : ℕ) (r : RtcParts) → IsRtc r → (c : DividerParts) → c ≡ pulsed_times n (divider_of r)
    → 0 < ticks_in (divider_of r) n → updates_in (divider_of r) n ≡ 0
    → record (flagged r) { d = c.d; cycle = c.cycle } ≡ rtc_pulsed_times n r
rtc_pulsed_times-ticked n r valid c divider ticks no_update =
    moved-flag c r (omega (arith, valid.places))
    ∙ moved-is n r valid c (time_of r) (flags_byte true (af_of r) (uf_of r)) divider
    (ap (λ (u : ℕ). updated_times (form_of r) u (time_of r)) (sym no_update)) (ticked-flags n r valid ticks no_update)

-- without an update the time stays ..
pub time_of-no_update : (n : ℕ) (r : RtcParts) → IsRtc r → updates_in (divider_of r) n ≡ 0 → time_of (rtc_pulsed_times n r) ≡ time_of r
time_of-no_update n r valid none = time_of-rtc_pulsed_times n r valid ∙ ap (λ (u : ℕ). updated_times (form_of r) u (time_of r)) none

-- .. as it does while SET is 1
pub time_of-while_set : (n : ℕ) (r : RtcParts) → IsRtc r → set_of r ≡ true → time_of (rtc_pulsed_times n r) ≡ time_of r
time_of-while_set n r valid on = time_of-no_update n r valid (updates_in-none n (divider_of r) valid.divider (λ _ off. both_ways (set_of r) off on))
