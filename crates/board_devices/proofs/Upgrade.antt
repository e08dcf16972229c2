-- The devices with eight timers, and with message registers.
use Rattle.std.proofs.Common.{◌≡◌, ℕ, zero, suc, ◌+◌, ◌<◌, ◌≤◌, Bool, true, false, cond, ltb, eqb, ◌&&◌, ◌||◌, not, List, length, get_or}
use Rattle.std.proofs.Common.{map, refl, ap, sym, subst, ◌∙◌, inl, inr, arith}
use Rattle.std.proofs.Math.Bool.{and-false}
use Rattle.std.proofs.lemmas.Bool.{lt-ltb, le-ltb, cases_lt}
use Rattle.rtc_registers.specs.Registers.{irqf_of}
use Rattle.hpet_comparator.specs.declared.parts.TimerParts.{TimerParts}
use Rattle.clk_units.specs.Bits.{bit}
use Rattle.hpet_comparator.specs.Parts.{IsTimer, is_enabled, is_level, route_of, timer_at_power_on}
use Rattle.hpet_registers.specs.declared.parts.HpetParts.{HpetParts}
use Rattle.hpet_registers.specs.Parts.{IsHpet, IsPlace, is_legacy, timer_at, message_bit_at, no_timer}
use Rattle.hpet_registers.specs.Outputs.{level_output, is_message}
use Rattle.tick_policy.specs.declared.parts.TickParts.{TickParts}
use Rattle.tick_policy.specs.Line.{line_at_power_on}
use Rattle.board_devices.specs.declared.parts.DeviceParts.{DeviceParts}
use Rattle.board_devices.specs.Places.{each, line_at, no_line}
use Rattle.board_devices.specs.Lines.{output_of, drives, routed, levels}
use Rattle.board_devices.specs.Parts.{IsDevices, IsTimerLine, eight_timers, line_upgraded, devices_upgraded}
use Rattle.board_devices.specs.private.Stretch.{eight, ten}
use Rattle.board_devices.proofs.Places.{each-at, length-each, same_places, same_six, at-eight}
use Rattle.board_devices.proofs.Masks.{at-ten}

-- a list that is made place by place
pub each-ten : (f : ℕ → TickParts → TickParts) (ls : List TickParts) → length ls ≡ 10 → map (λ k. f k (get_or ls k no_line)) ten ≡ each f 0 ls
each-ten f ls long = same_places (map (λ k. f k (get_or ls k no_line)) ten) (each f 0 ls) no_line (sym (length-each f 0 ls ∙ long)) (λ k less.
    at-ten (λ i. f i (get_or ls i no_line)) no_line k less
    ∙ sym (each-at f 0 k ls no_line (omega (arith, long)) ∙ ap (λ (i : ℕ). f i (get_or ls k no_line)) (omega arith)))

-- a timer of the eight
timer_at-eight : (k : ℕ) (h : HpetParts) → k < 8 → get_or (eight_timers h) k no_timer ≡ cond (ltb k h.timers) (timer_at k h) timer_at_power_on
timer_at-eight k h small = at-eight (λ i. cond (ltb i h.timers) (timer_at i h) timer_at_power_on) no_timer k small

old_timer : (k : ℕ) (h : HpetParts) → k < 8 → k < h.timers → get_or (eight_timers h) k no_timer ≡ timer_at k h
old_timer k h small there = timer_at-eight k h small ∙ ap (λ (b : Bool). cond b (timer_at k h) timer_at_power_on) (lt-ltb k h.timers there)

new_timer : (k : ℕ) (h : HpetParts) → k < 8 → h.timers ≤ k → get_or (eight_timers h) k no_timer ≡ timer_at_power_on
new_timer k h small gone = timer_at-eight k h small ∙ ap (λ (b : Bool). cond b (timer_at k h) timer_at_power_on) (le-ltb k h.timers gone)

no_timer_at : (k : ℕ) (h : HpetParts) → IsHpet h → k < 8 → h.timers ≤ k → timer_at k h ≡ no_timer
no_timer_at k h valid small gone = subst (λ (b : Bool). IsPlace b (timer_at k h)) (le-ltb k h.timers gone) (valid.places k small)

some_timers : (h : HpetParts) → IsHpet h → 3 ≤ h.timers
some_timers h valid = elim valid.timers [ inl three ↦ omega (arith, three) | inr eight ↦ omega (arith, eight) ]

pub IsTimer-at_power_on : IsTimer timer_at_power_on
IsTimer-at_power_on = record { bits = refl; low_route = omega arith; high_route = omega arith; comparator = omega arith; period = omega arith }

none-of : (a b : Bool) → (a || b) ≡ false → a ≡ false
none-of true b e = e
none-of false b e = refl

pub IsHpet-eight : (m : Bool) (h : HpetParts) → IsHpet h → IsHpet (record h { timers = 8; timer = eight_timers h; messages = h.messages || m })
IsHpet-eight m h valid = record {
  config = valid.config;
  timers = inr refl;
  status = λ e. absurd (omega (arith, e));
  places = λ k small. subst (λ (b : Bool). IsPlace b (get_or (eight_timers h) k no_timer)) (sym (lt-ltb k 8 small)) (elim (cases_lt k h.timers) [
    | inl there ↦ subst IsTimer (sym (old_timer k h small there))
        (subst (λ (b : Bool). IsPlace b (timer_at k h)) (lt-ltb k h.timers there) (valid.places k small))
    | inr gone ↦ subst IsTimer (sym (new_timer k h small gone)) IsTimer-at_power_on
  ]);
  messages = λ e. refl;
  plain = λ none. valid.plain (none-of h.messages m none);
}

-- the line at place k
line_at-upgraded : (m : Bool) (k : ℕ) (d : DeviceParts) → length d.ticks ≡ 10 → k < 10 → line_at k (devices_upgraded m d) ≡ line_upgraded d k (line_at k d)
unfolding devices_upgraded
line_at-upgraded m k d long less = each-at (line_upgraded d) 0 k d.ticks no_line (omega (arith, long))
    ∙ ap (λ (i : ℕ). line_upgraded d i (line_at k d)) (omega arith)

old_line : (m : Bool) (k : ℕ) (d : DeviceParts) → length d.ticks ≡ 10 → k < 10 → k < d.hpet.timers + 2 → line_at k (devices_upgraded m d) ≡ line_at k d
old_line m k d long less there = line_at-upgraded m k d long less
    ∙ ap (λ (b : Bool). cond b (line_at k d) (line_at_power_on (line_at 2 d).policy)) (lt-ltb k (d.hpet.timers + 2) there)

new_line : (m : Bool) (k : ℕ) (d : DeviceParts) → length d.ticks ≡ 10 → k < 10 → d.hpet.timers + 2 ≤ k → line_at k (devices_upgraded m d)
    ≡ line_at_power_on (line_at 2 d).policy
new_line m k d long less gone = line_at-upgraded m k d long less
    ∙ ap (λ (b : Bool). cond b (line_at k d) (line_at_power_on (line_at 2 d).policy)) (le-ltb k (d.hpet.timers + 2) gone)

pub IsDevices-upgraded : (m : Bool) (d : DeviceParts) → IsHpet d.hpet → IsDevices d → IsDevices (devices_upgraded m d)
unfolding devices_upgraded
IsDevices-upgraded m d hpet valid = joined
  where
    three : 3 ≤ d.hpet.timers
    three = some_timers d.hpet hpet

    policies : (k : ℕ) → k < 8 → (line_at (suc (suc k)) (devices_upgraded m d)).policy ≡ (line_at 2 d).policy
    policies k small = elim (cases_lt k d.hpet.timers) [
      | inl there ↦ ap (λ (l : TickParts). l.policy) (old_line m (suc (suc k)) d valid.places (omega arith) (omega arith))
          ∙ subst (λ (b : Bool). IsTimerLine b (line_at 2 d).policy (line_at (suc (suc k)) d)) (lt-ltb k d.hpet.timers there) (valid.timer_lines k small)
      | inr gone ↦ ap (λ (l : TickParts). l.policy) (new_line m (suc (suc k)) d valid.places (omega arith) (omega arith))
    ]

    clock : (line_at 1 (devices_upgraded m d)).up ≡ (line_at 1 d).up
    clock = ap (λ (l : TickParts). l.up) (old_line m 1 d valid.places (omega arith) (omega arith))

    second : (line_at 2 d).policy ≡ (line_at 2 (devices_upgraded m d)).policy
    second = ap (λ (l : TickParts). l.policy) (sym (old_line m 2 d valid.places (omega arith) (omega arith)))

    joined : IsDevices (devices_upgraded m d)
    joined = record {
      places = length-each (line_upgraded d) 0 d.ticks ∙ valid.places;
      slew_low = valid.slew_low;
      slew_high = valid.slew_high;
      flag = clock ∙ valid.flag;
      timer_lines = λ k small. subst (λ (b : Bool). IsTimerLine b (line_at 2 (devices_upgraded m d)).policy (line_at (suc (suc k)) (devices_upgraded m d)))
          (sym (lt-ltb k 8 small)) (policies k small ∙ second);
    }

-- the outputs that are driven to a line other than line 0
pub output_of-upgraded : (m : Bool) (k : ℕ) (d : DeviceParts) → length d.ticks ≡ 10 → k < 8 → k < d.hpet.timers
    → output_of k (devices_upgraded m d) ≡ output_of k d
unfolding devices_upgraded
output_of-upgraded m k d long small there =
    ap (λ (t : TimerParts). cond (is_level t) (bit k d.hpet.status && is_enabled t)
    (not (message_bit_at k d.hpet && ((is_enabled t && not (is_level t)) && not (is_legacy d.hpet && ltb k 2)))
    && (get_or (each (line_upgraded d) 0 d.ticks) (suc (suc k)) no_line).up)) (old_timer k d.hpet small there)
    ∙ ap (λ (l : TickParts). cond (is_level (timer_at k d.hpet)) (level_output k d.hpet) (not (is_message k d.hpet) && l.up))
    (old_line m (suc (suc k)) d long (omega arith) (omega arith))

-- a timer that wasn't there is down
output_of-new : (m : Bool) (k : ℕ) (d : DeviceParts) → length d.ticks ≡ 10 → k < 8 → d.hpet.timers ≤ k → output_of k (devices_upgraded m d) ≡ false
unfolding devices_upgraded
output_of-new m k d long small gone =
    ap (λ (t : TimerParts). cond (is_level t) (bit k d.hpet.status && is_enabled t)
    (not (message_bit_at k d.hpet && ((is_enabled t && not (is_level t)) && not (is_legacy d.hpet && ltb k 2)))
    && (get_or (each (line_upgraded d) 0 d.ticks) (suc (suc k)) no_line).up)) (new_timer k d.hpet small gone)
    ∙ ap (λ (l : TickParts). not (message_bit_at k d.hpet && false) && l.up) (new_line m (suc (suc k)) d long (omega arith) (omega arith))
    ∙ and-false (not (message_bit_at k d.hpet && false))

drives-upgraded : (m : Bool) (line k : ℕ) (d : DeviceParts) → k < 8 → k < d.hpet.timers → drives line k (devices_upgraded m d).hpet ≡ drives line k d.hpet
unfolding devices_upgraded
drives-upgraded m line k d small there = ap (λ (t : TimerParts). eqb (route_of t.config) line && not (is_legacy d.hpet && ltb k 2))
    (old_timer k d.hpet small there)

drives-none : (line k : ℕ) (h : HpetParts) → eqb 0 line ≡ false → IsHpet h → k < 8 → h.timers ≤ k → drives line k h ≡ false
drives-none line k h other valid small gone =
    ap (λ (t : TimerParts). eqb (route_of t.config) line && not (is_legacy h && ltb k 2)) (no_timer_at k h valid small gone)
    ∙ ap (λ (b : Bool). b && not (is_legacy h && ltb k 2)) other

driven : (m : Bool) (line k : ℕ) (d : DeviceParts) → eqb 0 line ≡ false → IsHpet d.hpet → length d.ticks ≡ 10 → k < 8
    → (drives line k (devices_upgraded m d).hpet && output_of k (devices_upgraded m d)) ≡ (drives line k d.hpet && output_of k d)
driven m line k d other valid long small = elim (cases_lt k d.hpet.timers) [
  | inl there ↦
      ap (λ (b : Bool). b && output_of k (devices_upgraded m d)) (drives-upgraded m line k d small there)
      ∙ ap (λ (b : Bool). drives line k d.hpet && b) (output_of-upgraded m k d long small there)
  | inr gone ↦
      ap (λ (b : Bool). drives line k (devices_upgraded m d).hpet && b) (output_of-new m k d long small gone)
      ∙ and-false (drives line k (devices_upgraded m d).hpet)
      ∙ sym (ap (λ (b : Bool). b && output_of k d) (drives-none line k d.hpet other valid small gone))
]

routed-upgraded : (m : Bool) (line n : ℕ) (d : DeviceParts) → eqb 0 line ≡ false → IsHpet d.hpet → length d.ticks ≡ 10 → n ≤ 8
    → routed line n (devices_upgraded m d) ≡ routed line n d
routed-upgraded m line zero d other valid long few = refl
routed-upgraded m line (suc k) d other valid long few =
    ap (λ (b : Bool). b || (drives line k (devices_upgraded m d).hpet && output_of k (devices_upgraded m d)))
    (routed-upgraded m line k d other valid long (omega arith))
    ∙ ap (λ (b : Bool). routed line k d || b) (driven m line k d other valid long (omega arith))

legacy-upgraded : (m : Bool) (d : DeviceParts) → is_legacy (devices_upgraded m d).hpet ≡ is_legacy d.hpet
unfolding devices_upgraded
legacy-upgraded m d = refl

irqf-upgraded : (m : Bool) (d : DeviceParts) → irqf_of (devices_upgraded m d).rtc ≡ irqf_of d.rtc
unfolding devices_upgraded
irqf-upgraded m d = refl

-- no line changes
pub levels-upgraded : (m : Bool) (d : DeviceParts) → IsHpet d.hpet → length d.ticks ≡ 10 → levels (devices_upgraded m d) ≡ levels d
unfolding levels
levels-upgraded m d valid long = same_six
    (ap (λ (l : Bool). cond l (output_of 0 (devices_upgraded m d)) (line_at 0 (devices_upgraded m d)).up) (legacy-upgraded m d)
    ∙ ap (λ (b : Bool). cond (is_legacy d.hpet) b (line_at 0 (devices_upgraded m d)).up)
    (output_of-upgraded m 0 d long (omega arith) (omega (arith, some_timers d.hpet valid)))
    ∙ ap (λ (l : TickParts). cond (is_legacy d.hpet) (output_of 0 d) l.up) (old_line m 0 d long (omega arith) (omega arith)))
    (ap (λ (l : Bool). cond l (output_of 1 (devices_upgraded m d)) (irqf_of (devices_upgraded m d).rtc)) (legacy-upgraded m d)
    ∙ ap (λ (b : Bool). cond (is_legacy d.hpet) b (irqf_of (devices_upgraded m d).rtc))
    (output_of-upgraded m 1 d long (omega arith) (omega (arith, some_timers d.hpet valid)))
    ∙ ap (λ (b : Bool). cond (is_legacy d.hpet) (output_of 1 d) b) (irqf-upgraded m d))
    (routed-upgraded m 20 8 d refl valid long (omega arith))
    (routed-upgraded m 21 8 d refl valid long (omega arith))
    (routed-upgraded m 22 8 d refl valid long (omega arith))
    (routed-upgraded m 23 8 d refl valid long (omega arith))
