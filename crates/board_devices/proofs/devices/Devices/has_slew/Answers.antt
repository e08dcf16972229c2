use Rattle.std.proofs.Common.{◌≡◌, ℕ, zero, suc, ◌<◌, Bool, true, false, ◌&&◌, ◌||◌, not, ltb, ap, sym, refl, ◌∙◌, get_or, arith}
use Rattle.std.proofs.lemmas.Bool.{true≢false}
use Rattle.std.proofs.lemmas.List.{get_or_default}
use Rattle.tick_policy.specs.declared.parts.TickParts.{TickParts}
use Rattle.tick_policy.specs.Line.{is_waiting}
use Rattle.tick_policy.specs.Parts.{is_slew}
use Rattle.board_devices.specs.declared.parts.DeviceParts.{DeviceParts}
use Rattle.board_devices.specs.Parts.{IsDevices, IsTimerLine}
use Rattle.board_devices.specs.Places.{line_at, no_line}
use Rattle.board_devices.specs.View.{parts_of}
use Rattle.board_devices.proofs.devices.Devices.has_slew.Goals as goal

-- where the first timer's policy lets none wait, no timer's does
no_timer : (d : DeviceParts) → IsDevices d → is_slew (line_at 2 d).policy ≡ false → (k : ℕ) → k < 8 → is_waiting (line_at (suc (suc k)) d) ≡ false
no_timer d joined none k less = by_place (ltb k d.hpet.timers) (line_at (suc (suc k)) d) (joined.timer_lines k less)
  where
    by_place : (b : Bool) (l : TickParts) → IsTimerLine b (line_at 2 d).policy l → is_waiting l ≡ false
    by_place true l same = ap (λ (b : Bool). b && (not l.up && ltb 0 l.counts.queue)) (ap is_slew same ∙ none)
    by_place false l same = ap is_waiting same

no_front : (l : TickParts) → is_slew l.policy ≡ false → is_waiting l ≡ false
no_front l none = ap (λ (b : Bool). b && (not l.up && ltb 0 l.counts.queue)) none

none : (d : DeviceParts) → IsDevices d → is_slew (line_at 0 d).policy ≡ false → is_slew (line_at 1 d).policy ≡ false → is_slew (line_at 2 d).policy ≡ false
    → (k : ℕ) → k < 10 → is_waiting (line_at k d) ≡ false
none d joined pit rtc timers zero less = no_front (line_at 0 d) pit
none d joined pit rtc timers (suc zero) less = no_front (line_at 1 d) rtc
none d joined pit rtc timers (suc (suc k)) less = no_timer d joined timers k (omega (arith, less))

neither : (a b : Bool) → (a || b) ≡ false → (a ≡ false) × (b ≡ false)
neither false false e = (refl, refl)
neither false true e = absurd (true≢false e)
neither true b e = absurd (true≢false e)

pub returns : goal.returns
returns c = λ e k less.
    let timers = neither c.either.result c.is_slew-timers.result (sym c.either-2.ensures ∙ e) in
    let front = neither c.is_slew-pit.result c.is_slew-rtc.result (sym c.either.ensures ∙ timers.0) in
    ap (λ (d : DeviceParts). is_waiting (line_at k d)) (sym c.self.view_is)
    ∙ none (parts_of c.self.inside) c.self.invariant
    (slew_at 0 c.index-self-0.result (omega arith) (sym (c.is_slew-pit.ensures ∙ ap is_slew c.policy.ensures) ∙ front.0))
    (slew_at 1 c.index-self-1.result (omega arith) (sym (c.is_slew-rtc.ensures ∙ ap is_slew c.policy-2.ensures) ∙ front.1))
    (slew_at 2 c.index-self-2.result (omega arith) (sym (c.is_slew-timers.ensures ∙ ap is_slew c.policy-3.ensures) ∙ timers.1))
    k less
  where
    slew_at : (k : ℕ) (l : TickParts) → k < 10 → is_slew (get_or c.self.inside.ticks k l).policy ≡ false
        → is_slew (line_at k (parts_of c.self.inside)).policy ≡ false
    slew_at k l less off = ap (λ (m : TickParts). is_slew m.policy)
        (sym (get_or_default c.self.inside.ticks k l no_line (omega (arith, less, c.self.invariant.places)))) ∙ off
