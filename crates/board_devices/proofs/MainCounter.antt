-- A run of the devices is to the HPET its pulses, and to its main counter their number.
use Rattle.std.proofs.Common.{◌≡◌, ℕ, zero, suc, ◌+◌, ◌/◌, ◌%◌, ◌^◌, ◌<◌, Bool, true, false, cond, eqb, refl, sym, ap, ◌∙◌, arith}
use Rattle.std.proofs.lemmas.Bool.{eq-eqb, ne_eqb}
use Rattle.clk_units.specs.Pulses.{falls_at, pulses_from}
use Rattle.clk_units.proofs.Pulses.{pulses_from-zero, pulses_from-more}
use Rattle.hpet_registers.specs.declared.hpet.TheConstants.{HPET_HZ}
use Rattle.hpet_registers.specs.declared.parts.HpetParts.{HpetParts}
use Rattle.hpet_registers.specs.Stretch.{hpet_pulsed, hpet_pulsed_times}
use Rattle.hpet_registers.proofs.Product.{counter-hpet_pulsed_times, hpet_pulsed_times-standing}
use Rattle.board_devices.specs.declared.parts.DeviceParts.{DeviceParts}
use Rattle.board_devices.specs.Nanosecond.{pit_pulse, rtc_pulse, hpet_pulse, catch_up_point, at_nanosecond}
use Rattle.board_devices.specs.Run.{run, onward}

-- the HPET
pub hpet-run : (t n : ℕ) (d : DeviceParts) → (run t n d).state.hpet ≡ hpet_pulsed_times (pulses_from HPET_HZ t n) d.hpet
unfolding run onward at_nanosecond catch_up_point hpet_pulse rtc_pulse pit_pulse
hpet-run t zero d = sym (ap (λ (k : ℕ). hpet_pulsed_times k d.hpet) (pulses_from-zero HPET_HZ t))
hpet-run t (suc n) d =
    ap (λ (h : HpetParts). cond (falls_at HPET_HZ (t + n + 1)) (hpet_pulsed h) h) (hpet-run t n d)
    ∙ one (falls_at HPET_HZ (t + n + 1)) (pulses_from HPET_HZ t n) d.hpet
    ∙ sym (ap (λ (k : ℕ). hpet_pulsed_times k d.hpet) (pulses_from-more HPET_HZ t n (omega arith)))
  where
    one : (f : Bool) (m : ℕ) (h : HpetParts) → cond f (hpet_pulsed (hpet_pulsed_times m h)) (hpet_pulsed_times m h) ≡ hpet_pulsed_times (cond f (suc m) m) h
    one true m h = refl
    one false m h = refl

-- its main counter halts without ENABLE
pub counter-standing : (t n : ℕ) (d : DeviceParts) → d.hpet.config % 2 ≡ 0 → d.hpet.counter ≡ (run t n d).state.hpet.counter
counter-standing t n d even =
    let still : eqb (d.hpet.config / 2 ^ 0 % 2) 1 ≡ false = ne_eqb (d.hpet.config / 2 ^ 0 % 2) 1 (λ e. omega arith) in
    sym (ap (λ (h : HpetParts). h.counter) (hpet-run t n d ∙ hpet_pulsed_times-standing (pulses_from HPET_HZ t n) d.hpet still))

-- .. and else counts them
pub counter-running : (t n : ℕ) (d : DeviceParts) → (d.hpet.config % 2 ≡ 0 → ⊥) → d.hpet.counter < 2 ^ 64
    → (d.hpet.counter + pulses_from HPET_HZ t n) % 2 ^ 64 ≡ (run t n d).state.hpet.counter
counter-running t n d odd fits =
    let runs : eqb (d.hpet.config / 2 ^ 0 % 2) 1 ≡ true = eq-eqb (d.hpet.config / 2 ^ 0 % 2) 1 (omega arith) in
    sym (ap (λ (h : HpetParts). h.counter) (hpet-run t n d) ∙ counter-hpet_pulsed_times (pulses_from HPET_HZ t n) d.hpet runs fits)
