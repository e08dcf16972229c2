-- No run and no access changes how many timers there are, and whether they have message registers.
use Rattle.std.proofs.Common.{◌≡◌, ℕ, zero, suc, ◌+◌, Bool, true, false, cond, refl, ap, ◌∙◌}
use Rattle.clk_units.specs.Pulses.{falls_at}
use Rattle.hpet_registers.specs.declared.hpet.TheConstants.{HPET_HZ}
use Rattle.hpet_registers.specs.declared.parts.HpetParts.{HpetParts}
use Rattle.hpet_registers.specs.Stretch.{hpet_pulsed}
use Rattle.board_devices.specs.declared.parts.DeviceParts.{DeviceParts}
use Rattle.board_devices.specs.declared.act.Act.{Act}
use Rattle.board_devices.specs.declared.act.Act.TheVariants.{HpetWrite}
use Rattle.board_devices.specs.Nanosecond.{pit_pulse, rtc_pulse, hpet_pulse, catch_up_point, at_nanosecond}
use Rattle.board_devices.specs.Run.{run, onward}
use Rattle.board_devices.specs.Act.{acted}
use Rattle.board_devices.proofs.Keeps.{timers-hpet_written, messages-hpet_written}

abbrev both : HpetParts → ℕ × Bool
both h = (h.timers, h.messages)

both-pulsed : (b : Bool) (h : HpetParts) → both (cond b (hpet_pulsed h) h) ≡ both h
unfolding hpet_pulsed
both-pulsed true h = refl
both-pulsed false h = refl

both-at_nanosecond : (t : ℕ) (d : DeviceParts) → both (at_nanosecond t d).hpet ≡ both d.hpet
unfolding at_nanosecond catch_up_point hpet_pulse rtc_pulse pit_pulse
both-at_nanosecond t d = both-pulsed (falls_at HPET_HZ t) d.hpet

both-run : (t n : ℕ) (d : DeviceParts) → both (run t n d).state.hpet ≡ both d.hpet
unfolding run onward
both-run t zero d = refl
both-run t (suc n) d = both-at_nanosecond (t + n + 1) (run t n d).state ∙ both-run t n d

pub timers-run : (t n : ℕ) (d : DeviceParts) → (run t n d).state.hpet.timers ≡ d.hpet.timers
timers-run t n d = ap (λ (p : ℕ × Bool). p.0) (both-run t n d)

pub messages-run : (t n : ℕ) (d : DeviceParts) → (run t n d).state.hpet.messages ≡ d.hpet.messages
messages-run t n d = ap (λ (p : ℕ × Bool). p.1) (both-run t n d)

pub timers-acted : (a : Act) (d : DeviceParts) → (acted a d).hpet.timers ≡ d.hpet.timers
unfolding acted
timers-acted (HpetWrite offset width v) d = timers-hpet_written offset width v d.hpet
timers-acted _ d = refl

pub messages-acted : (a : Act) (d : DeviceParts) → (acted a d).hpet.messages ≡ d.hpet.messages
unfolding acted
messages-acted (HpetWrite offset width v) d = messages-hpet_written offset width v d.hpet
messages-acted _ d = refl
