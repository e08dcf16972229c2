-- The interrupt line, IRQF, after pulses.
use Rattle.std.proofs.Common.{◌≡◌, ℕ, ◌&&◌, ◌||◌, ltb, refl}
use Rattle.rtc_cycle.specs.Divider.{ticks_in, updates_in}
use Rattle.rtc_registers.specs.declared.parts.RtcParts.{RtcParts}
use Rattle.rtc_registers.specs.Registers.{pf_of, af_of, uf_of, pie_of, aie_of, uie_of}
use Rattle.rtc_registers.specs.Registers.{irqf_of, divider_of}
use Rattle.rtc_registers.specs.Parts.{IsRtc}
use Rattle.rtc_registers.specs.Pulses.{rtc_pulsed_times, alarms_in}
use Rattle.rtc_registers.proofs.Times.{register_b-rtc_pulsed_times, pf_of-rtc_pulsed_times}
use Rattle.rtc_registers.proofs.Times.{af_of-rtc_pulsed_times, uf_of-rtc_pulsed_times}

-- the line after n pulses: a flag that was up or an event that came, where it is let through
pub irqf_of-rtc_pulsed_times : (n : ℕ) (r : RtcParts) → IsRtc r → irqf_of (rtc_pulsed_times n r)
    ≡ (((pf_of r || ltb 0 (ticks_in (divider_of r) n)) && pie_of r)
    || (((af_of r || ltb 0 (alarms_in r n)) && aie_of r) || ((uf_of r || ltb 0 (updates_in (divider_of r) n)) && uie_of r)))
irqf_of-rtc_pulsed_times n r valid =
    rw (pf_of-rtc_pulsed_times n r valid, af_of-rtc_pulsed_times n r valid, uf_of-rtc_pulsed_times n r valid, register_b-rtc_pulsed_times n r valid) refl
