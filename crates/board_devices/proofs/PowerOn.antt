-- Power on.
use Rattle.std.proofs.Common.{◌≡◌, ℕ, zero, suc, ◌<◌, ◌⊎◌, Bool, true, false, cond, leb, ltb, ◌&&◌, get_or, refl, subst, sym, inl, inr, arith}
use Rattle.board_types.specs.declared.setup.Setup.{Setup}
use Rattle.board_types.specs.Setup.{IsSetup, timers_of}
use Rattle.rtc_registers.specs.Registers.{with_time, pf_of}
use Rattle.rtc_registers.specs.Parts.{rtc_at_power_on}
use Rattle.tick_policy.specs.declared.parts.Policy.{Policy}
use Rattle.board_devices.specs.Parts.{IsDevices, IsTimerLine, devices_at_power_on, lines_at_power_on}
use Rattle.board_devices.specs.Places.{line_at, no_line}
use Rattle.board_devices.specs.Nanosecond.{counts_rtc}

flag_at_power_on : (s : Setup) → (line_at 1 (devices_at_power_on s)).up ≡ (counts_rtc (devices_at_power_on s) && pf_of (rtc_at_power_on s.time))
unfolding rtc_at_power_on with_time
flag_at_power_on s = refl

-- a format has three timers or eight
pub timers-three_or_eight : (format : ℕ) → (timers_of format ≡ 3) ⊎ (timers_of format ≡ 8)
timers-three_or_eight format = by (leb format 1)
  where
    by : (b : Bool) → let n : ℕ = cond b 3 8 in (n ≡ 3) ⊎ (n ≡ 8)
    by true = inl refl
    by false = inr refl

-- what holds at eight places holds at each
below_eight : (P : ℕ → Type 0) → P 0 → P 1 → P 2 → P 3 → P 4 → P 5 → P 6 → P 7 → (k : ℕ) → k < 8 → P k
below_eight P p0 p1 p2 p3 p4 p5 p6 p7 zero less = p0
below_eight P p0 p1 p2 p3 p4 p5 p6 p7 (suc zero) less = p1
below_eight P p0 p1 p2 p3 p4 p5 p6 p7 (suc (suc zero)) less = p2
below_eight P p0 p1 p2 p3 p4 p5 p6 p7 (suc (suc (suc zero))) less = p3
below_eight P p0 p1 p2 p3 p4 p5 p6 p7 (suc (suc (suc (suc zero)))) less = p4
below_eight P p0 p1 p2 p3 p4 p5 p6 p7 (suc (suc (suc (suc (suc zero))))) less = p5
below_eight P p0 p1 p2 p3 p4 p5 p6 p7 (suc (suc (suc (suc (suc (suc zero)))))) less = p6
below_eight P p0 p1 p2 p3 p4 p5 p6 p7 (suc (suc (suc (suc (suc (suc (suc zero))))))) less = p7
below_eight P p0 p1 p2 p3 p4 p5 p6 p7 (suc (suc (suc (suc (suc (suc (suc (suc k)))))))) less = absurd (omega arith)

abbrev IsLineOf : (timers : ℕ) (pit rtc hpet : Policy) (k : ℕ) → Type 0
IsLineOf timers pit rtc hpet k = IsTimerLine (ltb k timers) (get_or (lines_at_power_on timers pit rtc hpet) 2 no_line).policy
    (get_or (lines_at_power_on timers pit rtc hpet) (suc (suc k)) no_line)

timer_lines_at_power_on : (timers : ℕ) (pit rtc hpet : Policy) → (timers ≡ 3) ⊎ (timers ≡ 8) → (k : ℕ) → k < 8 → IsLineOf timers pit rtc hpet k
timer_lines_at_power_on timers pit rtc hpet (inl three) k small = subst (λ (n : ℕ). IsLineOf n pit rtc hpet k) (sym three)
    (below_eight (IsLineOf 3 pit rtc hpet) refl refl refl refl refl refl refl refl k small)
timer_lines_at_power_on timers pit rtc hpet (inr eight) k small = subst (λ (n : ℕ). IsLineOf n pit rtc hpet k) (sym eight)
    (below_eight (IsLineOf 8 pit rtc hpet) refl refl refl refl refl refl refl refl k small)

pub IsDevices-at_power_on : (s : Setup) → IsSetup s → IsDevices (devices_at_power_on s)
IsDevices-at_power_on s valid = record {
  places = refl;
  slew_low = valid.least_slew;
  slew_high = valid.most_slew;
  flag = flag_at_power_on s;
  timer_lines = timer_lines_at_power_on (timers_of s.format) s.pit s.rtc s.hpet (timers-three_or_eight s.format);
}

-- no tick was due
pub due_at_power_on : (s : Setup) (k : ℕ) → (line_at k (devices_at_power_on s)).counts.due ≡ 0
due_at_power_on s zero = refl
due_at_power_on s (suc zero) = refl
due_at_power_on s (suc (suc zero)) = refl
due_at_power_on s (suc (suc (suc zero))) = refl
due_at_power_on s (suc (suc (suc (suc zero)))) = refl
due_at_power_on s (suc (suc (suc (suc (suc zero))))) = refl
due_at_power_on s (suc (suc (suc (suc (suc (suc zero)))))) = refl
due_at_power_on s (suc (suc (suc (suc (suc (suc (suc zero))))))) = refl
due_at_power_on s (suc (suc (suc (suc (suc (suc (suc (suc zero)))))))) = refl
due_at_power_on s (suc (suc (suc (suc (suc (suc (suc (suc (suc zero))))))))) = refl
due_at_power_on s (suc (suc (suc (suc (suc (suc (suc (suc (suc (suc k)))))))))) = refl
