use Rattle.std.proofs.Common.{◌≡◌, ℕ, ◌-◌, ◌≤◌, arith}
use Rattle.clk_units.specs.Pulses.{pulses_by, pulses_from}
use Rattle.clk_units.proofs.Pulses.{pulses_by-mono, pulses_from_le}
use Rattle.pit_readback.specs.declared.TheConstants.{PIT_HZ}
use Rattle.rtc_registers.specs.declared.TheConstants.{RTC_HZ}
use Rattle.board_devices.proofs.Counts.{within_second}
use Rattle.board_devices.proofs.pulse_counts.counts_within.Goals as goal

-- later no fewer pulses are seen
pub overflow_sub-result : goal.overflow_sub-result
overflow_sub-result c =
    omega (arith, pulses_by-mono PIT_HZ c.args.start c.args.end (omega (arith, c.requires.end)), c.pit_pulses.ensures, c.pit_pulses-2.ensures)

pub overflow_sub-result-2 : goal.overflow_sub-result-2
overflow_sub-result-2 c =
    omega (arith, pulses_by-mono RTC_HZ c.args.start c.args.end (omega (arith, c.requires.end)), c.rtc_pulses.ensures, c.rtc_pulses-2.ensures)

-- what is between, and no more than the nanoseconds
count : (hz end start : ℕ) (c : goal.After-hpet_pulses) → end ≡ pulses_by hz c.args.end → start ≡ pulses_by hz c.args.start
    → end - start ≡ pulses_from hz c.args.from (c.args.to - c.args.from)
count hz end start c end_is start_is = omega (
  arith,
  end_is,
  start_is,
  within_second hz c.args.from c.args.to c.args.start c.args.end c.requires.order c.requires.start c.requires.end c.requires.one_second,
)

few : (hz n : ℕ) (c : goal.After-hpet_pulses) → n ≡ pulses_from hz c.args.from (c.args.to - c.args.from) → hz ≤ 1000000000 → n ≤ c.args.to - c.args.from
few hz n c is slow = omega (arith, is, pulses_from_le hz c.args.from (c.args.to - c.args.from) slow)

pub returns : goal.returns
returns c =
    let pit : c.pit_pulses.result - c.pit_pulses-2.result ≡ pulses_from PIT_HZ c.args.from (c.args.to - c.args.from) =
    count PIT_HZ _ _ c c.pit_pulses.ensures c.pit_pulses-2.ensures in
    let rtc : c.rtc_pulses.result - c.rtc_pulses-2.result ≡ pulses_from RTC_HZ c.args.from (c.args.to - c.args.from) =
    count RTC_HZ _ _ c c.rtc_pulses.ensures c.rtc_pulses-2.ensures in
    record {
      pit = pit;
      few_pit = few PIT_HZ _ c pit (omega arith);
      rtc = rtc;
      few_rtc = few RTC_HZ _ c rtc (omega arith);
      hpet = c.hpet_pulses.ensures.value;
      few_hpet = c.hpet_pulses.ensures.few;
    }
