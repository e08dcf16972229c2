-- The devices at power on, the conditions on their fields, and the devices of a board that gets
-- five timers more, or message registers.
use Rattle.std.specs.Prelude.{
  ◌≡◌,
  ℕ,
  suc,
  ◌+◌,
  ◌<◌,
  ◌≤◌,
  Bool,
  true,
  false,
  ◌&&◌,
  ◌||◌,
  ◌==◌,
  nat_lt,
  length,
  map,
  List,
  [],
  ◌∷◌,
  if◌then◌else◌,
}
use Rattle.pit_readback.specs.Parts.{IsPit}
use Rattle.pit_readback.specs.Pit.{pit_at_power_on}
use Rattle.board_types.specs.declared.setup.Setup.{Setup}
use Rattle.board_types.specs.Setup.{timers_of, has_messages}
use Rattle.rtc_registers.specs.Registers.{pf_of}
use Rattle.rtc_registers.specs.Parts.{IsRtc, rtc_at_power_on}
use Rattle.hpet_comparator.specs.declared.parts.TimerParts.{TimerParts}
use Rattle.hpet_comparator.specs.Parts.{timer_at_power_on}
use Rattle.hpet_registers.specs.declared.parts.HpetParts.{HpetParts}
use Rattle.hpet_registers.specs.Parts.{IsHpet, timer_at, hpet_at_power_on}
use Rattle.tick_policy.specs.declared.parts.Policy.{Policy}
use Rattle.tick_policy.specs.declared.parts.Policy.TheVariants.{Discard}
use Rattle.tick_policy.specs.declared.parts.TickParts.{TickParts}
use Rattle.tick_policy.specs.Line.{line_at_power_on}
use Rattle.tick_policy.specs.Parts.{IsTickLine}
use Rattle.board_devices.specs.declared.parts.DeviceParts.{DeviceParts}
use Rattle.board_devices.specs.Places.{each, line_at, no_line}
use Rattle.board_devices.specs.Nanosecond.{counts_rtc}

-- the tick lines at power on: a policy each for the 8254, the MC146818 and the timers of the HPET;
-- a place whose timer isn't there holds 0
abbrev pub lines_at_power_on : ℕ → Policy → Policy → Policy → List TickParts
lines_at_power_on timers pit rtc hpet =
    let later : TickParts = line_at_power_on (if timers == 8 then hpet else Discard) in
    line_at_power_on pit ∷ line_at_power_on rtc ∷ line_at_power_on hpet ∷ line_at_power_on hpet
    ∷ line_at_power_on hpet
    ∷ later ∷ later ∷ later ∷ later ∷ later ∷ []

-- the devices of a setup, at power on
abbrev pub devices_at_power_on : Setup → DeviceParts
devices_at_power_on s = record {
  pit = pit_at_power_on;
  rtc = rtc_at_power_on s.time;
  hpet = hpet_at_power_on (timers_of s.format) (has_messages s.format);
  ticks = lines_at_power_on (timers_of s.format) s.pit s.rtc s.hpet;
  slew_ns = s.slew_ns;
}

-- the tick line at the place of a timer: one of this policy, or nothing where there is no timer
abbrev pub IsTimerLine : Bool → Policy → TickParts → Type 0
IsTimerLine true policy l = l.policy ≡ policy
IsTimerLine false policy l = l ≡ no_line

-- the conditions that join the devices
pub record IsDevices (d : DeviceParts) : Type 0 where
  pub places : length d.ticks ≡ 10
  pub slew_low : 1 ≤ d.slew_ns
  pub slew_high : d.slew_ns ≤ 1000000000
  -- the line of the MC146818 is PF while its ticks are counted, and else down
  pub flag : (line_at 1 d).up ≡ (counts_rtc d && pf_of d.rtc)
  -- the lines of the timers have one policy, that of timer 0
  pub timer_lines : (k : ℕ) → k < 8
      → IsTimerLine (nat_lt k d.hpet.timers) (line_at 2 d).policy (line_at (suc (suc k)) d)

-- all conditions on the fields: those of each part, and those that join them
pub record AreDevices (d : DeviceParts) : Type 0 where
  pub pit : IsPit d.pit
  pub rtc : IsRtc d.rtc
  pub hpet : IsHpet d.hpet
  pub lines : (k : ℕ) → k < 10 → IsTickLine (line_at k d)
  pub joined : IsDevices d

-- the places of eight timers: those that are there, and the others as at power on
abbrev pub eight_timers : HpetParts → List TimerParts
eight_timers h =
    map (λ k. if nat_lt k h.timers then timer_at k h else timer_at_power_on)
    (0 ∷ 1 ∷ 2 ∷ 3 ∷ 4 ∷ 5 ∷ 6 ∷ 7 ∷ [])

-- the tick line at place k: that of a timer that wasn't there is as at power on, with the policy of
-- the others
abbrev pub line_upgraded : DeviceParts → ℕ → TickParts → TickParts
line_upgraded d k l =
    if nat_lt k (d.hpet.timers + 2) then l else line_at_power_on (line_at 2 d).policy

-- the devices with eight timers, and with message registers where `messages` holds: what wasn't
-- there is as at power on, and all else is kept
unfoldable pub devices_upgraded : Bool → DeviceParts → DeviceParts
devices_upgraded messages d = record d {
  hpet = record d.hpet {
    timers = 8;
    timer = eight_timers d.hpet;
    messages = d.hpet.messages || messages;
  };
  ticks = each (line_upgraded d) 0 d.ticks;
}
