-- The numbers of a setup, and a board at power on.
use Rattle.std.specs.Prelude.{
  ℕ,
  Bool,
  ◌&&◌,
  nat_lt,
  nat_le,
  if◌then◌else◌,
  [],
}
use Rattle.clk_units.specs.declared.ranges.TheConstants.{RANGE_NS, KHZ_MIN, KHZ_MAX}
use Rattle.rtc_calendar.specs.declared.TimeBytes.{TimeBytes}
use Rattle.tick_policy.specs.Parts.{policy_of}
use Rattle.board_types.specs.declared.setup.Setup.{Setup}
use Rattle.board_types.specs.declared.setup.TheConstants.{SLEW_MAX_NS, SECOND_NS, LAST_FORMAT}
use Rattle.board_types.specs.Setup.{processors_of}
use Rattle.board_core.specs.Time.{now_of}
use Rattle.board_core.specs.PowerOn.{board_at_power_on}
use Rattle.clockboard_c.specs.Kept.{CallerBoard}
use Rattle.clockboard_c.specs.declared.code.TheConstants.{BAD_SETUP}
use Rattle.clockboard_c.specs.declared.power_on.SetupWords.{SetupWords}
use Rattle.clockboard_c.specs.Call.{sealed}
use Rattle.clockboard_c.specs.Replies.{Told, refused, taken, no_value}

-- whether a rate in kHz is in range
abbrev pub is_rate : ℕ → Bool
is_rate khz = nat_le KHZ_MIN khz && nat_le khz KHZ_MAX

-- the time bytes of a setup
abbrev pub time_of : SetupWords → TimeBytes
time_of s = record {
  sec = s.sec;
  min = s.min;
  hour = s.hour;
  wday = s.wday;
  date = s.date;
  month = s.month;
  year = s.year;
}

-- whether each number is in its range; a time byte may have any value
abbrev pub setup_valid : SetupWords → Bool
setup_valid s =
    nat_le 1 s.format && nat_le s.format LAST_FORMAT && is_rate s.host_khz && nat_lt s.base_ns RANGE_NS
    && is_rate s.guest_khz && nat_le 1 s.cpus && nat_le s.cpus (processors_of s.format)
    && nat_le 1 s.slew_ns && nat_le s.slew_ns SLEW_MAX_NS && nat_lt s.wall_nsec SECOND_NS
    && nat_le s.pit_policy 2 && nat_le s.rtc_policy 2 && nat_le s.hpet_policy 2

-- the setup of these numbers
abbrev pub setup_of : SetupWords → Setup
setup_of s = record {
  format = s.format;
  anchor = record { khz = s.host_khz; start = s.host_start; base_ns = s.base_ns };
  guest_khz = s.guest_khz;
  cpus = s.cpus;
  pit = policy_of s.pit_policy;
  rtc = policy_of s.rtc_policy;
  hpet = policy_of s.hpet_policy;
  slew_ns = s.slew_ns;
  wall_sec = s.wall_sec;
  wall_nsec = s.wall_nsec;
  time = time_of s;
}

-- what power on answers, and the board that it makes in some memory
abbrev pub power_on_told : SetupWords → Told
power_on_told s =
    if setup_valid s then taken 0 (now_of (board_at_power_on (setup_of s))) no_value [] []
    else refused BAD_SETUP

abbrev pub powered_on : SetupWords → CallerBoard → CallerBoard
powered_on s b = if setup_valid s then sealed (board_at_power_on (setup_of s)) else b
