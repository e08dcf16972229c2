-- What a board is at power on, and the ranges of it.
use Rattle.std.specs.Prelude.{ℕ, ◌≤◌, ◌<◌, Bool, nat_le, if◌then◌else◌}
use Rattle.clk_units.specs.Ranges.{IsKhz}
use Rattle.clk_units.specs.declared.ranges.TheConstants.{RANGE_NS}
use Rattle.board_types.specs.declared.setup.Setup.{Setup}
use Rattle.board_types.specs.declared.setup.TheConstants.{SLEW_MAX_NS, SECOND_NS, LAST_FORMAT, MESSAGE_FORMAT}
use Rattle.tick_policy.specs.declared.parts.Policy.TheVariants.{Delay}

-- how many timers the HPET has in a format
abbrev pub timers_of : ℕ → ℕ
timers_of format = if nat_le format 1 then 3 else 8

-- whether the HPET's timers have message registers in a format
abbrev pub has_messages : ℕ → Bool
has_messages format = nat_le MESSAGE_FORMAT format

-- how many processors a board of a format may have
abbrev pub processors_of : ℕ → ℕ
processors_of format = if nat_le format 1 then 16 else 64

-- the setup of a board of which nothing else is said (own)
abbrev pub setup_by_default : ℕ → Setup
setup_by_default format = record {
  format = format;
  anchor = record { khz = 1000000; start = 0; base_ns = 0 };
  guest_khz = 1000000;
  cpus = 1;
  pit = Delay;
  rtc = Delay;
  hpet = Delay;
  slew_ns = 1000000;
  wall_sec = 0;
  wall_nsec = 0;
  time = record { sec = 0; min = 0; hour = 0; wday = 1; date = 1; month = 1; year = 0 };
}

-- the ranges of a setup: the format, rates in kHz, nanoseconds, processors
pub record IsSetup (s : Setup) : Type 0 where
  pub least_format : 1 ≤ s.format
  pub last_format : s.format ≤ LAST_FORMAT
  pub host : IsKhz s.anchor.khz
  pub base : s.anchor.base_ns < RANGE_NS
  pub guest : IsKhz s.guest_khz
  pub least_cpus : 1 ≤ s.cpus
  pub most_cpus : s.cpus ≤ processors_of s.format
  pub least_slew : 1 ≤ s.slew_ns
  pub most_slew : s.slew_ns ≤ SLEW_MAX_NS
  pub wall_nsec : s.wall_nsec < SECOND_NS
