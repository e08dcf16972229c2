-- The time that a page gives at a TSC: Linux, msr.rst, "MSR_KVM_SYSTEM_TIME_NEW".
use Rattle.std.specs.Prelude.{ℕ, ℤ, pos, negsuc, ◌+◌, ◌-◌, ◌*◌, ◌/◌, ◌%◌, ◌^◌, ◌<◌, ◌≤◌, nat_lt}
use Rattle.std.specs.Prelude.{if◌then◌else◌}
use Rattle.pvclock_page.specs.declared.page.Page.{Page}

-- the ticks from a timestamp to a TSC, modulo 2^64; a TSC up to 2^63 before it counts none (own)
abbrev pub ticks_since : ℕ → ℕ → ℕ
ticks_since timestamp tsc =
    let ahead = (tsc + (2 ^ 64 - timestamp)) % 2 ^ 64 in
    if nat_lt ahead (2 ^ 63) then ahead else 0

-- the ticks since a page's timestamp
abbrev pub delta_of : Page → ℕ → ℕ
delta_of page tsc = ticks_since page.tsc_timestamp tsc

-- ticks shifted to the left, or to the right where the shift is negative
abbrev pub shifted : ℤ → ℕ → ℕ
shifted (pos n) delta = delta * 2 ^ n
shifted (negsuc n) delta = delta / 2 ^ (n + 1)

-- the nanoseconds of ticks by a scale, in whole numbers
abbrev pub elapsed_of : ℕ → ℕ → ℤ → ℕ
elapsed_of delta mul shift = shifted shift delta * mul / 2 ^ 32

-- the time in whole numbers
abbrev pub whole_reading : Page → ℕ → ℕ
whole_reading page tsc = elapsed_of (delta_of page tsc) page.mul page.shift + page.system_time

-- the time as the guest's 64 bits give it
unfoldable pub reading_of : Page → ℕ → ℕ
reading_of page tsc = whole_reading page tsc % 2 ^ 64

-- how many parts of a nanosecond the slack counts: 2^k, where ticks are shifted to the right by k
abbrev pub parts_of : ℤ → ℕ
parts_of (pos n) = 1
parts_of (negsuc n) = 2 ^ (n + 1)

-- the slack in those parts: a nanosecond at the end, and 1 - 2^-k ns of ticks that a shift drops
abbrev pub slack : ℤ → ℕ
slack shift = 2 * parts_of shift - 1

-- ns is near T, the exact time of delta ticks at hz, which is delta * 10^9 / hz ns
pub record IsNear (hz delta : ℕ) (shift : ℤ) (ns : ℕ) : Type 0 where
  -- never ahead of it
  pub not_ahead : ns * hz ≤ delta * 1000000000
  -- and behind by less than the slack, which is 2 - 2^-k ns, and a 2^31th of T
  pub behind :
      delta * 1000000000 * parts_of shift * 2 ^ 31
      < (ns * parts_of shift + slack shift) * hz * 2 ^ 31 + delta * 1000000000 * parts_of shift
