-- The time that the page gives: TLFS, "Reference TSC page", ReferenceTime.
use Rattle.std.specs.Prelude.{ℕ, ◌+◌, ◌*◌, ◌/◌, ◌%◌, ◌^◌, ◌<◌, ◌≤◌, ◌==◌, if◌then◌else◌}
use Rattle.hv_page.specs.declared.page.HvPage.{HvPage}
use Rattle.hv_page.specs.declared.page.HvReply.{HvReply}
use Rattle.hv_page.specs.declared.page.HvReply.TheVariants.{Off, On}

-- the units of 100 ns of so many ticks: the high 64 bits of the product
unfoldable pub units_of : ℕ → ℕ → ℕ
units_of scale tsc = tsc * scale / 2 ^ 64

-- ReferenceTime = ((VirtualTsc * TscScale) >> 64) + TscOffset, as the guest's 64 bits give it
unfoldable pub reference_time : HvPage → ℕ → ℕ
reference_time page tsc = (units_of page.scale tsc + page.offset) % 2 ^ 64

-- the answer of a read: a page of scale 0 isn't enabled (own)
abbrev pub reply : HvPage → ℕ → HvReply
reply page tsc = if page.scale == 0 then Off else On page (reference_time page tsc)

-- so many units are near the exact time of the ticks, T = tsc * 10000 / khz: never ahead of it, and
-- behind by less than 1 + (1 - 1 / khz) * tsc / 2^64 units, so by less than 2 of them
pub record IsNear (khz tsc units : ℕ) : Type 0 where
  pub not_ahead : units * khz ≤ tsc * 10000
  pub behind : tsc * 10000 * 2 ^ 64 + tsc < (units + 1) * khz * 2 ^ 64 + tsc * khz
  pub less_than_two : tsc * 10000 < (units + 2) * khz

-- between two TSCs so many ticks apart the units that come are within two of the exact ones
pub record IsWithinTwo (khz ticks units : ℕ) : Type 0 where
  pub ahead : units * khz < ticks * 10000 + 2 * khz
  pub behind : ticks * 10000 < (units + 2) * khz
