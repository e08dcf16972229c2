-- How the page is published.
use Rattle.std.specs.Prelude.{ℕ, ◌+◌, ◌-◌, ◌/◌, ◌%◌, ◌^◌}
use Rattle.hv_page.specs.declared.page.HvPage.{HvPage}
use Rattle.hv_page.specs.Scale.{tsc_scale}
use Rattle.hv_page.specs.Time.{units_of}

-- the sequence that a guest sees (own)
abbrev pub tsc_sequence : HvPage → ℕ
tsc_sequence page = page.version / 2

-- enabled: the scale is the rate's, and at this TSC the page reads `now`, rounded down to 100 ns
abbrev pub published : HvPage → ℕ → ℕ → ℕ → ℕ → HvPage
published page khz tsc_offset tsc now = record {
  version = page.version + 2;
  scale = tsc_scale khz;
  offset = (now / 100 + (2 ^ 64 - units_of (tsc_scale khz) tsc)) % 2 ^ 64;
  tsc_offset = tsc_offset;
}

-- not enabled
abbrev pub withdrawn : HvPage → HvPage
withdrawn page = record { version = page.version + 2; scale = 0; offset = 0; tsc_offset = 0 }
