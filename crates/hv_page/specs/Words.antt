-- The reference page in the place of a pvclock page (own).
use Rattle.std.specs.Prelude.{pos, nat_lt}
use Rattle.pvclock_page.specs.declared.page.Page.{Page}
use Rattle.hv_page.specs.declared.page.HvPage.{HvPage}

-- the pvclock page that keeps it
abbrev pub as_page : HvPage → Page
as_page page = record {
  version = page.version;
  tsc_timestamp = page.scale;
  system_time = page.offset;
  mul = 0;
  shift = pos 0;
  flags = 0;
  offset = page.tsc_offset;
  enabled = nat_lt 0 page.scale;
}

-- the page that a pvclock page keeps
abbrev pub of_page : Page → HvPage
of_page page = record {
  version = page.version;
  scale = page.tsc_timestamp;
  offset = page.system_time;
  tsc_offset = page.offset;
}
