-- How a page is published: Linux, msr.rst, "MSR_KVM_SYSTEM_TIME_NEW".
use Rattle.std.specs.Prelude.{ℕ, ◌+◌, ◌*◌}
use Rattle.pvclock_page.specs.declared.page.Page.{Page}
use Rattle.pvclock_page.specs.declared.publish.Publishing.{Publishing}
use Rattle.pvclock_page.specs.Scale.{mul_for, shift_for}

-- the page after one of a version: the version goes up by 2, and it gives the time at a TSC
abbrev pub published : ℕ → Publishing → Page
published version p = record {
  version = version + 2;
  tsc_timestamp = p.tsc;
  system_time = p.system_time;
  mul = mul_for (p.guest_khz * 1000);
  shift = shift_for (p.guest_khz * 1000);
  flags = p.flags;
  offset = p.offset;
  enabled = p.enabled;
}
