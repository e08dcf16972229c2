-- The bytes of the page in the guest's memory: TLFS, HV_REFERENCE_TSC_PAGE.
use Rattle.std.specs.Prelude.{◌≡◌, ℕ, ◌+◌, ◌%◌, ◌^◌, ◌==◌, if◌then◌else◌, ◌++◌, List, drop}
use Rattle.std.specs.Prelude.{Option, Some, None}
use Rattle.byteorder.specs.Endian.{little_bytes, little_number}
use Rattle.hv_page.specs.declared.page.HvPage.{HvPage}
use Rattle.hv_page.specs.declared.page.HvReply.{HvReply}
use Rattle.hv_page.specs.declared.page.HvReply.TheVariants.{Off, On}
use Rattle.hv_page.specs.Page.{tsc_sequence}
use Rattle.hv_page.specs.Time.{units_of}

-- the sequence 0 says that the page isn't valid: so where it isn't enabled, whatever its version
abbrev pub guest_sequence : HvPage → ℕ
guest_sequence page = if page.scale == 0 then 0 else tsc_sequence page

-- u32 TscSequence, u32 Reserved1, u64 TscScale, i64 TscOffset; Reserved1 is 0 (own)
abbrev pub guest_bytes : HvPage → List ℕ
guest_bytes page =
    little_bytes 4 (guest_sequence page) ++ little_bytes 4 0
    ++ little_bytes 8 page.scale ++ little_bytes 8 page.offset

-- what a guest reads of these bytes at the place of each field
pub record IsGuestPage (bytes : List ℕ) (page : HvPage) : Type 0 where
  pub sequence : little_number 4 bytes ≡ guest_sequence page
  pub reserved : little_number 4 (drop 4 bytes) ≡ 0
  pub scale : little_number 8 (drop 8 bytes) ≡ page.scale
  pub offset : little_number 8 (drop 16 bytes) ≡ page.offset

-- the time that a guest makes of the bytes at a TSC (TLFS, "Reference TSC page", the guest's
-- algorithm): none where the sequence is 0, as it then asks the counter's register
abbrev pub guest_time : List ℕ → ℕ → Option ℕ
guest_time bytes tsc =
    if little_number 4 bytes == 0 then None
    else Some (
    (units_of (little_number 8 (drop 8 bytes)) tsc + little_number 8 (drop 16 bytes)) % 2 ^ 64
    )

-- the time in an answer
abbrev pub time_told : HvReply → Option ℕ
time_told Off = None
time_told (On page reading) = Some reading
