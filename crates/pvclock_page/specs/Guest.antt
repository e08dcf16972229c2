-- The bytes of a page in the guest's memory: struct pvclock_vcpu_time_info, Linux's pvclock-abi.h.
use Rattle.std.specs.Prelude.{◌≡◌, ℕ, ◌++◌, List, [], ◌∷◌, drop, slice_index}
use Rattle.std.specs.Int.{w8, cast_unsigned, cast_signed}
use Rattle.byteorder.specs.Endian.{little_bytes, little_number}
use Rattle.pvclock_page.specs.declared.page.Page.{Page}

-- u32 version, u32 pad, u64 tsc, u64 time, u32 mul, i8 shift, u8 flags, u8 pad[2]; pads are 0 (own)
abbrev pub guest_bytes : Page → List ℕ
guest_bytes page =
    little_bytes 4 page.version ++ little_bytes 4 0
    ++ little_bytes 8 page.tsc_timestamp ++ little_bytes 8 page.system_time
    ++ little_bytes 4 page.mul ++ cast_unsigned w8 page.shift ∷ page.flags ∷ 0 ∷ 0 ∷ []

-- what a guest reads of these bytes at the place of each field
pub record IsGuestPage (bytes : List ℕ) (page : Page) : Type 0 where
  pub version : little_number 4 bytes ≡ page.version
  pub pad : little_number 4 (drop 4 bytes) ≡ 0
  pub tsc_timestamp : little_number 8 (drop 8 bytes) ≡ page.tsc_timestamp
  pub system_time : little_number 8 (drop 16 bytes) ≡ page.system_time
  pub tsc_to_system_mul : little_number 4 (drop 24 bytes) ≡ page.mul
  pub tsc_shift : cast_signed w8 (slice_index bytes 28) ≡ page.shift
  pub flags : slice_index bytes 29 ≡ page.flags
  pub rest : drop 30 bytes ≡ 0 ∷ 0 ∷ []
