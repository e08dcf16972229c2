-- What a guest reads of a page's bytes.
use Rattle.std.proofs.Common.{◌≡◌, ℕ, ◌+◌, ◌/◌, ◌%◌, ◌^◌, ◌<◌, ◌≤◌, Bool, true, false, cond, eqb, List, [], Some, None, refl, ap, arith}
use Rattle.std.proofs.lemmas.Bool.{ne_eqb}
use Rattle.byteorder.specs.Numbers.{little_number-reads_back}
use Rattle.hv_page.specs.declared.page.HvPage.{HvPage}
use Rattle.hv_page.specs.declared.page.HvReply.TheVariants.{Off, On}
use Rattle.hv_page.specs.Time.{units_of, reference_time, reply}
use Rattle.hv_page.specs.Guest.{guest_sequence, guest_bytes, IsGuestPage, guest_time, time_told}

guest_sequence-below : (page : HvPage) → page.version < 2 ^ 32 → guest_sequence page < 2 ^ 32
guest_sequence-below page version = by (eqb page.scale 0)
  where
    by : (off : Bool) → cond off 0 (page.version / 2) < 2 ^ 32
    by true = omega arith
    by false = omega arith

-- each field reads as it was written
pub IsGuestPage-guest_bytes : (page : HvPage) → page.version < 2 ^ 32 → page.scale < 2 ^ 64 → page.offset < 2 ^ 64 → IsGuestPage (guest_bytes page) page
IsGuestPage-guest_bytes page version scale offset = record {
  sequence = little_number-reads_back 4 (guest_sequence page) [] (guest_sequence-below page version);
  reserved = refl;
  scale = little_number-reads_back 8 page.scale [] (omega arith);
  offset = little_number-reads_back 8 page.offset [] (omega arith);
}

-- and so does the time
pub guest_time-told : (bytes : List ℕ) (page : HvPage) (tsc : ℕ) → IsGuestPage bytes page → 2 ≤ page.version
    → guest_time bytes tsc ≡ time_told (reply page tsc)
unfolding reference_time
guest_time-told bytes page tsc is published = rw (is.sequence, is.scale, is.offset) (by (eqb page.scale 0))
  where
    time : ℕ
    time = (units_of page.scale tsc + page.offset) % 2 ^ 64

    by : (off : Bool) → cond (eqb (cond off 0 (page.version / 2)) 0) None (Some time) ≡ time_told (cond off Off (On page time))
    by true = refl
    by false = ap (λ (b : Bool). cond b None (Some time)) (ne_eqb (page.version / 2) 0 (λ none. omega (arith, none, published)))
