-- Rows of the definitions, each by computation.
use Rattle.std.proofs.Common.{◌≡◌, [], ◌∷◌, true, false, Some, None, map, pos, refl}
use Rattle.std.specs.List.{last_or}
use Rattle.tsc_scale.specs.Offset.{tsc_by}
use Rattle.pvclock_page.specs.Reading.{reading_of}
use Rattle.pvclock_page.specs.declared.page.Page.{Page}
use Rattle.pvclock_page.specs.declared.page.PageReply.TheVariants.{Off, On}
use Rattle.board_types.specs.declared.parts.BoardParts.{BoardParts}
use Rattle.board_core.specs.Pages.{with_greatest, answer_by}
use Rattle.hv_page.specs.declared.page.HvPage.{HvPage}
use Rattle.hv_page.specs.declared.page.HvReply.TheVariants.{Off as HvOff, On as HvOn}
use Rattle.hv_page.specs.Time.{units_of, reference_time}
use Rattle.hv_page.specs.Words.{of_page}
use Rattle.board_types.specs.declared.access.Access.TheVariants.{MsrWrite, Refresh, Step}
use Rattle.board_core.specs.Hv.{hv_answer_by}
use Rattle.board_history.specs.Machine.{page_published}
use Rattle.board_history.specs.History.{after_entry, entries_of, read_of, IsLegal}
use Rattle.board_history.specs.declared.entry.Entry.TheVariants.{Opened, PageRead, HvRead, Clamp}

-- the page of a guest of 2 GHz that was published at time 0, on a host of 1 GHz: ratio 2 * 2^48
page : Page
page = record {
  version = 2;
  tsc_timestamp = 0;
  system_time = 0;
  mul = 2147483648;
  shift = pos 0;
  flags = 1;
  offset = 0;
  enabled = true;
}

-- at count 900 of the host's counter it gives 900 ns; one that isn't enabled gives no time
answers : map (λ p. answer_by 562949953421312 p 900) (page ∷ record page { enabled = false } ∷ []) ≡ On page 900 ∷ Off ∷ []
unfolding page tsc_by reading_of
answers = refl

-- a read changes nothing, a clamp the greatest reading
after_read : (b : BoardParts) → after_entry b (PageRead 1 0 900 page false) ≡ b
after_read b = refl

after_clamp : (b : BoardParts) → after_entry b (Clamp 1 0 900 1000) ≡ with_greatest b 1000
after_clamp b = refl

-- the entries of pass 1 among those of two passes, and the last of them
entries_of_1 : (s : BoardParts)
    → entries_of 1 (Opened s ∷ Clamp 0 0 5 5 ∷ PageRead 1 0 900 page false ∷ Clamp 0 0 7 7 ∷ Clamp 1 0 900 900 ∷ [])
    ≡ PageRead 1 0 900 page false ∷ Clamp 1 0 900 900 ∷ []
entries_of_1 s = refl

last_of_2 : last_or None (Clamp 0 0 5 5 ∷ Clamp 1 0 7 7 ∷ []) ≡ Some (Clamp 1 0 7 7)
last_of_2 = refl

-- a history begins with Opened
legal_alone : (s : BoardParts) → IsLegal (Opened s ∷ []) ≡ Unit {0}
legal_alone s = refl

legal_none : IsLegal [] ≡ ⊥
legal_none = refl

-- and has no other
opened_twice : (s t : BoardParts) → IsLegal (Opened s ∷ Opened t ∷ []) ≡ (⊥ × Unit {0})
opened_twice s t = refl

-- the reference page by a scale of 2^63, with its own offset of the TSC: (1800 + 100) / 2 + 7
hv_page_of_one : HvPage
hv_page_of_one = record { version = 2; scale = 9223372036854775808; offset = 7; tsc_offset = 100 }

hv_answers : map (λ p. hv_answer_by 562949953421312 p 900) (hv_page_of_one ∷ record hv_page_of_one { scale = 0 } ∷ [])
    ≡ HvOn hv_page_of_one 957 ∷ HvOff ∷ []
unfolding hv_page_of_one tsc_by units_of reference_time
hv_answers = refl

-- of two processors the reference page has place 2: by its MSR alone it is published
pages_published : map (page_published 2 1) (MsrWrite 0x4000_0021 1 ∷ MsrWrite 0x10 1 ∷ Refresh 0 ∷ Step ∷ [])
    ≡ Some 2 ∷ Some 1 ∷ Some 0 ∷ None ∷ []
pages_published = refl

reads_of_places : map (λ k. read_of 2 5 k 900 page true) (2 ∷ 1 ∷ []) ≡ HvRead 5 900 (of_page page) true ∷ PageRead 5 1 900 page true ∷ []
reads_of_places = refl

after_hv_read : (b : BoardParts) → after_entry b (HvRead 1 900 hv_page_of_one false) ≡ b
after_hv_read b = refl
