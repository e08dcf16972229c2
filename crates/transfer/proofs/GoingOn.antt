-- A guest's TSC goes on over a move.
use Rattle.std.proofs.Common.{◌≡◌, ℕ, zero, suc, ◌+◌, ◌-◌, ◌*◌, ◌/◌, ◌%◌, ◌^◌, ◌<◌, ◌≤◌, length, ap, refl, subst, ◌∙◌, arith, inl, inr}
use Rattle.std.proofs.lemmas.Bool.{cases_lt}
use Rattle.std.proofs.lemmas.List.{length-set, get_or-set_same, get_or-set_other}
use Rattle.host_counter.specs.declared.Anchor.{Anchor}
use Rattle.tsc_scale.specs.declared.Tsc.{Tsc}
use Rattle.tsc_scale.specs.Ratio.{ratio_of}
use Rattle.tsc_scale.specs.Offset.{tsc_by}
use Rattle.board_types.specs.declared.parts.BoardParts.{BoardParts}
use Rattle.board_types.specs.declared.parts.ProcessorParts.{ProcessorParts}
use Rattle.board_core.specs.Tsc.{no_processor, processor_at, tsc_of, with_tsc, tsc_read}
use Rattle.board_core.specs.Pages.{published, published_at_host}
use Rattle.board_core.specs.Hv.{hv_published_at_host}
use Rattle.board_core.specs.Reanchor.{reanchored}
use Rattle.transfer.specs.Move.{tsc_after_gap, offset_for, tsc_moved, published_below, moved_to}

by_parts : (x v : ℕ) → v < 2 ^ 64 → (x + (v + (2 ^ 64 - (x + 0) % 2 ^ 64)) % 2 ^ 64) % 2 ^ 64 ≡ v
by_parts x v fits = omega arith

-- at its count a TSC reads what its offset was made for
tsc_by-offset_for : (v h ratio : ℕ) → v < 2 ^ 64 → tsc_by (offset_for v h ratio) h ratio ≡ v
unfolding tsc_by
tsc_by-offset_for v h ratio fits = let x : ℕ = h * ratio / 2 ^ 48 in by_parts x v fits

length-published_below : (b : BoardParts) (khz start gap n : ℕ) (m : BoardParts) → length (published_below b khz start gap n m).processors ≡ length m.processors
unfolding published_below published_at_host
length-published_below b khz start gap zero m = refl
length-published_below b khz start gap (suc n) m =
    length-set (published_below b khz start gap n m).processors n _ ∙ length-published_below b khz start gap n m

-- publishing keeps the anchor and the guest's rate
published_below-anchor : (b : BoardParts) (khz start gap n : ℕ) (m : BoardParts) → (published_below b khz start gap n m).anchor ≡ m.anchor
unfolding published_below published_at_host
published_below-anchor b khz start gap zero m = refl
published_below-anchor b khz start gap (suc n) m = published_below-anchor b khz start gap n m

published_below-guest_khz : (b : BoardParts) (khz start gap n : ℕ) (m : BoardParts) → (published_below b khz start gap n m).guest_khz ≡ m.guest_khz
unfolding published_below published_at_host
published_below-guest_khz b khz start gap zero m = refl
published_below-guest_khz b khz start gap (suc n) m = published_below-guest_khz b khz start gap n m

published-tsc : (anchor : Anchor) (guest_khz h flags : ℕ) (tsc : Tsc) (p : ProcessorParts) → tsc_of (published anchor guest_khz h flags (with_tsc tsc p)) ≡ tsc
unfolding published
published-tsc anchor guest_khz h flags tsc p = refl

-- the TSC of each processor that was published
tsc_of-published_below : (b : BoardParts) (khz start gap n : ℕ) (m : BoardParts) (k : ℕ) → n ≤ length m.processors → k < n
    → tsc_of (processor_at (published_below b khz start gap n m) k) ≡ tsc_moved b khz start gap k
unfolding published_below published_at_host
tsc_of-published_below b khz start gap zero m k few less = absurd (omega arith)
tsc_of-published_below b khz start gap (suc n) m k few less =
    let before : BoardParts = published_below b khz start gap n m in
    let tsc : Tsc = tsc_moved b khz start gap n in
    let new : ProcessorParts = published before.anchor before.guest_khz before.host 3 (with_tsc tsc (processor_at before n)) in
    elim (cases_lt k n) [
      | inl below ↦
          let other : k ≡ n → ⊥ = λ (e : k ≡ n). omega arith in
          ap tsc_of (get_or-set_other before.processors n k new no_processor other) ∙ tsc_of-published_below b khz start gap n m k (omega arith) below
      | inr above ↦
          let same : n ≡ k = omega arith in
          let there : n < length before.processors = omega (arith, length-published_below b khz start gap n m) in
          let here : tsc_of (processor_at (published_at_host n tsc 3 before) n) ≡ tsc =
          ap tsc_of (get_or-set_same before.processors n new no_processor there)
          ∙ published-tsc before.anchor before.guest_khz before.host 3 tsc (processor_at before n) in
          subst (λ (j : ℕ). tsc_of (processor_at (published_at_host n tsc 3 before) j) ≡ tsc_moved b khz start gap j) same here
    ]

-- the reference page leaves the clocks of the processors
hv-tsc : (b : BoardParts) (h k : ℕ)
    → tsc_read (hv_published_at_host b).anchor (hv_published_at_host b).guest_khz h (processor_at (hv_published_at_host b) k)
    ≡ tsc_read b.anchor b.guest_khz h (processor_at b k)
unfolding hv_published_at_host
hv-tsc b h k = refl

-- a TSC that is read at count `start` of the new host goes on from its value at the greatest count of the old one
pub tsc_read-moved_to : (b : BoardParts) (khz start gap k : ℕ) → b.cpus ≤ length b.processors → k < b.cpus
    → tsc_read (moved_to khz start gap b).anchor (moved_to khz start gap b).guest_khz start (processor_at (moved_to khz start gap b) k) ≡ tsc_after_gap b gap k
unfolding moved_to reanchored
tsc_read-moved_to b khz start gap k few less =
    let m : BoardParts = reanchored khz start gap b in
    let moved : BoardParts = published_below b khz start gap b.cpus m in
    let tsc = tsc_of-published_below b khz start gap b.cpus m k few less in
    hv-tsc moved start k
    ∙ ap (λ (a : Anchor). tsc_read a moved.guest_khz start (processor_at moved k)) (published_below-anchor b khz start gap b.cpus m)
    ∙ ap (λ (g : ℕ). tsc_read m.anchor g start (processor_at moved k)) (published_below-guest_khz b khz start gap b.cpus m)
    ∙ ap (λ (t : Tsc). tsc_by t.offset start (ratio_of b.guest_khz khz)) tsc
    ∙ tsc_by-offset_for (tsc_after_gap b gap k) start (ratio_of b.guest_khz khz) (omega arith)
