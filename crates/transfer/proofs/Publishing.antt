-- What a refusal rules out, and what stays while page after page is published.
use Rattle.std.proofs.Common.{◌≡◌, ℕ, zero, suc, ◌+◌, ◌<◌, ◌≤◌, Bool, true, false, cond, add-one, None, refl, ap, sym, subst, ◌∙◌, arith, leb, if◌then◌else◌}
use Rattle.std.proofs.lemmas.List.{get_or-set_other}
use Rattle.board_types.specs.declared.parts.BoardParts.{BoardParts}
use Rattle.board_types.specs.declared.parts.ProcessorParts.{ProcessorParts}
use Rattle.board_types.specs.declared.parts.TheConstants.{LAST_VERSION}
use Rattle.board_types.specs.declared.setup.TheConstants.{HV_FORMAT}
use Rattle.clk_units.specs.Bits.{bit}
use Rattle.clk_units.specs.declared.ranges.TheConstants.{RANGE_NS}
use Rattle.host_counter.specs.Time.{time_at}
use Rattle.hv_page.specs.Page.{published, withdrawn}
use Rattle.tsc_scale.specs.declared.Tsc.{Tsc}
use Rattle.board_core.specs.Time.{now_of}
use Rattle.board_core.specs.Tsc.{no_processor, processor_at, tsc_read}
use Rattle.board_core.specs.Hv.{hv_in, with_page, hv_published, hv_published_at_host}
use Rattle.board_core.specs.Pages.{published_at_host}
use Rattle.board_core.specs.Reanchor.{reanchored}
use Rattle.board_meters.specs.declared.meters.Meters.{Meters}
use Rattle.board_meters.proofs.Moves.{spent_in-none, move_fault-none as none_in}
use Rattle.board_core.specs.Refusals.{meters_of}
use Rattle.board_core.proofs.Metered.{version_of}
use Rattle.transfer.specs.Move.{published_below, tsc_moved, move_fault}

-- publishing keeps how many processors there are
pub published_below-cpus : (b : BoardParts) (khz start gap n : ℕ) (m : BoardParts) → (published_below b khz start gap n m).cpus ≡ m.cpus
unfolding published_below published_at_host
published_below-cpus b khz start gap zero m = refl
published_below-cpus b khz start gap (suc n) m = published_below-cpus b khz start gap n m

-- and the processors from n on
pub published_below-later : (b : BoardParts) (khz start gap n : ℕ) (m : BoardParts) (k : ℕ) → n ≤ k
    → processor_at (published_below b khz start gap n m) k ≡ processor_at m k
unfolding published_below published_at_host
published_below-later b khz start gap zero m k le = refl
published_below-later b khz start gap (suc n) m k le =
    let other : k ≡ n → ⊥ = λ (e : k ≡ n). omega arith in
    get_or-set_other (published_below b khz start gap n m).processors n k _ no_processor other
    ∙ published_below-later b khz start gap n m k (omega arith)

-- a new anchor keeps the processors
pub reanchored-cpus : (khz start gap : ℕ) (b : BoardParts) → (reanchored khz start gap b).cpus ≡ b.cpus
unfolding reanchored
reanchored-cpus khz start gap b = refl

pub reanchored-processor : (khz start gap : ℕ) (b : BoardParts) (k : ℕ) → processor_at (reanchored khz start gap b) k ≡ processor_at b k
unfolding reanchored
reanchored-processor khz start gap b k = refl

-- a new anchor and the pages of the processors leave the reference page
pub published_below-hv : (b : BoardParts) (khz start gap n : ℕ) (m : BoardParts) → (published_below b khz start gap n m).hv ≡ m.hv
unfolding published_below published_at_host
published_below-hv b khz start gap zero m = refl
published_below-hv b khz start gap (suc n) m = published_below-hv b khz start gap n m

pub reanchored-hv : (khz start gap : ℕ) (b : BoardParts) → (reanchored khz start gap b).hv ≡ b.hv
unfolding reanchored
reanchored-hv khz start gap b = refl

-- and the reference page, written or not, gets its next version where the format has one
pub hv-version : (b : BoardParts) → (hv_published_at_host b).hv.version ≡ (if leb HV_FORMAT b.format then b.hv.version + 2 else b.hv.version)
unfolding hv_published_at_host hv_published
hv-version b = by (leb HV_FORMAT b.format) (bit 0 b.hv.number)
  where
    writer : ProcessorParts
    writer = processor_at b b.hv.cpu

    by : (t u : Bool) → (cond t (with_page b.hv (cond u (published (hv_in b.hv) b.guest_khz writer.offset (tsc_read b.anchor b.guest_khz b.host writer)
        (time_at b.anchor b.host)) (withdrawn (hv_in b.hv)))) b.hv).version ≡ cond t (b.hv.version + 2) b.hv.version
    by true true = refl
    by true false = refl
    by false u = refl

-- what no refusal means
pub move_fault-none : (gap : ℕ) (b : BoardParts) → move_fault gap b ≡ None
    → (now_of b + gap < RANGE_NS) × ((k : ℕ) → k < b.cpus → (processor_at b k).version < LAST_VERSION) × (b.hv.version < LAST_VERSION)
unfolding meters_of
move_fault-none gap b e =
    let m : Meters = meters_of b in
    let none = none_in gap m e in
    (none.0, (λ k less. subst (λ (n : ℕ). n < LAST_VERSION) (version_of b.processors k) (spent_in-none m.versions m.cpus none.1 k less)), none.2)

-- while pages below n are published, the processors that are left have pages that can be
module _ (b : BoardParts) (khz start gap : ℕ) (m board : BoardParts) (n : ℕ) (at_first : m ≡ reanchored khz start gap b)
    (so_far : board ≡ published_below b khz start gap n m) where
  pub is_there : n < b.cpus → n < board.cpus
  is_there less =
      let same : board.cpus ≡ b.cpus =
      ap (λ (x : BoardParts). x.cpus) so_far ∙ published_below-cpus b khz start gap n m ∙ ap (λ (x : BoardParts). x.cpus) at_first
      ∙ reanchored-cpus khz start gap b in
      subst (λ (c : ℕ). n < c) (sym same) less

  pub is_fresh : ((k : ℕ) → k < b.cpus → (processor_at b k).version < LAST_VERSION) → n < b.cpus → (processor_at board n).version < LAST_VERSION
  is_fresh none less =
      let same : processor_at board n ≡ processor_at b n =
      ap (λ (x : BoardParts). processor_at x n) so_far ∙ published_below-later b khz start gap n m n (omega arith)
      ∙ ap (λ (x : BoardParts). processor_at x n) at_first
      ∙ reanchored-processor khz start gap b n in
      subst (λ (p : ProcessorParts). p.version < LAST_VERSION) (sym same) (none n less)

  pub one_more : (new : BoardParts) (tsc : Tsc) → new ≡ published_at_host n tsc 3 board → tsc ≡ tsc_moved b khz start gap n
      → new ≡ published_below b khz start gap (n + 1) m
  unfolding published_below
  one_more new tsc is tsc_is =
      rw add-one
      (is ∙ ap (λ (t : Tsc). published_at_host n t 3 board) tsc_is
      ∙ ap (λ (x : BoardParts). published_at_host n (tsc_moved b khz start gap n) 3 x) so_far)
