-- The meters of a board after a move.
use Rattle.std.proofs.Common.{◌≡◌, ℕ, zero, suc, ◌+◌, leb, List, set, Some, refl, sym, ap, ◌∙◌, cond, if◌then◌else◌}
use Rattle.std.proofs.lemmas.List.{map-set}
use Rattle.host_counter.specs.declared.Anchor.{Anchor}
use Rattle.tsc_scale.specs.declared.Tsc.{Tsc}
use Rattle.board_types.specs.declared.parts.BoardParts.{BoardParts}
use Rattle.board_types.specs.declared.setup.TheConstants.{HV_FORMAT}
use Rattle.board_meters.specs.Meters.{raised_at, raised_below, moved_in}
use Rattle.board_core.specs.Hv.{hv_published_at_host}
use Rattle.board_core.specs.Pages.{published, published_at_host}
use Rattle.board_core.specs.Reanchor.{reanchored}
use Rattle.board_core.specs.Refusals.{meters_of}
use Rattle.board_core.specs.Time.{now_of}
use Rattle.board_core.specs.Tsc.{processor_at, with_tsc}
use Rattle.board_core.proofs.Metered.{version, versions_of, version_of}
use Rattle.transfer.specs.Move.{tsc_moved, published_below, moved_to}
use Rattle.transfer.proofs.Publishing.{published_below-hv, reanchored-hv, hv-version}

-- what pages that are published at the host's count leave as it was
abbrev rest_of : BoardParts → ℕ × ℕ × Anchor × ℕ × ℕ × ℕ
rest_of m = (m.format, m.cpus, m.anchor, m.host, m.accesses, m.wall_version)

published_rest : (b : BoardParts) (khz start gap n : ℕ) (m : BoardParts) → rest_of (published_below b khz start gap n m) ≡ rest_of m
unfolding published_below published_at_host
published_rest b khz start gap zero m = refl
published_rest b khz start gap (suc n) m = published_rest b khz start gap n m

versions-below : (b : BoardParts) (khz start gap n : ℕ) (m : BoardParts) → versions_of (published_below b khz start gap n m) ≡ raised_below n (versions_of m)
unfolding raised_below published_below published_at_host published
versions-below b khz start gap zero m = refl
versions-below b khz start gap (suc n) m =
    let m' : BoardParts = published_below b khz start gap n m in
    let tsc : Tsc = tsc_moved b khz start gap n in
    map-set version m'.processors n (published m'.anchor m'.guest_khz m'.host 3 (with_tsc tsc (processor_at m' n)))
    ∙ ap (λ (v : ℕ). set (versions_of m') n (v + 2)) (sym (version_of m'.processors n))
    ∙ ap (λ (vs : List ℕ). raised_at (Some n) vs) (versions-below b khz start gap n m)

module _ (khz start gap : ℕ) (b : BoardParts) where
  abbrev there : BoardParts
  there = reanchored khz start gap b

  rest : rest_of (moved_to khz start gap b) ≡ (b.format, b.cpus, record { khz = khz; start = start; base_ns = now_of b + gap }, start, b.accesses, b.wall_version)
  unfolding moved_to hv_published_at_host reanchored
  rest = published_rest b khz start gap b.cpus there

  versions : versions_of (moved_to khz start gap b) ≡ raised_below b.cpus (versions_of b)
  unfolding moved_to hv_published_at_host reanchored
  versions = versions-below b khz start gap b.cpus there

  format_stays : (published_below b khz start gap b.cpus there).format ≡ b.format
  unfolding reanchored
  format_stays = λ i. (published_rest b khz start gap b.cpus there i).0

  -- the reference page gets its next version, where the format has one
  hv : (moved_to khz start gap b).hv.version ≡ (if leb HV_FORMAT b.format then b.hv.version + 2 else b.hv.version)
  unfolding moved_to
  hv =
      let m : BoardParts = published_below b khz start gap b.cpus there in
      let page : m.hv ≡ b.hv = published_below-hv b khz start gap b.cpus there ∙ reanchored-hv khz start gap b in
      hv-version m ∙ (λ i. cond (leb HV_FORMAT (format_stays i)) ((page i).version + 2) (page i).version)

  pub meters_of-moved : meters_of (moved_to khz start gap b) ≡ moved_in khz start gap (meters_of b)
  unfolding meters_of
  meters_of-moved = λ i. record {
    format = (rest i).0;
    cpus = (rest i).1;
    anchor = (rest i).2;
    host = (rest i).3;
    accesses = (rest i).4;
    wall_version = (rest i).5;
    hv_version = hv i;
    versions = versions i;
  }
