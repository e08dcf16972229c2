-- The versions of a board's pages, as its meters have them.
use Rattle.std.proofs.Common.{◌≡◌, ℕ, ◌<◌, List, get_or, map, true, Option, Some, IfSome, refl, subst}
use Rattle.std.proofs.Math.ListN.{get_or-map}
use Rattle.board_types.specs.declared.access.Access.{Access}
use Rattle.board_types.specs.declared.parts.BoardParts.{BoardParts}
use Rattle.board_types.specs.declared.parts.ProcessorParts.{ProcessorParts}
use Rattle.board_types.specs.declared.parts.TheConstants.{LAST_VERSION}
use Rattle.board_meters.specs.Meters.{raised_in}
use Rattle.board_meters.specs.Published.{published_by, publishes_wall, publishes_hv}
use Rattle.board_meters.proofs.Taken.{raised_wall, raised_hv, raised_page}
use Rattle.board_core.specs.Refusals.{meters_of}
use Rattle.board_core.specs.Tsc.{no_processor, processor_at}

abbrev pub version : ProcessorParts → ℕ
version p = p.version

abbrev pub versions_of : BoardParts → List ℕ
versions_of b = map version b.processors

pub version_of : (ps : List ProcessorParts) (k : ℕ) → get_or (map version ps) k 0 ≡ (get_or ps k no_processor).version
version_of ps k = get_or-map version ps k no_processor

-- a version that is raised, by what is published
module _ (b : BoardParts) (cpu : ℕ) (a : Access) (fresh : IfSome (raised_in (meters_of b) cpu a) (λ n. n < LAST_VERSION)) where
  pub raised-wall : publishes_wall a ≡ true → b.wall_version < LAST_VERSION
  unfolding meters_of
  raised-wall = raised_wall (meters_of b) cpu a fresh

  pub raised-hv : publishes_hv a ≡ true → b.hv.version < LAST_VERSION
  unfolding meters_of
  raised-hv = raised_hv (meters_of b) cpu a fresh

  pub raised-page : (k : ℕ) → published_by cpu a ≡ Some k → (processor_at b k).version < LAST_VERSION
  unfolding meters_of
  raised-page k some = subst (λ (n : ℕ). n < LAST_VERSION) (version_of b.processors k) (raised_page (meters_of b) cpu a fresh k some)

  pub raised-pages : IfSome (published_by cpu a) (λ k. (processor_at b k).version < LAST_VERSION)
  raised-pages = by (published_by cpu a) (λ k e. raised-page k e)
    where
      by : (o : Option ℕ) → ((k : ℕ) → o ≡ Some k → (processor_at b k).version < LAST_VERSION) → IfSome o (λ k. (processor_at b k).version < LAST_VERSION)
      by (Some k) each = each k refl
      by _ each = tt
