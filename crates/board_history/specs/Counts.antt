-- Why meters refuse.
use Rattle.std.specs.Prelude.{◌≡◌, ◌⊎◌, ℕ, ◌≤◌, true, Some, slice_index_or}
use Rattle.board_types.specs.declared.access.Access.{Access}
use Rattle.board_types.specs.declared.parts.TheConstants.{LAST_VERSION}
use Rattle.board_meters.specs.declared.meters.Meters.{Meters}
use Rattle.board_meters.specs.Published.{published_by, publishes_wall, publishes_hv}

-- an access would publish the words of the wall clock, a page, or the reference page, whose version
-- is the last one
abbrev pub IsAtLastVersion : Meters → ℕ → Access → Type 0
IsAtLastVersion m cpu a =
    ((publishes_wall a ≡ true) × (LAST_VERSION ≤ m.wall_version))
    ⊎ (((k : ℕ) × (published_by cpu a ≡ Some k) × (LAST_VERSION ≤ slice_index_or m.versions k 0))
    ⊎ ((publishes_hv a ≡ true) × (LAST_VERSION ≤ m.hv_version)))
