-- Why an access is refused: what the board's meters refuse.
use Rattle.std.specs.Prelude.{ℕ, map, Option}
use Rattle.board_types.specs.declared.access.Access.{Access}
use Rattle.board_types.specs.declared.parts.BoardParts.{BoardParts}
use Rattle.board_types.specs.declared.reply.Refusal.{Refusal}
use Rattle.board_meters.specs.declared.meters.Meters.{Meters}
use Rattle.board_meters.specs.Meters.{refusal_in}

-- the meters of a board
unfoldable pub meters_of : BoardParts → Meters
meters_of b = record {
  format = b.format;
  cpus = b.cpus;
  anchor = b.anchor;
  host = b.host;
  accesses = b.accesses;
  wall_version = b.wall_version;
  hv_version = b.hv.version;
  versions = map (λ p. p.version) b.processors;
}

-- why an access at count h is refused
abbrev pub refusal_of : BoardParts → ℕ → ℕ → Access → Option Refusal
refusal_of b cpu h a = refusal_in (meters_of b) cpu h a
