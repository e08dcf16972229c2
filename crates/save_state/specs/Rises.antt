-- Whether the counts of rises aren't too great: a line has at most one rise an access, and one more
-- while it is up.
use Rattle.std.specs.Prelude.{ℕ, ◌+◌, nat_le, Bool, false, ◌&&◌, slice_index_or}
use Rattle.board_types.specs.declared.parts.BoardParts.{BoardParts}
use Rattle.board_devices.specs.Lines.{levels}
use Rattle.board_devices.specs.Rises.{one_if}
use Rattle.board_core.specs.Time.{devices_in}

-- that of the line at place k
abbrev pub rise_valid : BoardParts → ℕ → Bool
rise_valid b k =
    nat_le (slice_index_or b.rises k 0)
    (b.accesses + one_if (slice_index_or (levels (devices_in b)) k false))

-- whether the counts of lines 0 and 8 aren't too great
abbrev pub legacy_rises_valid : BoardParts → Bool
legacy_rises_valid b = rise_valid b 0 && rise_valid b 1

-- the same of lines 20 to 23, which timers that send messages leave low
abbrev pub routed_rises_valid : BoardParts → Bool
routed_rises_valid b = rise_valid b 2 && rise_valid b 3 && rise_valid b 4 && rise_valid b 5
