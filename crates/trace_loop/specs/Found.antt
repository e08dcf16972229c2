-- Where a reader's present line stops.
use Rattle.std.specs.Prelude.{◌≡◌, ℕ, ◌+◌, ◌<◌, ◌≤◌, List, ◌++◌, length, take, slice_index}
use Rattle.trace_loop.specs.Progress.{limit_of}
use Rattle.trace_loop.specs.Cut.{HasNoEnd}
use Rattle.trace_loop.specs.declared.lines.Found.{Found}
use Rattle.trace_loop.specs.declared.lines.Found.TheVariants.{End, Excess, Nothing}

-- where the present line stops in the bytes that are left: at its end, at one byte too many, or
-- not yet
abbrev pub IsFound : List ℕ → List ℕ → Found → Type 0
IsFound text left (End n) =
    (n < length left) × HasNoEnd (take n left) × (slice_index left n ≡ 10)
    × (length text + n ≤ limit_of (text ++ take n left))
IsFound text left (Excess n) =
    (n ≤ length left) × HasNoEnd (take n left)
    × (length text + n ≡ limit_of (text ++ take n left) + 1)
IsFound text left Nothing = HasNoEnd left × (length text + length left ≤ limit_of (text ++ left))
