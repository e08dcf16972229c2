-- The first fault of bytes (own): the first field that isn't wholly there, or whose condition fails,
-- or bytes after the last one.
use Rattle.std.specs.Prelude.{ℕ, nat_lt, if◌then◌else◌, List, length, Option, Some, None}
use Rattle.std.specs.Option.{option_or}
use Rattle.byte_table.specs.Fold.{size_of, fault_in}
use Rattle.save_state.specs.declared.fault.StateFault.{StateFault}
use Rattle.save_state.specs.declared.fault.StateKind.TheVariants.{Trailing}
use Rattle.save_state.specs.Reading.{fields_in, board_in}

-- bytes after the last field
abbrev pub trailing : ℕ → List ℕ → Option StateFault
trailing wanted bytes =
    if nat_lt wanted (length bytes) then Some (record { place = wanted; kind = Trailing }) else None

-- the first fault of bytes, or None
unfoldable pub fault_of : List ℕ → Option StateFault
fault_of bytes =
    option_or (fault_in (fields_in bytes) (board_in bytes) (board_in bytes) 0 bytes)
    (trailing (size_of (fields_in bytes)) bytes)
