-- The two fields of a saved state that tell which fields it has.
use Rattle.std.specs.Prelude.{ℕ, List}
use Rattle.byte_table.specs.Codes.{number_at}

-- the format, which is the version of the saved state
abbrev pub format_in : List ℕ → ℕ
format_in bytes = number_at 2 8 bytes

-- how many processors there are
abbrev pub cpus_in : List ℕ → ℕ
cpus_in bytes = number_at 2 10 bytes
