-- A port as a byte, for the bodies alone: 0, which is none of the board's, stands for a wider one.
use Rattle.std.specs.Prelude.{ℕ, nat_le, if◌then◌else◌}

abbrev pub narrowed : ℕ → ℕ
narrowed port = if nat_le port 0xff then port else 0
