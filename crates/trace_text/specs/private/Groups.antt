-- The first byte of the next word.
use Rattle.std.specs.Prelude.{ℕ, ◌≡◌, ◌≢◌, false, List, ◌∷◌}
use Rattle.trace_text.specs.Tokens.{starts}

-- no word that begins with another byte comes first
abbrev pub IsInitial : ℕ → List (List ℕ) → Type 0
IsInitial b ws = (n : ℕ) (ns : List ℕ) → n ≢ b → starts (n ∷ ns) ws ≡ false
