-- The line of a soak.
use Rattle.std.specs.Prelude.{ℕ, List, [], ◌∷◌, codes, decimal}
use Rattle.reply_text.specs.Words.{line_of}

-- `soak RECORDS EDGES TIME GREATEST`
unfoldable pub soak_text : ℕ → ℕ → ℕ → ℕ → List ℕ
soak_text records edges time greatest =
    line_of (codes "soak")
    (decimal records ∷ decimal edges ∷ decimal time ∷ decimal greatest ∷ [])
