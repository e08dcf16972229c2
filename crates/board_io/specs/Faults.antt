-- Counts of faults, and the bytes that a source has given.
use Rattle.std.specs.Prelude.{◌≡◌, ℕ, ◌+◌, ◌<◌, ◌==◌, Bool, true, Result, Ok, Err, if◌then◌else◌}
use Rattle.std.specs.Prelude.{MatchResult}

-- a count of faults rose in a call
abbrev pub Rose : ℕ → ℕ → Type 0
Rose old new = old < new

-- the most bytes that a source gives, 2^62
abbrev pub most_given : ℕ
most_given = 4611686018427387904

-- what a call gave is added to the bytes given so far, and a call that failed gave none
abbrev pub AddsGiven : {E : Type 0} → ℕ → ℕ → Result ℕ E → Type 0
AddsGiven old new r = MatchResult r (λ n. new ≡ old + n) (λ _. new ≡ old)

-- a call gave nothing: it failed, or it was at the end
abbrev pub gave_nothing : {E : Type 0} → Result ℕ E → Bool
gave_nothing (Ok n) = n == 0
gave_nothing (Err e) = true

-- a call that gave no byte and didn't fail was at the end of the input, and counts
abbrev pub CountsEnds : {E : Type 0} → ℕ → ℕ → Result ℕ E → Type 0
CountsEnds old new r = MatchResult r (λ n. new ≡ (if n == 0 then old + 1 else old)) (λ _. new ≡ old)
