-- Tables that pin the definitions.
use Rattle.std.proofs.Common.{◌≡◌, true, false, [], ◌∷◌, Some, None, refl}
use Rattle.irq_edges.specs.Lines.{line_numbers, changes, is_line, level_of}
use Rattle.irq_edges.specs.Rises.{rises_of}
use Rattle.irq_edges.specs.private.Rises.{down_at}

-- a rise and a fall at one time, in order of line numbers
rise_and_fall : changes 70 line_numbers (false ∷ true ∷ false ∷ true ∷ false ∷ false ∷ []) (true ∷ false ∷ false ∷ true ∷ false ∷ false ∷ [])
    ≡ record { at = 70; line = 0; up = true } ∷ record { at = 70; line = 8; up = false } ∷ []
rise_and_fall = refl

-- all six lines rise
all_rise : changes 1 line_numbers (false ∷ false ∷ false ∷ false ∷ false ∷ false ∷ []) (true ∷ true ∷ true ∷ true ∷ true ∷ true ∷ [])
    ≡ record { at = 1; line = 0; up = true } ∷ record { at = 1; line = 8; up = true } ∷ record { at = 1; line = 20; up = true }
    ∷ record { at = 1; line = 21; up = true } ∷ record { at = 1; line = 22; up = true } ∷ record { at = 1; line = 23; up = true } ∷ []
all_rise = refl

-- levels by line number: the last, the third, and that of no line, which is down
levels : level_of line_numbers (false ∷ false ∷ false ∷ false ∷ false ∷ true ∷ []) 23
    ∷ level_of line_numbers (false ∷ false ∷ true ∷ false ∷ false ∷ false ∷ []) 20
    ∷ level_of line_numbers (true ∷ true ∷ true ∷ true ∷ true ∷ true ∷ []) 1
    ∷ []
    ≡ true ∷ true ∷ false ∷ []
levels = refl

line_24_is_none : is_line 24 ≡ false
line_24_is_none = refl

-- two lines that rise at one time, one later, one before the stretch and one after it
two_at_a_time : rises_of line_numbers (Some 7 ∷ Some 12 ∷ None ∷ Some 12 ∷ Some 15 ∷ Some 99 ∷ []) 10 20
    ≡ record { at = 12; line = 8; up = true } ∷ record { at = 12; line = 21; up = true } ∷ record { at = 15; line = 22; up = true } ∷ []
unfolding rises_of
two_at_a_time = refl

-- the lines that are down
down_of : down_at 12 (Some 7 ∷ Some 12 ∷ None ∷ Some 13 ∷ []) ≡ 2
down_of = refl
