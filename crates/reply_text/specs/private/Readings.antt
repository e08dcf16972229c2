-- The last words of a clock reading's line.
use Rattle.std.specs.Prelude.{ℕ, List, ◌∷◌, ◌++◌, codes, decimal}
use Rattle.pvclock_page.specs.declared.page.ClockReply.{ClockReply}
use Rattle.pvclock_page.specs.declared.page.ClockReply.TheVariants.{Off as ClockOff, On as ClockOn}

-- what follows `LINE clock `
abbrev pub reading_text : ClockReply → List ℕ
reading_text ClockOff = codes "off"
reading_text (ClockOn reading clock) = decimal reading ++ 32 ∷ decimal clock
