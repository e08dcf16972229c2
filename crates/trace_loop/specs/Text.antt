-- What is printed where a run over lines can't go on.
use Rattle.std.specs.Prelude.{ℕ, List, codes}

-- the source failed
unfoldable pub source_fault_text : List ℕ
source_fault_text = codes "fault source\n"

-- memory ran out
unfoldable pub memory_fault_text : List ℕ
memory_fault_text = codes "fault memory\n"
