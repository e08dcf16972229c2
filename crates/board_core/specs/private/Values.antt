-- The value of an access in two halves: what the devices gave, and what the board itself reads.
use Rattle.std.specs.Prelude.{ℕ}
use Rattle.irq_edges.specs.Lines.{line_numbers}
use Rattle.board_types.specs.declared.access.Access.{Access}
use Rattle.board_types.specs.declared.access.Access.TheVariants.{
  PortIn,
  HpetRead,
  MsrRead,
  Wall,
  CountsOf,
  Next,
  Rose,
}
use Rattle.board_types.specs.declared.parts.BoardParts.{BoardParts}
use Rattle.board_types.specs.declared.reply.Value.{Value}
use Rattle.board_types.specs.declared.reply.Value.TheVariants.{
  Nothing,
  Byte,
  Word,
  Counts,
  Next as NextEdge,
}
use Rattle.board_core.specs.Time.{devices_in, now_of}
use Rattle.board_core.specs.Tsc.{msr_read}
use Rattle.board_core.specs.Wall.{wall_words}
use Rattle.board_core.specs.Next.{next_of}
use Rattle.board_core.specs.Rises.{count_at}
use Rattle.board_core.specs.Access.{counts_of}

-- what an access reads that asks nothing of the devices
abbrev pub told : BoardParts → ℕ → ℕ → Access → Value
told b cpu h (MsrRead msr) = Word 8 (msr_read b cpu h msr)
told b cpu h Wall = wall_words b
told b cpu h (CountsOf from) = Counts (counts_of b.ticks b.apic_ticks from)
told b cpu h Next = NextEdge (next_of (now_of b) (devices_in b))
told b cpu h (Rose line) = Word 8 (count_at line_numbers b.rises line)
told b cpu h _ = Nothing

-- the value, by the word that the devices gave
abbrev pub value_with : Access → ℕ → Value → Value
value_with (PortIn port) word told = Byte word
value_with (HpetRead offset width) word told = Word width word
value_with _ word told = told
