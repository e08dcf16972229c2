-- What a monitor reads of a board without an access.
use Rattle.std.specs.Prelude.{
  ℕ,
  ◌+◌,
  ◌^◌,
  ◌==◌,
  nat_lt,
  Bool,
  if◌then◌else◌,
  List,
  [],
  ◌∷◌,
}
use Rattle.irq_edges.specs.Lines.{line_numbers}
use Rattle.tsc_scale.specs.Ratio.{ratio_of}
use Rattle.board_types.specs.declared.parts.BoardParts.{BoardParts}
use Rattle.board_devices.specs.Lines.{levels}
use Rattle.board_core.specs.Time.{devices_in, now_of}
use Rattle.board_core.specs.Tsc.{processor_at}
use Rattle.clockboard_c.specs.Kept.{CallerBoard}
use Rattle.clockboard_c.specs.declared.board.TheConstants.{SEAL}
use Rattle.clockboard_c.specs.declared.code.TheConstants.{OK, NO_BOARD, NO_PROCESSOR}
use Rattle.clockboard_c.specs.declared.look.ViewWords.{ViewWords}
use Rattle.clockboard_c.specs.declared.look.TscWords.{TscWords}

-- the bit of a line that is up, and else 0
abbrev pub bit_if : Bool → ℕ → ℕ
bit_if up line = if up then 2 ^ line else 0

-- the bits of the lines that are up, by their numbers
abbrev pub lines_word : List ℕ → List Bool → ℕ
lines_word [] levels = 0
lines_word (n ∷ ns) [] = 0
lines_word (n ∷ ns) (up ∷ levels) = bit_if up n + lines_word ns levels

-- a board at a glance
abbrev pub view_words : BoardParts → ViewWords
view_words s = record {
  now_ns = now_of s;
  accesses = s.accesses;
  greatest_ns = s.greatest;
  lines = lines_word line_numbers (levels (devices_in s));
  format = s.format;
  cpus = s.cpus;
}

-- the view, or what the memory held before
abbrev pub view_in_memory : CallerBoard → ViewWords → ViewWords
view_in_memory b before = if b.seal == SEAL then view_words b.state else before

-- the code of a question about a processor
abbrev pub processor_code : CallerBoard → ℕ → ℕ
processor_code b cpu =
    if b.seal == SEAL then (if nat_lt cpu b.state.cpus then OK else NO_PROCESSOR) else NO_BOARD

-- the numbers of a processor's TSC: its offset, and the ratio of the rates
abbrev pub tsc_words : BoardParts → ℕ → TscWords
tsc_words s cpu = record {
  offset = (processor_at s cpu).offset;
  ratio = ratio_of s.guest_khz s.anchor.khz;
  khz = s.guest_khz;
}

-- these numbers, or what the memory held before
abbrev pub tsc_in_memory : CallerBoard → ℕ → TscWords → TscWords
tsc_in_memory b cpu before =
    if processor_code b cpu == OK then tsc_words b.state cpu else before
