-- The pseudo-random numbers, and what a record takes from them.
use Rattle.std.specs.Prelude.{ℕ, ◌+◌, ◌*◌, ◌/◌, ◌%◌, ◌^◌}
use Rattle.trace_gen.specs.declared.draws.Draws.{Draws}

-- the number after another: Knuth's generator for MMIX (The Art of Computer Programming, volume 2, section 3.3.4)
unfoldable pub next_state : ℕ → ℕ
next_state x = (x * 6364136223846793005 + 1442695040888963407) % 2 ^ 64

-- what of a number is used: its upper 31 bits
abbrev pub value_of : ℕ → ℕ
value_of x = x / 2 ^ 33

-- before the first record: the number is the key, the counter 0
abbrev pub at_key : ℕ → Draws
at_key key = record { state = key; h = 0; made = 0 }

-- at the next record: the counter grows by less than 100,000 ns
abbrev pub drawn : Draws → Draws
drawn d = record {
  state = next_state d.state;
  h = d.h + value_of (next_state d.state) % 100000;
  made = d.made + 1;
}

-- the kind of a number's record
abbrev pub kind_of : ℕ → ℕ
kind_of x = value_of x / 100000 % 16

-- the byte that the record writes
abbrev pub byte_of : ℕ → ℕ
byte_of x = value_of x / 1600000 % 256
