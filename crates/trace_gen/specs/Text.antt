-- The text of a generated trace.
use Rattle.std.specs.Char.{digit_char}
use Rattle.std.specs.Prelude.{
  ℕ,
  zero,
  suc,
  ◌+◌,
  ◌-◌,
  ◌/◌,
  ◌%◌,
  ◌==◌,
  if◌then◌else◌,
  List,
  [],
  ◌∷◌,
  ◌++◌,
  codes,
  decimal,
}
use Rattle.trace_gen.specs.Draws.{at_key, drawn, kind_of, byte_of}
use Rattle.trace_gen.specs.declared.draws.Draws.{Draws}

-- BB: a byte as two hexadecimal digits
abbrev pub two_digits : ℕ → List ℕ
two_digits b = digit_char (b / 16) ∷ digit_char (b % 16) ∷ []

-- the words of a record after its counter, by its kind and its byte
unfoldable pub act_text : ℕ → ℕ → List ℕ
act_text kind b =
    if kind == 0 then codes "step"
    else if kind == 1 then codes "out 43 " ++ two_digits b
    else if kind == 2 then codes "out 40 " ++ two_digits b
    else if kind == 3 then codes "in 40"
    else if kind == 4 then codes "out 42 " ++ two_digits b
    else if kind == 5 then codes "out 61 " ++ two_digits b
    else if kind == 6 then codes "in 61"
    else if kind == 7 then codes "out 70 " ++ two_digits b
    else if kind == 8 then codes "out 71 " ++ two_digits b
    else if kind == 9 then codes "in 71"
    else if kind == 10 then codes "hr f0 8"
    else if kind == 11 then codes "hw 108 8 " ++ two_digits b
    else if kind == 12 then codes "ack 0"
    else if kind == 13 then codes "ack 8"
    else if kind == 14 then codes "clock 0"
    else codes "refresh 0"

-- the line of record `made`, counted from 1: it is by the processors in turn
unfoldable pub record_text : ℕ → Draws → List ℕ
record_text cpus d =
    decimal ((d.made - 1) % cpus)
    ++ 32 ∷ (decimal d.h ++ 32 ∷ (act_text (kind_of d.state) (byte_of d.state) ++ 10 ∷ []))

-- so many records after those made
unfoldable pub records_text : ℕ → ℕ → Draws → List ℕ
records_text zero cpus d = []
records_text (suc count) cpus d =
    record_text cpus (drawn d) ++ records_text count cpus (drawn d)

-- the page of a processor is switched on
unfoldable pub enable_text : ℕ → List ℕ
enable_text cpu = decimal cpu ++ codes " 0 wrmsr 4b564d01 1\n"

-- and those of so many processors from one on
unfoldable pub enables_text : ℕ → ℕ → List ℕ
enables_text zero cpu = []
enables_text (suc count) cpu = enable_text cpu ++ enables_text count (cpu + 1)

-- the header
unfoldable pub header_text : ℕ → List ℕ
header_text cpus =
    codes "clockboard 1\nguest 2000000\ncpus " ++ (decimal cpus ++ codes "\nbegin\n")

-- the whole trace, by its key, the number of its records, and the number of its processors: the
-- pages are switched on, and the HPET is started, before the records
unfoldable pub gen_text : ℕ → ℕ → ℕ → List ℕ
gen_text key records cpus =
    header_text cpus
    ++ (enables_text cpus 0
    ++ (codes "0 0 hw 10 4 1\n" ++ (records_text records cpus (at_key key) ++ codes "end\n")))
