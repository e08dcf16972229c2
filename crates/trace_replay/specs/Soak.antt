-- A soak: a generated trace is replayed, and what is printed is a sum.
use Rattle.std.specs.List.{filter, slice_split}
use Rattle.board_io.specs.Ends.{Held}
use Rattle.std.specs.Prelude.{
  ℕ,
  ◌+◌,
  ◌==◌,
  min,
  Bool,
  false,
  List,
  [],
  length,
  take,
  codes,
}
use Rattle.std.specs.Str.{bytes_eq}
use Rattle.board_core.specs.Time.{now_of}
use Rattle.command_line.specs.declared.command.Size.{Size}
use Rattle.reply_text.specs.Soak.{soak_text}
use Rattle.trace_gen.specs.Text.{gen_text}
use Rattle.trace_loop.specs.Progress.{Closing, Answer, Goes, Ends, opened, after_bytes, finished}
use Rattle.trace_replay.specs.Ready.{IsReady}
use Rattle.trace_replay.specs.Replay.{at_start, answer_of, closing_of}
use Rattle.trace_replay.specs.declared.replay.Replay.{Replay}
use Rattle.trace_replay.specs.declared.soak.Soak.{Soak}
use Rattle.trace_replay.specs.Said.{SaidAtMost}
use Rattle.trace_replay.specs.Status.{verdict_status}
use Rattle.trace_replay.specs.declared.status.Status.{Status}
use Rattle.trace_replay.specs.declared.status.Verdict.{Verdict}
use Rattle.trace_replay.specs.declared.status.Verdict.TheVariants.{Done, Stopped}

-- whether a printed line is that of an edge
abbrev pub is_edge : List ℕ → Bool
is_edge line = bytes_eq (take 5 line) (codes "edge ")

-- how many printed lines are
unfoldable pub edges_in : List ℕ → ℕ
edges_in text = length (filter is_edge (slice_split (λ b. b == 10) text))

-- what the end of the trace prints, where its replay prints this text: the sum where it was read to its
-- end, and why it is refused where it is
abbrev pub sum_or : List ℕ → Verdict → List ℕ → List ℕ
sum_or text Done sum = sum
sum_or text (Stopped line why) sum = text

-- a line does what it does to the replay; of its block the edges are counted (a count that rises
-- no more at its type's end), and nothing is printed before the end
abbrev pub soaked : Answer Replay Verdict → Soak → Answer Soak Verdict
soaked (Goes block r) s = Goes [] (record s {
  replay = r;
  edges = min (s.edges + edges_in block) 18446744073709551615;
})
soaked (Ends closing) s =
    let sum = soak_text s.records s.edges (now_of s.replay.board) s.replay.board.greatest in
    Ends (record { text = sum_or closing.text closing.end sum; end = closing.end })

-- what a line does to a soak
unfoldable pub soak_answer : ℕ → Soak → List ℕ → Answer Soak Verdict
soak_answer line s text = soaked (answer_of line s.replay text) s

-- the end of the input, where the trace has not ended
abbrev pub soak_closing : ℕ → Soak → Closing Verdict
soak_closing line s = closing_of line s.replay

-- what a soak prints for the generated trace of this size, and how it ends
unfoldable pub soak_of : Size → Closing Verdict
soak_of size =
    finished soak_answer soak_closing
    (after_bytes soak_answer (gen_text size.key size.records size.cpus)
    (opened (record { replay = at_start false; records = size.records; edges = 0 })))

-- what a soak leaves: all of that, with its status; or memory ran out, and only that is printed
abbrev pub Soaked : Closing Verdict → Status → Held → Held → Type 0 → Type 0
Soaked closing result old new shown =
    SaidAtMost (verdict_status closing.end) result old new closing.text shown

-- what is true before each line
abbrev pub IsSoakReady : ℕ → Soak → Type 0
IsSoakReady line s = IsReady line s.replay
