-- What a call answers, as plain numbers.
use Rattle.std.specs.Prelude.{
  ◌≡◌,
  ℕ,
  ◌<◌,
  ◌≤◌,
  false,
  if◌then◌else◌,
  List,
  [],
  ◌∷◌,
  length,
  slice_index_or,
  Some,
  None,
}
use Rattle.irq_edges.specs.declared.bursts.Burst.{Burst}
use Rattle.irq_edges.specs.declared.edges.Edge.{Edge}
use Rattle.board_types.specs.declared.reply.Reply.{Reply}
use Rattle.board_types.specs.declared.reply.Value.{Value}
use Rattle.board_types.specs.declared.reply.Value.TheVariants.{
  Nothing,
  Byte,
  Word,
  Counts,
  Wall,
  Next,
}
use Rattle.clockboard_c.specs.declared.code.TheConstants.{OK}
use Rattle.clockboard_c.specs.declared.reply.BurstWords.{BurstWords}
use Rattle.clockboard_c.specs.declared.reply.EdgeWords.{EdgeWords}
use Rattle.clockboard_c.specs.declared.reply.ReplyWords.{ReplyWords}

-- what a call answers: its code, the number of the access, the board's time, four numbers, the edges,
-- and the bursts of messages
pub record Told : Type 0 where
  pub code : ℕ
  pub number : ℕ
  pub now : ℕ
  pub value : List ℕ
  pub edges : List Edge
  pub bursts : List Burst

-- where nothing is read
abbrev pub no_value : List ℕ
no_value = 0 ∷ 0 ∷ 0 ∷ 0 ∷ []

-- a call that brings neither an edge nor a message
abbrev pub without_edges : ℕ → ℕ → ℕ → List ℕ → Told
without_edges code number now value = record {
  code = code;
  number = number;
  now = now;
  value = value;
  edges = [];
  bursts = [];
}

-- a call that is refused, and with it four numbers
abbrev pub refused_at : ℕ → List ℕ → Told
refused_at code value = without_edges code 0 0 value

abbrev pub refused : ℕ → Told
refused code = refused_at code no_value

-- a call that is taken
abbrev pub taken : ℕ → ℕ → List ℕ → List Edge → List Burst → Told
taken number now value edges bursts = record {
  code = OK;
  number = number;
  now = now;
  value = value;
  edges = edges;
  bursts = bursts;
}

-- the numbers of a value: of ticks those that were due, that rose, that wait, and that are lost; of
-- the wall clock version, seconds and nanoseconds; of the next edge its time, and 1
abbrev pub value_words : Value → List ℕ
value_words Nothing = no_value
value_words (Byte byte) = byte ∷ 0 ∷ 0 ∷ 0 ∷ []
value_words (Word width value) = value ∷ 0 ∷ 0 ∷ 0 ∷ []
value_words (Counts c) = c.due ∷ c.rises ∷ c.queue ∷ c.lost ∷ []
value_words (Wall version sec nsec) = version ∷ sec ∷ nsec ∷ 0 ∷ []
value_words (Next (Some at)) = at ∷ 1 ∷ 0 ∷ 0 ∷ []
value_words (Next None) = no_value

-- what is told of an answer of the board's that left it at a time
abbrev pub told_of : Reply → ℕ → Told
told_of r now = taken r.number now (value_words r.value) r.edges r.bursts

-- an edge, and what stands for the place of none
abbrev pub edge_words : Edge → EdgeWords
edge_words e = record { at_ns = e.at; line = e.line; up = if e.up then 1 else 0 }

abbrev pub no_edge : Edge
no_edge = record { at = 0; line = 0; up = false }

-- the edges are at the front of the places
abbrev pub EdgesAre : List EdgeWords → List Edge → Type 0
EdgesAre places es =
    (k : ℕ) → k < length es
    → slice_index_or places k (edge_words no_edge) ≡ edge_words (slice_index_or es k no_edge)

-- the places from one on hold what they held
abbrev pub AreKept : {W : Type 0} → W → ℕ → List W → List W → Type 0
AreKept none from old new =
    (k : ℕ) → from ≤ k → slice_index_or new k none ≡ slice_index_or old k none

-- a burst of messages, and what stands for the place of none
abbrev pub burst_words : Burst → BurstWords
burst_words b = record {
  first_ns = b.first;
  count = b.count;
  every_ns = b.every;
  address = b.address;
  «data» = b.data;
  timer = b.timer;
  reserved = 0;
}

abbrev pub no_burst : Burst
no_burst = record { timer = 0; first = 0; count = 0; every = 0; address = 0; «data» = 0 }

-- the bursts are at the front of the places
abbrev pub BurstsAre : List BurstWords → List Burst → Type 0
BurstsAre places bs =
    (k : ℕ) → k < length bs
    → slice_index_or places k (burst_words no_burst) ≡ burst_words (slice_index_or bs k no_burst)

-- a reply says what a call answers, and its places after the edges and after the bursts are as they were
pub record IsReply (old r : ReplyWords) (t : Told) : Type 0 where
  pub answer : r.answer ≡ t.code
  pub number : r.number ≡ t.number
  pub now : r.now_ns ≡ t.now
  pub value : r.value ≡ t.value
  pub count : r.edge_count ≡ length t.edges
  pub edges : EdgesAre r.edges t.edges
  pub rest : AreKept (edge_words no_edge) (length t.edges) old.edges r.edges
  pub burst_count : r.burst_count ≡ length t.bursts
  pub bursts : BurstsAre r.bursts t.bursts
  pub bursts_rest : AreKept (burst_words no_burst) (length t.bursts) old.bursts r.bursts
  pub reserved : r.reserved ≡ 0
