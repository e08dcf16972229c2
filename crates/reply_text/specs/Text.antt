-- The printed lines, one row a line.
use Rattle.std.specs.Prelude.{
  ℕ,
  ◌*◌,
  min,
  List,
  [],
  ◌∷◌,
  ◌++◌,
  Option,
  codes,
  decimal,
  if◌then◌else◌,
}
use Rattle.std.specs.List.{items_where_true}
use Rattle.std.specs.Option.{option_map_or}
use Rattle.std.specs.Fmt.{signed_decimal}
use Rattle.board_types.specs.declared.reply.Value.{Value}
use Rattle.board_types.specs.declared.reply.Value.TheVariants.{
  Nothing,
  Byte,
  Word,
  Counts,
  Wall,
  Next,
}
use Rattle.edge_hooks.specs.declared.deliveries.Delivery.{Delivery}
use Rattle.edge_hooks.specs.declared.sent.Sent.{Sent}
use Rattle.hv_page.specs.Page.{tsc_sequence}
use Rattle.hv_page.specs.declared.page.HvReply.{HvReply}
use Rattle.hv_page.specs.declared.page.HvReply.TheVariants.{Off as HvOff, On as HvOn}
use Rattle.irq_edges.specs.Lines.{line_numbers}
use Rattle.irq_edges.specs.declared.edges.Edge.{Edge}
use Rattle.irq_edges.specs.declared.lines.Lines.{Lines}
use Rattle.pvclock_page.specs.declared.page.PageReply.{PageReply}
use Rattle.pvclock_page.specs.declared.page.PageReply.TheVariants.{Off as PageOff, On as PageOn}
use Rattle.pvclock_page.specs.declared.page.ClockReply.{ClockReply}
use Rattle.pvclock_page.specs.declared.page.ClockReply.TheVariants.{Off as ClockOff, On as ClockOn}
use Rattle.reply_text.specs.Words.{hex_text, hexes, line_of}
use Rattle.reply_text.specs.declared.ends.Reason.TheVariants.{
  Form,
  Steal,
  Cpu,
  CounterFell,
  StateBytes,
  TooLong,
  TooMany,
  NoEnd,
}
use Rattle.reply_text.specs.declared.ends.Refused.{Refused}
use Rattle.reply_text.specs.declared.ends.Refused.TheVariants.{Invalid, Range, Versions, Spent}

-- `edge AT LINE up`, `edge AT LINE down`, and with a delivery `edge AT LINE up CPU VV`
unfoldable pub edge_text : Edge → Option Delivery → List ℕ
edge_text e to =
    line_of (codes "edge")
    (decimal e.at ∷ decimal e.line ∷ (if e.up then codes "up" else codes "down")
    ∷ option_map_or (λ d. decimal d.cpu ∷ hex_text 2 d.vector ∷ []) to [])

-- `msg FIRST TIMER CPU VV COUNT EVERY`: the messages of a timer, and who gets each of them
unfoldable pub msg_text : Sent → List ℕ
msg_text sent =
    line_of (codes "msg")
    (decimal sent.burst.first ∷ decimal sent.burst.timer ∷ decimal sent.to.cpu
    ∷ hex_text 2 sent.to.vector ∷ decimal sent.burst.count ∷ decimal sent.burst.every ∷ [])

-- the value of a reply: two digits a byte, at most the 16 of 64 bits (own); or decimal numbers
abbrev pub value_words : Value → List (List ℕ)
value_words Nothing = []
value_words (Byte b) = hex_text 2 b ∷ []
value_words (Word width v) = hex_text (2 * min width 8) v ∷ []
value_words (Counts c) = decimal c.due ∷ decimal c.rises ∷ decimal c.queue ∷ decimal c.lost ∷ []
value_words (Wall version sec nsec) = decimal version ∷ decimal sec ∷ decimal nsec ∷ []
value_words (Next next) = option_map_or decimal next (codes "none") ∷ []

-- `LINE NUMBER`, and a space and the value where there is one
unfoldable pub value_text : ℕ → ℕ → Value → List ℕ
value_text line number value = line_of (decimal line) (decimal number ∷ value_words value)

-- `LINE page VERSION STAMP SYSTEM MUL SHIFT FLAGS READING`, or `LINE page off`
unfoldable pub page_text : ℕ → PageReply → List ℕ
page_text line PageOff = line_of (decimal line) (codes "page" ∷ codes "off" ∷ [])
page_text line (PageOn page reading) =
    line_of (decimal line)
    (codes "page" ∷ decimal page.version ∷ decimal page.tsc_timestamp ∷ decimal page.system_time
    ∷ hex_text 8 page.mul ∷ signed_decimal page.shift ∷ hex_text 2 page.flags
    ∷ decimal reading ∷ [])

-- `LINE clock READING CLOCK`, or `LINE clock off`
unfoldable pub clock_text : ℕ → ClockReply → List ℕ
clock_text line ClockOff = line_of (decimal line) (codes "clock" ∷ codes "off" ∷ [])
clock_text line (ClockOn reading clock) =
    line_of (decimal line) (codes "clock" ∷ decimal reading ∷ decimal clock ∷ [])

-- `LINE hv SEQUENCE SCALE OFFSET READING`, or `LINE hv off`
unfoldable pub hv_text : ℕ → HvReply → List ℕ
hv_text line HvOff = line_of (decimal line) (codes "hv" ∷ codes "off" ∷ [])
hv_text line (HvOn page reading) =
    line_of (decimal line)
    (codes "hv" ∷ decimal (tsc_sequence page) ∷ decimal page.scale ∷ decimal page.offset
    ∷ decimal reading ∷ [])

-- `LINE NUMBER state HEXES`, two digits a byte
unfoldable pub save_text : ℕ → ℕ → List ℕ → List ℕ
save_text line number bytes =
    line_of (decimal line) (decimal number ∷ codes "state" ∷ hexes bytes ∷ [])

-- `LINE NUMBER moved TIME`
unfoldable pub move_text : ℕ → ℕ → ℕ → List ℕ
move_text line number time =
    line_of (decimal line) (decimal number ∷ codes "moved" ∷ decimal time ∷ [])

-- LINES: the numbers of the lines that are up, joined by commas, or `-`
abbrev pub up_word : List ℕ → List ℕ
up_word [] = codes "-"
up_word (n ∷ []) = decimal n
up_word (n ∷ m ∷ ms) = decimal n ++ 44 ∷ up_word (m ∷ ms)

-- `final TIME ACCESSES GREATEST LINES`
unfoldable pub final_text : ℕ → ℕ → ℕ → Lines → List ℕ
final_text time accesses greatest lines =
    line_of (codes "final")
    (decimal time ∷ decimal accesses ∷ decimal greatest
    ∷ up_word (items_where_true lines.levels line_numbers) ∷ [])

-- `state HEXES`
unfoldable pub state_text : List ℕ → List ℕ
state_text bytes = line_of (codes "state") (hexes bytes ∷ [])

-- REASON
abbrev pub reason_words : Refused → List (List ℕ)
reason_words (Invalid Form) = codes "form" ∷ []
reason_words (Invalid Steal) = codes "steal" ∷ []
reason_words (Invalid Cpu) = codes "cpu" ∷ []
reason_words (Invalid (CounterFell before)) = codes "fell" ∷ decimal before ∷ []
reason_words (Invalid (StateBytes place)) = codes "state" ∷ decimal place ∷ []
reason_words (Invalid TooLong) = codes "long" ∷ []
reason_words (Invalid TooMany) = codes "many" ∷ []
reason_words (Invalid NoEnd) = codes "noend" ∷ []
reason_words (Range ns) = codes "range" ∷ decimal ns ∷ []
reason_words (Versions version) = codes "versions" ∷ decimal version ∷ []
reason_words (Spent number) = codes "spent" ∷ decimal number ∷ []

-- `refused LINE REASON`
unfoldable pub refused_text : ℕ → Refused → List ℕ
refused_text line why = line_of (codes "refused") (decimal line ∷ reason_words why)
