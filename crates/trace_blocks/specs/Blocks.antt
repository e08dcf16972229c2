-- What is printed for a record: its edges with who gets a rise, its messages, and its line.
use Rattle.std.specs.Prelude.{
  ℕ,
  ◌/◌,
  ◌%◌,
  ◌^◌,
  nat_lt,
  List,
  ◌++◌,
  slice_index_or,
  Option,
  None,
  if◌then◌else◌,
}
use Rattle.std.specs.List.{flat_map}
use Rattle.irq_edges.specs.Lines.{is_line}
use Rattle.irq_edges.specs.declared.bursts.Burst.{Burst}
use Rattle.irq_edges.specs.declared.edges.Edge.{Edge}
use Rattle.edge_hooks.specs.Messages.{message_of}
use Rattle.edge_hooks.specs.declared.deliveries.Delivery.{Delivery}
use Rattle.edge_hooks.specs.declared.messages.Message.{Message}
use Rattle.edge_hooks.specs.declared.sent.Sent.{Sent}
use Rattle.reply_text.specs.Text.{edge_text, msg_text, value_text, page_text, clock_text, hv_text}
use Rattle.irq_edges.specs.Lines.{place_of_line}
use Rattle.trace_blocks.specs.declared.deliveries.Deliveries.{Deliveries}
use Rattle.trace_blocks.specs.declared.records.Answer.{Answer}
use Rattle.trace_blocks.specs.declared.records.Answer.TheVariants.{Acted, PageIs, ClockIs, HvIs}

-- who gets a rise of the line of this number
abbrev pub delivery_to : Deliveries → ℕ → Option Delivery
delivery_to ds line =
    if is_line line then slice_index_or ds.lines (place_of_line line) None else None

-- a rise alone is delivered
abbrev pub delivery_of : Deliveries → Edge → Option Delivery
delivery_of ds e = if e.up then delivery_to ds e.line else None

-- the lines of edges, in order
abbrev pub edges_text : Deliveries → List Edge → List ℕ
edges_text ds es = flat_map (λ e. edge_text e (delivery_of ds e)) es

-- the processor in bits 19 to 12 of a message's address, or 0 where there is no such processor
-- (own), and the vector in bits 7 to 0 of its data (Intel SDM, volume 3, "Message Address Register
-- Format" and "Message Data Register Format"), or 30h in place of one that is reserved (own)
abbrev pub destination : ℕ → Message → ℕ
destination cpus m =
    if nat_lt (m.address / 2 ^ 12 % 2 ^ 8) cpus then m.address / 2 ^ 12 % 2 ^ 8 else 0

-- the vector of a message
abbrev pub vector_of : Message → ℕ
vector_of m = if nat_lt (m.data % 2 ^ 8) 16 then 0x30 else m.data % 2 ^ 8

-- who gets a message, where there are so many processors
unfoldable pub message_to : ℕ → Message → Delivery
message_to cpus m = record { cpu = destination cpus m; vector = vector_of m }

-- the messages of a timer, and who gets each of them
abbrev pub sent_to : ℕ → Burst → Sent
sent_to cpus b = record { burst = b; to = message_to cpus (message_of b) }

-- the lines of messages, in order
abbrev pub messages_text : Deliveries → List Burst → List ℕ
messages_text ds bs = flat_map (λ b. msg_text (sent_to ds.cpus b)) bs

-- the block of a record: an access has its edges and its messages before its line
unfoldable pub block_of : Deliveries → ℕ → Answer → List ℕ
block_of ds line (Acted reply) =
    edges_text ds reply.edges ++ messages_text ds reply.bursts
    ++ value_text line reply.number reply.value
block_of ds line (PageIs reply) = page_text line reply
block_of ds line (ClockIs reply) = clock_text line reply
block_of ds line (HvIs reply) = hv_text line reply
