-- Small rows that pin the definitions: what a record and the end of a phase print, the board that an end leaves, and why
-- one is refused.
use Rattle.std.proofs.Common.{◌≡◌, ℕ, ◌^◌, ◌+◌, List, [], ◌∷◌, true, false, None, Some, map, pos, refl}
use Rattle.host_counter.specs.Time.{time_at}
use Rattle.host_counter.specs.declared.TimeFault.TheVariants.{BeforeStart, OutOfRange}
use Rattle.std.specs.Prelude.{codes}
use Rattle.std.specs.Fmt.{digits}
use Rattle.pvclock_page.specs.declared.page.Page.{Page}
use Rattle.pvclock_page.specs.declared.page.PageReply.TheVariants.{Off as PageOff, On as PageOn}
use Rattle.pvclock_page.specs.declared.page.ClockReply.TheVariants.{On}
use Rattle.hv_page.specs.declared.page.HvReply.TheVariants.{Off as HvOff}
use Rattle.board_types.specs.declared.access.Access.TheVariants.{Step}
use Rattle.board_types.specs.declared.parts.BoardParts.{BoardParts}
use Rattle.board_types.specs.declared.reply.Value.TheVariants.{Byte}
use Rattle.board_meters.specs.Meters.{refusal_in, spent_in, move_fault_in}
use Rattle.board_meters.specs.declared.meters.Meters.{Meters}
use Rattle.board_meters.specs.declared.meters.MoveFault.TheVariants.{VersionsSpent as PageSpent}
use Rattle.board_core.specs.Access.{after_access}
use Rattle.reply_text.specs.Words.{hex_text}
use Rattle.reply_text.specs.Text.{edge_text, msg_text, value_text, page_text, clock_text, hv_text}
use Rattle.reply_text.specs.declared.ends.Reason.TheVariants.{CounterFell}
use Rattle.reply_text.specs.declared.ends.Refused.TheVariants.{Invalid, Range, Versions, Spent}
use Rattle.transfer.specs.Move.{moved_to}
use Rattle.trace_blocks.specs.Blocks.{block_of, delivery_of, delivery_to, message_to}
use Rattle.trace_blocks.specs.Ends.{next_board}
use Rattle.trace_blocks.specs.Refusals.{refused_fault, refused_move, move_refusal}
use Rattle.trace_blocks.specs.declared.deliveries.Deliveries.{Deliveries}
use Rattle.trace_blocks.specs.declared.ends.End.{End}
use Rattle.trace_blocks.specs.declared.ends.End.TheVariants.{Finish, Save, Move}
use Rattle.trace_blocks.specs.declared.records.Answer.TheVariants.{Acted, PageIs, ClockIs, HvIs}

-- the page of processor 0, enabled at count 0
abbrev pub page : Page
page = record {
  version = 2;
  tsc_timestamp = 0;
  system_time = 0;
  mul = 0x80000000;
  shift = pos 0;
  flags = 1;
  offset = 0;
  enabled = true;
}

-- each line to a vector of its own
abbrev pub routed : Deliveries
routed = record {
  cpus = 2;
  lines = Some (record { cpu = 0; vector = 0x30 }) ∷ Some (record { cpu = 1; vector = 0x31 }) ∷ Some (record { cpu = 0; vector = 0x32 })
      ∷ Some (record { cpu = 1; vector = 0x33 })
      ∷ Some (record { cpu = 0; vector = 0x34 }) ∷ Some (record { cpu = 1; vector = 0x35 }) ∷ [];
}

-- rises of the lines, in the order of their deliveries
rises : map (delivery_to routed) (0 ∷ 8 ∷ 20 ∷ 21 ∷ 22 ∷ 23 ∷ []) ≡ routed.lines
rises = refl

-- blocks: edges, messages, the reply
an_access : block_of routed 7 (Acted (record {
  number = 3;
  value = Byte 10;
  edges = record { at = 5; line = 8; up = true } ∷ record { at = 6; line = 8; up = false } ∷ [];
  bursts = record { timer = 2; first = 4; count = 2; every = 10; address = 0xfee01000; «data» = 0x41 } ∷ [];
}))
    ≡ codes "edge 5 8 up 1 31\nedge 6 8 down\nmsg 4 2 1 41 2 10\n7 3 0a\n"
unfolding block_of edge_text msg_text message_to value_text hex_text digits
an_access = refl

-- a page, a clock and the reference page, on and off
pages : map (block_of routed 8) (PageIs (PageOn page 900) ∷ PageIs PageOff ∷ [])
    ≡ codes "8 page 2 0 0 80000000 0 01 900\n" ∷ codes "8 page off\n" ∷ []
unfolding block_of page_text hex_text digits
pages = refl

clocks : map (block_of routed 9) (ClockIs (On 900 1000) ∷ HvIs HvOff ∷ []) ≡ codes "9 clock 900 1000\n" ∷ codes "9 hv off\n" ∷ []
unfolding block_of clock_text hv_text digits
clocks = refl

-- a fall isn't delivered
a_fall : delivery_of (record { cpus = 1; lines = Some (record { cpu = 0; vector = 0x30 }) ∷ [] })
    (record { at = 5; line = 0; up = false }) ≡ None
a_fall = refl

-- messages: bits 19 to 12 of the address, and 7 to 0 of the data. To the last processor, to none, and with a reserved vector
messages : message_to 2 (record { address = 0xfee01ffc; «data» = 0x4110 }) ∷ message_to 2 (record { address = 0xfee02000; «data» = 0xff })
    ∷ message_to 1 (record { address = 0xfee00000; «data» = 15 }) ∷ []
    ≡ record { cpu = 1; vector = 0x10 } ∷ record { cpu = 0; vector = 0xff } ∷ record { cpu = 0; vector = 0x30 } ∷ []
unfolding message_to
messages = refl

-- what ends a phase: nothing, a save, a move
abbrev ends : List End
ends = Finish ∷ Save 9 1 100 ∷ Move 9 1 100 (record { khz = 3000000; start = 500; gap = 40 }) ∷ []

next_boards : (b : BoardParts) → map (λ e. next_board e b) ends
    ≡ b ∷ after_access b 1 100 Step ∷ moved_to 3000000 500 40 (after_access b 1 100 Step) ∷ []
next_boards b = refl

-- the words of a refusal: a count before the anchor's fell, a later one is out of range; and the page of a move isn't named
a_count_without_a_time : map refused_fault (BeforeStart 10 ∷ OutOfRange 7 ∷ []) ≡ Invalid (CounterFell 10) ∷ Range 7 ∷ []
a_count_without_a_time = refl

a_page_at_its_last_version : refused_move (PageSpent 1 4294967294) ≡ Versions 4294967294
a_page_at_its_last_version = refl

-- a move is refused by its access first, then by the time after its gap, then by the version of a page
at_its_last_version : ℕ → Meters
at_its_last_version accesses = record {
  format = 4;
  cpus = 2;
  anchor = record { khz = 1000000; start = 100; base_ns = 5000 };
  host = 200;
  accesses = accesses;
  wall_version = 0;
  hv_version = 0;
  versions = 6 ∷ 4294967294 ∷ [];
}

a_move : move_refusal (at_its_last_version (2 ^ 62)) 0 200 (2 ^ 59) ∷ move_refusal (at_its_last_version 0) 0 200 (2 ^ 59)
    ∷ move_refusal (at_its_last_version 0) 0 200 0 ∷ []
    ≡ Some (Spent (2 ^ 62)) ∷ Some (Range (2 ^ 59 + 5100)) ∷ Some (Versions 4294967294) ∷ []
unfolding refusal_in move_fault_in spent_in time_at at_its_last_version
a_move = refl
