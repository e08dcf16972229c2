-- What a worker was told, with the reply that it keeps.
use Rattle.board_types.specs.declared.reply.Reply.{Reply}
use Rattle.shared_board.specs.declared.read.Read.{Read}
use Rattle.shared_board.specs.declared.read.Read.TheVariants.{Page, Clock, Hv}
use Rattle.shared_board.specs.declared.read.ReadReply.{ReadReply}
use Rattle.shared_board.specs.declared.read.ReadReply.TheVariants.{
  Page as PageReply,
  Clock as ClockReply,
  Hv as HvReply,
}
use Rattle.trace_records.specs.declared.Call.{Call}
use Rattle.trace_records.specs.declared.Call.TheVariants.{ReadPage, ReadClock, ReadHv}
use Rattle.trace_blocks.specs.declared.records.Answer.{Answer}
use Rattle.trace_blocks.specs.declared.records.Answer.TheVariants.{
  Acted as ActedBy,
  PageIs,
  ClockIs,
  HvIs,
}
use Rattle.race_phase.specs.declared.told.Told.{Told}
use Rattle.race_phase.specs.declared.told.Told.TheVariants.{Acted, Read as ReadBy}

-- what a record asks that reads this
abbrev pub reading : Read → Call
reading (Page k) = ReadPage k
reading (Clock k) = ReadClock k
reading Hv = ReadHv

-- the answer of a read
abbrev pub answer_of : ReadReply → Answer
answer_of (PageReply page) = PageIs page
answer_of (ClockReply clock) = ClockIs clock
answer_of (HvReply hv) = HvIs hv

-- the answer to a record
abbrev pub answer_with : Told → Reply → Answer
answer_with Acted reply = ActedBy reply
answer_with (ReadBy read) reply = answer_of read
