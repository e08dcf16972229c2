-- One access: the devices run to its time, it acts once, and it is answered.
use Rattle.std.specs.Prelude.{
  ℕ,
  ◌+◌,
  ◌-◌,
  ◌==◌,
  max,
  if◌then◌else◌,
  List,
  ◌++◌,
  slice_index_or,
}
use Rattle.irq_edges.specs.declared.edges.Edge.{Edge}
use Rattle.irq_edges.specs.declared.bursts.Burst.{Burst}
use Rattle.irq_edges.specs.Lines.{line_numbers}
use Rattle.hpet_bursts.specs.Bursts.{bursts_of}
use Rattle.board_types.specs.declared.access.Access.{Access}
use Rattle.board_types.specs.declared.access.Access.TheVariants.{PortIn, PortOut, HpetRead, HpetWrite, MsrRead, Ack, Wall, CountsOf, Next, Rose}
use Rattle.board_types.specs.declared.access.TickSource.{TickSource}
use Rattle.board_types.specs.declared.access.TickSource.TheVariants.{Pit, Rtc, Hpet, Apic}
use Rattle.tick_policy.specs.declared.parts.Counts.{Counts as TickCounts}
use Rattle.tick_policy.specs.declared.parts.TickParts.{TickParts}
use Rattle.board_types.specs.declared.parts.BoardParts.{BoardParts}
use Rattle.board_types.specs.declared.reply.Reply.{Reply}
use Rattle.board_types.specs.declared.reply.Value.{Value}
use Rattle.board_types.specs.declared.reply.Value.TheVariants.{
  Nothing,
  Byte,
  Word,
  Counts,
  Next as NextEdge,
}
use Rattle.board_devices.specs.declared.parts.DeviceParts.{DeviceParts}
use Rattle.board_devices.specs.declared.act.Act.{Act}
use Rattle.board_devices.specs.declared.act.Act.TheVariants.{
  PitRead,
  PitWrite,
  IndexRead,
  IndexWrite,
  ClockRead,
  ClockWrite,
  HpetRead as ReadHpet,
  HpetWrite as WriteHpet,
  Ack as AckLine,
  Nothing as NoAct,
}
use Rattle.board_devices.specs.Places.{no_line}
use Rattle.board_devices.specs.Run.{Ran, run}
use Rattle.board_devices.specs.Act.{acted, act_edges, value_of}
use Rattle.board_core.specs.Time.{devices_in, with_devices, now_of, time_of_access}
use Rattle.board_core.specs.Tsc.{msr_read}
use Rattle.board_core.specs.Pages.{processors_after}
use Rattle.board_core.specs.Wall.{wall_number_after, wall_words}
use Rattle.board_meters.specs.Published.{wall_version_after}
use Rattle.board_core.specs.Hv.{hv_after}
use Rattle.board_core.specs.Apics.{apics_in, with_apics, apics_acted, after_look}
use Rattle.board_core.specs.Nanosecond.{ran_for, passed_times}
use Rattle.board_core.specs.Next.{next_of}
use Rattle.board_core.specs.Rises.{rises_after, count_at}

-- what a read or a write of a port asks of the devices: 70h is the index of the MC146818, 71h the
-- byte there, and the others are ports of the 8254
abbrev pub read_of_port : ℕ → Act
read_of_port port =
    if port == 0x70 then IndexRead else (if port == 0x71 then ClockRead else PitRead port)

-- what a write of a port asks
abbrev pub write_of_port : ℕ → ℕ → Act
write_of_port port byte =
    if port == 0x70 then IndexWrite byte
    else (if port == 0x71 then ClockWrite byte else PitWrite port byte)

-- what an access asks of the devices
abbrev pub act_of : Access → Act
act_of (PortIn port) = read_of_port port
act_of (PortOut port byte) = write_of_port port byte
act_of (HpetRead offset width) = ReadHpet offset width
act_of (HpetWrite offset width value) = WriteHpet offset width value
act_of (Ack line) = AckLine line
act_of _ = NoAct

-- the run up to the time of an access at count h: what it leaves, and its edges
abbrev pub ran_to : BoardParts → ℕ → Ran
ran_to b h = run (now_of b) (time_of_access b h - now_of b) (devices_in b)

-- the messages of that run. Their addresses and data are those that the board holds before it, since
-- no access comes within; and no access sends a message by itself
abbrev pub bursts_to : BoardParts → ℕ → List Burst
bursts_to b h = bursts_of (now_of b) (time_of_access b h - now_of b) b.hpet

-- the board at that time, with the access still to come
unfoldable pub after_run : BoardParts → ℕ → BoardParts
after_run b h = record (ran_for (time_of_access b h - now_of b) b) { host = max b.host h }

-- the same board, one nanosecond of the whole board after the other
abbrev pub after_nanoseconds : BoardParts → ℕ → BoardParts
after_nanoseconds b h =
    record (passed_times (now_of b) (time_of_access b h - now_of b) b) { host = max b.host h }

-- the counts of a source's tick line, among the lines of the devices and those of local APICs
abbrev pub counts_of : List TickParts → List TickParts → TickSource → TickCounts
counts_of ticks apic_ticks Pit = (slice_index_or ticks 0 no_line).counts
counts_of ticks apic_ticks Rtc = (slice_index_or ticks 1 no_line).counts
counts_of ticks apic_ticks (Hpet timer) = (slice_index_or ticks (timer + 2) no_line).counts
counts_of ticks apic_ticks (Apic cpu) = (slice_index_or apic_ticks cpu no_line).counts

-- what an access at count h reads of a board that has run to its time: a port gives a byte, the
-- HPET a word of the width, an MSR and a count of rises a word of 8 bytes
unfoldable pub value_at : BoardParts → ℕ → ℕ → Access → Value
value_at b cpu h (PortIn port) = Byte (value_of (now_of b) (read_of_port port) (devices_in b))
value_at b cpu h (HpetRead offset width) =
    Word width (value_of (now_of b) (ReadHpet offset width) (devices_in b))
value_at b cpu h (MsrRead msr) = Word 8 (msr_read b cpu h msr)
value_at b cpu h Wall = wall_words b
value_at b cpu h (CountsOf from) = Counts (counts_of b.ticks b.apic_ticks from)
value_at b cpu h Next = NextEdge (next_of (now_of b) (devices_in b))
value_at b cpu h (Rose line) = Word 8 (count_at line_numbers b.rises line)
value_at b cpu h _ = Nothing

-- the edges of the access itself, part after part
abbrev pub own_edges : BoardParts → Access → List Edge
own_edges b a = act_edges (now_of b) (act_of a) (devices_in b)

-- such a board after what the access does, and before the look at the deadlines: what isn't named
-- here stays
unfoldable pub before_look : BoardParts → ℕ → ℕ → Access → BoardParts
before_look b cpu h a =
    let d : DeviceParts = acted (act_of a) (devices_in b) in
    record (with_apics (apics_acted cpu a (apics_in b)) (with_devices d b)) {
      accesses = b.accesses + 1;
      wall_number = wall_number_after a b.wall_number;
      wall_version = wall_version_after a b.wall_version;
      processors = processors_after b.anchor b.guest_khz cpu h a b.processors;
      rises = rises_after b.format (own_edges b a) b.rises;
      hv = hv_after b.anchor b.guest_khz cpu h a b.processors b.hv;
    }

-- .. and after the look, which takes the TSCs that the access leaves, at the board's time
unfoldable pub after_act : BoardParts → ℕ → ℕ → Access → BoardParts
after_act b cpu h a = after_look (before_look b cpu h a)

-- the edges of an access: those of the run, and then its own
unfoldable pub edges_of : BoardParts → ℕ → Access → List Edge
edges_of b h a = (ran_to b h).edges ++ own_edges (after_run b h) a

-- what an access is answered: the number that follows, its value, its edges, the messages of its run
unfoldable pub reply_of : BoardParts → ℕ → ℕ → Access → Reply
reply_of b cpu h a = record {
  number = b.accesses + 1;
  value = value_at (after_run b h) cpu h a;
  edges = edges_of b h a;
  bursts = bursts_to b h;
}

-- the board after an access
unfoldable pub after_access : BoardParts → ℕ → ℕ → Access → BoardParts
after_access b cpu h a = after_act (after_run b h) cpu h a
