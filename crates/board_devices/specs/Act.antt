-- What an access does to the devices, in its two parts: all its effects but rises out of a queue,
-- and then those rises. Sections are those of the Intel 8254, the Motorola MC146818 and the IA-PC
-- HPET 1.0a sheets; what they leave open is marked '(own)'.
use Rattle.std.specs.Prelude.{
  ◌≡◌,
  ℕ,
  zero,
  suc,
  ◌+◌,
  ◌<◌,
  ◌≤◌,
  ◌^◌,
  ◌*◌,
  Bool,
  true,
  false,
  ◌&&◌,
  ◌==◌,
  not,
  nat_lt,
  if◌then◌else◌,
  IsTrue,
  List,
  ◌++◌,
  length,
}
use Rattle.irq_edges.specs.declared.edges.Edge.{Edge}
use Rattle.irq_edges.specs.declared.edges.TheConstants.{EDGE_PLACES}
use Rattle.irq_edges.specs.Lines.{changes, line_numbers}
use Rattle.pit_counter.specs.Table.{has_risen}
use Rattle.pit_readback.specs.Pit.{counter_of}
use Rattle.pit_readback.specs.Ports.{is_pit_port, port_written, port_read, after_port_read}
use Rattle.rtc_registers.specs.Registers.{pf_of}
use Rattle.rtc_registers.specs.Access.{
  index_written,
  rtc_read,
  after_rtc_read,
  rtc_written,
  flagged,
}
use Rattle.hpet_comparator.specs.Parts.{is_level, route_of}
use Rattle.hpet_registers.specs.declared.parts.HpetParts.{HpetParts}
use Rattle.hpet_registers.specs.Parts.{timer_at, is_legacy}
use Rattle.hpet_registers.specs.Outputs.{is_message}
use Rattle.hpet_registers.specs.Access.{hpet_read, hpet_written, is_access_width}
use Rattle.tick_policy.specs.declared.parts.TickParts.{TickParts}
use Rattle.tick_policy.specs.Line.{acked, acked_down, goes_again, set_up_to}
use Rattle.board_devices.specs.declared.parts.DeviceParts.{DeviceParts}
use Rattle.board_devices.specs.declared.act.Act.{Act}
use Rattle.board_devices.specs.declared.act.Act.TheVariants.{
  PitRead,
  PitWrite,
  IndexRead,
  IndexWrite,
  ClockRead,
  ClockWrite,
  HpetRead,
  HpetWrite,
  Ack,
}
use Rattle.board_devices.specs.Places.{each, ticked_at, line_at}
use Rattle.board_devices.specs.Nanosecond.{counts_rtc}
use Rattle.board_devices.specs.Lines.{is_replaced, levels}

-- what an access may ask
abbrev pub IsLegal : Act → Type 0
IsLegal (PitRead port) = IsTrue (is_pit_port port)
IsLegal (PitWrite port byte) = IsTrue (is_pit_port port)
IsLegal (HpetRead offset width) = (offset ≤ 0x3ff) × IsTrue (is_access_width width)
IsLegal (HpetWrite offset width v) =
    (offset ≤ 0x3ff) × IsTrue (is_access_width width) × (v < 2 ^ (8 * width))
IsLegal _ = Unit {0}

-- a write to the 8254 makes a tick due where OUT 0 rises
abbrev pub pit_ticked : Bool → ℕ → Bool
pit_ticked b zero = b
pit_ticked b (suc k) = false

-- whether it does while LEG_RT is 0
abbrev pub ticks_on_write : ℕ → ℕ → DeviceParts → Bool
ticks_on_write port byte d =
    has_risen (counter_of d.pit 0) (counter_of (port_written port byte d.pit) 0)
    && not (is_legacy d.hpet)

-- a timer drives now the line to which it is routed; replaced, timer 0 drives line 0 and timer 1
-- line 8 (HPET 2.3.5, LEG_RT_CNF)
abbrev pub drives_now : ℕ → ℕ → HpetParts → Bool
drives_now line k h =
    if is_replaced k h then line == (if k == 0 then 0 else 8)
    else route_of (timer_at k h).config == line

-- a timer of edge type whose matches are ticks of its line and no messages, or would be with its
-- interrupt enabled (2.3.8, 2.3.10)
abbrev pub shows_ticks : ℕ → HpetParts → Bool
shows_ticks k h = not (is_level (timer_at k h)) && not (is_message k h)

-- the places whose tick lines an acknowledgement of a line reaches: that of the 8254, and those of
-- the timers of edge type that drive it and send no messages (own)
abbrev pub acks : ℕ → HpetParts → ℕ → Bool
acks line h zero = (line == 0) && not (is_legacy h)
acks line h (suc zero) = false
acks line h (suc (suc k)) =
    nat_lt k h.timers && (shows_ticks k h && drives_now line k h)

-- a read of register C (0Ch) acknowledges the line of the MC146818 while its ticks are counted
-- (own)
abbrev pub reads_c : DeviceParts → ℕ → Bool
reads_c d (suc zero) = (d.rtc.index == 0x0c) && counts_rtc d
reads_c d _ = false

-- a line that is acknowledged where b holds
abbrev pub acked_where : Bool → TickParts → TickParts
acked_where b l = if b then acked l else l

-- the same without a rise out of its queue
abbrev pub down_where : Bool → TickParts → TickParts
down_where b l = if b then acked_down l else l

-- the line of the MC146818 at this level: nothing is counted
abbrev pub rtc_set : Bool → ℕ → TickParts → TickParts
rtc_set up (suc zero) l = set_up_to up l
rtc_set up _ l = l

-- it is PF while its ticks are counted: a write that changes PIE or LEG_RT moves it (own)
abbrev pub with_rtc_line : DeviceParts → DeviceParts
with_rtc_line d = record d { ticks = each (rtc_set (counts_rtc d && pf_of d.rtc)) 0 d.ticks }

-- the whole access: port 70h keeps an index of 7 bits
unfoldable pub acted : Act → DeviceParts → DeviceParts
acted (PitRead port) d = record d { pit = after_port_read port d.pit }
acted (PitWrite port byte) d = record d {
  pit = port_written port byte d.pit;
  ticks = ticked_at (pit_ticked (ticks_on_write port byte d)) d.ticks;
}
acted (IndexWrite byte) d = record d { rtc = index_written byte d.rtc }
acted ClockRead d = record d {
  rtc = if reads_c d 1 && goes_again (line_at 1 d) then flagged (after_rtc_read d.rtc)
      else after_rtc_read d.rtc;
  ticks = each (λ k l. acked_where (reads_c d k) l) 0 d.ticks;
}
acted (ClockWrite byte) d = with_rtc_line (record d { rtc = rtc_written byte d.rtc })
acted (HpetWrite offset width v) d =
    with_rtc_line (record d { hpet = hpet_written offset width v d.hpet })
acted (Ack line) d = record d { ticks = each (λ k l. acked_where (acks line d.hpet k) l) 0 d.ticks }
acted _ d = d

-- the access without rises out of a queue: an acknowledged line is down
unfoldable pub first_part : Act → DeviceParts → DeviceParts
first_part ClockRead d = record d {
  rtc = after_rtc_read d.rtc;
  ticks = each (λ k l. down_where (reads_c d k) l) 0 d.ticks;
}
first_part (Ack line) d =
    record d { ticks = each (λ k l. down_where (acks line d.hpet k) l) 0 d.ticks }
first_part a d = acted a d

-- what it reads at nanosecond t; port 70h reads FFh (own), and what reads nothing gives 0
unfoldable pub value_of : ℕ → Act → DeviceParts → ℕ
value_of t (PitRead port) d = port_read t port d.pit
value_of t IndexRead d = 0xff
value_of t ClockRead d = rtc_read d.rtc
value_of t (HpetRead offset width) d = hpet_read offset width d.hpet
value_of t _ d = 0

-- whether it reads the byte of a port
abbrev pub reads_byte : Act → Bool
reads_byte (PitRead port) = true
reads_byte IndexRead = true
reads_byte ClockRead = true
reads_byte _ = false

-- its edges at t, part after part
abbrev pub act_edges : ℕ → Act → DeviceParts → List Edge
act_edges t a d =
    changes t line_numbers (levels d) (levels (first_part a d))
    ++ changes t line_numbers (levels (first_part a d)) (levels (acted a d))

-- what an access asks of the devices: it is legal, the tick line of the 8254 has room for one tick
-- more, and the list of edges twelve free places
pub record CanAct (a : Act) (d : DeviceParts) (had : List Edge) : Type 0 where
  pub legal : IsLegal a
  pub room : (line_at 0 d).counts.due + 1 < 2 ^ 63
  pub places : length had + 12 ≤ EDGE_PLACES

-- what it leaves and reads at t, with its edges after those that the list had; at most one tick
-- more is due on each line
pub record HasActed (a : Act) (t : ℕ) (before after : DeviceParts) (word : ℕ) (had told : List Edge)
    : Type 0 where
  pub state : after ≡ acted a before
  pub value : word ≡ value_of t a before
  pub byte : IsTrue (reads_byte a) → word < 256
  pub edges : told ≡ had ++ act_edges t a before
  pub few : length told ≤ length had + 12
  pub due : (k : ℕ) → k < 10 → (line_at k after).counts.due ≤ (line_at k before).counts.due + 1
