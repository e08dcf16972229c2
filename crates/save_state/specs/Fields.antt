-- The fields of a saved state, in the order of their bytes (own): each with its spelling, where its
-- value is in the board, and its condition. A condition over several fields is one on the first of
-- them at which it is certain that it fails.
use Rattle.std.specs.Prelude.{ℕ, ◌+◌, ◌*◌, ◌%◌, ◌==◌, nat_lt, nat_le, Bool, true, false, ◌&&◌, ◌||◌}
use Rattle.std.specs.Prelude.{not, if◌then◌else◌, List, [], ◌∷◌, ◌++◌, slice_index_or, map}
use Rattle.std.specs.Int.{w8, cast_unsigned}
use Rattle.std.specs.List.{zip}
use mathlib.Core.Bool.{beq}
use Rattle.clk_units.specs.Bits.{bit}
use Rattle.clk_units.specs.declared.ranges.TheConstants.{RANGE_NS, KHZ_MIN, KHZ_MAX}
use Rattle.host_counter.specs.Time.{time_at}
use Rattle.pit_counter.specs.declared.parts.CounterParts.{CounterParts}
use Rattle.pit_counter.specs.Programming.{counter_at_power_on}
use Rattle.pit_counter.specs.Parts.{bits_valid, flags_valid, cr_valid, ce_valid, part_valid}
use Rattle.pit_counter.specs.Parts.{read_order_valid, latched_count_valid, latched_status_valid}
use Rattle.rtc_registers.specs.Registers.{pf_of}
use Rattle.rtc_registers.specs.Parts.{index_valid, bytes_valid, divider_valid, cycle_valid}
use Rattle.hpet_comparator.specs.declared.parts.TimerParts.{TimerParts}
use Rattle.hpet_comparator.specs.Parts.{config_valid, comparator_valid, period_valid}
use Rattle.hpet_registers.specs.Parts.{no_timer as no_hpet_timer}
use Rattle.tick_policy.specs.declared.parts.TickParts.{TickParts}
use Rattle.tick_policy.specs.declared.parts.Policy.{Policy}
use Rattle.tick_policy.specs.Parts.{policy_byte, policy_of, queue_valid, lost_valid}
use Rattle.lapic_timer.specs.declared.parts.ApicParts.{ApicParts}
use Rattle.lapic_timer.specs.Parts.{lvt_valid, divide_valid, initial_valid, current_valid}
use Rattle.lapic_timer.specs.Parts.{phase_valid, deadline_valid}
use Rattle.local_apics.specs.Places.{no_timer}
use Rattle.pvclock_page.specs.Scale.{mul_for, shift_for}
use Rattle.hv_page.specs.Scale.{tsc_scale}
use Rattle.board_types.specs.declared.parts.BoardParts.{BoardParts}
use Rattle.board_types.specs.declared.parts.HvParts.{HvParts}
use Rattle.board_types.specs.declared.parts.ProcessorParts.{ProcessorParts}
use Rattle.board_types.specs.declared.parts.TheConstants.{MOST_ACCESSES}
use Rattle.board_types.specs.Setup.{timers_of, has_messages, processors_of}
use Rattle.board_types.specs.declared.setup.TheConstants.{LAST_FORMAT, HV_FORMAT, SLEW_MAX_NS}
use Rattle.board_devices.specs.Places.{no_line, line_at}
use Rattle.board_devices.specs.Nanosecond.{counts_rtc}
use Rattle.board_core.specs.Time.{devices_in, now_of}
use Rattle.board_core.specs.Apics.{apics_of}
use Rattle.board_core.specs.Tsc.{no_processor}
use Rattle.board_core.specs.Hv.{no_hv}
use Rattle.board_core.specs.Conditions.{flags_valid as page_flags_valid}
use Rattle.byte_table.specs.Codes.{Code, number, byte, signed_byte, one_byte, word, flag}
use Rattle.byte_table.specs.Codes.{flags, both, rows}
use Rattle.byte_table.specs.Fold.{Field}
use Rattle.byte_table.specs.Kinds.{plain, blocks, elsewhere}
use Rattle.save_state.specs.Rises.{legacy_rises_valid, routed_rises_valid}
use Rattle.save_state.specs.declared.fault.StateFault.{StateFault}
use Rattle.save_state.specs.declared.fault.StateKind.{StateKind}
use Rattle.save_state.specs.declared.fault.StateKind.TheVariants.{Short, Magic, Version}
use Rattle.save_state.specs.declared.fault.StateKind.TheVariants.{Field as Invalid}

-- the fault of a kind at a place
abbrev pub fault_at : StateKind → ℕ → StateFault
fault_at kind place = record { place = place; kind = kind }

-- fields of a part P of the board
abbrev pub Fields : Type 0 → Type 0
Fields P = List (Field StateFault BoardParts P)

-- a field as most are
abbrev pub field : {P A : Type 0} → Code A → (P → A) → (A → P → P) → (BoardParts → P → Bool)
    → Field StateFault BoardParts P
field c get put valid = plain (fault_at Short) (fault_at Invalid) c get put valid

-- a condition that always holds
abbrev pub any : {P : Type 0} → BoardParts → P → Bool
any b p = true

-- 'CLKBOARD', as a number
abbrev pub magic : ℕ
magic = 0x4452414f424b4c43

-- a rate in kHz is in range
abbrev pub khz_valid : ℕ → Bool
khz_valid khz = nat_le KHZ_MIN khz && nat_le khz KHZ_MAX

-- the greatest count isn't before the anchor's, and its time is in range
abbrev pub host_valid : BoardParts → Bool
host_valid b = nat_le b.anchor.start b.host && nat_lt (time_at b.anchor b.host) RANGE_NS

-- a policy of the tick lines
abbrev pub policy : Code Policy
policy = one_byte policy_byte policy_of (λ x. nat_lt x 3)

-- where that of line k is: at 76 that of the 8254, at 77 that of the MC146818, at 78 that of the
-- HPET's timers
abbrev pub policy_place : ℕ → ℕ
policy_place k = 76 + (if nat_le 2 k then 2 else k)

-- the field of the policy of line k
abbrev pub policy_field : ℕ → Field StateFault BoardParts BoardParts
policy_field k = field policy (λ b. (line_at k (devices_in b)).policy) (λ x b. b) any

-- the version is the format, which tells how many timers the HPET has, and whether they send
-- messages
abbrev pub with_format : ℕ → BoardParts → BoardParts
with_format x b =
    record b { format = x; hpet = record b.hpet { timers = timers_of x; messages = has_messages x } }

-- magic, version, number of processors
unfoldable pub head : Fields BoardParts
head =
    plain (fault_at Short) (fault_at Magic) (word 8 magic) (λ b. tt) (λ x b. b) any
    ∷ plain (fault_at Short) (fault_at Version) (number 2) (λ b. b.format) with_format
    (λ b p. nat_le 1 p.format && nat_le p.format LAST_FORMAT)
    ∷ field (number 2) (λ b. b.cpus) (λ x b. record b { cpus = x })
    (λ b p. nat_le 1 p.cpus && nat_le p.cpus (processors_of p.format)) ∷ []

-- the anchor's rate, count and time, and the greatest count
unfoldable pub host : Fields BoardParts
host =
    field (number 8) (λ b. b.anchor.khz) (λ x b. record b { anchor = record b.anchor { khz = x } })
    (λ b p. khz_valid p.anchor.khz)
    ∷ field (number 8) (λ b. b.anchor.start)
    (λ x b. record b { anchor = record b.anchor { start = x } }) any
    ∷ field (number 8) (λ b. b.anchor.base_ns)
    (λ x b. record b { anchor = record b.anchor { base_ns = x } })
    (λ b p. nat_lt p.anchor.base_ns RANGE_NS)
    ∷ field (number 8) (λ b. b.host) (λ x b. record b { host = x }) (λ b p. host_valid p) ∷ []

-- the guest's rate, the number of accesses, the greatest reading, the nanoseconds between catch-up
-- points
unfoldable pub guest : Fields BoardParts
guest =
    field (number 8) (λ b. b.guest_khz) (λ x b. record b { guest_khz = x })
    (λ b p. khz_valid p.guest_khz)
    ∷ field (number 8) (λ b. b.accesses) (λ x b. record b { accesses = x })
    (λ b p. nat_le p.accesses MOST_ACCESSES)
    ∷ field (number 8) (λ b. b.greatest) (λ x b. record b { greatest = x }) any
    ∷ field (number 8) (λ b. b.slew_ns) (λ x b. record b { slew_ns = x })
    (λ b p. nat_le 1 p.slew_ns && nat_le p.slew_ns SLEW_MAX_NS) ∷ []

-- the policies
unfoldable pub policies : Fields BoardParts
policies = policy_field 0 ∷ policy_field 1 ∷ policy_field 2 ∷ []

-- the flags of a counter, in the order of their bits
abbrev pub flags_from : CounterParts → List Bool
flags_from c = c.null ∷ c.out ∷ c.gate ∷ c.full ∷ c.live ∷ c.armed ∷ c.trig ∷ c.odd ∷ []

-- a counter with these flags
abbrev pub with_flags : List Bool → CounterParts → CounterParts
with_flags (n ∷ o ∷ g ∷ f ∷ l ∷ a ∷ t ∷ d ∷ []) c =
    record c { null = n; out = o; gate = g; full = f; live = l; armed = a; trig = t; odd = d }
with_flags _ c = c

-- counter k of the 8254: programmed bits, flags, count register, counting element, first byte, read
-- order, latched count, latched status. GATE of counters 0 and 1 is high
unfoldable pub counter : ℕ → Fields CounterParts
counter k =
    field byte (λ c. c.bits) (λ x c. record c { bits = x }) (λ b c. bits_valid c)
    ∷ field flags flags_from with_flags (λ b c. flags_valid c && (c.gate || nat_le 2 k))
    ∷ field (number 2) (λ c. c.cr) (λ x c. record c { cr = x }) (λ b c. cr_valid c)
    ∷ field (number 2) (λ c. c.ce) (λ x c. record c { ce = x }) (λ b c. ce_valid c)
    ∷ field (both flag byte) (λ c. (c.part_there, c.part))
    (λ x c. record c { part_there = x.0; part = x.1 }) (λ b c. part_valid c)
    ∷ field flag (λ c. c.high_next) (λ x c. record c { high_next = x }) (λ b c. read_order_valid c)
    ∷ field (both flag (number 2)) (λ c. (c.count_latched, c.latched_count))
    (λ x c. record c { count_latched = x.0; latched_count = x.1 }) (λ b c. latched_count_valid c)
    ∷ field (both flag byte) (λ c. (c.status_latched, c.latched_status))
    (λ x c. record c { status_latched = x.0; latched_status = x.1 })
    (λ b c. latched_status_valid c) ∷ []

-- what the place of a counter that isn't there holds
abbrev pub no_counter : CounterParts
no_counter = counter_at_power_on true

-- the counters of the 8254
unfoldable pub counters : Fields BoardParts
counters =
    blocks 3 3 counter no_counter (λ b. b.pit.counters)
    (λ x b. record b { pit = record b.pit { counters = x } }) ∷ []

-- speaker data, and the MC146818: index, bytes, divider, cycle
unfoldable pub clock : Fields BoardParts
clock =
    field flag (λ b. b.pit.speaker) (λ x b. record b { pit = record b.pit { speaker = x } }) any
    ∷ field byte (λ b. b.rtc.index) (λ x b. record b { rtc = record b.rtc { index = x } })
    (λ b p. index_valid p.rtc)
    ∷ field (rows 128 128 byte 0) (λ b. b.rtc.bytes)
    (λ x b. record b { rtc = record b.rtc { bytes = x } }) (λ b p. bytes_valid p.rtc)
    ∷ field (number 2) (λ b. b.rtc.d) (λ x b. record b { rtc = record b.rtc { d = x } })
    (λ b p. divider_valid p.rtc)
    ∷ field flag (λ b. b.rtc.cycle) (λ x b. record b { rtc = record b.rtc { cycle = x } })
    (λ b p. cycle_valid p.rtc) ∷ []

-- a timer of the HPET: configuration, comparator, period
unfoldable pub timer : ℕ → Fields TimerParts
timer k =
    field (number 2) (λ t. t.config) (λ x t. record t { config = x }) (λ b t. config_valid t)
    ∷ field (number 8) (λ t. t.comparator) (λ x t. record t { comparator = x })
    (λ b t. comparator_valid t)
    ∷ field (number 8) (λ t. t.period) (λ x t. record t { period = x }) (λ b t. period_valid t) ∷ []

-- the HPET: configuration, status, of which format 1 has three bits, main counter
unfoldable pub registers : Fields BoardParts
registers =
    field byte (λ b. b.hpet.config) (λ x b. record b { hpet = record b.hpet { config = x } })
    (λ b p. nat_le p.hpet.config 3)
    ∷ field byte (λ b. b.hpet.status) (λ x b. record b { hpet = record b.hpet { status = x } })
    (λ b p. nat_le 2 p.format || nat_le p.hpet.status 7)
    ∷ field (number 8) (λ b. b.hpet.counter)
    (λ x b. record b { hpet = record b.hpet { counter = x } }) any ∷ []

-- its timers
unfoldable pub timers : ℕ → Fields BoardParts
timers n =
    blocks n 8 timer no_hpet_timer (λ b. b.hpet.timer)
    (λ x b. record b { hpet = record b.hpet { timer = x } }) ∷ []

-- whether tick line k may be up, or down: that of the MC146818 is PF while its ticks are counted
abbrev pub up_allowed : BoardParts → ℕ → Bool → Bool
up_allowed b k up = if k == 1 then beq up (counts_rtc (devices_in b) && pf_of b.rtc) else true

-- a tick line of a part T: whether it is up, and its ticks: due, of which there are, at most, as
-- many as there were nanoseconds and accesses; rises; queue; lost, with the sum
abbrev pub ticks_of : {T : Type 0} → (T → TickParts) → (TickParts → T → T)
    → (BoardParts → T → Bool) → Fields T
ticks_of of with_line up_valid =
    field flag (λ t. (of t).up) (λ x t. with_line (record (of t) { up = x }) t) up_valid
    ∷ field (number 8) (λ t. (of t).counts.due)
    (λ x t. with_line (record (of t) { counts = record (of t).counts { due = x } }) t)
    (λ b t. nat_le (of t).counts.due (now_of b + b.accesses))
    ∷ field (number 8) (λ t. (of t).counts.rises)
    (λ x t. with_line (record (of t) { counts = record (of t).counts { rises = x } }) t) any
    ∷ field (number 8) (λ t. (of t).counts.queue)
    (λ x t. with_line (record (of t) { counts = record (of t).counts { queue = x } }) t)
    (λ b t. queue_valid (of t))
    ∷ field (number 8) (λ t. (of t).counts.lost)
    (λ x t. with_line (record (of t) { counts = record (of t).counts { lost = x } }) t)
    (λ b t. lost_valid (of t)) ∷ []

-- tick line k, with its policy, which is before the 8254
unfoldable pub line : ℕ → Fields TickParts
line k =
    ticks_of (λ l. l) (λ x l. x) (λ b l. up_allowed b k l.up)
    ++ elsewhere (policy_place k) policy (λ l. l.policy) (λ x l. record l { policy = x }) ∷ []

-- the tick lines: two, and one for each timer
unfoldable pub lines : ℕ → Fields BoardParts
lines n =
    blocks (n + 2) 10 line no_line (λ b. b.ticks) (λ x b. record b { ticks = x }) ∷ []

-- how many counts of rises there are: none in format 1
abbrev pub counts_of : ℕ → ℕ
counts_of format = if nat_le 2 format then 6 else 0

-- the counts of the six lines
unfoldable pub rises : ℕ → Fields BoardParts
rises counts =
    field (rows counts 6 (number 8) 0) (λ b. b.rises) (λ x b. record b { rises = x })
    (λ b p. legacy_rises_valid p && (has_messages p.format || routed_rises_valid p)) ∷ []

-- a version is even; before the first publishing it is 0, with what is before it
abbrev pub version_valid : ℕ → Bool → Bool
version_valid version unused = (version % 2 == 0) && (nat_lt 0 version || unused)

-- a field after a version: before the first publishing it is 0, and then it has this condition
abbrev pub published_valid : ℕ → ℕ → Bool → Bool
published_valid version value valid = if version == 0 then value == 0 else valid

-- the wall clock: the number of its words, their version, its seconds and nanoseconds at power on
unfoldable pub wall : Fields BoardParts
wall =
    field (number 8) (λ b. b.wall_number) (λ x b. record b { wall_number = x }) any
    ∷ field (number 4) (λ b. b.wall_version) (λ x b. record b { wall_version = x })
    (λ b p. version_valid p.wall_version (p.wall_number == 0))
    ∷ field (number 4) (λ b. b.wall_sec) (λ x b. record b { wall_sec = x }) any
    ∷ field (number 4) (λ b. b.wall_nsec) (λ x b. record b { wall_nsec = x })
    (λ b p. nat_lt p.wall_nsec 1000000000) ∷ []

-- the TSC of a processor: offset, adjust; the number of its page, and the version
unfoldable pub tsc : Fields ProcessorParts
tsc =
    field (number 8) (λ p. p.offset) (λ x p. record p { offset = x }) any
    ∷ field (number 8) (λ p. p.adjust) (λ x p. record p { adjust = x }) any
    ∷ field (number 8) (λ p. p.number) (λ x p. record p { number = x }) any
    ∷ field (number 4) (λ p. p.version) (λ x p. record p { version = x })
    (λ b p. version_valid p.version ((p.offset == 0) && (p.adjust == 0) && (p.number == 0))) ∷ []

-- the page: TSC and time, their scale by the guest's rate, flags
unfoldable pub page : Fields ProcessorParts
page =
    field (number 8) (λ p. p.tsc_timestamp) (λ x p. record p { tsc_timestamp = x })
    (λ b p. published_valid p.version p.tsc_timestamp true)
    ∷ field (number 8) (λ p. p.system_time) (λ x p. record p { system_time = x })
    (λ b p. published_valid p.version p.system_time (nat_lt p.system_time RANGE_NS))
    ∷ field (number 4) (λ p. p.mul) (λ x p. record p { mul = x })
    (λ b p. published_valid p.version p.mul (p.mul == mul_for (b.guest_khz * 1000)))
    ∷ field signed_byte (λ p. p.shift) (λ x p. record p { shift = x })
    (λ b p. published_valid p.version (cast_unsigned w8 p.shift)
    (cast_unsigned w8 p.shift == cast_unsigned w8 (shift_for (b.guest_khz * 1000))))
    ∷ field byte (λ p. p.flags) (λ x p. record p { flags = x })
    (λ b p. published_valid p.version p.flags (page_flags_valid p.flags)) ∷ []

-- processor k
abbrev pub processor : ℕ → Fields ProcessorParts
processor k = tsc ++ page

-- the processors
unfoldable pub processors : ℕ → Fields BoardParts
processors cpus =
    blocks cpus 64 processor no_processor (λ b. b.processors) (λ x b. record b { processors = x })
    ∷ []

-- a local APIC's timer with its tick line
abbrev pub Apic : Type 0
Apic = ApicParts × TickParts

-- the timer: LVT, divide configuration, initial and current count, phase, deadline
unfoldable pub apic_timer : Fields Apic
apic_timer =
    field (number 4) (λ a. a.0.lvt) (λ x a. (record a.0 { lvt = x }, a.1)) (λ b a. lvt_valid a.0)
    ∷ field byte (λ a. a.0.divide) (λ x a. (record a.0 { divide = x }, a.1))
    (λ b a. divide_valid a.0)
    ∷ field (number 4) (λ a. a.0.initial) (λ x a. (record a.0 { initial = x }, a.1))
    (λ b a. initial_valid a.0)
    ∷ field (number 4) (λ a. a.0.current) (λ x a. (record a.0 { current = x }, a.1))
    (λ b a. current_valid a.0)
    ∷ field byte (λ a. a.0.phase) (λ x a. (record a.0 { phase = x }, a.1)) (λ b a. phase_valid a.0)
    ∷ field (number 8) (λ a. a.0.deadline) (λ x a. (record a.0 { deadline = x }, a.1))
    (λ b a. deadline_valid a.0) ∷ []

-- its tick line, whose policy is Discard on each board
unfoldable pub apic_line : Fields Apic
apic_line = ticks_of (λ a. a.1) (λ x a. (a.0, x)) any

-- the timer of processor k, with its tick line
abbrev pub apic : ℕ → Fields Apic
apic k = apic_timer ++ apic_line

-- what the place of a processor that isn't there holds
abbrev pub no_apic : Apic
no_apic = (no_timer, no_line)

-- the timers of a board, each with its tick line
abbrev pub apic_pairs : BoardParts → List Apic
apic_pairs b = zip b.apic b.apic_ticks

-- the timers of n processors
unfoldable pub apics : ℕ → Fields BoardParts
apics n =
    blocks n 64 apic no_apic apic_pairs
    (λ x b. record b { apic = map (λ a. a.0) x; apic_ticks = map (λ a. a.1) x }) ∷ []

-- the scale of a reference page: that of the guest's rate where bit 0 of the number enables it
abbrev pub scale_for : ℕ → ℕ → ℕ
scale_for guest_khz number = if bit 0 number then tsc_scale guest_khz else 0

-- the reference page of Hyper-V: its number, its version, its processor; its scale; what is added,
-- and the TSC's offset, both 0 where the scale is
unfoldable pub reference : ℕ → Fields HvParts
reference k =
    field (number 8) (λ p. p.number) (λ x p. record p { number = x }) any
    ∷ field (number 4) (λ p. p.version) (λ x p. record p { version = x })
    (λ b p. version_valid p.version (p.number == 0))
    ∷ field byte (λ p. p.cpu) (λ x p. record p { cpu = x })
    (λ b p. published_valid p.version p.cpu (nat_lt p.cpu b.cpus))
    ∷ field (number 8) (λ p. p.scale) (λ x p. record p { scale = x })
    (λ b p. p.scale == scale_for b.guest_khz p.number)
    ∷ field (number 8) (λ p. p.offset) (λ x p. record p { offset = x })
    (λ b p. nat_lt 0 p.scale || (p.offset == 0))
    ∷ field (number 8) (λ p. p.tsc_offset) (λ x p. record p { tsc_offset = x })
    (λ b p. nat_lt 0 p.scale || (p.tsc_offset == 0)) ∷ []

-- how many such pages a format has
abbrev pub references_of : ℕ → ℕ
references_of format = if nat_le HV_FORMAT format then 1 else 0

-- those pages
unfoldable pub references : ℕ → Fields BoardParts
references n =
    blocks n 1 reference no_hv (λ b. b.hv ∷ []) (λ x b. record b { hv = slice_index_or x 0 no_hv })
    ∷ []

-- the messages of a timer of the HPET: whether it sends them, and its message register
abbrev pub Message : Type 0
Message = Bool × ℕ

-- those of timer k. With the last timer the levels of lines 20 to 23 are known, so their counts of
-- rises have their condition there
unfoldable pub message : ℕ → Fields Message
message k =
    field flag (λ m. m.0) (λ x m. (x, m.1))
    (λ b m. not (k == 7) || routed_rises_valid b)
    ∷ field (number 8) (λ m. m.1) (λ x m. (m.0, x)) any ∷ []

-- how many timers of a format send messages
abbrev pub messages_of : ℕ → ℕ
messages_of format = if has_messages format then 8 else 0

-- what the place of a timer that sends none holds
abbrev pub no_message : Message
no_message = (false, 0)

-- the messages of a board's timers
abbrev pub message_pairs : BoardParts → List Message
message_pairs b = zip b.hpet.message_bit b.hpet.message_word

-- the messages of n timers
unfoldable pub messages : ℕ → Fields BoardParts
messages n =
    blocks n 8 message no_message message_pairs (λ x b. record b {
      hpet = record b.hpet { message_bit = map (λ m. m.0) x; message_word = map (λ m. m.1) x };
    }) ∷ []

-- all before the 8254
abbrev pub front : Fields BoardParts
front = head ++ host ++ guest ++ policies

-- the devices with their tick lines
abbrev pub devices : ℕ → Fields BoardParts
devices format =
    counters ++ (clock ++ (registers ++ (timers (timers_of format) ++ lines (timers_of format))))

-- what follows the tick lines
abbrev pub back : ℕ → ℕ → Fields BoardParts
back format cpus =
    rises (counts_of format) ++ (wall ++ (processors cpus ++ (apics (apics_of format cpus)
    ++ (references (references_of format) ++ messages (messages_of format)))))

-- the fields of a board of a format
abbrev pub fields_of : ℕ → ℕ → Fields BoardParts
fields_of format cpus = front ++ (devices format ++ back format cpus)
