-- A board that is read, whose conditions all hold, is valid; the first fault of bytes is that of the head, of the devices, or of the rest.
use Rattle.save_state.proofs.Names.{LAST_FORMAT, messages, messages_of, devices, back, rises, wall, processor, processors, apics, reference, references}
use Rattle.save_state.proofs.Names.{references_of, message, no_message, message_pairs, no_counter, counters, clock, registers, timer, timers, beq, up_allowed}
use Rattle.save_state.proofs.Names.{line, lines, counts_of, rise_valid, legacy_rises_valid, routed_rises_valid}
use Rattle.save_state.proofs.Names.{head, host, guest, policies, front, counter, AreProcessors, AreRises, IsHv, IsBoard, IsProcessor-none, IsHv-none, plain}
use Rattle.save_state.proofs.Names.{AreDevices, one_if, devices_in, now_of, no_processor, processor_at}
use Rattle.save_state.proofs.Names.{apics_of, no_hv, IsWall, IsProcessor, timers_of, has_messages, levels, counts_rtc, no_line, line_at, IsTimerLine, timer_at}
use Rattle.save_state.proofs.Names.{Policy, TickParts, IsTickLine, BoardParts, HvParts, ProcessorParts, HV_FORMAT, IsTimer, IsHpet, IsPlace, no_timer}
use Rattle.save_state.proofs.Names.{register_d, pf_of, af_of, uf_of, flags_byte, divider_of, IsRtc, bytes_valid, divider_valid, cycle_valid, TimerParts}
use Rattle.save_state.proofs.Names.{cond-true, CounterParts, IsCounter, IsPit, IsDivider, RtcParts, register_a, register_c, inl, inr, refl, ap, sym, subst, ◌∙◌}
use Rattle.save_state.proofs.Names.{arith, and_parts, or_cases, leb-true, ltb-true, ltb-false, lt-ltb, le-ltb, cases_lt, ◌≡◌, ℕ, suc, ◌+◌, ◌<◌, ◌≤◌, Bool, true}
use Rattle.save_state.proofs.Names.{false, ◌&&◌, ◌||◌, leb, ltb, [], length, get_or, ◌⊎◌, IsHead, timers_least, references-one, all-six, levels-at}
use Rattle.save_state.proofs.Names.{fields_of, format_in, cpus_in, board_in, front_rows, trailing, fault_of, option_or-both}
use Rattle.save_state.proofs.Names.{fault-parts, StateFault, Fields, size_of, option_or, fault_in, AreBytes, option_or-none, ◌++◌}
use Rattle.save_state.proofs.Names.{blocks-none, khz_valid, host_valid, IsKhz, processors_of, MOST_ACCESSES, SLEW_MAX_NS}
use Rattle.host_counter.specs.Time.{HasTime}
use Rattle.save_state.proofs.BlockRows.{ended, option_or-some, rows-valid, front-rows, counter-rows, clock-rows, timer-rows, registers-rows, line-rows, wall-rows, rises-rows, message-rows}
use Rattle.save_state.proofs.Blocks.{TicksHold, ticks-hold, processor-valid, reference-valid}
use Rattle.save_state.proofs.{ApicLaws.apics-valid, RoundTrip.IsRead, RoundTrip.board-read}
use Rattle.save_state.proofs.{RoundTrip.bytes_of-board_in, Names.List, Names.Option, Names.None, Names.layout}

-- the fields before the 8254
both-bounds : (low n high : ℕ) → (leb low n && leb n high) ≡ true → (low ≤ n) × (n ≤ high)
both-bounds low n high e = let is = and_parts (leb low n) (leb n high) e in (leb-true low n is.0, leb-true n high is.1)

khz-is : (khz : ℕ) → khz_valid khz ≡ true → IsKhz khz
khz-is khz e = grind arith

host-is : (b : BoardParts) → host_valid b ≡ true → HasTime b.anchor b.host
host-is b e = grind arith

processors-few : (format : ℕ) → processors_of format ≤ 64
processors-few format = grind arith

pub head-valid : (bytes : List ℕ) → fault_in front (board_in bytes) (board_in bytes) 0 bytes ≡ None → IsHead (board_in bytes)
unfolding front_rows
head-valid bytes none =
    let b : BoardParts = board_in bytes in
    let h = rows-valid bytes 0 _ (sym (front-rows bytes) ∙ none) in
    let format = both-bounds 1 b.format LAST_FORMAT h.1.0 in
    let cpus = both-bounds 1 b.cpus (processors_of b.format) h.1.1.0 in
    let slew = both-bounds 1 b.slew_ns SLEW_MAX_NS h.1.1.1.1.1.1.1.1.1.1.0 in
    record {
      least = format.0;
      built = format.1;
      least_cpus = cpus.0;
      most_cpus = cpus.1;
      few = omega (arith, cpus.1, processors-few b.format);
      host = khz-is b.anchor.khz h.1.1.1.0;
      time = host-is b h.1.1.1.1.1.1.0;
      guest = khz-is b.guest_khz h.1.1.1.1.1.1.1.0;
      accesses = leb-true b.accesses MOST_ACCESSES h.1.1.1.1.1.1.1.1.0;
      least_slew = slew.0;
      most_slew = slew.1;
    }

-- the counters, with GATE as it is wired
counter-valid : (b : BoardParts) (k : ℕ) (c : CounterParts) (place : ℕ) (bytes : List ℕ) → fault_in (counter k) b c place bytes ≡ None
    → IsCounter c × ((c.gate || leb 2 k) ≡ true)
counter-valid b k c place bytes none = let h = rows-valid bytes place _ (sym (counter-rows k b c place bytes) ∙ none) in grind arith

high : (gate : Bool) → (gate || false) ≡ true → gate ≡ true
high true e = refl
high false e = e

each_counter : (b : BoardParts) (place : ℕ) (bytes : List ℕ) → fault_in counters b b place bytes ≡ None → (k : ℕ) → k < 3
    → IsCounter (get_or b.pit.counters k no_counter) × (((get_or b.pit.counters k no_counter).gate || leb 2 k) ≡ true)
unfolding counters
each_counter b place bytes none k less =
    let one = blocks-none 3 3 counter no_counter _ _ b b place bytes none k less in
    counter-valid b k (get_or b.pit.counters k no_counter) one.0 bytes one.1

pit-valid : (b : BoardParts) → length b.pit.counters ≡ 3 → (place : ℕ) (bytes : List ℕ) → fault_in counters b b place bytes ≡ None → IsPit b.pit
pit-valid b three place bytes none =
    let each = each_counter b place bytes none in
    record {
      three = three;
      first = (each 0 (omega arith)).0;
      second = (each 1 (omega arith)).0;
      third = (each 2 (omega arith)).0;
      gate_of_first = high _ (each 0 (omega arith)).1;
      gate_of_second = high _ (each 1 (omega arith)).1;
    }

-- the MC146818
divider-valid : (r : RtcParts) → divider_valid r ≡ true → cycle_valid r ≡ true → IsDivider (divider_of r)
divider-valid r e e' = record { below = grind arith; held = grind arith; in_cycle = λ on. grind arith; dv = omega arith; rs = omega arith }

bytes-valid : (r : RtcParts) → bytes_valid r ≡ true
    → (register_a r ≤ 0x7f) × (register_c r ≡ flags_byte (pf_of r) (af_of r) (uf_of r)) × (register_d r ≡ 0x80)
bytes-valid r e = (grind arith, grind arith, grind arith)

clock-valid : (b : BoardParts) → length b.rtc.bytes ≡ 128 → (place : ℕ) (bytes : List ℕ) → fault_in clock b b place bytes ≡ None → IsRtc b.rtc
clock-valid b long place xs none =
    let r : RtcParts = b.rtc in
    let h = rows-valid xs place _ (sym (clock-rows b place xs) ∙ none) in
    let bytes = bytes-valid r h.1.1.0 in
    record {
      places = long;
      index = leb-true r.index 0x7f h.1.0;
      register_a = bytes.0;
      register_c = bytes.1;
      register_d = bytes.2;
      divider = divider-valid r h.1.1.1.0 h.1.1.1.1.0;
    }

-- the HPET
timer-valid : (b : BoardParts) (k : ℕ) (t : TimerParts) (place : ℕ) (bytes : List ℕ) → fault_in (timer k) b t place bytes ≡ None → IsTimer t
timer-valid b k t place bytes none = let h = rows-valid bytes place _ (sym (timer-rows k b t place bytes) ∙ none) in grind arith

timers-few : (format : ℕ) → (timers_of format ≡ 3) ⊎ (timers_of format ≡ 8)
timers-few format = grind arith

-- with three timers the status has three bits
status-few : (format status : ℕ) → (leb 2 format || leb status 7) ≡ true → timers_of format ≡ 3 → status ≤ 7
status-few format status e three = grind arith

-- a format with messages has eight timers, and one without has none of them
eight-timers : (format : ℕ) → has_messages format ≡ true → timers_of format ≡ 8
eight-timers format e = grind arith

no-messages : (format : ℕ) → has_messages format ≡ false → messages_of format ≡ 0
no-messages format e = grind arith

place-valid : (k n : ℕ) (t : TimerParts) → (k < n → IsTimer t) → (n ≤ k → t ≡ no_timer) → IsPlace (ltb k n) t
place-valid k n t there absent = elim (cases_lt k n) [
  | inl less ↦ subst (λ (b : Bool). IsPlace b t) (sym (lt-ltb k n less)) (there less)
  | inr more ↦ subst (λ (b : Bool). IsPlace b t) (sym (le-ltb k n more)) (absent more)
]

hpet-valid : (b : BoardParts) → IsRead b → (p q : ℕ) (bytes : List ℕ) → fault_in registers b b p bytes ≡ None
    → fault_in (timers (timers_of b.format)) b b q bytes ≡ None → IsHpet b.hpet
unfolding timers
hpet-valid b is p q bytes none none' =
    let n : ℕ = timers_of b.format in
    let h = rows-valid bytes p _ (sym (registers-rows b p bytes) ∙ none) in
    record {
      config = leb-true b.hpet.config 3 h.0;
      timers = subst (λ (m : ℕ). (m ≡ 3) ⊎ (m ≡ 8)) (sym is.timers) (timers-few b.format);
      status = λ three. status-few b.format b.hpet.status h.1.0 (sym is.timers ∙ three);
      places = λ k small.
          subst (λ (m : ℕ). IsPlace (ltb k m) (timer_at k b.hpet)) (sym is.timers) (place-valid k n (timer_at k b.hpet)
          (λ (less : k < n).
          let one = blocks-none n 8 timer no_timer _ _ b b q bytes none' k less in
          timer-valid b k (timer_at k b.hpet) one.0 bytes one.1)
          (is.no_timers k));
      messages = λ e. is.timers ∙ eight-timers b.format (sym is.messages ∙ e);
      plain = λ e k small. is.no_messages k (omega (arith, no-messages b.format (sym is.messages ∙ e)));
    }

-- the tick lines
record LineHolds (b : BoardParts) (k : ℕ) (l : TickParts) : Type 0 where
  up : up_allowed b k l.up ≡ true
  ticks : TicksHold b l

line-valid : (b : BoardParts) (k : ℕ) (l : TickParts) (place : ℕ) (bytes : List ℕ) → fault_in (line k) b l place bytes ≡ None → LineHolds b k l
line-valid b k l place bytes none =
    let h = rows-valid bytes place _ (sym (line-rows k b l place bytes) ∙ none) in
    record { up = h.0; ticks = ticks-hold b l h.1.0 h.1.1.1.0 h.1.1.1.1.0 }

none-valid : IsTickLine no_line
none-valid = record { sum = refl; policy = refl }

same-is : (a b : Bool) → beq a b ≡ true → a ≡ b
same-is true true e = refl
same-is true false e = sym e
same-is false true e = e
same-is false false e = refl

timer_line-valid : (b : Bool) (policy : Policy) (l : TickParts) → (b ≡ true → l.policy ≡ policy) → (b ≡ false → l ≡ no_line) → IsTimerLine b policy l
timer_line-valid true policy l there absent = there refl
timer_line-valid false policy l there absent = absent refl

module _ (b : BoardParts) (is : IsRead b) (start : ℕ) (bytes : List ℕ) (none : fault_in (lines (timers_of b.format)) b b start bytes ≡ None) where
  here : (k : ℕ) → k < timers_of b.format + 2 → LineHolds b k (line_at k (devices_in b))
  unfolding lines
  here k less =
      let one = blocks-none (timers_of b.format + 2) 10 line no_line _ _ b b start bytes none k less in
      line-valid b k (line_at k (devices_in b)) one.0 bytes one.1

  lines-valid : (k : ℕ) → IsTickLine (line_at k (devices_in b))
  lines-valid k = elim (cases_lt k (timers_of b.format + 2)) [
    | inl less ↦ (here k less).ticks.valid
    | inr more ↦ subst (λ (l : TickParts). IsTickLine l) (sym (is.no_lines k more)) none-valid
  ]

  lines-due : (k : ℕ) → (line_at k (devices_in b)).counts.due ≤ now_of b + b.accesses
  lines-due k = elim (cases_lt k (timers_of b.format + 2)) [
    | inl less ↦ (here k less).ticks.due
    | inr more ↦ subst (λ (l : TickParts). l.counts.due ≤ now_of b + b.accesses) (sym (is.no_lines k more)) (omega arith)
  ]

  clock_line-valid : (line_at 1 (devices_in b)).up ≡ (counts_rtc (devices_in b) && pf_of b.rtc)
  clock_line-valid = same-is _ _ (here 1 (omega (arith, timers_least b.format))).up

timer_lines-valid : (b : BoardParts) → IsRead b → (k : ℕ)
    → IsTimerLine (ltb k b.hpet.timers) (line_at 2 (devices_in b)).policy (line_at (suc (suc k)) (devices_in b))
timer_lines-valid b is k =
    timer_line-valid (ltb k b.hpet.timers) _ _
    (λ (e : ltb k b.hpet.timers ≡ true). is.policies (suc (suc k)) (omega arith) (omega (arith, ltb-true k b.hpet.timers e, is.timers)))
    (λ (e : ltb k b.hpet.timers ≡ false). is.no_lines (suc (suc k)) (omega (arith, ltb-false k b.hpet.timers e, is.timers)))

-- the devices
module _ (b : BoardParts) (is : IsRead b) (head : IsHead b) (place : ℕ) (bytes : List ℕ) (none : fault_in (devices b.format) b b place bytes ≡ None) where
  abbrev clock_at : ℕ
  clock_at = place + size_of counters

  abbrev registers_at : ℕ
  registers_at = clock_at + size_of clock

  abbrev timers_at : ℕ
  timers_at = registers_at + size_of registers

  abbrev lines_at : ℕ
  lines_at = timers_at + size_of (timers (timers_of b.format))

  each : (fault_in counters b b place bytes ≡ None) × (fault_in clock b b clock_at bytes ≡ None) × (fault_in registers b b registers_at bytes ≡ None)
      × (fault_in (timers (timers_of b.format)) b b timers_at bytes ≡ None)
      × (fault_in (lines (timers_of b.format)) b b lines_at bytes ≡ None)
  each =
      let n : ℕ = timers_of b.format in
      let pit = fault-parts counters (clock ++ (registers ++ (timers n ++ lines n))) b b place bytes none in
      let rtc = fault-parts clock (registers ++ (timers n ++ lines n)) b b clock_at bytes pit.1 in
      let hpet = fault-parts registers (timers n ++ lines n) b b registers_at bytes rtc.1 in
      let last = fault-parts (timers n) (lines n) b b timers_at bytes hpet.1 in (pit.0, rtc.0, hpet.0, last.0, last.1)

  pub lines-due-there : (k : ℕ) → (line_at k (devices_in b)).counts.due ≤ now_of b + b.accesses
  lines-due-there k = lines-due b is lines_at bytes each.4 k

  pub devices-valid : AreDevices (devices_in b)
  devices-valid = record {
    pit = pit-valid b is.three place bytes each.0;
    rtc = clock-valid b is.bytes clock_at bytes each.1;
    hpet = hpet-valid b is registers_at timers_at bytes each.2 each.3;
    lines = λ k small. lines-valid b is lines_at bytes each.4 k;
    joined = record {
      places = is.ten;
      slew_low = head.least_slew;
      slew_high = head.most_slew;
      flag = clock_line-valid b is lines_at bytes each.4;
      timer_lines = λ k small. timer_lines-valid b is k;
    };
  }

-- the wall clock
wall-valid : (b : BoardParts) → IsRead b → (place : ℕ) (bytes : List ℕ) → fault_in wall b b place bytes ≡ None
    → IsWall b.wall_number b.wall_version b.wall_nsec
wall-valid b is place bytes none =
    let small = is.wall_version in
    let h = rows-valid bytes place _ (sym (wall-rows b place bytes) ∙ none) in grind arith

-- the processors
processors-valid : (b : BoardParts) → IsRead b → (start : ℕ) (bytes : List ℕ) → fault_in (processors b.cpus) b b start bytes ≡ None
    → AreProcessors b.guest_khz b.cpus b.processors
unfolding processors
processors-valid b is start bytes none = record {
  each = λ (k : ℕ). elim (cases_lt k b.cpus) [
    | inl less ↦
        let one = blocks-none b.cpus 64 processor no_processor _ _ b b start bytes none k less in
        processor-valid b k (processor_at b k) (is.pages k less) one.0 bytes one.1
    | inr more ↦ subst (λ (p : ProcessorParts). IsProcessor b.guest_khz p) (sym (is.no_processors k more)) (IsProcessor-none b.guest_khz)
  ];
  absent = is.no_processors;
}

-- the reference page
hv-valid : (b : BoardParts) → IsRead b → 1 ≤ b.cpus → (start : ℕ) (bytes : List ℕ) → fault_in (references (references_of b.format)) b b start bytes ≡ None
    → IsHv b.format b.guest_khz b.cpus b.hv
unfolding references
hv-valid b is some start bytes none = elim (cases_lt b.format HV_FORMAT) [
  | inl before ↦ subst (λ (p : HvParts). IsHv b.format b.guest_khz b.cpus p) (sym (is.no_reference before)) (IsHv-none b.format b.guest_khz b.cpus some)
  | inr there ↦
      let one = blocks-none (references_of b.format) 1 reference no_hv _ _ b b start bytes none 0 (omega (arith, references-one b.format there)) in
      reference-valid b some is.reference_version there one.0 bytes one.1
]

-- the counts of rises
routed-valid : (b : BoardParts) (p q : ℕ) (bytes : List ℕ) → fault_in (rises (counts_of b.format)) b b p bytes ≡ None
    → fault_in (messages (messages_of b.format)) b b q bytes ≡ None → (legacy_rises_valid b ≡ true) × (routed_rises_valid b ≡ true)
unfolding messages
routed-valid b p q bytes none none' =
    let h = rows-valid bytes p _ (sym (rises-rows (counts_of b.format) b p bytes) ∙ none) in
    let parts = and_parts (legacy_rises_valid b) (has_messages b.format || routed_rises_valid b) h.0 in (
      parts.0,
      elim (or_cases (has_messages b.format) (routed_rises_valid b) parts.1) [
        | inl there ↦
            let eight : messages_of b.format ≡ 8 = cond-true {A = ℕ} (has_messages b.format) 8 0 there in
            let one = blocks-none (messages_of b.format) 8 message no_message _ _ b b q bytes none' 7 (omega (arith, eight)) in
            let last = rows-valid bytes one.0 _ (sym (message-rows 7 b (get_or (message_pairs b) 7 no_message) one.0 bytes) ∙ one.1) in
            last.0
        | inr is ↦ is
      ],
    )

rises-valid : (b : BoardParts) → IsRead b → (legacy_rises_valid b ≡ true) × (routed_rises_valid b ≡ true)
    → AreRises b.format b.accesses (levels (devices_in b)) b.rises
rises-valid b is ok = record {
  most = λ (k : ℕ) (less : k < 6).
      subst (λ (x : Bool). get_or b.rises k 0 ≤ b.accesses + one_if x) (sym (levels-at (devices_in b) k less))
      (leb-true (get_or b.rises k 0) _ (all-six (rise_valid b) ok.0 ok.1 k less));
  none = λ (first : b.format ≤ 1) (k : ℕ). is.no_rises k (none b.format first k);
}
  where
    none : (f : ℕ) → f ≤ 1 → (k : ℕ) → counts_of f ≤ k
    none f le k = grind arith

-- the board
pub board-valid : (b : BoardParts) → IsRead b → IsHead b → (p q : ℕ) (xs bytes : List ℕ) → fault_in (devices b.format) b b p xs ≡ None
    → fault_in (back b.format b.cpus) b b q bytes ≡ None → IsBoard b
board-valid b is head p q xs bytes none none' =
    let f : ℕ = b.format in
    let last : Fields BoardParts = references (references_of f) ++ messages (messages_of f) in
    let counts = fault-parts (rises (counts_of f)) (wall ++ (processors b.cpus ++ (apics (apics_of f b.cpus) ++ last))) b b q bytes none' in
    let clock = fault-parts wall (processors b.cpus ++ (apics (apics_of f b.cpus) ++ last)) b b _ bytes counts.1 in
    let cpus = fault-parts (processors b.cpus) (apics (apics_of f b.cpus) ++ last) b b _ bytes clock.1 in
    let timers = fault-parts (apics (apics_of f b.cpus)) last b b _ bytes cpus.1 in
    let page = fault-parts (references (references_of f)) (messages (messages_of f)) b b _ bytes timers.1 in
    record {
      devices = devices-valid b is head p xs none;
      joined = record {
        format = record { least = head.least; last = head.built; least_cpus = head.least_cpus; most_cpus = head.most_cpus; has_timers = is.timers };
        rates = record { host = head.host; guest = head.guest };
        time = head.time;
        accesses = head.accesses;
        due = λ (k : ℕ) (less : k < 10). lines-due-there b is head p xs none k;
        wall = wall-valid b is _ bytes clock.0;
        processors = processors-valid b is _ bytes cpus.0;
        rises = rises-valid b is (routed-valid b _ _ bytes counts.0 page.1);
        messages = is.messages;
        apics = apics-valid b is.apics _ bytes timers.0;
        hv = hv-valid b is head.least_cpus _ bytes page.0;
      };
    }

-- the format and the number of processors of the board
pub board-format : (bytes : List ℕ) → ((board_in bytes).format ≡ format_in bytes) × ((board_in bytes).cpus ≡ cpus_in bytes)
unfolding layout
board-format bytes = (refl, refl)

pub three-parts : (bytes : List ℕ) → let b : BoardParts = board_in bytes in let p : ℕ = 0 + size_of front in let q : ℕ = p + size_of (devices b.format) in
    fault_of bytes ≡ option_or (fault_in front b b 0 bytes) (option_or (fault_in (devices b.format) b b p bytes)
    (option_or (fault_in (back b.format b.cpus) b b q bytes) (trailing (q + size_of (back b.format b.cpus)) bytes)))
unfolding fault_of
three-parts bytes =
    let b : BoardParts = board_in bytes in
    let is = board-format bytes in
    let all : Fields BoardParts = fields_of b.format b.cpus in
    let size : size_of all ≡ 0 + size_of all = omega arith in
    (λ i. option_or (fault_in (fields_of (sym is.0 i) (sym is.1 i)) b b 0 bytes) (trailing (size_of (fields_of (sym is.0 i) (sym is.1 i))) bytes))
    ∙ (λ i. option_or (fault_in all b b 0 bytes) (trailing (size i) bytes))
    ∙ ended front (devices b.format ++ back b.format b.cpus) b 0 bytes
    ∙ ap (λ (o : Option StateFault). option_or (fault_in front b b 0 bytes) o) (rest b (0 + size_of front) bytes)
  where
    rest : (b : BoardParts) (p : ℕ) (bytes : List ℕ) → let gs : Fields BoardParts = devices b.format ++ back b.format b.cpus in
        option_or (fault_in gs b b p bytes) (trailing (p + size_of gs) bytes) ≡ option_or (fault_in (devices b.format) b b p bytes)
        (option_or (fault_in (back b.format b.cpus) b b (p + size_of (devices b.format)) bytes)
        (trailing (p + size_of (devices b.format) + size_of (back b.format b.cpus)) bytes))
    rest b p bytes = ended (devices b.format) (back b.format b.cpus) b p bytes

-- a board that was read, with no fault before the 8254
pub record IsRight (bytes : List ℕ) (b : BoardParts) : Type 0 where
  pub small : AreBytes bytes
  pub none : fault_in front (board_in bytes) (board_in bytes) 0 bytes ≡ None
  pub read : b ≡ board_in bytes

pub right-head : (bytes : List ℕ) (b : BoardParts) → IsRight bytes b → IsHead b
right-head bytes b is =
    subst IsHead (sym is.read) (head-valid bytes is.none)

-- the format and the number of processors of bytes whose first fields have no fault
pub format-few : (bytes : List ℕ) → AreBytes bytes → None ≡ fault_in front (board_in bytes) (board_in bytes) 0 bytes → format_in bytes ≤ LAST_FORMAT
format-few bytes small none =
    let head = right-head bytes (board_in bytes) (record { small = small; none = sym none; read = refl }) in omega (arith, head.built, (board-format bytes).0)

pub cpus-few : (bytes : List ℕ) → AreBytes bytes → None ≡ fault_in front (board_in bytes) (board_in bytes) 0 bytes → cpus_in bytes ≤ 64
cpus-few bytes small none =
    let head = right-head bytes (board_in bytes) (record { small = small; none = sym none; read = refl }) in omega (arith, head.few, (board-format bytes).1)

pub ruleset decoded = (format-few, cpus-few, three-parts, option_or-some, option_or-none, bytes_of-board_in)

pub right-devices : (bytes : List ℕ) (b : BoardParts) (p : ℕ) (xs : List ℕ) → IsRight bytes b → fault_in (devices b.format) b b p xs ≡ None
    → AreDevices (devices_in b)
right-devices bytes b p xs is none =
    devices-valid b (subst IsRead (sym is.read) (board-read bytes is.small (cpus-few bytes is.small (sym is.none)))) (right-head bytes b is) p xs none

pub right-board : (bytes : List ℕ) (b : BoardParts) (p q : ℕ) (xs ys : List ℕ) (last : Option StateFault) → IsRight bytes b
    → fault_in (devices b.format) b b p xs ≡ None → option_or (fault_in (back b.format b.cpus) b b q ys) last ≡ None → IsBoard b
right-board bytes b p q xs ys last is none none' =
    board-valid b (subst IsRead (sym is.read) (board-read bytes is.small (cpus-few bytes is.small (sym is.none)))) (right-head bytes b is) p q xs ys none
    (option_or-both _ _ none').0
