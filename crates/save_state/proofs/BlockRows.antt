-- The rows that code walks: the first fault of a block is that of its rows, and of the rest of them at each step.
use Rattle.save_state.proofs.Names.{option_or, fault_in, one_fault, Row, StateFault, Short, Fields, fault_at, row_fault, ◌≡◌, ℕ, ◌+◌, Bool, true, false, cond}
use Rattle.save_state.proofs.Names.{ltb, List, [], ◌∷◌, length, Option, Some, None, refl, sym, ◌∙◌, BoardParts, Field, apic, scale_for, reference, field}
use Rattle.save_state.proofs.Names.{processor_rows, ◌⨾◌, row_spelled-each, up_allowed, tsc, page, processor, wall, rises, Message, message, version_valid}
use Rattle.save_state.proofs.Names.{published_valid, apic_timer, apic_line, head, host, guest, policies, front, clock, registers}
use Rattle.save_state.proofs.Names.{counter, timer, line, plain, rows, elsewhere, Apic, Invalid, legacy_rises_valid, routed_rises_valid}
use Rattle.save_state.proofs.Names.{now_of, number, byte, initial_valid, current_valid}
use Rattle.save_state.proofs.Names.{phase_valid, deadline_valid, HvParts, ProcessorParts, has_messages, cycle_valid, TickParts, queue_valid}
use Rattle.save_state.proofs.Names.{lost_valid, mul_for, shift_for, lvt_valid, divide_valid, latched_status_valid, TimerParts, config_valid, comparator_valid}
use Rattle.save_state.proofs.Names.{period_valid, index_valid, bytes_valid, divider_valid, CounterParts, bits_valid, flags_valid, cr_valid, ce_valid}
use Rattle.save_state.proofs.Names.{part_valid, read_order_valid, latched_count_valid, ◌*◌, leb, eqb, not, ◌&&◌, ◌||◌, ap, arith, w8, cast_unsigned, drop_more}
use Rattle.save_state.proofs.Names.{drop_all, ◌<◌, ◌≤◌, drop, get_or, lt-ltb, le-ltb, and_parts, spelled, flag_field, rows_size, size_of, ◌++◌, trailing}
use Rattle.save_state.proofs.Names.{row_value, board_in, front_of, front_rows, fault_in-append, size_of-append, option_or-assoc, option_or-none, takes}

-- a row of a field
pub record IsRow {P : Type 0} (f : Field StateFault BoardParts P) (b : BoardParts) (p : P) (place : ℕ) (bytes : List ℕ) (r : Row) : Type 0 where
  pub size : f.size ≡ r.size
  pub fault : f.fault b p place bytes ≡ one_fault (fault_at Short) (fault_at r.kind) r.size (spelled r place bytes && r.valid) place bytes

-- the rows of a list; a field that has none has no fault
abbrev pub AreRows : {P : Type 0} → Fields P → BoardParts → P → ℕ → List ℕ → List Row → Type 0
AreRows [] b p place bytes [] = Unit {0}
AreRows [] b p place bytes (r ∷ rows) = ⊥
AreRows (f ∷ fs) b p place bytes [] = (f.fault b p place bytes ≡ None) × AreRows fs b p (place + f.size) bytes []
AreRows (f ∷ fs) b p place bytes (r ∷ rows) = IsRow f b p place bytes r × AreRows fs b p (place + r.size) bytes rows

by-cases : (short valid : Bool) (before at : StateFault) (rest : Option StateFault)
    → cond short (Some before) (cond valid rest (Some at)) ≡ option_or (cond short (Some before) (cond valid None (Some at))) rest
by-cases true valid before at rest = refl
by-cases false true before at rest = refl
by-cases false false before at rest = refl

walked : {P : Type 0} (fs : Fields P) (b : BoardParts) (p : P) (place : ℕ) (bytes : List ℕ) (rows : List Row) → AreRows fs b p place bytes rows
    → row_fault bytes place rows ≡ fault_in fs b p place bytes
unfolding row_fault
walked [] b p place bytes [] all = refl
walked [] b p place bytes (r ∷ rows) all = absurd all
walked (f ∷ fs) b p place bytes [] all =
    walked fs b p (place + f.size) bytes [] all.1 ∙ (λ i. option_or (sym all.0 i) (fault_in fs b p (place + f.size) bytes))
walked (f ∷ fs) b p place bytes (r ∷ rows) all =
    by-cases (ltb (length bytes) (place + r.size)) (spelled r place bytes && r.valid) (record { place = length bytes; kind = Short }) (record { place = place; kind = r.kind })
    (row_fault bytes (place + r.size) rows)
    ∙ (λ i. option_or (sym all.0.fault i) (walked fs b p (place + r.size) bytes rows all.1 i))
    ∙ (λ i. option_or (f.fault b p place bytes) (fault_in fs b p (place + sym all.0.size i) bytes))

pub rows-are : {P : Type 0} (fs : Fields P) (b : BoardParts) (p : P) (place : ℕ) (bytes : List ℕ) (rows : List Row) → AreRows fs b p place bytes rows
    → fault_in fs b p place bytes ≡ row_fault bytes place rows
rows-are fs b p place bytes rows all = sym (walked fs b p place bytes rows all)

-- a row that is its field as it is
is : {P : Type 0} {f : Field StateFault BoardParts P} {b : BoardParts} {p : P} {place : ℕ} {bytes : List ℕ} {r : Row} → f.size ≡ r.size
    → f.fault b p place bytes ≡ one_fault (fault_at Short) (fault_at r.kind) r.size (spelled r place bytes && r.valid) place bytes → IsRow f b p place bytes r
is e e' = record { size = e; fault = e' }

pub counter-rows : (k : ℕ) (b : BoardParts) (c : CounterParts) (p : ℕ) (bytes : List ℕ)
    → fault_in (counter k) b c p bytes ≡ row_fault bytes p (field 1 (bits_valid c) ∷ field 1 (flags_valid c && (c.gate || leb 2 k)) ∷ field 2 (cr_valid c)
    ∷ field 2 (ce_valid c) ∷ flag_field 2 (part_valid c) ∷ flag_field 1 (read_order_valid c) ∷ flag_field 3 (latched_count_valid c)
    ∷ flag_field 2 (latched_status_valid c) ∷ [])
unfolding counter plain
counter-rows k b c p bytes =
    rows-are (counter k) b c p bytes _ (is refl refl ⨾ is refl refl ⨾ is refl refl ⨾ is refl refl ⨾ is refl (grind arith) ⨾ is refl refl
    ⨾ is refl (grind arith) ⨾ is refl (grind arith) ⨾ tt)

pub timer-rows : (k : ℕ) (b : BoardParts) (t : TimerParts) (p : ℕ) (bytes : List ℕ)
    → fault_in (timer k) b t p bytes ≡ row_fault bytes p (field 2 (config_valid t) ∷ field 8 (comparator_valid t) ∷ field 8 (period_valid t) ∷ [])
unfolding timer plain
timer-rows k b t p bytes = rows-are (timer k) b t p bytes _ (is refl refl ⨾ is refl refl ⨾ is refl refl ⨾ tt)

pub line-rows : (k : ℕ) (b : BoardParts) (l : TickParts) (p : ℕ) (bytes : List ℕ)
    → fault_in (line k) b l p bytes ≡ row_fault bytes p (flag_field 1 (up_allowed b k l.up)
    ∷ field 8 (leb l.counts.due (now_of b + b.accesses)) ∷ field 8 true ∷ field 8 (queue_valid l) ∷ field 8 (lost_valid l) ∷ [])
unfolding line plain elsewhere
line-rows k b l p bytes = rows-are (line k) b l p bytes _ (is refl refl ⨾ is refl refl ⨾ is refl refl ⨾ is refl refl ⨾ is refl refl ⨾ refl ⨾ tt)

pub processor-rows : (k : ℕ) (b : BoardParts) (x : ProcessorParts) (p : ℕ) (bytes : List ℕ)
    → fault_in (processor k) b x p bytes
    ≡ row_fault bytes p (processor_rows (mul_for (b.guest_khz * 1000)) (cast_unsigned w8 (shift_for (b.guest_khz * 1000))) x)
unfolding processor_rows tsc page plain
processor-rows k b x p bytes =
    rows-are (processor k) b x p bytes _ (is refl refl ⨾ is refl refl ⨾ is refl refl ⨾ is refl refl ⨾ is refl refl ⨾ is refl refl ⨾ is refl refl ⨾ is refl refl
    ⨾ is refl refl ⨾ tt)

pub wall-rows : (b : BoardParts) (p : ℕ) (bytes : List ℕ)
    → fault_in wall b b p bytes ≡ row_fault bytes p (field 8 true ∷ field 4 (version_valid b.wall_version (eqb b.wall_number 0)) ∷ field 4 true
    ∷ field 4 (ltb b.wall_nsec 1000000000) ∷ [])
unfolding wall plain
wall-rows b p bytes = rows-are wall b b p bytes _ (is refl refl ⨾ is refl refl ⨾ is refl refl ⨾ is refl refl ⨾ tt)

pub clock-rows : (b : BoardParts) (p : ℕ) (bytes : List ℕ)
    → fault_in clock b b p bytes ≡ row_fault bytes p (flag_field 1 true ∷ field 1 (index_valid b.rtc) ∷ field 128 (bytes_valid b.rtc)
    ∷ field 2 (divider_valid b.rtc) ∷ flag_field 1 (cycle_valid b.rtc) ∷ [])
unfolding clock plain rows
clock-rows b p bytes =
    let at : ℕ = p + 1 + 1 in
    rows-are clock b b p bytes _ (is refl refl ⨾ is refl refl
    ⨾ is refl (ap (λ (s : Bool). one_fault (fault_at Short) (fault_at Invalid) 128 (s && bytes_valid b.rtc) at bytes) (row_spelled-each byte bytes (λ place. refl) 128 at))
    ⨾ is refl refl ⨾ is refl refl ⨾ tt)

pub registers-rows : (b : BoardParts) (p : ℕ) (bytes : List ℕ)
    → fault_in registers b b p bytes ≡ row_fault bytes p (field 1 (leb b.hpet.config 3) ∷ field 1 (leb 2 b.format || leb b.hpet.status 7) ∷ field 8 true
    ∷ [])
unfolding registers plain
registers-rows b p bytes = rows-are registers b b p bytes _ (is refl refl ⨾ is refl refl ⨾ is refl refl ⨾ tt)

pub front-rows : (bytes : List ℕ) → fault_in front (board_in bytes) (board_in bytes) 0 bytes ≡ row_fault bytes 0 (front_rows (front_of bytes))
unfolding head host guest policies plain front_rows row_value
front-rows bytes =
    rows-are front (board_in bytes) (board_in bytes) 0 bytes _ (is refl (grind arith) ⨾ is refl refl ⨾ is refl refl ⨾ is refl refl ⨾ is refl refl ⨾ is refl refl
    ⨾ is refl refl ⨾ is refl refl ⨾ is refl refl ⨾ is refl refl ⨾ is refl refl ⨾ is refl (grind arith) ⨾ is refl (grind arith) ⨾ is refl (grind arith) ⨾ tt)

pub rises-rows : (counts : ℕ) (b : BoardParts) (p : ℕ) (bytes : List ℕ)
    → fault_in (rises counts) b b p bytes ≡ row_fault bytes p
    (field (8 * counts) (legacy_rises_valid b && (has_messages b.format || routed_rises_valid b)) ∷ [])
unfolding rises rows plain
rises-rows counts b p bytes =
    let all = legacy_rises_valid b && (has_messages b.format || routed_rises_valid b) in
    rows-are (rises counts) b b p bytes _
    (is refl (ap (λ (s : Bool). one_fault (fault_at Short) (fault_at Invalid) (8 * counts) (s && all) p bytes) (row_spelled-each (number 8) bytes (λ place. refl) counts p))
    ⨾ tt)

pub message-rows : (k : ℕ) (b : BoardParts) (m : Message) (p : ℕ) (bytes : List ℕ)
    → fault_in (message k) b m p bytes ≡ row_fault bytes p (flag_field 1 (not (eqb k 7) || routed_rises_valid b) ∷ field 8 true ∷ [])
unfolding message plain
message-rows k b m p bytes = rows-are (message k) b m p bytes _ (is refl refl ⨾ is refl refl ⨾ tt)

pub apic-rows : (k : ℕ) (b : BoardParts) (a : Apic) (p : ℕ) (bytes : List ℕ)
    → fault_in (apic k) b a p bytes ≡ row_fault bytes p (field 4 (lvt_valid a.0) ∷ field 1 (divide_valid a.0) ∷ field 4 (initial_valid a.0)
    ∷ field 4 (current_valid a.0) ∷ field 1 (phase_valid a.0) ∷ field 8 (deadline_valid a.0) ∷ flag_field 1 true
    ∷ field 8 (leb a.1.counts.due (now_of b + b.accesses)) ∷ field 8 true ∷ field 8 (queue_valid a.1) ∷ field 8 (lost_valid a.1) ∷ [])
unfolding apic_timer apic_line plain
apic-rows k b a p bytes =
    rows-are (apic k) b a p bytes _ (is refl refl ⨾ is refl refl ⨾ is refl refl ⨾ is refl refl ⨾ is refl refl ⨾ is refl refl ⨾ is refl refl
    ⨾ is refl refl ⨾ is refl refl ⨾ is refl refl ⨾ is refl refl ⨾ tt)

pub reference-rows : (b : BoardParts) (x : HvParts) (p : ℕ) (bytes : List ℕ)
    → fault_in (reference 0) b x p bytes ≡ row_fault bytes p (field 8 true ∷ field 4 (version_valid x.version (eqb x.number 0))
    ∷ field 1 (published_valid x.version x.cpu (ltb x.cpu b.cpus)) ∷ field 8 (eqb x.scale (scale_for b.guest_khz x.number))
    ∷ field 8 (ltb 0 x.scale || eqb x.offset 0) ∷ field 8 (ltb 0 x.scale || eqb x.tsc_offset 0) ∷ [])
unfolding reference plain
reference-rows b x p bytes = rows-are (reference 0) b x p bytes _ (is refl refl ⨾ is refl refl ⨾ is refl refl ⨾ is refl refl ⨾ is refl refl ⨾ is refl refl ⨾ tt)

pub ruleset block_rows = (
  counter-rows,
  timer-rows,
  line-rows,
  processor-rows,
  wall-rows,
  clock-rows,
  registers-rows,
  front-rows,
  rises-rows,
  message-rows,
  apic-rows,
  reference-rows,
  takes,
)

-- where rows have no fault, the condition of each holds
abbrev pub AllValid : List Row → Type 0
AllValid [] = Unit {0}
AllValid (r ∷ rows) = (r.valid ≡ true) × AllValid rows

passed : (short valid : Bool) (before at : StateFault) (rest : Option StateFault) → cond short (Some before) (cond valid rest (Some at)) ≡ None
    → (valid ≡ true) × (rest ≡ None)
passed true valid before at rest e = cc
passed false true before at rest e = (refl, e)
passed false false before at rest e = cc

pub rows-valid : (bytes : List ℕ) (place : ℕ) (rows : List Row) → row_fault bytes place rows ≡ None → AllValid rows
unfolding row_fault
rows-valid bytes place [] none = tt
rows-valid bytes place (r ∷ rows) none =
    let is = passed (ltb (length bytes) (place + r.size)) (spelled r place bytes && r.valid) _ _ (row_fault bytes (place + r.size) rows) none in
    ((and_parts (spelled r place bytes) r.valid is.0).1, rows-valid bytes (place + r.size) rows is.1)

abbrev none : Row
none = record { size = 0; flag = false; valid = false; kind = Short }

-- the fault of the rest of the rows is that of the row at a place, or of those after it
pub row-next : (bytes : List ℕ) (at i : ℕ) (rows : List Row) → i < length rows
    → row_fault bytes at (drop i rows) ≡ cond (ltb (length bytes) (at + (get_or rows i none).size)) (Some (record { place = length bytes; kind = Short }))
    (cond (spelled (get_or rows i none) at bytes && (get_or rows i none).valid) (row_fault bytes (at + (get_or rows i none).size) (drop (i + 1) rows))
    (Some (record { place = at; kind = (get_or rows i none).kind })))
unfolding row_fault
row-next bytes at i rows less = ap (λ (rs : List Row). row_fault bytes at rs) (drop_more rows i none less)

-- after the last row there is none
pub rows-end : (bytes : List ℕ) (at i : ℕ) (rows : List Row) → length rows ≤ i → row_fault bytes at (drop i rows) ≡ None
unfolding row_fault
rows-end bytes at i rows le = ap (λ (rs : List Row). row_fault bytes at rs) (drop_all i rows le)

-- how many bytes the rest of the rows take
pub size-next : (i : ℕ) (rows : List Row) → i < length rows → rows_size (drop i rows) ≡ (get_or rows i none).size + rows_size (drop (i + 1) rows)
size-next i rows less = ap (λ (rs : List Row). rows_size rs) (drop_more rows i none less)

pub size-end : (i : ℕ) (rows : List Row) → length rows ≤ i → rows_size (drop i rows) ≡ 0
size-end i rows le = ap (λ (rs : List Row). rows_size rs) (drop_all i rows le)

pub ruleset walk = (row-next, rows-end, size-next, size-end, lt-ltb, le-ltb)

-- lists one after the other: where the first has no fault, the first fault is that of the others; also with what may follow the last byte
pub option_or-some : (fault : StateFault) (later : Option StateFault) → option_or (Some fault) later ≡ Some fault
option_or-some fault later = refl

pub ended : (fs gs : Fields BoardParts) (b : BoardParts) (place : ℕ) (bytes : List ℕ)
    → option_or (fault_in (fs ++ gs) b b place bytes) (trailing (place + size_of (fs ++ gs)) bytes)
    ≡ option_or (fault_in fs b b place bytes) (option_or (fault_in gs b b (place + size_of fs) bytes) (trailing (place + size_of fs + size_of gs) bytes))
ended fs gs b place bytes =
    let at : place + size_of (fs ++ gs) ≡ place + size_of fs + size_of gs = omega (arith, size_of-append fs gs) in
    (λ i. option_or (fault_in-append fs gs b b place bytes i) (trailing (at i) bytes))
    ∙ option_or-assoc (fault_in fs b b place bytes) (fault_in gs b b (place + size_of fs) bytes) (trailing (place + size_of fs + size_of gs) bytes)

pub ruleset along = (fault_in-append, option_or-some, option_or-none, size_of-append)

pub ruleset along_end = (ended, option_or-some, option_or-none)
