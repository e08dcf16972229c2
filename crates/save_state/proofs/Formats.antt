-- How many blocks a format has, how many bytes they take, versions, the six lines, and all fields by one name.
use Rattle.std.proofs.Common.{◌≡◌, ℕ, ◌+◌, ◌<◌, ◌≤◌, leb, arith, ◌*◌, refl, ◌%◌, Bool, true, false, eqb, ltb, ◌||◌, ◌&&◌, get_or, below_more}
use Rattle.std.proofs.lemmas.Bool.{cond_both, cond-true, cond-false, le-leb, lt-leb}
use Rattle.board_types.specs.declared.setup.TheConstants.{APIC_FORMAT, HV_FORMAT, MESSAGE_FORMAT}
use Rattle.save_state.specs.Fields.{counts_of, references_of, messages_of, counter, timer, line, tsc, page, processor, apic_timer, apic_line, apic, reference}
use Rattle.save_state.specs.Fields.{message, version_valid, published_valid, head, host, guest, policies, counters, clock, registers, timers, lines, rises}
use Rattle.save_state.specs.Fields.{front, wall, processors, apics, references, messages}
use Rattle.byte_table.proofs.FoldLaws.{size_of-append}
use Rattle.{board_types.specs.Setup.timers_of, board_types.specs.Setup.processors_of, board_core.specs.Apics.apics_of, byte_table.specs.Fold.size_of}
use Rattle.{byte_table.specs.Kinds.plain, byte_table.specs.Kinds.elsewhere, byte_table.specs.Codes.rows}
use Rattle.{byte_table.specs.Kinds.blocks, byte_table.proofs.Loops.size-below, irq_edges.specs.Lines.line_numbers, irq_edges.specs.Lines.level_of}
use Rattle.{board_devices.specs.Lines.levels, board_devices.specs.declared.parts.DeviceParts.DeviceParts, save_state.specs.Reading.board_in}

pub timers_few : (format : ℕ) → timers_of format ≤ 8
timers_few format = cond_both (leb format 1) 3 8 (λ (n : ℕ). n ≤ 8) (λ _. omega arith) (λ _. omega arith)

pub timers_least : (format : ℕ) → 3 ≤ timers_of format
timers_least format = cond_both (leb format 1) 3 8 (λ (n : ℕ). 3 ≤ n) (λ _. omega arith) (λ _. omega arith)

pub counts_few : (format : ℕ) → counts_of format ≤ 6
counts_few format = cond_both (leb 2 format) 6 0 (λ (n : ℕ). n ≤ 6) (λ _. omega arith) (λ _. omega arith)

pub processors_few : (format : ℕ) → processors_of format ≤ 64
processors_few format = cond_both (leb format 1) 16 64 (λ (n : ℕ). n ≤ 64) (λ _. omega arith) (λ _. omega arith)

pub references-none : (format : ℕ) → format < HV_FORMAT → references_of format ≡ 0
references-none format before = cond-false (leb HV_FORMAT format) 1 0 (lt-leb HV_FORMAT format before)

pub references-one : (format : ℕ) → HV_FORMAT ≤ format → references_of format ≡ 1
references-one format there = cond-true (leb HV_FORMAT format) 1 0 (le-leb HV_FORMAT format there)

pub references_few : (format : ℕ) → references_of format ≤ 1
references_few format = cond_both (leb HV_FORMAT format) 1 0 (λ (n : ℕ). n ≤ 1) (λ _. omega arith) (λ _. omega arith)

pub apics_few : (format cpus : ℕ) → cpus ≤ 64 → apics_of format cpus ≤ 64
apics_few format cpus few = cond_both (leb APIC_FORMAT format) cpus 0 (λ (n : ℕ). n ≤ 64) (λ _. few) (λ _. omega arith)

pub messages_few : (format : ℕ) → messages_of format ≤ 8
messages_few format = cond_both (leb MESSAGE_FORMAT format) 8 0 (λ (n : ℕ). n ≤ 8) (λ _. omega arith) (λ _. omega arith)

pub counter-size : (k : ℕ) → size_of (counter k) ≡ 14
unfolding counter plain
counter-size k = refl

pub timer-size : (k : ℕ) → size_of (timer k) ≡ 18
unfolding timer plain
timer-size k = refl

pub line-size : (k : ℕ) → size_of (line k) ≡ 33
unfolding line plain elsewhere
line-size k = refl

pub processor-size : (k : ℕ) → size_of (processor k) ≡ 50
unfolding tsc page plain
processor-size k = refl

pub reference-size : (k : ℕ) → size_of (reference k) ≡ 37
unfolding reference plain
reference-size k = refl

pub apic-size : (k : ℕ) → size_of (apic k) ≡ 55
unfolding apic_timer apic_line plain
apic-size k = refl

pub message-size : (k : ℕ) → size_of (message k) ≡ 9
unfolding message plain
message-size k = refl

-- how many bytes the lists take
pub sizes : (size_of front ≡ 79) × (size_of counters ≡ 42) × (size_of clock ≡ 133) × (size_of registers ≡ 10) × (size_of wall ≡ 20)
unfolding head host guest policies counters counter clock registers wall plain blocks rows
sizes = (refl, refl, refl, refl, refl)

pub timers-take : (n : ℕ) → size_of (timers n) ≡ 18 * n
unfolding timers blocks
timers-take n = omega (arith, size-below timer 18 timer-size 0 n)

pub lines-take : (n : ℕ) → size_of (lines n) ≡ 33 * (n + 2)
unfolding lines blocks
lines-take n = omega (arith, size-below line 33 line-size 0 (n + 2))

pub rises-take : (n : ℕ) → size_of (rises n) ≡ 8 * n
unfolding rises rows plain
rises-take n = omega arith

pub processors-take : (n : ℕ) → size_of (processors n) ≡ 50 * n
unfolding processors blocks
processors-take n = omega (arith, size-below processor 50 processor-size 0 n)

pub apics-take : (n : ℕ) → size_of (apics n) ≡ 55 * n
unfolding apics blocks
apics-take n = omega (arith, size-below apic 55 apic-size 0 n)

pub references-take : (n : ℕ) → size_of (references n) ≡ 37 * n
unfolding references blocks
references-take n = omega (arith, size-below reference 37 reference-size 0 n)

pub messages-take : (n : ℕ) → size_of (messages n) ≡ 9 * n
unfolding messages blocks
messages-take n = omega (arith, size-below message 9 message-size 0 n)

pub ruleset takes = (sizes, timers-take, lines-take, rises-take, processors-take, apics-take, references-take, messages-take, size_of-append)

-- a number, or one that is 0 where it is
pub some-or : (n m : ℕ) → (n ≡ 0 → m ≡ 0) → (ltb 0 n || eqb m 0) ≡ true
some-or n m none = grind arith

-- a version
pub version-is : (version number : ℕ) → version % 2 ≡ 0 → (version ≡ 0 → number ≡ 0) → version_valid version (eqb number 0) ≡ true
version-is version number even none = grind arith

-- a field after the version, before the first publishing and after
pub published-is : (version value : ℕ) (valid : Bool) → (version ≡ 0 → value ≡ 0) → (0 < version → valid ≡ true) → published_valid version value valid ≡ true
published-is version value valid none later = grind arith

-- what holds of each of six places
below_six : (P : ℕ → Type 0) → P 0 → P 1 → P 2 → P 3 → P 4 → P 5 → (k : ℕ) → k < 6 → P k
below_six P p0 p1 p2 p3 p4 p5 =
    below_more P 5 (below_more P 4 (below_more P 3 (below_more P 2 (below_more P 1 (below_more P 0 (λ k h. absurd (omega arith)) p0) p1) p2) p3) p4) p5

pub all-six : (f : ℕ → Bool) → (f 0 && f 1) ≡ true → (f 2 && f 3 && f 4 && f 5) ≡ true → (k : ℕ) → k < 6 → f k ≡ true
all-six f e e' = below_six (λ k. f k ≡ true) (grind arith) (grind arith) (grind arith) (grind arith) (grind arith) (grind arith)

-- the level of the line at a place
pub levels-at : (d : DeviceParts) (k : ℕ) → k < 6 → level_of line_numbers (levels d) (get_or line_numbers k 0) ≡ get_or (levels d) k false
unfolding levels
levels-at d = below_six (λ k. level_of line_numbers (levels d) (get_or line_numbers k 0) ≡ get_or (levels d) k false) refl refl refl refl refl refl

-- the lists of a board
unfoldable pub lists : ℕ
unfolding head host guest policies counters clock registers timers lines rises wall processors apics references messages
lists = 0

-- those of its blocks
unfoldable pub block_lists : ℕ
unfolding counter timer line tsc page apic_timer apic_line reference message
block_lists = 0

-- the lists with the kinds of their fields, and what is read of bytes; a tick line and what is in a block stay closed
unfoldable pub layout : ℕ
unfolding lists board_in counter timer plain rows blocks
layout = 0

-- all of it
unfoldable pub all_fields : ℕ
unfolding layout block_lists elsewhere
all_fields = 0
