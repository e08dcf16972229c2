-- Tables that pin the conditions on a counter's fields.
use Rattle.std.proofs.Common.{◌≡◌, ℕ, true, false, Some, None, map, [], ◌∷◌, refl}
use Rattle.pit_counter.specs.Mode.{mode_of, access_of, is_bcd}
use Rattle.pit_counter.specs.Count.{modulus}
use Rattle.pit_counter.specs.Programming.{programmed}
use Rattle.pit_counter.specs.Parts.{
  first_fault,
  bits_valid,
  flags_valid,
  cr_valid,
  ce_valid,
  part_valid,
  read_order_valid,
  latched_count_valid,
  latched_status_valid,
}
use Rattle.pit_counter.specs.declared.parts.CounterField.TheVariants.{
  ProgrammedBits,
  Flags,
  CountRegister,
  CountingElement,
  FirstByte,
  ReadOrder,
  LatchedCount,
  LatchedStatus,
}
use Rattle.pit_counter.specs.declared.parts.CounterParts.{CounterParts}

-- a counter with GATE high that has loaded a count of 4
abbrev counting : ℕ → CounterParts
counting bits = record (programmed bits true) { null = false; full = true; live = true; cr = 4; ce = 4 }

-- the programmed bits: D5 and D4 not both 0, and no bit above
programmed_bits : map (λ b. first_fault (programmed b true)) (0x06 ∷ 0x74 ∷ 0x10 ∷ 0x3f ∷ [])
    ≡ Some ProgrammedBits ∷ Some ProgrammedBits ∷ None ∷ None ∷ []
unfolding programmed mode_of access_of is_bcd modulus
    bits_valid flags_valid cr_valid ce_valid part_valid read_order_valid latched_count_valid latched_status_valid
programmed_bits = refl

-- a count is loaded only where one was written, null count is 0 only where one is loaded, and may be 1 there
count_flags : map first_fault
    (record (counting 0x34) { full = false; cr = 0 }
    ∷ record (programmed 0x34 true) { null = false }
    ∷ record (counting 0x34) { null = true }
    ∷ [])
    ≡ Some Flags ∷ Some Flags ∷ None ∷ []
unfolding programmed mode_of access_of is_bcd modulus
    bits_valid flags_valid cr_valid ce_valid part_valid read_order_valid latched_count_valid latched_status_valid
count_flags = refl

-- a strobe is due in modes 4 and 5 alone
strobe_due : map (λ b. first_fault (record (counting b) { armed = true })) (0x30 ∷ 0x32 ∷ 0x34 ∷ 0x36 ∷ 0x38 ∷ 0x3a ∷ [])
    ≡ Some Flags ∷ Some Flags ∷ Some Flags ∷ Some Flags ∷ None ∷ None ∷ []
unfolding programmed mode_of access_of is_bcd modulus
    bits_valid flags_valid cr_valid ce_valid part_valid read_order_valid latched_count_valid latched_status_valid
strobe_due = refl

-- a trigger is kept in modes 1, 2, 3 and 5
triggers : map (λ b. first_fault (record (counting b) { trig = true })) (0x30 ∷ 0x32 ∷ 0x34 ∷ 0x36 ∷ 0x38 ∷ 0x3a ∷ [])
    ≡ Some Flags ∷ None ∷ None ∷ None ∷ Some Flags ∷ None ∷ []
unfolding programmed mode_of access_of is_bcd modulus
    bits_valid flags_valid cr_valid ce_valid part_valid read_order_valid latched_count_valid latched_status_valid
triggers = refl

-- an odd count is kept in mode 3 alone
odd_counts : map (λ b. first_fault (record (counting b) { odd = true })) (0x30 ∷ 0x32 ∷ 0x34 ∷ 0x36 ∷ 0x38 ∷ 0x3a ∷ [])
    ≡ Some Flags ∷ Some Flags ∷ Some Flags ∷ None ∷ Some Flags ∷ Some Flags ∷ []
unfolding programmed mode_of access_of is_bcd modulus
    bits_valid flags_valid cr_valid ce_valid part_valid read_order_valid latched_count_valid latched_status_valid
odd_counts = refl

-- .. and each of these needs a count
mode_flags_without_a_count : map first_fault
    (record (programmed 0x38 true) { armed = true }
    ∷ record (programmed 0x32 true) { trig = true }
    ∷ record (programmed 0x36 true) { odd = true }
    ∷ [])
    ≡ Some Flags ∷ Some Flags ∷ Some Flags ∷ []
unfolding programmed mode_of bits_valid flags_valid
mode_flags_without_a_count = refl

-- OUT in mode 0: low while null count is 1, then free
out_in_mode_0 : map first_fault (programmed 0x30 true ∷ record (programmed 0x30 true) { out = true } ∷ record (counting 0x30) { out = true } ∷ [])
    ≡ None ∷ Some Flags ∷ None ∷ []
unfolding programmed mode_of access_of is_bcd modulus
    bits_valid flags_valid cr_valid ce_valid part_valid read_order_valid latched_count_valid latched_status_valid
out_in_mode_0 = refl

-- OUT in the other modes isn't low before a load ..
low_without_a_load : map (λ b. first_fault (record (programmed b true) { out = false })) (0x32 ∷ 0x34 ∷ 0x36 ∷ 0x38 ∷ 0x3a ∷ [])
    ≡ Some Flags ∷ Some Flags ∷ Some Flags ∷ Some Flags ∷ Some Flags ∷ []
unfolding programmed mode_of bits_valid flags_valid
low_without_a_load = refl

-- .. nor in modes 2 and 3 with GATE low ..
low_with_gate_low : map first_fault
    (record (counting 0x34) { out = false; gate = false; ce = 1 } ∷ record (counting 0x36) { out = false; gate = false } ∷ [])
    ≡ Some Flags ∷ Some Flags ∷ []
unfolding programmed mode_of bits_valid flags_valid
low_with_gate_low = refl

-- .. nor in modes 4 and 5 while a strobe is due ..
low_with_the_strobe_due : map (λ b. first_fault (record (counting b) { out = false; armed = true })) (0x38 ∷ 0x3a ∷ []) ≡ Some Flags ∷ Some Flags ∷ []
unfolding programmed mode_of bits_valid flags_valid
low_with_the_strobe_due = refl

-- .. and may be low elsewhere ..
low_loaded : map (λ b. first_fault (record (counting b) { out = false })) (0x32 ∷ 0x36 ∷ 0x38 ∷ 0x3a ∷ []) ≡ None ∷ None ∷ None ∷ None ∷ []
unfolding programmed mode_of access_of is_bcd modulus
    bits_valid flags_valid cr_valid ce_valid part_valid read_order_valid latched_count_valid latched_status_valid
low_loaded = refl

-- .. in mode 2 only at a count of 1
low_in_mode_2 : map (λ n. first_fault (record (counting 0x34) { out = false; ce = n })) (1 ∷ 2 ∷ []) ≡ None ∷ Some CountingElement ∷ []
unfolding programmed mode_of access_of is_bcd modulus
    bits_valid flags_valid cr_valid ce_valid part_valid read_order_valid latched_count_valid latched_status_valid
low_in_mode_2 = refl

-- the counting element: at most 65535 in binary, 9999 in BCD
greatest_counts : map first_fault
    (record (counting 0x34) { ce = 65535 }
    ∷ record (counting 0x34) { ce = 65536 }
    ∷ record (counting 0x35) { ce = 9999 }
    ∷ record (counting 0x35) { ce = 10000 }
    ∷ [])
    ≡ None ∷ Some CountingElement ∷ None ∷ Some CountingElement ∷ []
unfolding programmed mode_of access_of is_bcd modulus
    bits_valid flags_valid cr_valid ce_valid part_valid read_order_valid latched_count_valid latched_status_valid
greatest_counts = refl

-- no count in the register before one is written, none in the counting element before a load, and an even one in mode 3
counts : map first_fault
    (record (programmed 0x34 true) { cr = 1 }
    ∷ record (programmed 0x34 true) { ce = 1 }
    ∷ record (counting 0x36) { ce = 3 }
    ∷ [])
    ≡ Some CountRegister ∷ Some CountingElement ∷ Some CountingElement ∷ []
unfolding programmed mode_of access_of is_bcd modulus
    bits_valid flags_valid cr_valid ce_valid part_valid read_order_valid latched_count_valid latched_status_valid
counts = refl

-- the first byte is there only where two are written; without its flag it is 0, and in mode 0 it brings OUT low
first_bytes : map first_fault
    (record (counting 0x14) { part_there = true }
    ∷ record (counting 0x24) { part_there = true }
    ∷ record (counting 0x34) { part_there = true; part = 1 }
    ∷ record (counting 0x34) { part = 1 }
    ∷ record (counting 0x30) { out = true; part_there = true }
    ∷ [])
    ≡ Some FirstByte ∷ Some FirstByte ∷ None ∷ Some FirstByte ∷ Some FirstByte ∷ []
unfolding programmed mode_of access_of is_bcd modulus
    bits_valid flags_valid cr_valid ce_valid part_valid read_order_valid latched_count_valid latched_status_valid
first_bytes = refl

-- the high byte is read next only where two are
read_order : map (λ b. first_fault (record (counting b) { high_next = true })) (0x14 ∷ 0x24 ∷ 0x34 ∷ []) ≡ Some ReadOrder ∷ Some ReadOrder ∷ None ∷ []
unfolding programmed mode_of access_of is_bcd modulus
    bits_valid flags_valid cr_valid ce_valid part_valid read_order_valid latched_count_valid latched_status_valid
read_order = refl

-- a latch that isn't there is 0
latches : map first_fault
    (record (counting 0x34) { latched_count = 1 }
    ∷ record (counting 0x34) { count_latched = true; latched_count = 1 }
    ∷ record (counting 0x34) { latched_status = 1 }
    ∷ record (counting 0x34) { status_latched = true; latched_status = 1 }
    ∷ [])
    ≡ Some LatchedCount ∷ None ∷ Some LatchedStatus ∷ None ∷ []
unfolding programmed mode_of access_of is_bcd modulus
    bits_valid flags_valid cr_valid ce_valid part_valid read_order_valid latched_count_valid latched_status_valid
latches = refl
