-- Every call keeps the conditions on a counter's fields.
use Rattle.std.proofs.Common.{
  ◌≡◌,
  ℕ,
  ◌+◌,
  ◌-◌,
  ◌*◌,
  ◌%◌,
  ◌<◌,
  ◌≤◌,
  Bool,
  true,
  false,
  not,
  ◌&&◌,
  ◌||◌,
  cond,
  ltb,
  eqb,
  refl,
  ap,
  arith,
}
use Rattle.std.proofs.lemmas.Bool.{and_from, eqb-true, eqb-false, cond_both, le-leb, lt-ltb}
use Rattle.std.proofs.lemmas.Bool.Decides.{nat_tests}
use Rattle.pit_counter.specs.Mode.{mode_of, access_of, is_terminal, is_square, takes_two, is_bcd}
use Rattle.pit_counter.specs.Count.{modulus, meant_count, loaded_count, lowered, is_odd_square}
use Rattle.pit_counter.specs.Programming.{
  programmed,
  completed,
  begun,
  byte_written_by,
  byte_written,
  gated,
}
use Rattle.pit_counter.specs.Table.{effect_in, affected, pulsed}
use Rattle.pit_counter.specs.Reading.{
  status_of,
  with_count_latched,
  with_status_latched,
  status_released,
  count_released,
  after_read,
  reads_last,
}
use Rattle.pit_counter.specs.Parts.{
  IsCounter,
  bits_valid,
  flags_valid,
  cr_valid,
  ce_valid,
  part_valid,
  read_order_valid,
  latched_count_valid,
  latched_status_valid,
}
use Rattle.pit_counter.specs.declared.mode.Mode.{Mode}
use Rattle.pit_counter.specs.declared.mode.Mode.TheVariants.{
  TerminalCount,
  OneShot,
  RateGenerator,
  SquareWave,
  SoftwareStrobe,
  HardwareStrobe,
}
use Rattle.pit_counter.specs.declared.mode.Access.{Access}
use Rattle.pit_counter.specs.declared.mode.Access.TheVariants.{LowByte, HighByte, LowThenHigh}
use Rattle.pit_counter.specs.declared.table.Effect.{Effect}
use Rattle.pit_counter.specs.declared.table.Effect.TheVariants.{
  Load,
  DownToHigh,
  DownToLow,
  DownByTwo,
  DownToStrobe,
  Stand,
}
use Rattle.pit_counter.specs.declared.parts.CounterParts.{CounterParts}

-- the conditions that a pulse can break
abbrev Valid : CounterParts → Type 0
Valid c = (flags_valid c ≡ true) × (ce_valid c ≡ true) × (part_valid c ≡ true)

-- a load is in range, and even in mode 3
pub loaded_count-below : (bits cr : ℕ) → loaded_count bits cr < modulus bits
unfolding loaded_count modulus
loaded_count-below bits cr = cond_both (is_bcd bits) 10000 65536 (λ m. (meant_count bits cr - cond (is_odd_square bits cr) 1 0) % m < m) (λ _. omega arith)
    (λ _. omega arith)

lowered-below : (bits ce by : ℕ) → lowered bits ce by < modulus bits
unfolding lowered modulus
lowered-below bits ce by = cond_both (is_bcd bits) 10000 65536 (λ m. (ce + m - by) % m < m) (λ _. omega arith) (λ _. omega arith)

lowered-even : (bits ce : ℕ) → ce % 2 ≡ 0 → lowered bits ce 2 % 2 ≡ 0
unfolding lowered modulus
lowered-even bits ce even = cond_both (is_bcd bits) 10000 65536 (λ m. (ce + m - 2) % m % 2 ≡ 0) (λ _. omega arith) (λ _. omega arith)

pub loaded_count-even : (bits cr : ℕ) → is_square (mode_of bits) ≡ true → loaded_count bits cr % 2 ≡ 0
unfolding loaded_count modulus is_odd_square
loaded_count-even bits cr square =
    simp square (cond_both (is_bcd bits) 10000 65536 (λ m. (meant_count bits cr - cond (eqb (meant_count bits cr % 2) 1) 1 0) % m % 2 ≡ 0)
    (λ _. odd_less (meant_count bits cr)) (λ _. odd_less' (meant_count bits cr)))
  where
    odd_less : (n : ℕ) → (n - cond (eqb (n % 2) 1) 1 0) % 10000 % 2 ≡ 0
    odd_less n = cond_both (eqb (n % 2) 1) 1 0 (λ k. (n - k) % 10000 % 2 ≡ 0) (λ e. omega (arith, eqb-true _ _ e)) (λ e. omega (arith, eqb-false _ _ e))

    odd_less' : (n : ℕ) → (n - cond (eqb (n % 2) 1) 1 0) % 65536 % 2 ≡ 0
    odd_less' n = cond_both (eqb (n % 2) 1) 1 0 (λ k. (n - k) % 65536 % 2 ≡ 0) (λ e. omega (arith, eqb-true _ _ e)) (λ e. omega (arith, eqb-false _ _ e))

positive : (bits : ℕ) → ltb 0 (modulus bits) ≡ true
unfolding modulus
positive bits = cond_both (is_bcd bits) 10000 65536 (λ m. ltb 0 m ≡ true) (λ _. refl) (λ _. refl)

-- a pulse, in any mode
Valid-pulsed : (c : CounterParts) (m : Mode) → mode_of c.bits ≡ m → Valid c → Valid (affected (effect_in m c) c)
unfolding effect_in flags_valid ce_valid part_valid is_odd_square
Valid-pulsed c TerminalCount m h =
    let flags = simp m at h.0 in
    let ce = simp m at h.1 in
    let part = simp m at h.2 in
    cond_both (c.null && c.full) (Load c.out) (cond (c.live && c.gate && not c.part_there) DownToHigh (Stand c.out)) (λ e. Valid (affected e c))
    (λ waits. (simp m (grind arith), simp m (grind (arith, loaded_count-below, nat_tests)), simp m (grind arith)))
    (λ none. cond_both (c.live && c.gate && not c.part_there) DownToHigh (Stand c.out) (λ e. Valid (affected e c))
    (λ counts. (simp m (grind arith), simp m (grind (arith, lowered-below, nat_tests)), simp m (grind arith)))
    (λ stopped. (simp m (grind arith), simp m (grind arith), simp m (grind arith))))
Valid-pulsed c OneShot m h =
    let flags = simp m at h.0 in
    let ce = simp m at h.1 in
    let part = simp m at h.2 in
    cond_both c.trig (Load false) (cond c.live DownToHigh (Stand c.out)) (λ e. Valid (affected e c))
    (λ triggered. (simp m (grind arith), simp m (grind (arith, loaded_count-below, nat_tests)), simp m (grind arith)))
    (λ none. cond_both c.live DownToHigh (Stand c.out) (λ e. Valid (affected e c))
    (λ counts. (simp m (grind arith), simp m (grind (arith, lowered-below, nat_tests)), simp m (grind arith)))
    (λ stopped. (simp m (grind arith), simp m (grind arith), simp m (grind arith))))
Valid-pulsed c RateGenerator m h =
    let flags = simp m at h.0 in
    let ce = simp m at h.1 in
    let part = simp m at h.2 in
    cond_both ((c.full && not c.live) || c.trig) (Load true)
    (cond (c.live && c.gate && eqb c.ce 1) (Load true) (cond (c.live && c.gate) DownToLow (Stand c.out))) (λ e. Valid (affected e c))
    (λ begins. (simp m (grind arith), simp m (grind (arith, loaded_count-below, nat_tests)), simp m (grind arith)))
    (λ none. cond_both (c.live && c.gate && eqb c.ce 1) (Load true) (cond (c.live && c.gate) DownToLow (Stand c.out)) (λ e. Valid (affected e c))
    (λ ends. (simp m (grind arith), simp m (grind (arith, loaded_count-below, nat_tests)), simp m (grind arith)))
    (λ goes_on. cond_both (c.live && c.gate) DownToLow (Stand c.out) (λ e. Valid (affected e c))
    (λ counts. (simp m (grind arith), simp m (grind (arith, lowered-below, nat_tests)), simp m (grind arith)))
    (λ stopped. (simp m (grind arith), simp m (grind arith), simp m (grind arith)))))
Valid-pulsed c SquareWave m h =
    let flags = simp m at h.0 in
    let ce = simp m at h.1 in
    let part = simp m at h.2 in
    let square : is_square (mode_of c.bits) ≡ true = simp m in
    let loaded_even : loaded_count c.bits c.cr % 2 ≡ 0 = loaded_count-even c.bits c.cr square in
    let lowered_even : c.ce % 2 ≡ 0 → lowered c.bits c.ce 2 % 2 ≡ 0 = lowered-even c.bits c.ce in
    cond_both ((c.full && not c.live) || c.trig) (Load true) _ (λ e. Valid (affected e c))
    (λ begins. (simp m (grind arith), simp m (grind (arith, loaded_count-below, nat_tests)), simp m (grind arith)))
    (λ none. cond_both (c.live && c.gate && c.out && c.odd && eqb c.ce 0) (Load false) _ (λ e. Valid (affected e c))
    (λ ends. (simp m (grind arith), simp m (grind (arith, loaded_count-below, nat_tests)), simp m (grind arith)))
    (λ goes_on. cond_both (c.live && c.gate && c.out && c.odd) DownByTwo _ (λ e. Valid (affected e c))
    (λ counts. (simp m (grind arith), simp m (grind (arith, lowered-below, nat_tests)), simp m (grind arith)))
    (λ even. cond_both (c.live && c.gate && eqb c.ce 2) (Load (not c.out)) _ (λ e. Valid (affected e c))
    (λ ends. (simp m (grind arith), simp m (grind (arith, loaded_count-below, nat_tests)), simp m (grind arith)))
    (λ goes_on. cond_both (c.live && c.gate) DownByTwo (Stand c.out) (λ e. Valid (affected e c))
    (λ counts. (simp m (grind arith), simp m (grind (arith, lowered-below, nat_tests)), simp m (grind arith)))
    (λ stopped. (simp m (grind arith), simp m (grind arith), simp m (grind arith)))))))
Valid-pulsed c SoftwareStrobe m h =
    let flags = simp m at h.0 in
    let ce = simp m at h.1 in
    let part = simp m at h.2 in
    cond_both (c.null && c.full) (Load true) (cond (c.live && c.gate) DownToStrobe (Stand true)) (λ e. Valid (affected e c))
    (λ waits. (simp m (grind arith), simp m (grind (arith, loaded_count-below, nat_tests)), simp m (grind arith)))
    (λ none. cond_both (c.live && c.gate) DownToStrobe (Stand true) (λ e. Valid (affected e c))
    (λ counts. (simp m (grind arith), simp m (grind (arith, lowered-below, nat_tests)), simp m (grind arith)))
    (λ stopped. (simp m (grind arith), simp m (grind arith), simp m (grind arith))))
Valid-pulsed c HardwareStrobe m h =
    let flags = simp m at h.0 in
    let ce = simp m at h.1 in
    let part = simp m at h.2 in
    cond_both c.trig (Load true) (cond c.live DownToStrobe (Stand true)) (λ e. Valid (affected e c))
    (λ triggered. (simp m (grind arith), simp m (grind (arith, loaded_count-below, nat_tests)), simp m (grind arith)))
    (λ none. cond_both c.live DownToStrobe (Stand true) (λ e. Valid (affected e c))
    (λ counts. (simp m (grind arith), simp m (grind (arith, lowered-below, nat_tests)), simp m (grind arith)))
    (λ stopped. (simp m (grind arith), simp m (grind arith), simp m (grind arith))))

-- no effect touches these
Kept : CounterParts → Type 0
Kept c = (bits_valid c ≡ true) × (cr_valid c ≡ true) × (read_order_valid c ≡ true) × (latched_count_valid c ≡ true) × (latched_status_valid c ≡ true)

Kept-affected : (e : Effect) (c : CounterParts) → IsCounter c → Kept (affected e c)
unfolding Kept bits_valid cr_valid read_order_valid latched_count_valid latched_status_valid
Kept-affected (Load level) c h = (h.bits, h.cr, h.read_order, h.latched_count, h.latched_status)
Kept-affected other c h = (h.bits, h.cr, h.read_order, h.latched_count, h.latched_status)

pub IsCounter-pulsed : (c : CounterParts) → IsCounter c → IsCounter (pulsed c)
unfolding pulsed Kept
IsCounter-pulsed c h =
    let valid = Valid-pulsed c (mode_of c.bits) refl (h.flags, h.ce, h.part) in
    let kept = Kept-affected (effect_in (mode_of c.bits) c) c h in
    record {
      bits = kept.0;
      flags = valid.0;
      cr = kept.1;
      ce = valid.1;
      part = valid.2;
      read_order = kept.2;
      latched_count = kept.3;
      latched_status = kept.4;
    }

-- what the conditions say of numbers
pub IsCounter-ce : (c : CounterParts) → IsCounter c → c.ce < modulus c.bits
unfolding ce_valid
IsCounter-ce c h = let ce = h.ce in grind (arith, nat_tests)

pub IsCounter-bits : (c : CounterParts) → IsCounter c → c.bits < 64
unfolding bits_valid
IsCounter-bits c h = let bits = h.bits in grind (arith, nat_tests)

-- a control word
Valid-programmed : (m : Mode) (bits : ℕ) (gate : Bool) → mode_of bits ≡ m → Valid (programmed bits gate)
unfolding programmed flags_valid ce_valid part_valid
Valid-programmed TerminalCount bits gate e = (simp e, simp (e, positive bits), simp e)
Valid-programmed other bits gate e = (simp e, simp (e, positive bits), simp e)

pub IsCounter-programmed : (bits : ℕ) (gate : Bool) → 16 ≤ bits → bits < 64 → IsCounter (programmed bits gate)
unfolding programmed bits_valid cr_valid read_order_valid latched_count_valid latched_status_valid
IsCounter-programmed bits gate least greatest =
    let valid = Valid-programmed (mode_of bits) bits gate refl in
    record {
      bits = and_from _ _ (le-leb 16 bits least) (lt-ltb bits 64 greatest);
      flags = valid.0;
      cr = refl;
      ce = valid.1;
      part = valid.2;
      read_order = refl;
      latched_count = refl;
      latched_status = refl;
    }

-- a byte of a count sets OUT low in mode 0
abbrev lowered_out : CounterParts → CounterParts
lowered_out c = record c { out = c.out && not (is_terminal (mode_of c.bits)) }

-- a count or its first byte is written, or GATE is set, in any mode
Valid-set : (m : Mode) (count byte : ℕ) (level : Bool) (c : CounterParts) → mode_of c.bits ≡ m → Valid c
    → Valid (completed count (lowered_out c)) × (takes_two (access_of c.bits) ≡ true → Valid (begun byte (lowered_out c))) × Valid (gated level c)
unfolding completed begun gated flags_valid ce_valid part_valid
Valid-set TerminalCount count byte level c m h =
    let flags = simp m at h.0 in
    let ce = simp m at h.1 in
    let part = simp m at h.2 in (
      (simp m (grind arith), simp m (grind arith), simp m (grind arith)),
      λ two. (simp m (grind arith), simp m (grind arith), simp m (grind arith)),
      (simp m (grind arith), simp m (grind arith), simp m (grind arith)),
    )
Valid-set other count byte level c m h =
    let flags = simp m at h.0 in
    let ce = simp m at h.1 in
    let part = simp m at h.2 in (
      (simp m (grind arith), simp m (grind arith), simp m (grind arith)),
      λ two. (simp m (grind arith), simp m (grind arith), simp m (grind arith)),
      (simp m (grind arith), simp m (grind arith), simp m (grind arith)),
    )

IsCounter-completed : (count : ℕ) (c : CounterParts) → IsCounter c → IsCounter (completed count (lowered_out c))
unfolding completed bits_valid cr_valid read_order_valid latched_count_valid latched_status_valid
IsCounter-completed count c h =
    let valid = (Valid-set (mode_of c.bits) count 0 true c refl (h.flags, h.ce, h.part)).0 in
    record {
      bits = h.bits;
      flags = valid.0;
      cr = refl;
      ce = valid.1;
      part = valid.2;
      read_order = h.read_order;
      latched_count = h.latched_count;
      latched_status = h.latched_status;
    }

IsCounter-begun : (byte : ℕ) (c : CounterParts) → takes_two (access_of c.bits) ≡ true → IsCounter c → IsCounter (begun byte (lowered_out c))
unfolding begun bits_valid cr_valid read_order_valid latched_count_valid latched_status_valid
IsCounter-begun byte c two h =
    let valid = (Valid-set (mode_of c.bits) 0 byte true c refl (h.flags, h.ce, h.part)).1 two in
    record {
      bits = h.bits;
      flags = valid.0;
      cr = h.cr;
      ce = valid.1;
      part = valid.2;
      read_order = h.read_order;
      latched_count = h.latched_count;
      latched_status = h.latched_status;
    }

IsCounter-byte_written_by : (a : Access) (byte : ℕ) (c : CounterParts) → access_of c.bits ≡ a → IsCounter c → IsCounter (byte_written_by a byte (lowered_out c))
unfolding byte_written_by
IsCounter-byte_written_by LowByte byte c e h = IsCounter-completed byte c h
IsCounter-byte_written_by HighByte byte c e h = IsCounter-completed (byte * 256) c h
IsCounter-byte_written_by LowThenHigh byte c e h =
    cond_both c.part_there (completed (c.part + byte * 256) (lowered_out c)) (begun byte (lowered_out c)) IsCounter
    (λ _. IsCounter-completed (c.part + byte * 256) c h)
    (λ _. IsCounter-begun byte c (ap takes_two e) h)

pub IsCounter-byte_written : (byte : ℕ) (c : CounterParts) → IsCounter c → IsCounter (byte_written byte c)
IsCounter-byte_written byte c h = IsCounter-byte_written_by (access_of c.bits) byte c refl h

pub IsCounter-gated : (level : Bool) (c : CounterParts) → IsCounter c → IsCounter (gated level c)
unfolding gated bits_valid cr_valid read_order_valid latched_count_valid latched_status_valid
IsCounter-gated level c h =
    let valid = (Valid-set (mode_of c.bits) 0 0 level c refl (h.flags, h.ce, h.part)).2 in
    record {
      bits = h.bits;
      flags = valid.0;
      cr = h.cr;
      ce = valid.1;
      part = valid.2;
      read_order = h.read_order;
      latched_count = h.latched_count;
      latched_status = h.latched_status;
    }

-- latches and reads touch the read order and the latches alone
pub IsCounter-with_count_latched : (c : CounterParts) → IsCounter c → IsCounter (with_count_latched c)
unfolding with_count_latched bits_valid flags_valid cr_valid ce_valid part_valid read_order_valid latched_count_valid latched_status_valid
IsCounter-with_count_latched c h =
    record {
      bits = h.bits;
      flags = h.flags;
      cr = h.cr;
      ce = h.ce;
      part = h.part;
      read_order = h.read_order;
      latched_count = refl;
      latched_status = h.latched_status;
    }

pub IsCounter-with_status_latched : (c : CounterParts) → IsCounter c → IsCounter (with_status_latched c)
unfolding with_status_latched bits_valid flags_valid cr_valid ce_valid part_valid read_order_valid latched_count_valid latched_status_valid
IsCounter-with_status_latched c h =
    cond_both c.status_latched c (record c { status_latched = true; latched_status = status_of c }) IsCounter (λ _. h)
    (λ _. record {
      bits = h.bits;
      flags = h.flags;
      cr = h.cr;
      ce = h.ce;
      part = h.part;
      read_order = h.read_order;
      latched_count = h.latched_count;
      latched_status = refl;
    })

IsCounter-status_released : (c : CounterParts) → IsCounter c → IsCounter (status_released c)
unfolding status_released bits_valid flags_valid cr_valid ce_valid part_valid read_order_valid latched_count_valid latched_status_valid
IsCounter-status_released c h =
    record {
      bits = h.bits;
      flags = h.flags;
      cr = h.cr;
      ce = h.ce;
      part = h.part;
      read_order = h.read_order;
      latched_count = h.latched_count;
      latched_status = refl;
    }

released : (last latched : Bool) (count : ℕ) → (latched || eqb count 0) ≡ true → ((latched && not last) || eqb (cond last 0 count) 0) ≡ true
released true latched count h = grind arith
released false latched count h = grind arith

IsCounter-count_released : (c : CounterParts) → IsCounter c → IsCounter (count_released c)
unfolding count_released bits_valid flags_valid cr_valid ce_valid part_valid read_order_valid latched_count_valid latched_status_valid
IsCounter-count_released c h =
    record {
      bits = h.bits;
      flags = h.flags;
      cr = h.cr;
      ce = h.ce;
      part = h.part;
      read_order = grind arith;
      latched_count = released (reads_last (access_of c.bits) c.high_next) c.count_latched c.latched_count h.latched_count;
      latched_status = h.latched_status;
    }

pub IsCounter-after_read : (c : CounterParts) → IsCounter c → IsCounter (after_read c)
unfolding after_read
IsCounter-after_read c h = cond_both c.status_latched (status_released c) (count_released c) IsCounter (λ _. IsCounter-status_released c h)
    (λ _. IsCounter-count_released c h)

-- each call keeps the conditions, and what they say of numbers
pub ruleset keeps = (
  IsCounter-programmed,
  IsCounter-byte_written,
  IsCounter-gated,
  IsCounter-pulsed,
  IsCounter-with_count_latched,
  IsCounter-with_status_latched,
  IsCounter-after_read,
  IsCounter-ce,
  IsCounter-bits,
)
