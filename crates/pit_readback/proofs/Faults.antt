-- The first field whose condition fails, and the conditions as a whole.
use Rattle.std.proofs.Common.{◌≡◌, ◌↔◌, ℕ, Bool, true, false, not, ◌&&◌, ◌||◌, Option, Some, None, refl, cond, leb, length}
use Rattle.std.specs.Option.{IsNone}
use Rattle.std.proofs.lemmas.Bool.{and_parts, and_from}
use Rattle.pit_counter.specs.Parts.{IsCounter, bits_valid, flags_valid, first_fault}
use Rattle.pit_counter.specs.declared.parts.CounterField.{CounterField}
use Rattle.pit_counter.specs.declared.parts.CounterField.TheVariants.{ProgrammedBits, Flags}
use Rattle.pit_counter.specs.declared.parts.CounterParts.{CounterParts}
use Rattle.pit_counter.proofs.Faults.{IsNone-cond, IsNone-cond_from, IsCounter-first_fault, IsNone-first_fault}
use Rattle.pit_readback.specs.Pit.{counter_of}
use Rattle.pit_readback.specs.Parts.{IsPit, fault_of, fault_at, pit_fault}
use Rattle.pit_readback.specs.declared.parts.PitFault.{PitFault}
use Rattle.pit_readback.specs.declared.parts.PitParts.{PitParts}

IsNone-fault_at : (k : ℕ) (fault : Option CounterField) (later : Option PitFault) → IsNone (fault_at k fault later) → IsNone fault × IsNone later
IsNone-fault_at k (Some field) later h = let impossible : true ≡ false = h in cc
IsNone-fault_at k None later h = (refl, h)

IsNone-fault_at_from : (k : ℕ) (fault : Option CounterField) (later : Option PitFault) → IsNone fault → IsNone later → IsNone (fault_at k fault later)
IsNone-fault_at_from k (Some field) later f h = let impossible : true ≡ false = f in cc
IsNone-fault_at_from k None later f h = h

IsCounter-fault_of : (k : ℕ) (c : CounterParts) → IsNone (fault_of k c) → IsCounter c × ((c.gate || leb 2 k) ≡ true)
IsCounter-fault_of k c h =
    let rest = cond (not (flags_valid c && (c.gate || leb 2 k))) (Some Flags) (first_fault c) in
    let bits = IsNone-cond (bits_valid c) ProgrammedBits rest h in
    let flags = IsNone-cond (flags_valid c && (c.gate || leb 2 k)) Flags (first_fault c) bits.1 in
    (IsCounter-first_fault c flags.1, (and_parts (flags_valid c) (c.gate || leb 2 k) flags.0).1)

IsNone-fault_of : (k : ℕ) (c : CounterParts) → IsCounter c → (c.gate || leb 2 k) ≡ true → IsNone (fault_of k c)
IsNone-fault_of k c h wired = IsNone-cond_from _ _ _ h.bits (IsNone-cond_from _ _ _ (and_from _ _ h.flags wired) (IsNone-first_fault c h))

or_false : (b : Bool) → (b || false) ≡ true → b ≡ true
or_false true h = refl
or_false false h = h

or_false_from : (b : Bool) → b ≡ true → (b || false) ≡ true
or_false_from true h = refl
or_false_from false h = h

or_true : (b : Bool) → (b || true) ≡ true
or_true true = refl
or_true false = refl

-- no field's condition fails exactly where these are the fields of a timer
pub IsNone-pit_fault : (p : PitParts) → length p.counters ≡ 3 → IsNone (pit_fault p) ↔ IsPit p
IsNone-pit_fault p three = (forth, back)
  where
    forth : IsNone (pit_fault p) → IsPit p
    forth h =
        let a = IsNone-fault_at _ _ _ h in
        let b = IsNone-fault_at _ _ _ a.1 in
        let c = IsNone-fault_at _ _ _ b.1 in
        let first = IsCounter-fault_of 0 (counter_of p 0) a.0 in
        let second = IsCounter-fault_of 1 (counter_of p 1) b.0 in
        record {
          three = three;
          first = first.0;
          second = second.0;
          third = (IsCounter-fault_of 2 (counter_of p 2) c.0).0;
          gate_of_first = or_false _ first.1;
          gate_of_second = or_false _ second.1;
        }

    back : IsPit p → IsNone (pit_fault p)
    back h =
        IsNone-fault_at_from 0 _ _ (IsNone-fault_of 0 _ h.first (or_false_from _ h.gate_of_first))
        (IsNone-fault_at_from 1 _ _ (IsNone-fault_of 1 _ h.second (or_false_from _ h.gate_of_second))
        (IsNone-fault_at_from 2 _ _ (IsNone-fault_of 2 _ h.third (or_true _)) refl))
