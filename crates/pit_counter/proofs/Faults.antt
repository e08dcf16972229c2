-- The first field whose condition fails, and the conditions as a whole.
use Rattle.std.proofs.Common.{◌≡◌, Bool, true, false, not, cond, Option, Some, refl}
use Rattle.std.specs.Option.{IsNone}
use Rattle.pit_counter.specs.Parts.{IsCounter, first_fault}
use Rattle.pit_counter.specs.declared.parts.CounterParts.{CounterParts}

-- a test that doesn't fail, and the tests after it
pub IsNone-cond : {F : Type 0} (b : Bool) (field : F) (rest : Option F) → IsNone (cond (not b) (Some field) rest) → (b ≡ true) × IsNone rest
IsNone-cond true field rest h = (refl, h)
IsNone-cond false field rest h = let impossible : true ≡ false = h in cc

pub IsNone-cond_from : {F : Type 0} (b : Bool) (field : F) (rest : Option F) → b ≡ true → IsNone rest → IsNone (cond (not b) (Some field) rest)
IsNone-cond_from b field rest e h = simp e h

pub IsCounter-first_fault : (c : CounterParts) → IsNone (first_fault c) → IsCounter c
IsCounter-first_fault c h =
    let bits = IsNone-cond _ _ _ h in
    let flags = IsNone-cond _ _ _ bits.1 in
    let cr = IsNone-cond _ _ _ flags.1 in
    let ce = IsNone-cond _ _ _ cr.1 in
    let part = IsNone-cond _ _ _ ce.1 in
    let order = IsNone-cond _ _ _ part.1 in
    let count = IsNone-cond _ _ _ order.1 in
    let status = IsNone-cond _ _ _ count.1 in
    record {
      bits = bits.0;
      flags = flags.0;
      cr = cr.0;
      ce = ce.0;
      part = part.0;
      read_order = order.0;
      latched_count = count.0;
      latched_status = status.0;
    }

pub IsNone-first_fault : (c : CounterParts) → IsCounter c → IsNone (first_fault c)
IsNone-first_fault c h = simp (h.bits, h.flags, h.cr, h.ce, h.part, h.read_order, h.latched_count, h.latched_status) refl
