-- A law of writes.
use Rattle.std.proofs.Common.{◌≡◌, ℕ, ◌-◌, ◌%◌, ◌^◌, Bool, bit_and, ap, sym, ◌∙◌}
use Rattle.std.specs.Int.Bits.{and_self}
use Rattle.std.proofs.lemmas.Nat.{and_comm, and_assoc}
use Rattle.hpet_comparator.specs.Part.{part_written}
use Rattle.hpet_registers.specs.declared.parts.HpetParts.{HpetParts}
use Rattle.hpet_registers.specs.declared.register.Register.{Register}
use Rattle.hpet_registers.specs.declared.register.Register.TheVariants.{Capabilities, Configuration, Status}
use Rattle.hpet_registers.specs.Access.{register_written}

-- what is masked has no bit that it hadn't
masked : (s m : ℕ) → bit_and (bit_and s m) s ≡ bit_and s m
masked s m = and_comm (bit_and s m) s ∙ (sym (and_assoc m s s) ∙ ap (λ (x : ℕ). bit_and x m) (and_self s))

-- no write sets a status bit
pub status-register_written : (r : Register) (width : ℕ) (high : Bool) (v : ℕ) (h : HpetParts)
    → bit_and (register_written r width high v h).status h.status ≡ (register_written r width high v h).status
status-register_written Capabilities width high v h = and_self h.status
status-register_written Configuration width high v h = and_self h.status
status-register_written Status width high v h = masked h.status (0xff - part_written width high v 0 % 2 ^ 8)
status-register_written _ width high v h = and_self h.status
