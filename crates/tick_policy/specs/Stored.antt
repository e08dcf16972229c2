-- How a tick line is stored: its policy is a byte.
use Rattle.std.specs.Prelude.{◌≡◌, ℕ}
use Rattle.std.proofs.Common.{ap}
use Rattle.tick_policy.specs.declared.parts.TickParts.{TickParts}
use Rattle.tick_policy.specs.declared.line.TickLine.TheInside.{Inside}
use Rattle.tick_policy.specs.Parts.{policy_of, policy_byte, IsTickLine}

-- the fields that a line shows
abbrev pub parts_of : Inside → TickParts
parts_of l = record { policy = policy_of l.policy; up = l.up; counts = l.counts }

-- the fields that a line stores
abbrev pub stored : TickParts → Inside
stored l = record { policy = policy_byte l.policy; up = l.up; counts = l.counts }

-- the byte is that of a policy, 0, 1 or 2, and the fields are a tick line's
pub record IsStored (l : Inside) : Type 0 where
  pub byte : policy_byte (policy_of l.policy) ≡ l.policy
  pub line : IsTickLine (parts_of l)

-- the fields that are stored for those that are shown are the same
pub stored-parts_of : (l : Inside) → IsStored l → stored (parts_of l) ≡ l
stored-parts_of l is = ap (λ (b : ℕ). record l { policy = b }) is.byte
