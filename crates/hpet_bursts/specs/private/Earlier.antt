-- The earlier of two times; private contracts alone cite it.
use Rattle.std.specs.Prelude.{ℕ, nat_le, if◌then◌else◌, Option, Some, None}
use Rattle.irq_edges.specs.declared.bursts.Burst.{Burst}

-- the first message of a burst
abbrev pub first_of : Option Burst → Option ℕ
first_of None = None
first_of (Some b) = Some b.first

-- the earlier of two times
unfoldable pub earlier : Option ℕ → Option ℕ → Option ℕ
earlier None b = b
earlier (Some x) None = Some x
earlier (Some x) (Some y) = if nat_le x y then Some x else Some y
