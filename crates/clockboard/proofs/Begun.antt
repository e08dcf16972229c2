-- A run that began with standard input and standard output.
use Rattle.std.proofs.Common.{◌≡◌, ◌⊎◌, inl, inr, ap, subst}
use Rattle.board_io.specs.Ends.{Input, Output}
use Rattle.clockboard.specs.Ran.{unread, unwritten}

-- what is so of the ends that were made is so of ends before their first call
pub from_start : (P : Input → Output → Type 0) {start : Input} {old : Output} → start ≡ unread → old ≡ unwritten → P start old → P unread unwritten
from_start P {start} read written left = subst (λ (i : Input). P i unwritten) read (subst (P start) written left)

-- a source that stayed gave nothing
pub by_input : {A B S : Type 0} (f : S → Input) {s t : S} → A ⊎ (B × (t ≡ s)) → A ⊎ (B × (f t ≡ f s))
by_input f (inl left) = inl left
by_input f (inr never) = inr (never.0, ap f never.1)
