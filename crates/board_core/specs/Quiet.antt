-- A time in which nothing comes that a caller of a board sees.
use Rattle.std.specs.Prelude.{◌≡◌, ℕ, ◌+◌, ◌<◌, false, []}
use Rattle.hpet_bursts.specs.Messages.{message_at}
use Rattle.local_apics.specs.Parts.{AreIdle}
use Rattle.board_types.specs.declared.parts.BoardParts.{BoardParts}
use Rattle.board_core.specs.Access.{ran_to}
use Rattle.board_core.specs.Apics.{apics_in}
use Rattle.board_core.specs.Time.{now_of, time_of_access}
use Rattle.host_counter.specs.Time.{HasTime}

-- up to count h, if no access comes, no line changes, no timer of the HPET sends a message, and no
-- timer of a local APIC counts or waits for its deadline
pub record IsQuiet (b : BoardParts) (h : ℕ) : Type 0 where
  pub time : HasTime b.anchor h
  pub edges : (ran_to b h).edges ≡ []
  pub messages : (k n : ℕ) → k < 8 → now_of b + n < time_of_access b h →
      message_at k (now_of b) n b.hpet ≡ false
  pub idle : AreIdle (apics_in b)
