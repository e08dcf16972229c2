-- The fields of a tick line and their conditions. The policies' names are QEMU's, all rules (own).
use Rattle.std.specs.Prelude.{◌≡◌, ℕ, ◌+◌, Bool, true, false, not, ◌&&◌, ◌||◌, ◌==◌, if◌then◌else◌}
use Rattle.std.specs.Prelude.{Option, Some, None}
use Rattle.tick_policy.specs.declared.parts.Policy.{Policy}
use Rattle.tick_policy.specs.declared.parts.Policy.TheVariants.{Discard, Delay, Slew}
use Rattle.tick_policy.specs.declared.parts.Counts.{Counts}
use Rattle.tick_policy.specs.declared.parts.TickField.{TickField}
use Rattle.tick_policy.specs.declared.parts.TickField.TheVariants.{Queue, Lost}
use Rattle.tick_policy.specs.declared.parts.TickParts.{TickParts}

-- whether a tick that finds the line up waits; else it is lost
abbrev pub is_kept : Policy → Bool
is_kept Discard = false
is_kept _ = true

-- whether an acknowledgement shows a tick that waits
abbrev pub is_delay : Policy → Bool
is_delay Delay = true
is_delay _ = false

-- whether a catch-up point shows a tick that waits
abbrev pub is_slew : Policy → Bool
is_slew Slew = true
is_slew _ = false

-- the number of a policy in a saved state
abbrev pub policy_byte : Policy → ℕ
policy_byte Discard = 0
policy_byte Delay = 1
policy_byte Slew = 2

-- the policy of that number
abbrev pub policy_of : ℕ → Policy
policy_of byte = if byte == 0 then Discard else (if byte == 1 then Delay else Slew)

-- no tick waits under Discard, none is lost under Delay and Slew
abbrev pub FollowsPolicy : Policy → Counts → Type 0
FollowsPolicy Discard c = c.queue ≡ 0
FollowsPolicy Delay c = c.lost ≡ 0
FollowsPolicy Slew c = c.lost ≡ 0

-- the fields of a tick line
pub record IsTickLine (l : TickParts) : Type 0 where
  pub sum : l.counts.due ≡ l.counts.rises + l.counts.queue + l.counts.lost
  pub policy : FollowsPolicy l.policy l.counts

-- the ticks that wait: none under Discard
abbrev pub queue_valid : TickParts → Bool
queue_valid l = is_kept l.policy || l.counts.queue == 0

-- the lost ticks, and the sum, which is the condition of its last field
abbrev pub lost_valid : TickParts → Bool
lost_valid l =
    (l.counts.due == l.counts.rises + l.counts.queue + l.counts.lost)
    && (not (is_kept l.policy) || l.counts.lost == 0)

-- the first field whose condition fails
abbrev pub first_fault : TickParts → Option TickField
first_fault l =
    if not (queue_valid l) then Some Queue
    else (if not (lost_valid l) then Some Lost else None)
