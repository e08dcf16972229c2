-- A tick line and its events. The names of the policies are QEMU's, all rules (own).
use Rattle.std.specs.Prelude.{ℕ, zero, suc, ◌+◌, ◌-◌, Bool, true, false, not, ◌&&◌, ◌||◌, nat_lt}
use Rattle.std.specs.Prelude.{if◌then◌else◌}
use Rattle.tick_policy.specs.declared.parts.Policy.{Policy}
use Rattle.tick_policy.specs.declared.parts.Counts.{Counts}
use Rattle.tick_policy.specs.declared.parts.TickParts.{TickParts}
use Rattle.tick_policy.specs.declared.line.Acked.{Acked}
use Rattle.tick_policy.specs.declared.line.Acked.TheVariants.{NotUp, Down, DownUp}
use Rattle.tick_policy.specs.Parts.{is_kept, is_delay, is_slew}

-- a line that is down and has seen no tick
abbrev pub line_at_power_on : Policy → TickParts
line_at_power_on policy = record {
  policy = policy;
  up = false;
  counts = record { due = 0; rises = 0; queue = 0; lost = 0 };
}

-- a tick is due: the line goes up with it, or where it is up already the tick waits or is lost
abbrev pub ticked : TickParts → TickParts
ticked l = record l {
  up = true;
  counts = record {
    due = l.counts.due + 1;
    rises = if l.up then l.counts.rises else l.counts.rises + 1;
    queue = if l.up && is_kept l.policy then l.counts.queue + 1 else l.counts.queue;
    lost = if l.up && not (is_kept l.policy) then l.counts.lost + 1 else l.counts.lost;
  };
}

-- n ticks are due, one after the other
unfoldable pub ticked_times : ℕ → TickParts → TickParts
ticked_times zero l = l
ticked_times (suc n) l = ticked (ticked_times n l)

-- the counts with one tick shown that waited, where b holds
abbrev pub with_one_shown : Bool → Counts → Counts
with_one_shown b c = record c {
  rises = if b then c.rises + 1 else c.rises;
  queue = if b then c.queue - 1 else c.queue;
}

-- whether an acknowledgement brings the line up again: under Delay, where it is up and a tick waits
abbrev pub goes_again : TickParts → Bool
goes_again l = is_delay l.policy && (l.up && nat_lt 0 l.counts.queue)

-- an acknowledgement: a line that is up goes down, and again up with a tick that waits
abbrev pub acked : TickParts → TickParts
acked l = record l { up = goes_again l; counts = with_one_shown (goes_again l) l.counts }

-- an acknowledgement without its rise, as in the first part of an access: the line is down
abbrev pub acked_down : TickParts → TickParts
acked_down l = record l { up = false }

-- what an acknowledgement did
abbrev pub ack_answer : TickParts → Acked
ack_answer l = if l.up then (if goes_again l then DownUp else Down) else NotUp

-- whether a catch-up point brings the line up: under Slew, where it is down and a tick waits
abbrev pub is_waiting : TickParts → Bool
is_waiting l = is_slew l.policy && (not l.up && nat_lt 0 l.counts.queue)

-- a catch-up point: the line goes up with a tick that waits
abbrev pub caught_up : TickParts → TickParts
caught_up l = record l {
  up = l.up || is_waiting l;
  counts = with_one_shown (is_waiting l) l.counts;
}

-- the line is put up or down without a tick
abbrev pub set_up_to : Bool → TickParts → TickParts
set_up_to up l = record l { up = up }
