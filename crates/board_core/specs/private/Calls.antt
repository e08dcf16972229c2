-- What calls ask and leave on the way of an access; private contracts alone cite this.
use Rattle.std.specs.Prelude.{◌≡◌, ℕ, ◌+◌, ◌-◌, ◌<◌, ◌≤◌, IsTrue, IfSome, List, [], ◌++◌, length}
use Rattle.irq_edges.specs.declared.bursts.Burst.{Burst}
use Rattle.irq_edges.specs.declared.edges.Edge.{Edge}
use Rattle.irq_edges.specs.declared.edges.TheConstants.{EDGE_PLACES}
use Rattle.local_apics.specs.declared.parts.ApicsParts.{ApicsParts}
use Rattle.local_apics.specs.Nanosecond.{run as run_apics}
use Rattle.board_types.specs.Legal.{is_legal}
use Rattle.board_types.specs.declared.access.Access.{Access}
use Rattle.board_types.specs.declared.parts.BoardParts.{BoardParts}
use Rattle.board_types.specs.declared.parts.TheConstants.{LAST_VERSION, MOST_ACCESSES}
use Rattle.board_types.specs.declared.reply.Value.{Value}
use Rattle.board_core.specs.Access.{ran_to, bursts_to, after_run, value_at, own_edges}
use Rattle.board_core.specs.Apics.{apics_in, tscs_by_time}
use Rattle.board_core.specs.Refusals.{meters_of}
use Rattle.board_meters.specs.Meters.{raised_in}
use Rattle.board_core.specs.Time.{now_of, time_of_access}
use Rattle.host_counter.specs.Time.{HasTime}

-- a run may be done to the time `end` of an access at count h: six places are free for its edges, and
-- the list has no messages yet
pub record CanRun (b : BoardParts) (h end : ℕ) (had : List Edge) (none : List Burst) : Type 0 where
  pub time : HasTime b.anchor h
  pub to : end ≡ time_of_access b h
  pub places : length had + 6 ≤ EDGE_PLACES
  pub fresh : none ≡ []

-- the timers of local APICs after it
abbrev pub apics_ran_to : BoardParts → ℕ → ApicsParts
apics_ran_to b h =
    run_apics (tscs_by_time b) (now_of b) (time_of_access b h - now_of b) (apics_in b)

-- the board after it, its edges after those that the list had, and its messages
pub record HasRun (b : BoardParts) (h : ℕ) (after : BoardParts) (had told : List Edge)
    (sent : List Burst) : Type 0 where
  pub state : after ≡ after_run b h
  pub edges : told ≡ had ++ (ran_to b h).edges
  pub bursts : sent ≡ bursts_to b h
  pub few : length (ran_to b h).edges ≤ 6
  pub room : length told ≤ length had + 6

-- an access is legal, and a board that has run to its time doesn't refuse it
pub record IsTaken (b : BoardParts) (processor h : ℕ) (a : Access) : Type 0 where
  pub cpu : processor < b.cpus
  pub legal : IsTrue (is_legal b.cpus b.format a)
  pub time : HasTime b.anchor h
  pub accesses : b.accesses < MOST_ACCESSES
  pub version : IfSome (raised_in (meters_of b) processor a) (λ version. version < LAST_VERSION)

-- what it reads of such a board, and its own edges after those that the list had
pub record HasTold (b : BoardParts) (cpu h : ℕ) (a : Access) (read : Value) (had told : List Edge)
    : Type 0 where
  pub value : read ≡ value_at b cpu h a
  pub edges : told ≡ had ++ own_edges b a
  pub few : length told ≤ length had + 12
