-- A board as its caller has it, how the caller's memory holds it, and the next edge that is kept there.
use Rattle.std.specs.Prelude.{ℕ, Bool, true, false, if◌then◌else◌, Option, Some, None}
use Rattle.board_types.specs.declared.parts.BoardParts.{BoardParts}
use Rattle.board_core.specs.Time.{devices_in, now_of}
use Rattle.board_core.specs.Next.{next_of}
use Rattle.board_core.specs.declared.lag.Lag.{Lag}
use Rattle.board_core.specs.Lazy.{caught_up}
use Rattle.clockboard_c.specs.declared.code.TheConstants.{OK, NO_EDGE}
use Rattle.clockboard_c.specs.declared.board.KeptEdge.{KeptEdge}

-- the seal; whether threads share the board's pages; whether its next edge is kept; the board
pub record CallerBoard : Type 0 where
  pub seal : ℕ
  pub shared : Bool
  pub known : Bool
  pub state : BoardParts

-- how that memory holds it: the devices of the board may lag
pub record LaggingBoard : Type 0 where
  pub seal : ℕ
  pub shared : Bool
  pub known : Bool
  pub lag : Lag
  pub state : BoardParts

-- the board that it is for its caller
abbrev pub seen : LaggingBoard → CallerBoard
seen b = record {
  seal = b.seal;
  shared = b.shared;
  known = b.known;
  state = caught_up b.state b.lag;
}

-- the number in some memory after a call that has one to give or not
abbrev pub number_or_0 : Option ℕ → ℕ
number_or_0 (Some n) = n
number_or_0 None = 0

abbrev pub code_or_none : Option ℕ → ℕ
code_or_none (Some n) = OK
code_or_none None = NO_EDGE

-- when a line of a board changes next, if no access comes
abbrev pub next_edge_of : BoardParts → Option ℕ
next_edge_of s = next_of (now_of s) (devices_in s)

-- the next edge as it is kept: its code and its time, or 0 where it isn't known
abbrev pub no_kept : KeptEdge
no_kept = record { known = false; code = 0; ns = 0 }

abbrev pub kept_of : Bool → BoardParts → KeptEdge
kept_of known s =
    if known then
    record {
      known = true;
      code = code_or_none (next_edge_of s);
      ns = number_or_0 (next_edge_of s);
    }
    else no_kept
