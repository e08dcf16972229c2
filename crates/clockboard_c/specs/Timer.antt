-- What a monitor's one timer needs: when a line changes next, and the host's count of a time.
use Rattle.std.specs.Prelude.{
  ℕ,
  ◌+◌,
  ◌-◌,
  ◌*◌,
  ◌/◌,
  ◌^◌,
  ◌<◌,
  ◌≤◌,
  ◌==◌,
  nat_lt,
  true,
  if◌then◌else◌,
  Option,
  Some,
  None,
}
use Rattle.host_counter.specs.declared.Anchor.{Anchor}
use Rattle.host_counter.specs.Time.{time_at}
use Rattle.clockboard_c.specs.declared.board.TheConstants.{SEAL}
use Rattle.clockboard_c.specs.declared.code.TheConstants.{OK, NO_BOARD}
use Rattle.clockboard_c.specs.Kept.{CallerBoard, number_or_0, code_or_none}

-- the number that a code and some memory give
abbrev pub told_number : ℕ → ℕ → Option ℕ
told_number code n = if code == OK then Some n else None

-- a question to a board that is answered by a number, or by none
abbrev pub answer_code : CallerBoard → Option ℕ → ℕ
answer_code b told = if b.seal == SEAL then code_or_none told else NO_BOARD

abbrev pub answer_number : CallerBoard → Option ℕ → ℕ
answer_number b told = if b.seal == SEAL then number_or_0 told else 0

-- the board after it was asked for its next edge, which it keeps from then on
abbrev pub with_next : CallerBoard → CallerBoard
with_next b = if b.seal == SEAL then record b { known = true } else b

-- the first count of the host's counter whose time is t or later
unfoldable pub count_of : Anchor → ℕ → ℕ
count_of anchor t = anchor.start + ((t - anchor.base_ns) * anchor.khz + 999999) / 1000000

-- the same, where it is a number of 64 bits
abbrev pub count_within : Anchor → ℕ → Option ℕ
count_within anchor t = if nat_lt (count_of anchor t) (2 ^ 64) then Some (count_of anchor t) else None

abbrev pub count_in : CallerBoard → ℕ → Option ℕ
count_in b t = count_within b.state.anchor t

-- a count has that time, and none before it has
pub record IsFirstCount (anchor : Anchor) (t count : ℕ) : Type 0 where
  pub started : anchor.start ≤ count
  pub reached : t ≤ time_at anchor count
  pub least : (h : ℕ) → anchor.start ≤ h → h < count → time_at anchor h < t
