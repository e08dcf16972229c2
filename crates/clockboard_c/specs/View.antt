-- How the fields of a board in the caller's memory are seen.
use Rattle.std.specs.Prelude.{◌≡◌}
use Rattle.board_core.specs.Lazy.{caught_up, IsLazy}
use Rattle.board_core.specs.Time.{now_of}
use Rattle.clockboard_c.specs.declared.board.Board.TheInside.{Inside}
use Rattle.clockboard_c.specs.Kept.{LaggingBoard, kept_of}

abbrev pub lagging_board : Inside → LaggingBoard
lagging_board b = record {
  seal = b.seal;
  shared = b.shared;
  known = b.next.known;
  lag = b.lag;
  state = b.state;
}

-- the board may lag so far; what is kept beside it is its next edge, and its time
pub record IsKept (b : Inside) : Type 0 where
  pub lazy : IsLazy b.state b.lag.host b.lag.horizon
  pub next : b.next ≡ kept_of b.next.known (caught_up b.state b.lag)
  pub time : b.now_ns ≡ now_of (caught_up b.state b.lag)

abbrev pub board_of : LaggingBoard → Inside
board_of b = record {
  seal = b.seal;
  shared = b.shared;
  next = kept_of b.known (caught_up b.state b.lag);
  lag = b.lag;
  now_ns = now_of (caught_up b.state b.lag);
  state = b.state;
}
