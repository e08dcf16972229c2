-- When a board may lag, and what is only counted then.
use Rattle.std.specs.Prelude.{
  ◌≡◌,
  ℕ,
  ◌-◌,
  ◌<◌,
  ◌≤◌,
  ◌==◌,
  ◌&&◌,
  ◌||◌,
  Bool,
  true,
  false,
  [],
  None,
}
use Rattle.clk_units.specs.declared.ranges.TheConstants.{RANGE_NS}
use Rattle.pit_readback.specs.Ports.{is_pit_port, after_port_read}
use Rattle.board_types.specs.declared.access.Access.{Access}
use Rattle.board_types.specs.declared.access.Access.TheVariants.{PortIn, HpetRead, Step}
use Rattle.board_types.specs.declared.parts.BoardParts.{BoardParts}
use Rattle.board_types.specs.declared.parts.TheConstants.{MOST_ACCESSES}
use Rattle.board_core.specs.declared.lag.Lag.{Lag}
use Rattle.board_core.specs.Access.{ran_to, after_run, value_at, reply_of, after_access}
use Rattle.board_core.specs.Quiet.{IsQuiet}
use Rattle.board_core.specs.Refusals.{refusal_of}
use Rattle.board_core.specs.Time.{now_of}
use Rattle.host_counter.specs.Time.{HasTime}

-- whether an access changes nothing that time looks at, whatever the board: a step, a read of the HPET's
-- main counter, whole or its low half, and a read of a port of the 8254
abbrev pub is_passive : Access → Bool
is_passive Step = true
is_passive (PortIn port) = is_pit_port port
is_passive (HpetRead offset width) = offset == 0xf0 && (width == 4 || width == 8)
is_passive _ = false

-- what such an access leaves of a board, beside its count: a read of a port of the 8254 releases latches,
-- or turns to the other byte of a count
abbrev pub left_by : Access → BoardParts → BoardParts
left_by (PortIn port) b = record b { pit = after_port_read port b.pit }
left_by _ b = b

-- before the horizon, if one is known, nothing comes that a caller sees; the board lags to count `host`,
-- which is before the horizon and not before the board's own count. With no horizon it is 0
pub record IsLazy (b : BoardParts) (host horizon : ℕ) : Type 0 where
  pub quiet : 0 < horizon → IsQuiet b (horizon - 1)
  pub from : 0 < horizon → b.host ≤ host
  pub time : 0 < host → HasTime b.anchor host
  pub lag : host ≤ horizon - 1

-- the lag of a board that doesn't lag, and of which no horizon is known
abbrev pub no_lag : Lag
no_lag = record { host = 0; horizon = 0; still = 0 }

-- the board that it is for its caller: its devices have run to the greatest count
abbrev pub caught_up : BoardParts → Lag → BoardParts
caught_up b lag = after_run b lag.host

-- a passive access at count h is only counted: it comes before the horizon, its count has a
-- time, as each has from the greatest count on, and there are numbers left for it
pub record IsCounted (b : BoardParts) (lag : Lag) (h : ℕ) : Type 0 where
  pub before : h < lag.horizon
  pub started : h < lag.host → b.anchor.start ≤ h
  pub spare : b.accesses < MOST_ACCESSES

-- board b takes access a of processor cpu at count h, whose number is that; it brings no edge and no
-- message. `after` is the board that has run to the access, with the access counted: what it reads it
-- reads of that board, and what it leaves of it is the board after the access
pub record IsPassed (b : BoardParts) (cpu h : ℕ) (a : Access) (number : ℕ) (after : BoardParts) : Type 0
  where
    pub taken : refusal_of b cpu h a ≡ None
    pub reply : reply_of b cpu h a ≡ record {
      number = number;
      value = value_at after cpu h a;
      edges = [];
      bursts = [];
    }
    pub state : left_by a after ≡ after_access b cpu h a
    pub still : (ran_to b h).edges ≡ []
    pub range : now_of after < RANGE_NS
