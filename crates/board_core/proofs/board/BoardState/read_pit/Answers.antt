use Rattle.std.proofs.Common.{ℕ, ◌-◌, ◌<◌, ap, sym, subst, ◌∙◌, arith}
use Rattle.clk_units.specs.declared.ranges.TheConstants.{RANGE_NS}
use Rattle.pit_readback.specs.Ports.{port_read}
use Rattle.board_types.specs.declared.access.Access.TheVariants.{PortIn}
use Rattle.board_types.specs.declared.parts.BoardParts.{BoardParts}
use Rattle.board_devices.specs.declared.parts.DeviceParts.{DeviceParts}
use Rattle.board_devices.specs.Run.{run}
use Rattle.board_core.specs.Access.{after_run}
use Rattle.board_core.specs.Conditions.{IsJoined}
use Rattle.board_core.specs.Lazy.{left_by, caught_up}
use Rattle.board_core.specs.Time.{now_of, time_of_access, devices_in, with_devices}
use Rattle.board_core.specs.View.{board_parts_of}
use Rattle.board_core.proofs.LazySteps.{now-lagging, range-caught, IsJoined-read}
use Rattle.board_core.proofs.board.BoardState.read_pit.Goals as goal

pub read_pit_later-requires-clause-order : goal.read_pit_later-requires-clause-order
read_pit_later-requires-clause-order c = omega (
  arith,
  c.self.invariant.time,
  now-lagging _ _ c.args.lag.now.host c.args.now_ns c.self.view_is c.self.invariant.joined c.requires.now,
)

pub read_pit_later-requires-clause-range : goal.read_pit_later-requires-clause-range
read_pit_later-requires-clause-range c =
    let range : now_of (caught_up c.args.self.now c.args.lag.now) < RANGE_NS =
    range-caught c.args.self.now c.args.lag.now.host c.args.lag.now.horizon (subst IsJoined c.self.view_is c.self.invariant.joined) c.requires.lazy in
    omega (arith, c.requires.now, range)

pub invariant_of-self : goal.invariant_of-self
invariant_of-self c = record {
  time = c.self.invariant.time;
  joined = subst (λ (d : DeviceParts). IsJoined (with_devices d (board_parts_of c.self.inside))) (sym c.read_pit_later.ensures.state)
      (IsJoined-read c.args.port (board_parts_of c.self.inside) c.self.invariant.joined);
}

pub returns-clause-state : goal.returns-clause-state
returns-clause-state c =
    ap (λ (d : DeviceParts). with_devices d (board_parts_of c.self.inside)) c.read_pit_later.ensures.state
    ∙ ap (left_by (PortIn c.args.port)) c.self.view_is

pub returns-clause-byte : goal.returns-clause-byte
unfolding after_run
returns-clause-byte c =
    let b : BoardParts = board_parts_of c.self.inside in
    let h : ℕ = c.args.lag.now.host in
    let byte : ℕ → ℕ → BoardParts → ℕ = λ from to x. port_read c.args.now_ns c.args.port (run from (to - from) (devices_in x)).state.pit in
    c.read_pit_later.ensures.byte
    ∙ ap (λ (t : ℕ). byte t c.args.now_ns b) c.self.invariant.time
    ∙ ap (λ (t : ℕ). byte (now_of b) t b) (now-lagging _ _ h c.args.now_ns c.self.view_is c.self.invariant.joined c.requires.now)
    ∙ ap (λ (x : BoardParts). byte (now_of x) (time_of_access x h) x) c.self.view_is
