use Rattle.std.proofs.Common.{◌≡◌, ℕ, ◌-◌, ◌<◌, ap, subst, ◌∙◌, arith}
use Rattle.clk_units.specs.declared.ranges.TheConstants.{RANGE_NS}
use Rattle.board_types.specs.declared.parts.BoardParts.{BoardParts}
use Rattle.board_devices.specs.Run.{run}
use Rattle.board_core.specs.Access.{after_run}
use Rattle.board_core.specs.Conditions.{IsJoined}
use Rattle.board_core.specs.Lazy.{caught_up}
use Rattle.board_core.specs.Time.{now_of, time_of_access, devices_in}
use Rattle.board_core.specs.View.{board_parts_of}
use Rattle.board_core.proofs.LazySteps.{now-lagging, range-caught}
use Rattle.board_core.proofs.board.BoardState.main_counter.Goals as goal
use Rattle.board_core.proofs.board.BoardState.main_counter.Goals.{After-self}

-- the time to which the board lags
now : (c : After-self) → c.args.now_ns ≡ time_of_access (board_parts_of c.self.inside) c.args.lag.now.host
now c = now-lagging _ _ c.args.lag.now.host c.args.now_ns c.self.view_is c.self.invariant.joined c.requires.now

pub main_counter-requires-clause-order : goal.main_counter-requires-clause-order
main_counter-requires-clause-order c = omega (arith, c.self.invariant.time, now c)

pub main_counter-requires-clause-range : goal.main_counter-requires-clause-range
main_counter-requires-clause-range c =
    let range : now_of (caught_up c.args.self.now c.args.lag.now) < RANGE_NS =
    range-caught c.args.self.now c.args.lag.now.host c.args.lag.now.horizon (subst IsJoined c.self.view_is c.self.invariant.joined) c.requires.lazy in
    omega (arith, c.requires.now, range)

pub returns : goal.returns
unfolding after_run
returns c =
    let b : BoardParts = board_parts_of c.self.inside in
    let h : ℕ = c.args.lag.now.host in
    c.main_counter.ensures
    ∙ ap (λ (t : ℕ). (run t (c.args.now_ns - t) (devices_in b)).state.hpet.counter) c.self.invariant.time
    ∙ ap (λ (t : ℕ). (run (now_of b) (t - now_of b) (devices_in b)).state.hpet.counter) (now c.before)
    ∙ ap (λ (x : BoardParts). (run (now_of x) (time_of_access x h - now_of x) (devices_in x)).state.hpet.counter) c.self.view_is
