use Rattle.std.proofs.Common.{ℕ, ◌-◌, subst, arith}
use Rattle.clk_units.specs.declared.ranges.TheConstants.{RANGE_NS}
use Rattle.tsc_scale.specs.declared.Tsc.{Tsc}
use Rattle.lapic_timer.specs.Deadline.{IsFirstAt}
use Rattle.local_apics.specs.Nanosecond.{ticks_at, tsc_in}
use Rattle.local_apics.specs.Places.{timer_at}
use Rattle.local_apics.specs.declared.span.TscClock.{TscClock}
use Rattle.board_types.specs.declared.parts.BoardParts.{BoardParts}
use Rattle.board_core.specs.Apics.{apics_in, tscs_by_time}
use Rattle.board_core.specs.Next.{IsNextTick}
use Rattle.board_core.specs.View.{board_parts_of}
use Rattle.board_core.proofs.Times.{base-first}
use Rattle.board_core.proofs.board.BoardState.next_tick.Goals as goal

pub next_tick-requires-clause-anchored : goal.next_tick-requires-clause-anchored
next_tick-requires-clause-anchored c = omega (arith, c.self.invariant.time, base-first c.self.inside.anchor c.self.inside.host)

pub returns : goal.returns
returns c =
    let b : BoardParts = board_parts_of c.self.inside in
    let clock : TscClock = record { anchor = b.anchor; guest_khz = b.guest_khz } in
    subst (λ (x : BoardParts). IsNextTick x c.args.cpu c.next_tick.result) c.self.view_is
    (subst (λ (t : ℕ). IsFirstAt (ticks_at (tscs_by_time b c.args.cpu) t (timer_at c.args.cpu (apics_in b))) t (RANGE_NS - 1) c.next_tick.result)
    c.self.invariant.time
    (subst (λ (tsc : Tsc). IsFirstAt (ticks_at (tsc_in clock tsc) c.self.inside.time_ns (timer_at c.args.cpu (apics_in b))) c.self.inside.time_ns
    (RANGE_NS - 1) c.next_tick.result) c.tsc_of-tsc.ensures c.next_tick.ensures))
