use Rattle.std.proofs.Common.{◌≡◌, ℕ, ◌+◌, ◌-◌, ◌*◌, ◌/◌, ◌<◌, true, List, Option, ap, sym, subst, ◌∙◌, arith}
use Rattle.irq_edges.specs.Rises.{levels_at, IsNextRise}
use Rattle.hpet_registers.specs.Parts.{IsHpet}
use Rattle.tick_policy.specs.Stretch.{IsFirstPoint}
use Rattle.tick_policy.proofs.Stretches.{next_point}
use Rattle.board_devices.specs.declared.parts.DeviceParts.{DeviceParts}
use Rattle.board_devices.specs.declared.stretch.Span.{Span}
use Rattle.board_devices.specs.View.{parts_of}
use Rattle.board_devices.specs.private.Runs.{IsEdgeBy}
use Rattle.board_devices.specs.private.Ahead.{front_up, lines_up, is_settled}
use Rattle.board_devices.proofs.Ahead.{levels-ahead, edge-settled}
use Rattle.board_devices.proofs.Edges.{next-is}
use Rattle.board_devices.proofs.Product.{Sound}
use Rattle.board_devices.proofs.devices.Devices.edge_by.Goals as goal
use Rattle.board_devices.proofs.devices.Devices.edge_by.Goals.{After-are_timers_settled}

-- what is known of the devices
sound : (c : After-are_timers_settled) → Sound (parts_of c.self.inside)
sound c = record { rtc = rw c.parts-clock.ensures.value at c.parts-clock.ensures.valid; joined = c.self.invariant }

valid : (c : After-are_timers_settled) → IsHpet c.self.inside.hpet
valid c = subst IsHpet c.parts-timers.ensures.parts c.parts-timers.ensures.valid

-- the stretch, and its first catch-up point
abbrev span_of : (c : After-are_timers_settled) → Span
span_of c = record { from = c.args.now; to = c.args.to; point = c.next_point-point.result }

ahead : (c : After-are_timers_settled) → ℕ
ahead c = (c.args.now / c.self.inside.slew_ns + 1) * c.self.inside.slew_ns - c.args.now

first : (c : After-are_timers_settled) → IsFirstPoint c.self.inside.slew_ns c.args.now (ahead c)
unfolding ahead
first c = next_point c.self.inside.slew_ns c.args.now (omega (arith, c.self.invariant.slew_low))

point : (c : After-are_timers_settled) → c.next_point-point.result ≡ c.args.now + ahead c
unfolding ahead
point c = omega (arith, (first c).later, c.next_point-point.ensures)

pub returns-then-are_timers_settled : goal.returns-then-are_timers_settled
returns-then-are_timers_settled c =
    let b : After-are_timers_settled = (goal.at.returns-then-are_timers_settled c).After-are_timers_settled in
    let settled : (k : ℕ) → k < c.self.inside.hpet.timers → is_settled k (parts_of c.self.inside) ≡ true =
    subst (λ (d : DeviceParts). (k : ℕ) → k < d.hpet.timers → is_settled k d ≡ true) (sym c.self.view_is)
    (c.are_timers_settled.ensures c.if-are_timers_settled.true) in
    let front : c.front_up-front.result ≡ front_up (span_of b) (parts_of c.self.inside) =
    c.front_up-front.ensures ∙ ap (front_up (span_of b)) (sym c.self.view_is) in
    subst (λ (x : DeviceParts). IsEdgeBy c.args.now c.args.to x c.next_rise.result) c.self.view_is
    (edge-settled (parts_of c.self.inside) (span_of b) (ahead b) (sound b) (valid b) (first b) (point b) c.requires.order settled c.next_rise.result
    (subst (λ (us : List (Option ℕ)). IsNextRise us c.args.now c.args.to c.next_rise.result) front c.next_rise.ensures))

pub returns : goal.returns
returns c =
    let b : After-are_timers_settled = (goal.at.returns c).After-are_timers_settled in
    let times : c.lines_up-times.result ≡ lines_up (span_of b) (parts_of c.self.inside) =
    c.lines_up-times.ensures ∙ ap (lines_up (span_of b)) (sym c.self.view_is) in
    subst (λ (x : DeviceParts). IsEdgeBy c.args.now c.args.to x c.next_rise-2.result) c.self.view_is
    (next-is (parts_of c.self.inside) c.lines_up-times.result c.args.now c.args.to
    (λ j le. levels-ahead (parts_of c.self.inside) (span_of b) (ahead b) (sound b) (valid b) (first b) (point b) c.requires.order j le
    ∙ ap (levels_at (c.args.now + j)) (sym times))
    c.next_rise-2.result c.requires.order (omega arith) c.next_rise-2.ensures)
