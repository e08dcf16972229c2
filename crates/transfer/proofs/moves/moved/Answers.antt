use Rattle.std.proofs.Common.{◌≡◌, ℕ, ◌+◌, ◌<◌, ◌≤◌, length, None, ap, sym, subst, ◌∙◌, rules, arith}
use Rattle.clk_units.specs.declared.ranges.TheConstants.{RANGE_NS}
use Rattle.board_types.specs.declared.parts.BoardParts.{BoardParts}
use Rattle.board_core.specs.Time.{now_of}
use Rattle.board_core.specs.Tsc.{processor_at, tsc_read}
use Rattle.board_types.specs.declared.parts.TheConstants.{LAST_VERSION}
use Rattle.board_meters.specs.declared.meters.Meters.{Meters}
use Rattle.board_meters.specs.Meters.{move_fault_in}
use Rattle.transfer.specs.Move.{tsc_after_gap, moved_to}
use Rattle.transfer.proofs.GoingOn.{tsc_read-moved_to}
use Rattle.transfer.proofs.Publishing.{move_fault-none, published_below-hv, reanchored-hv}
use Rattle.transfer.proofs.moves.moved.Goals as goal

pub reanchor-ran-requires-clause-range : goal.reanchor-ran-requires-clause-range
reanchor-ran-requires-clause-range c =
    let none = subst (λ (m : Meters). move_fault_in c.args.gap m ≡ None) c.tally.ensures c.in_ok-admit_move.ensures.taken in
    (move_fault-none c.args.gap c.args.state.now none).0

pub publish_all-requires-clause-gap : goal.publish_all-requires-clause-gap
publish_all-requires-clause-gap c =
    let none = subst (λ (m : Meters). move_fault_in c.args.gap m ≡ None) c.tally.ensures c.in_ok-admit_move.ensures.taken in
    let below : now_of c.args.state.now + c.args.gap < RANGE_NS = (move_fault-none c.args.gap c.args.state.now none).0 in omega arith

pub publish_all-requires-clause-fresh : goal.publish_all-requires-clause-fresh
publish_all-requires-clause-fresh c =
    let none = subst (λ (m : Meters). move_fault_in c.args.gap m ≡ None) c.tally.ensures c.in_ok-admit_move.ensures.taken in
    let fresh = (move_fault-none c.args.gap c.args.state.now none).1 in
    subst (λ (b : BoardParts). (k : ℕ) → k < b.cpus → (processor_at b k).version < LAST_VERSION) (sym c.parts-from.ensures.value) fresh

pub publish_hv-requires : goal.publish_hv-requires
publish_hv-requires c =
    let from : BoardParts = c.parts-from.result in
    let left = published_below-hv from c.args.khz c.args.start c.args.gap from.cpus c.reanchor-ran.new.self in
    let was = reanchored-hv c.args.khz c.args.start c.args.gap c.args.state.now in
    let none = subst (λ (m : Meters). move_fault_in c.args.gap m ≡ None) c.tally.ensures c.in_ok-admit_move.ensures.taken in
    let free = (move_fault-none c.args.gap c.args.state.now none).2 in
    search rules

fits : (n m : ℕ) → m ≡ 64 → n ≤ 64 → n ≤ m
fits n m places few = omega arith

pub returns-clause-tscs : goal.returns-clause-tscs
unfolding moved_to
returns-clause-tscs c =
    let from : BoardParts = c.parts-from.result in
    let moved : BoardParts = c.publish_hv.new.self in
    let places : length from.processors ≡ 64 = search rules in
    let few : from.cpus ≤ 64 = search rules in
    let is : moved ≡ moved_to c.args.khz c.args.start c.args.gap from = search rules in
    λ (k : ℕ) (less : k < c.args.state.now.cpus).
    let there : k < from.cpus = subst (λ (b : BoardParts). k < b.cpus) (sym c.parts-from.ensures.value) less in
    ap (λ (b : BoardParts). tsc_read b.anchor b.guest_khz c.args.start (processor_at b k)) is
    ∙ tsc_read-moved_to from c.args.khz c.args.start c.args.gap k (fits from.cpus (length from.processors) places few) there
    ∙ ap (λ (b : BoardParts). tsc_after_gap b c.args.gap k) c.parts-from.ensures.value
