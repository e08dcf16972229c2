use Rattle.std.proofs.Common.{◌≡◌, ℕ, Option, Some, IfSome, ap, subst, sym, ◌∙◌}
use Rattle.host_counter.specs.declared.Anchor.{Anchor}
use Rattle.board_core.specs.Access.{after_run}
use Rattle.clockboard_c.specs.Kept.{LaggingBoard}
use Rattle.clockboard_c.specs.Timer.{IsFirstCount, told_number}
use Rattle.clockboard_c.proofs.timer.clockboard_counter_of.Goals as goal

pub returns-clause-first : goal.returns-clause-first
unfolding after_run
returns-clause-first c = λ ok.
    let some : c.count_within.result ≡ Some c.tell.new.number =
    sym c.tell.ensures.told ∙ ap (λ (code : ℕ). told_number code c.tell.new.number) ok in
    subst (λ (b : LaggingBoard). IsFirstCount b.state.anchor c.args.at_ns c.tell.new.number) c.board.view_is
    (subst (λ (a : Anchor). IsFirstCount a c.args.at_ns c.tell.new.number) c.anchor_of.ensures.value
    (subst (λ (o : Option ℕ). IfSome o (IsFirstCount c.anchor_of.result c.args.at_ns)) some c.count_within.ensures.first))
