use Rattle.std.proofs.Common.{◌≡◌, ℕ, List, take, Option, Some, None, subst, sym, inl, inr, arith}
use Rattle.std.specs.List.{Contains}
use Rattle.std.proofs.lemmas.List.{take_more, take_all}
use Rattle.std.proofs.lemmas.List.Elements.{Contains-push_cases}
use Rattle.board_devices.proofs.run.goes_up.Goals as goal

pub loop-time-preserved : goal.loop-time-preserved
loop-time-preserved c = rw (take_more c.args.times.now c.loop-time.time-index None (omega arith))
    (λ t has. elim (Contains-push_cases _ _ (Some t) has) [
      | inl old ↦ c.loop-time.invariant t old
      | inr this ↦ c.is_later.ensures c.if-is_later.false t this
    ])

pub returns : goal.returns
returns c = λ none to t has later.
    let all : take c.loop-time.time-index c.args.times.now ≡ c.args.times.now = take_all c.loop-time.time-index c.args.times.now (omega arith) in
    absurd (omega (arith, later, c.loop-time.invariant t (subst (λ (us : List (Option ℕ)). Contains us (Some t)) (sym all) has)))
