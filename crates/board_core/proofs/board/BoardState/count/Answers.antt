use Rattle.std.proofs.Common.{◌≡◌, ℕ, ◌+◌, ◌≤◌, max, true, sym, subst, ap, ◌∙◌, arith}
use Rattle.board_types.specs.declared.access.Access.{Access}
use Rattle.board_types.specs.declared.parts.BoardParts.{BoardParts}
use Rattle.board_core.specs.declared.lag.Lag.{Lag}
use Rattle.board_core.specs.Access.{after_run}
use Rattle.board_core.specs.Conditions.{IsJoined}
use Rattle.board_core.specs.Lazy.{is_passive, caught_up, IsLazy, IsCounted, IsPassed}
use Rattle.board_core.specs.Time.{now_of}
use Rattle.board_core.proofs.LazySteps.{IsLazy-step, passed, now-counted}
use Rattle.board_core.proofs.board.BoardState.count.Goals as goal

-- the board that lags, with the access counted
abbrev counted : BoardParts → BoardParts
counted b = record b { accesses = b.accesses + 1 }

module _ (b after : BoardParts) (lag : Lag) (h host : ℕ) (joined : IsJoined b) (lazy : IsLazy b lag.host lag.horizon) (is : IsCounted b lag h)
    (new : after ≡ counted b) (most : max lag.host h ≡ host) where
  it_passed : (cpu : ℕ) (a : Access) → is_passive a ≡ true → IsPassed (caught_up b lag) cpu h a after.accesses (after_run after host)
  it_passed cpu a passive =
      subst (λ (x : BoardParts). IsPassed (caught_up b lag) cpu h a x.accesses (after_run x host)) (sym new)
      (subst (λ (m : ℕ). IsPassed (caught_up b lag) cpu h a (b.accesses + 1) (after_run (counted b) m)) most
      (passed b lag.host lag.horizon cpu h joined lazy is.before is.started a passive is.spare))

  is_lazy : IsLazy after host lag.horizon
  is_lazy =
      subst (λ (x : BoardParts). IsLazy x host lag.horizon) (sym new)
      (subst (λ (m : ℕ). IsLazy (counted b) m lag.horizon) most
      (IsLazy-step b lag.host lag.horizon 0 h joined lazy is.before is.started (b.accesses + 1)))

pub returns-then-later-clause-passed : goal.returns-then-later-clause-passed
returns-then-later-clause-passed c =
    it_passed c.args.self.now _ c.args.lag.now c.args.h c.args.h c.count_access.ensures.joined c.requires.lazy c.requires.counted
    c.count_access.ensures.state (omega (arith, c.if-later.true))

pub returns-then-later-clause-later : goal.returns-then-later-clause-later
returns-then-later-clause-later c later =
    let within : c.args.self.now.host ≤ c.args.lag.now.host = c.requires.lazy.from (omega (arith, c.requires.counted.before)) in
    omega (arith, c.if-later.true, within, ap (λ (x : BoardParts). x.host) c.count_access.ensures.state)

pub returns-then-later-clause-lazy : goal.returns-then-later-clause-lazy
returns-then-later-clause-lazy c =
    is_lazy c.args.self.now _ c.args.lag.now c.args.h c.args.h c.count_access.ensures.joined c.requires.lazy c.requires.counted
    c.count_access.ensures.state (omega (arith, c.if-later.true))

pub returns-else-later-clause-passed : goal.returns-else-later-clause-passed
returns-else-later-clause-passed c =
    it_passed c.args.self.now _ c.args.lag.now c.args.h c.args.lag.now.host c.count_access.ensures.joined c.requires.lazy c.requires.counted
    c.count_access.ensures.state (omega (arith, c.if-later.false))

pub returns-else-later-clause-now : goal.returns-else-later-clause-now
returns-else-later-clause-now c not_later =
    let most : max c.args.lag.now.host c.args.h ≡ c.args.lag.now.host = omega (arith, c.if-later.false) in
    ap (λ (b : BoardParts). now_of (after_run b c.args.lag.now.host)) c.count_access.ensures.state
    ∙ ap (λ (m : ℕ). now_of (after_run (counted c.args.self.now) m)) (sym most)
    ∙ now-counted c.args.self.now (c.args.self.now.accesses + 1) c.args.lag.now.host c.args.h (omega (arith, c.if-later.false))
