use Rattle.std.proofs.Common.{◌≡◌, ℕ, Result, Ok, Err, OnOk, OnErr, refl, ap, sym, subst, ◌∙◌}
use Rattle.host_counter.specs.declared.TimeFault.{TimeFault}
use Rattle.pvclock_page.specs.declared.page.ClockReply.{ClockReply}
use Rattle.board_types.specs.declared.parts.BoardParts.{BoardParts}
use Rattle.board_core.specs.Access.{after_run}
use Rattle.board_core.specs.Pages.{after_clock, clock_reply, page_reply, greatest_with}
use Rattle.board_core.specs.Outcome.{IsClockRead}
use Rattle.board_core.specs.Lazy.{IsLazy}
use Rattle.board_core.proofs.LazySteps.{IsLazy-greatest}
use Rattle.board_core.proofs.board.BoardState.lagging_clock_of.Goals as goal

on_ok : {A E : Type 0} (r : Result A E) (P Q : Type 0) → (P → Q) → OnOk r P → OnOk r Q
on_ok (Ok x) P Q f p = f p
on_ok (Err e) P Q f p = p

on_err : {A E : Type 0} (r : Result A E) (P Q : Type 0) → (P → Q) → OnErr r P → OnErr r Q
on_err (Ok x) P Q f p = p
on_err (Err e) P Q f p = f p

IsLazy-clock : (b : BoardParts) (cpu h host horizon : ℕ) → IsLazy b host horizon → IsLazy (after_clock b cpu h) host horizon
unfolding after_clock
IsLazy-clock b cpu h host horizon is = IsLazy-greatest b (greatest_with b.greatest (page_reply b cpu h)) host horizon is

kept : {A E : Type 0} (r : Result A E) (b new : BoardParts) (cpu h host horizon : ℕ) → OnOk r (new ≡ after_clock b cpu h) → OnErr r (new ≡ b)
    → IsLazy b host horizon → IsLazy new host horizon
kept (Ok x) b new cpu h host horizon read same is = subst (λ (n : BoardParts). IsLazy n host horizon) (sym read) (IsLazy-clock b cpu h host horizon is)
kept (Err e) b new cpu h host horizon read same is = subst (λ (n : BoardParts). IsLazy n host horizon) (sym same) is

-- a run and a read of the clock in either order
after_run-clock : (b : BoardParts) (cpu h host : ℕ) → after_run (after_clock b cpu h) host ≡ after_clock (after_run b host) cpu h
unfolding after_run after_clock page_reply
after_run-clock b cpu h host = refl

-- the same of the board that a run has brought up
read_is : (r : Result ClockReply TimeFault) (b new : BoardParts) (cpu h host : ℕ) → IsClockRead b cpu h r new
    → IsClockRead (after_run b host) cpu h r (after_run new host)
unfolding after_run clock_reply page_reply
read_is r b new cpu h host is = record {
  ok = is.ok;
  value = is.value;
  state = on_ok r _ _ (λ (same : new ≡ after_clock b cpu h). ap (λ (x : BoardParts). after_run x host) same ∙ after_run-clock b cpu h host) is.state;
  fault = is.fault;
  unchanged = on_err r _ _ (ap (λ (x : BoardParts). after_run x host)) is.unchanged;
}

pub returns-clause-read : goal.returns-clause-read
returns-clause-read c =
    read_is c.clock_of.result c.args.self.now c.clock_of.new.self c.args.cpu c.args.h c.args.lag.now.host (record {
      ok = c.clock_of.ensures.ok;
      value = c.clock_of.ensures.value;
      state = c.clock_of.ensures.state;
      fault = c.clock_of.ensures.fault;
      unchanged = c.clock_of.ensures.unchanged;
    })

pub returns-clause-lazy : goal.returns-clause-lazy
returns-clause-lazy c =
    kept c.clock_of.result c.args.self.now c.clock_of.new.self c.args.cpu c.args.h c.args.lag.now.host c.args.lag.now.horizon c.clock_of.ensures.state
    c.clock_of.ensures.unchanged c.requires.lazy
