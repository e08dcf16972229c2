use Rattle.std.proofs.Common.{◌≡◌, ℕ, List, [], length, ap, sym, subst, ◌∙◌, arith}
use Rattle.std.specs.List.{All}
use Rattle.std.proofs.lemmas.List.Elements.{All-nil}
use Rattle.irq_edges.specs.Lines.{IsOfLine}
use Rattle.irq_edges.specs.declared.edges.Edge.{Edge}
use Rattle.irq_edges.specs.declared.bursts.Burst.{Burst}
use Rattle.board_types.specs.declared.parts.BoardParts.{BoardParts}
use Rattle.board_types.specs.declared.reply.Reply.{Reply}
use Rattle.board_types.specs.declared.reply.Value.{Value}
use Rattle.board_core.specs.Access.{after_run, value_at, reply_of}
use Rattle.board_core.specs.Lazy.{left_by, caught_up, IsLazy, IsPassed}
use Rattle.board_core.specs.Outcome.{IsAsked}
use Rattle.board_types.specs.declared.access.Access.{Access}
use Rattle.board_core.proofs.Joins.{after_run-zero}
use Rattle.board_core.proofs.LazySteps.{taken-caught, refused-caught}
use Rattle.board_core.proofs.Passive.{value-of-step}
use Rattle.board_core.proofs.board.BoardState.take_lagging.Goals as goal
use Rattle.board_core.proofs.board.BoardState.take_lagging.Goals.{in-Step, in_default}

reply : ℕ → Value → List Edge → List Burst → Reply
reply number value edges bursts = record { number = number; value = value; edges = edges; bursts = bursts }

-- an access that is counted
pub returns-then-counts-clause-taken : goal.returns-then-counts-clause-taken
unfolding reply
returns-then-counts-clause-taken c =
    let cpu : ℕ = c.args.cpu in
    let h : ℕ = c.args.h in
    let b : BoardParts = caught_up c.args.self.now c.args.lag.now in
    let next : BoardParts = caught_up c.count-later.new.self c.count-later.new.lag in
    let number : ℕ = c.count-later.new.self.accesses in
    let before : Reply = c.args.reply.now in
    let passed : IsPassed b cpu h c.args.a number next =
    c.count-later.ensures.passed cpu c.args.a (sym c.is_passive-passive.ensures ∙ c.if-passive.true) in
    let told : Value → Reply = λ v. reply c.self.inside.accesses v before.edges before.bursts in
    let read : c.match-a.reply ≡ told (value_at next cpu h c.args.a) = elim c.match-a.branch [
      | in-Step w ↦ w.reply-is ∙ ap told (value-of-step next cpu h ∙ ap (value_at next cpu h) (sym w.in-Step.is))
      | in_default w ↦ w.reply-is ∙ ap told (w.read_counted.ensures.value cpu h)
    ] in
    let left : caught_up c.match-a.self c.count-later.new.lag ≡ left_by c.args.a next = elim c.match-a.branch [
      | in-Step w ↦ ap (λ (x : BoardParts). caught_up x c.count-later.new.lag) w.self-is ∙ ap (λ (x : Access). left_by x next) (sym w.in-Step.is)
      | in_default w ↦ ap (λ (x : BoardParts). caught_up x c.count-later.new.lag) w.self-is ∙ w.read_counted.ensures.state
    ] in
    let replied : c.match-a.reply ≡ reply_of b cpu h c.args.a =
    read ∙ ap (λ (x : BoardParts). reply x.accesses (value_at next cpu h c.args.a) before.edges before.bursts) c.self.view_is
    ∙ ap (λ (es : List Edge). reply number (value_at next cpu h c.args.a) es before.bursts) c.requires.asked.fresh.edges
    ∙ ap (reply number (value_at next cpu h c.args.a) []) c.requires.asked.fresh.bursts
    ∙ sym passed.reply in
    let none : c.match-a.reply.edges ≡ [] = ap (λ (r : Reply). r.edges) (replied ∙ passed.reply) in
    record {
      taken = passed.taken;
      reply = replied;
      state = left ∙ passed.state;
      of_lines = subst (All IsOfLine) (sym none) (All-nil IsOfLine);
      few_run = omega (arith, ap length passed.still);
      few = omega (arith, ap length none);
    }

pub returns-then-counts-clause-lazy : goal.returns-then-counts-clause-lazy
returns-then-counts-clause-lazy c = elim c.match-a.branch [
  | in-Step w ↦ subst (λ (b : BoardParts). IsLazy b c.count-later.new.lag.host c.count-later.new.lag.horizon) (sym w.self-is)
      c.count-later.ensures.lazy
  | in_default w ↦ subst (λ (b : BoardParts). IsLazy b c.count-later.new.lag.host c.count-later.new.lag.horizon) (sym w.self-is)
      w.read_counted.ensures.lazy
]

-- one that runs the board, from where it lags
asked : (b c : BoardParts) (host cpu : ℕ) (a : Access) (reply : Reply) → after_run b host ≡ c → IsAsked c cpu a reply → IsAsked b cpu a reply
unfolding after_run
asked b c host cpu a reply same is =
    let before : IsAsked (after_run b host) cpu a reply = subst (λ (x : BoardParts). IsAsked x cpu a reply) (sym same) is in
    record { cpu = before.cpu; legal = before.legal; fresh = before.fresh }

pub take-requires : goal.take-requires
take-requires c = asked c.catch_up_before.new.self (caught_up c.args.self.now c.args.lag.now) c.catch_up_before.new.lag.host c.args.cpu
    c.args.a c.args.reply.now c.catch_up_before.ensures.same c.requires.asked

pub returns-then-not-take-clause-left : goal.returns-then-not-take-clause-left
returns-then-not-take-clause-left c =
    refused-caught (caught_up c.args.self.now c.args.lag.now) c.catch_up_before.new.self c.take.new.self c.catch_up_before.new.lag.host
    c.args.h c.args.cpu c.args.a c.args.reply.now c.take.new.reply c.catch_up_before.ensures.same c.if-not-take.ensures.left

pub returns-then-passive-2-clause-taken : goal.returns-then-passive-2-clause-taken
returns-then-passive-2-clause-taken c =
    taken-caught (caught_up c.args.self.now c.args.lag.now) c.catch_up_before.new.self c.take.new.self
    (caught_up c.take.new.self c.lag_on.new.lag) c.catch_up_before.new.lag.host c.catch_up_before.new.lag.horizon
    c.args.h c.args.cpu c.args.a c.take.new.reply c.catch_up_before.ensures.same
    (omega (arith, c.joined.ensures.rates.host.slow)) c.catch_up_before.ensures.lazy c.catch_up_before.ensures.within
    c.lag_on.ensures.same c.if-not-take.ensures.taken

pub returns-else-passive-2-clause-taken : goal.returns-else-passive-2-clause-taken
returns-else-passive-2-clause-taken c =
    taken-caught (caught_up c.args.self.now c.args.lag.now) c.catch_up_before.new.self c.take.new.self (after_run c.take.new.self 0)
    c.catch_up_before.new.lag.host c.catch_up_before.new.lag.horizon c.args.h c.args.cpu c.args.a
    c.take.new.reply c.catch_up_before.ensures.same (omega (arith, c.joined.ensures.rates.host.slow)) c.catch_up_before.ensures.lazy
    c.catch_up_before.ensures.within (after_run-zero c.take.new.self) c.if-not-take.ensures.taken
