use Rattle.std.proofs.Common.{◌≡◌, ℕ, ◌-◌, ◌<◌, ◌≤◌, max, List, [], ◌++◌, length, append-nil, ap, sym, subst, ◌∙◌, arith}
use Rattle.irq_edges.specs.declared.edges.Edge.{Edge}
use Rattle.host_counter.specs.Time.{time_at}
use Rattle.board_types.specs.declared.parts.BoardParts.{BoardParts}
use Rattle.board_devices.proofs.Edges.{run_none_state, run_none_edges}
use Rattle.board_core.specs.Time.{devices_in, now_of, time_of_access}
use Rattle.board_core.specs.Rises.{rises_after}
use Rattle.local_apics.specs.Nanosecond.{run as run_apics}
use Rattle.board_core.specs.Apics.{apics_in, tscs_by_time}
use Rattle.board_core.specs.private.Calls.{apics_ran_to}
use Rattle.board_core.specs.Access.{ran_to, bursts_to, after_run}
use Rattle.hpet_bursts.specs.Bursts.{bursts_of}
use Rattle.hpet_bursts.proofs.Runs.{bursts_below-still}
use Rattle.board_core.specs.View.{board_parts_of}
use Rattle.board_core.proofs.Times.{time_at_max}
use Rattle.board_core.proofs.Counted.{rises_after-none}
use Rattle.board_core.proofs.Joined.{IsJoined-same_time, early}
use Rattle.host_counter.specs.Time.{HasTime}
use Rattle.board_core.specs.Conditions.{IsJoined}
use Rattle.board_core.proofs.Steps.{with_run-is}
use Rattle.board_core.proofs.board.BoardState.run_to.Goals as goal

-- an access at the board's own time runs nothing
module _ (b : BoardParts) (h : ℕ) (stays : now_of b ≡ time_of_access b h) where
  state-none : (ran_to b h).state ≡ devices_in b
  state-none = run_none_state (now_of b) (time_of_access b h) (devices_in b) stays

  edges-none : (ran_to b h).edges ≡ []
  edges-none = run_none_edges (now_of b) (time_of_access b h) (devices_in b) stays

  bursts-none : bursts_to b h ≡ []
  bursts-none = ap (λ (n : ℕ). bursts_of (now_of b) n b.hpet) (let none : time_of_access b h - now_of b ≡ 0 = omega (arith, stays) in none)
      ∙ bursts_below-still 8 (now_of b) b.hpet

  same_time : (host : ℕ) → 0 < b.anchor.khz → host ≡ max b.host h → time_at b.anchor host ≡ now_of b
  same_time host runs is = ap (time_at b.anchor) is ∙ time_at_max b.anchor b.host h runs ∙ sym stays

  apics-none : apics_in b ≡ apics_ran_to b h
  apics-none =
      let none : time_of_access b h - now_of b ≡ 0 = omega (arith, stays) in
      sym (ap (λ (n : ℕ). run_apics (tscs_by_time b) (now_of b) n (apics_in b)) none)

  run-none : (host : ℕ) → host ≡ max b.host h → record b { host = host } ≡ after_run b h
  run-none host is = with_run-is b h host (devices_in b) b.rises (apics_in b) is (sym state-none)
      (sym (ap (λ (es : List Edge). rises_after b.format es b.rises) edges-none ∙ rises_after-none b.format b.rises)) apics-none

-- a count that isn't beyond the board's
stays_at : (b : BoardParts) (h : ℕ) → IsJoined b → HasTime b.anchor h → h ≤ b.host → now_of b ≡ time_of_access b h
stays_at b h joined time le = (early b h (omega (arith, joined.rates.host.slow)) joined.time time.started le).1

pub invariant_of-self : goal.invariant_of-self
invariant_of-self c =
    let b : BoardParts = board_parts_of c.self.inside in
    let later : b.host < c.args.h = omega (arith, c.if-h-self.false) in
    let stays : now_of b ≡ time_of_access b c.args.h =
    sym c.self.invariant.time ∙ sym c.if-to-self.true ∙ c.requires.to ∙ ap (λ (x : BoardParts). time_of_access x c.args.h) (sym c.self.view_is) in
    let same : time_at b.anchor c.args.h ≡ now_of b =
    same_time b c.args.h stays c.args.h (omega (arith, c.self.invariant.joined.rates.host.slow)) (omega (arith, later)) in
    record {
      time = c.self.invariant.time ∙ sym same;
      joined = IsJoined-same_time b c.args.h c.self.invariant.joined (omega (arith, later)) same;
    }

pub returns-then-h-self-clause-ran : goal.returns-then-h-self-clause-ran
returns-then-h-self-clause-ran c =
    let b : BoardParts = board_parts_of c.self.inside in
    let stays : now_of b ≡ time_of_access b c.args.h = stays_at b c.args.h c.self.invariant.joined
    (subst (λ (x : BoardParts). HasTime x.anchor c.args.h) (sym c.self.view_is) c.requires.time) c.if-h-self.true in
    record {
      state = sym c.self.view_is ∙ run-none b c.args.h stays b.host (omega (arith, c.if-h-self.true))
          ∙ ap (λ (x : BoardParts). after_run x c.args.h) c.self.view_is;
      edges = sym (ap (λ (x : BoardParts). c.args.edges.now ++ (ran_to x c.args.h).edges) (sym c.self.view_is)
          ∙ ap (λ (es : List Edge). c.args.edges.now ++ es) (edges-none b c.args.h stays) ∙ append-nil c.args.edges.now);
      bursts = c.requires.fresh ∙ sym (ap (λ (x : BoardParts). bursts_to x c.args.h) (sym c.self.view_is) ∙ bursts-none b c.args.h stays);
      few = subst (λ (x : BoardParts). length (ran_to x c.args.h).edges ≤ 6) c.self.view_is (omega (arith, ap length (edges-none b c.args.h stays)));
      room = omega arith;
    }

pub returns-then-to-self-clause-ran : goal.returns-then-to-self-clause-ran
returns-then-to-self-clause-ran c =
    let b : BoardParts = c.args.self.now in
    let stays : now_of b ≡ time_of_access b c.args.h =
    ap now_of (sym c.self.view_is) ∙ sym c.self.invariant.time ∙ sym c.if-to-self.true ∙ c.requires.to in
    record {
      state =
          let b : BoardParts = board_parts_of c.self.inside in
          let later : b.host < c.args.h = omega (arith, c.if-h-self.false) in
          let stays : now_of b ≡ time_of_access b c.args.h =
          sym c.self.invariant.time ∙ sym c.if-to-self.true ∙ c.requires.to ∙ ap (λ (x : BoardParts). time_of_access x c.args.h) (sym c.self.view_is) in
          run-none b c.args.h stays c.args.h (omega (arith, later)) ∙ ap (λ (x : BoardParts). after_run x c.args.h) c.self.view_is;
      edges = sym (ap (λ (es : List Edge). c.args.edges.now ++ es) (edges-none b c.args.h stays) ∙ append-nil c.args.edges.now);
      bursts = c.requires.fresh ∙ sym (bursts-none b c.args.h stays);
      few = omega (arith, ap length (edges-none b c.args.h stays));
      room = omega arith;
    }
