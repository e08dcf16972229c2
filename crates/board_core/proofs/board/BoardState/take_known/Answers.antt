use Rattle.std.proofs.Common.{rules, ◌≡◌, ℕ, List, [], ◌++◌, length, length-append, ap, sym, subst, ◌∙◌, arith}
use Rattle.std.specs.List.{All}
use Rattle.irq_edges.specs.Lines.{IsOfLine}
use Rattle.irq_edges.specs.declared.edges.Edge.{Edge}
use Rattle.irq_edges.specs.declared.bursts.Burst.{Burst}
use Rattle.board_types.specs.declared.reply.Reply.{Reply}
use Rattle.board_types.specs.declared.reply.Value.{Value}
use Rattle.board_types.specs.declared.access.Access.{Access}
use Rattle.board_types.specs.declared.parts.BoardParts.{BoardParts}
use Rattle.board_core.specs.Access.{ran_to, own_edges, after_run, after_act, value_at, edges_of, reply_of, after_access}
use Rattle.board_core.specs.private.Calls.{IsTaken}
use Rattle.board_core.specs.Refusals.{meters_of}
use Rattle.board_core.proofs.OfLines.{of_lines_edges}
use Rattle.board_core.proofs.Laws.{taken_time, taken_version, taken_accesses, after_access-accesses}
use Rattle.board_core.proofs.board.BoardState.take_known.Goals as goal

abbrev reply : List Burst → ℕ → Value → List Edge → Reply
reply bursts number value edges = record { number = number; value = value; edges = edges; bursts = bursts }

pub run_to-looked-requires : goal.run_to-looked-requires
run_to-looked-requires c = record {
  time = taken_time c.args.self.now c.args.cpu c.args.h c.args.a c.in-Ok.ensures.taken;
  to = search rules;
  places = omega (arith, ap length c.requires.fresh.edges);
  fresh = c.requires.fresh.bursts;
}

pub act-value-requires-clause-taken : goal.act-value-requires-clause-taken
unfolding after_run meters_of
act-value-requires-clause-taken c = subst (λ (b : BoardParts). IsTaken b c.args.cpu c.args.h c.args.a) (sym c.run_to-looked.ensures.ran.state) (record {
  cpu = c.requires.cpu;
  legal = c.requires.legal;
  time = taken_time c.args.self.now c.args.cpu c.args.h c.args.a c.in-Ok.ensures.taken;
  accesses = taken_accesses c.args.self.now c.args.cpu c.args.h c.args.a c.in-Ok.ensures.taken;
  version = taken_version c.args.self.now c.args.cpu c.args.h c.args.a c.in-Ok.ensures.taken;
})

-- the board after the access, and the edges by their parts
state_is : (b ran new : BoardParts) (cpu h : ℕ) (a : Access) → ran ≡ after_run b h → new ≡ after_act ran cpu h a → new ≡ after_access b cpu h a
unfolding after_access
state_is b ran new cpu h a run act = act ∙ ap (λ (x : BoardParts). after_act x cpu h a) run

edges_are : (b ran : BoardParts) (h : ℕ) (a : Access) (old mid new : List Edge) → ran ≡ after_run b h → old ≡ [] → mid ≡ old ++ (ran_to b h).edges
    → new ≡ mid ++ own_edges ran a → new ≡ edges_of b h a
unfolding edges_of
edges_are b ran h a old mid new run none came act =
    act ∙ ap (λ (es : List Edge). es ++ own_edges ran a) (came ∙ ap (λ (es : List Edge). es ++ (ran_to b h).edges) none)
    ∙ ap (λ (x : BoardParts). (ran_to b h).edges ++ own_edges x a) run

pub returns-clause-taken : goal.returns-clause-taken
unfolding reply_of
returns-clause-taken c =
    let b : BoardParts = c.args.self.now in
    let r : Reply = reply_of b c.args.cpu c.args.h c.args.a in
    let after : c.act-value.new.self ≡ after_access b c.args.cpu c.args.h c.args.a =
    state_is b _ _ c.args.cpu c.args.h c.args.a c.run_to-looked.ensures.ran.state c.act-value.ensures.state in
    let number : c.self.inside.accesses ≡ r.number =
    ap (λ (x : BoardParts). x.accesses) (c.self.view_is ∙ after) ∙ after_access-accesses b c.args.cpu c.args.h c.args.a in
    let value : c.act-value.result ≡ r.value =
    c.act-value.ensures.told.value ∙ ap (λ (x : BoardParts). value_at x c.args.cpu c.args.h c.args.a) c.run_to-looked.ensures.ran.state in
    let edges : c.act-value.new.edges ≡ edges_of b c.args.h c.args.a =
    edges_are b _ c.args.h c.args.a _ _ _ c.run_to-looked.ensures.ran.state c.requires.fresh.edges c.run_to-looked.ensures.ran.edges
    c.act-value.ensures.told.edges in
    record {
      taken = c.in-Ok.ensures.taken;
      reply = ap (λ (bs : List Burst). reply bs c.self.inside.accesses c.act-value.result c.act-value.new.edges) c.run_to-looked.ensures.ran.bursts
          ∙ ap (λ (n : ℕ). reply r.bursts n c.act-value.result c.act-value.new.edges) number
          ∙ ap (λ (v : Value). reply r.bursts r.number v c.act-value.new.edges) value
          ∙ ap (reply r.bursts r.number r.value) edges;
      state = after;
      of_lines = subst (λ (es : List Edge). All IsOfLine es) (sym edges) (of_lines_edges b c.args.h c.args.a);
      few_run = c.run_to-looked.ensures.ran.few;
      few = omega (
        arith,
        c.act-value.ensures.told.few,
        ap length c.run_to-looked.ensures.ran.edges,
        length-append c.args.reply.now.edges (ran_to b c.args.h).edges,
        ap length c.requires.fresh.edges,
      );
    }
