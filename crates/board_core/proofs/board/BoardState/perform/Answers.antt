use Rattle.std.proofs.Common.{arith, ℕ, List, ◌++◌, append-nil, ap, sym, ◌∙◌}
use Rattle.irq_edges.specs.declared.edges.Edge.{Edge}
use Rattle.board_types.specs.declared.reply.Value.TheVariants.{Nothing}
use Rattle.board_core.specs.private.Values.{value_with}
use Rattle.board_core.proofs.Kept.{own-none, value-written, value-touched}
use Rattle.board_core.proofs.board.BoardState.perform.Goals as goal

pub returns-then-touches-clause-told : goal.returns-then-touches-clause-told
returns-then-touches-clause-told c = record {
  value = c.value_with.ensures
      ∙ ap (λ (n : ℕ). value_with c.args.a n Nothing) c.touch-word.ensures.word
      ∙ value-touched c.args.self.now c.args.cpu c.args.h c.args.a (sym c.touches.ensures ∙ c.if-touches.true);
  edges = c.touch-word.ensures.edges;
  few = c.touch-word.ensures.few;
}

pub returns-then-writes-clause-told : goal.returns-then-writes-clause-told
returns-then-writes-clause-told c = record {
  value = value-written c.args.self.now c.args.cpu c.args.h c.args.a (sym c.writes.ensures ∙ c.if-writes.true);
  edges = sym
      (ap (λ (es : List Edge). c.args.edges.now ++ es) (own-none c.args.self.now c.args.a (sym c.touches.ensures ∙ c.if-touches.false))
      ∙ append-nil c.args.edges.now);
  few = omega arith;
}

pub returns-clause-told : goal.returns-clause-told
returns-clause-told c = record {
  value = c.tell.ensures.value;
  edges = sym
      (ap (λ (es : List Edge). c.args.edges.now ++ es) (own-none c.args.self.now c.args.a (sym c.touches.ensures ∙ c.if-touches.false))
      ∙ append-nil c.args.edges.now);
  few = omega arith;
}
