use Rattle.std.proofs.Common.{◌≡◌, sym, ap, ◌∙◌, length, arith, eq-eqb, length-drop}
use Rattle.std.proofs.lemmas.Bool.{eqb-true}
use Rattle.std.proofs.lemmas.List.{drop_all}
use Rattle.trace_gen.proofs.piece.Piece.is_empty.Goals as goal

pub returns : goal.returns
returns c =
    let of_drop = length-drop c.self.inside.start c.self.inside.bytes in
    let bound = c.self.invariant in (
      λ t. let full : c.self.inside.start ≡ 64 = eqb-true c.self.inside.start 64 t in
          sym c.self.view_is ∙ drop_all c.self.inside.start c.self.inside.bytes (omega arith),
      λ none. let left = ap length (c.self.view_is ∙ none) in eq-eqb c.self.inside.start 64 (omega arith),
    )
