use Rattle.std.proofs.Common.{ℕ, List, sym, ◌∙◌, ap}
use Rattle.trace_text.specs.Tokens.{words_of}
use Rattle.trace_text.proofs.Spells.{words_from-after, words_from-within}
use Rattle.trace_text.proofs.WordAt.{whole}
use Rattle.trace_text.proofs.words.Words.left.Goals as goal

pub returns-then-self : goal.returns-then-self
returns-then-self c = sym c.self.view_is ∙ words_from-after c.self.inside.at c.self.inside.line.now c.if-self.true

pub returns : goal.returns
returns c =
    let at : ℕ = c.self.inside.at in
    let line : List ℕ = c.self.inside.line.now in
    sym c.self.view_is ∙ words_from-within at line c.if-self.false ∙ ap words_of (sym (whole at line))
