use Rattle.std.proofs.Common.{sym, ◌∙◌, refl}
use Rattle.trace_text.proofs.Spells.{words_from-after}
use Rattle.trace_text.proofs.WordAt.{word_cut}
use Rattle.trace_text.proofs.words.Words.word.Goals as goal

pub returns-then-self : goal.returns-then-self
returns-then-self c = sym c.self.view_is ∙ words_from-after c.self.inside.at c.self.inside.line.now c.if-self.true

pub returns : goal.returns
returns c =
    sym c.self.view_is
    ∙ word_cut c.self.inside.at c.unwrap_or-count.result c.self.inside.line.now _ _ c.if-self.false refl c.memchr.ensures c.unwrap_or-count.ensures
