use Rattle.std.proofs.Common.{◌≡◌, [], refl, sym, ◌∙◌}
use Rattle.trace_text.proofs.Spells.{words_from-after}
use Rattle.trace_text.proofs.FirstWord.{from_place}
use Rattle.trace_text.proofs.words.Words.end.Goals as goal

pub returns-then-self : goal.returns-then-self
returns-then-self c =
    let none : c.args.self.now ≡ [] = sym c.self.view_is ∙ words_from-after c.self.inside.at c.self.inside.line.now c.if-self.true in
    rw none refl

pub returns-else-self : goal.returns-else-self
returns-else-self c =
    let some = sym c.self.view_is ∙ from_place c.self.inside.at c.self.inside.line.now c.if-self.false in
    rw some refl
