use Rattle.std.proofs.Common.{◌≡◌, [], refl, sym, ◌∙◌, ap, arith}
use Rattle.trace_text.specs.Tokens.{first, rest}
use Rattle.trace_text.specs.private.Spelled.{number_of}
use Rattle.trace_text.proofs.Spells.{words_from-after}
use Rattle.trace_text.proofs.FirstWord.{no_number, a_number}
use Rattle.trace_text.proofs.words.Words.number_apart.Goals as goal

pub returns-then-at-self-clause-value : goal.returns-then-at-self-clause-value
returns-then-at-self-clause-value c =
    let none : c.args.self.now ≡ [] = sym c.self.view_is ∙ words_from-after c.self.inside.at c.self.inside.line.now c.if-at-self.true in
    rw none refl

pub returns-in_err-spelling-clause-value : goal.returns-in_err-spelling-clause-value
returns-in_err-spelling-clause-value c =
    c.from_residual.ensures
    ∙ sym (no_number c.args.base c.self.inside.at c.self.inside.line.now (omega arith) c.if-at-self.false c.in_err-spelling.ensures)
    ∙ ap (first (number_of c.args.base)) c.self.view_is

pub returns-clause-value : goal.returns-clause-value
returns-clause-value c =
    let s = c.in_ok-spelling.spelling in
    let there =
    a_number c.args.base c.self.inside.at s.end s.value c.self.inside.line.now (omega arith) c.if-at-self.false c.in_ok-spelling.ensures.2 in
    rw c.is_zero.ensures (sym there.0 ∙ ap (first (number_of c.args.base)) c.self.view_is)

pub returns-clause-past : goal.returns-clause-past
returns-clause-past c =
    let s = c.in_ok-spelling.spelling in
    let there =
    a_number c.args.base c.self.inside.at s.end s.value c.self.inside.line.now (omega arith) c.if-at-self.false c.in_ok-spelling.ensures.2 in
    there.1 ∙ ap rest c.self.view_is
