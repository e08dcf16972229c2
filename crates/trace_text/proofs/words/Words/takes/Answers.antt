use Rattle.std.proofs.Common.{◌≡◌, ℕ, List, length, [], refl, sym, ◌∙◌, ap, inl, inr}
use Rattle.std.proofs.lemmas.Bool.{cases_lt}
use Rattle.trace_text.specs.Tokens.{starts, rest}
use Rattle.trace_text.specs.private.Spelled.{words_from}
use Rattle.trace_text.proofs.Spells.{words_from-after}
use Rattle.trace_text.proofs.FirstWord.{a_word, no_word}
use Rattle.trace_text.proofs.words.Words.takes.Goals as goal

pub returns-in-Some-clause-found : goal.returns-in-Some-clause-found
returns-in-Some-clause-found c =
    let inside = c.self.inside in
    let behind : List (List ℕ) = words_from c.in-Some.end inside.line.now in
    let there = a_word c.args.name.now inside.at inside.line.now behind c.requires c.in-Some.ensures.0 c.in-Some.ensures.2 in
    sym there.0 ∙ ap (starts c.args.name.now) c.self.view_is

pub returns-in-Some-clause-past : goal.returns-in-Some-clause-past
returns-in-Some-clause-past c =
    let inside = c.self.inside in
    let behind : List (List ℕ) = words_from c.in-Some.end inside.line.now in
    let there = a_word c.args.name.now inside.at inside.line.now behind c.requires c.in-Some.ensures.0 c.in-Some.ensures.2 in
    there.1 ∙ ap rest c.self.view_is

pub returns-in-None-clause-found : goal.returns-in-None-clause-found
returns-in-None-clause-found c = elim (cases_lt (length c.self.inside.line.now) c.self.inside.at) [
  | inl past ↦
      let none : c.args.self.now ≡ [] = sym c.self.view_is ∙ words_from-after c.self.inside.at c.self.inside.line.now past in
      rw none refl
  | inr within ↦
      let other = no_word c.args.name.now c.self.inside.at c.self.inside.line.now c.requires within (c.in-None.ensures within) in
      sym other ∙ ap (starts c.args.name.now) c.self.view_is
]
