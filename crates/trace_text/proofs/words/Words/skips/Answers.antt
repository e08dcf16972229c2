use Rattle.std.proofs.Common.{◌≡◌, ℕ, ◌+◌, ◌-◌, ◌≤◌, Bool, true, false, not, eqb, length, take, drop, List, [], IsTrue, refl, sym, ◌∙◌, ap, arith, length-drop}
use Rattle.std.specs.List.{list_all, starts_with}
use Rattle.std.proofs.lemmas.List.{drop-drop}
use Rattle.trace_text.specs.Tokens.{words_of}
use Rattle.trace_text.specs.private.Spelled.{begins, shortened, words_from}
use Rattle.trace_text.proofs.Spells.{words_from-within, words_from-after}
use Rattle.trace_text.proofs.Letters.{begins-is, shortened-is}
use Rattle.trace_text.proofs.WordAt.{whole}
use Rattle.trace_text.proofs.words.Words.skips.Goals as goal

pub returns-then-self-clause-found : goal.returns-then-self-clause-found
returns-then-self-clause-found c =
    let none : c.args.self.now ≡ [] = sym c.self.view_is ∙ words_from-after c.self.inside.at c.self.inside.line.now c.if-self.true in
    rw none refl

-- by the test of the line's bytes
tested : (at : ℕ) (line letters : List ℕ) (words : List (List ℕ)) (b : Bool) → at ≤ length line → words_from at line ≡ words
    → IsTrue (list_all (λ b. not (eqb b 32)) letters)
    → b ≡ starts_with eqb (take (length line - at) (drop at line)) letters → b ≡ begins letters words
tested at line letters words b within is plain test =
    test
    ∙ ap (λ (l : List ℕ). starts_with eqb l letters) (whole at line)
    ∙ sym (begins-is letters (drop at line) plain)
    ∙ ap (begins letters) (sym (words_from-within at line within) ∙ is)

pub returns-then-not-starts_with-clause-found : goal.returns-then-not-starts_with-clause-found
returns-then-not-starts_with-clause-found c =
    tested c.self.inside.at c.self.inside.line.now c.args.letters.now c.args.self.now false c.if-self.false c.self.view_is c.requires
    c.if-not-starts_with.ensures.value

pub returns-clause-found : goal.returns-clause-found
returns-clause-found c =
    tested c.self.inside.at c.self.inside.line.now c.args.letters.now c.args.self.now true c.if-self.false c.self.view_is c.requires
    c.if-not-starts_with.ensures.value

pub returns-clause-past : goal.returns-clause-past
returns-clause-past c =
    let at : ℕ = c.self.inside.at in
    let line : List ℕ = c.self.inside.line.now in
    let test : starts_with eqb (drop at line) c.args.letters.now ≡ true =
    sym (c.if-not-starts_with.ensures.value ∙ ap (λ (l : List ℕ). starts_with eqb l c.args.letters.now) (whole at line)) in
    let less = shortened-is c.args.letters.now (drop at line) c.requires test in
    let within : at + length c.args.letters.now ≤ length line = omega (arith, less.0, length-drop at line, c.if-self.false) in
    words_from-within (at + length c.args.letters.now) line within
    ∙ ap words_of (sym (drop-drop (length c.args.letters.now) at line))
    ∙ less.1
    ∙ ap (shortened (length c.args.letters.now)) (sym (words_from-within at line c.if-self.false) ∙ c.self.view_is)
