use Rattle.std.proofs.Common.{sym, ◌∙◌, ap}
use Rattle.std.specs.Prelude.{option_and_then}
use Rattle.trace_text.specs.private.Spelled.{decimal_of}
use Rattle.trace_text.proofs.Tokens.{dec-is}
use Rattle.trace_text.proofs.words.Words.dec_apart.Goals as goal

pub returns-in_err-number_apart-clause-value : goal.returns-in_err-number_apart-clause-value
returns-in_err-number_apart-clause-value c =
    let spelt = dec-is c.args.self.now ∙ ap (option_and_then decimal_of) (sym c.in_err-number_apart.ensures.value) in
    c.from_residual.ensures ∙ sym spelt

pub returns-clause-value : goal.returns-clause-value
returns-clause-value c =
    let spelt = dec-is c.args.self.now ∙ ap (option_and_then decimal_of) (sym c.in_ok-number_apart.ensures.value) in
    c.decimal.ensures ∙ sym spelt
