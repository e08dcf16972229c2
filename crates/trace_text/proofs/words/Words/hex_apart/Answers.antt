use Rattle.std.proofs.Common.{sym, ◌∙◌, ap}
use Rattle.std.specs.Prelude.{option_and_then}
use Rattle.trace_text.specs.private.Spelled.{hex_of}
use Rattle.trace_text.proofs.Tokens.{hex-is}
use Rattle.trace_text.proofs.words.Words.hex_apart.Goals as goal

pub returns-in_err-number_apart-clause-value : goal.returns-in_err-number_apart-clause-value
returns-in_err-number_apart-clause-value c =
    let spelt = hex-is 16 c.args.self.now ∙ ap (option_and_then (hex_of 16)) (sym c.in_err-number_apart.ensures.value) in
    c.from_residual.ensures ∙ sym spelt

pub returns-clause-value : goal.returns-clause-value
returns-clause-value c =
    let spelt = hex-is 16 c.args.self.now ∙ ap (option_and_then (hex_of 16)) (sym c.in_ok-number_apart.ensures.value) in
    c.hexadecimal.ensures ∙ sym spelt
