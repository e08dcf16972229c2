use Rattle.std.proofs.Common.{◌≡◌, Some, sym, ◌∙◌, ap, arith}
use Rattle.std.specs.Prelude.{option_and_then}
use Rattle.trace_text.specs.Tokens.{byte}
use Rattle.trace_text.specs.private.Spelled.{hex_of}
use Rattle.trace_text.proofs.Tokens.{hex-is, byte-fits}
use Rattle.trace_text.proofs.words.Words.byte_apart.Goals as goal

pub returns-in_err-number_apart-clause-value : goal.returns-in_err-number_apart-clause-value
returns-in_err-number_apart-clause-value c =
    let spelt = hex-is 2 c.args.self.now ∙ ap (option_and_then (hex_of 2)) (sym c.in_err-number_apart.ensures.value) in
    c.from_residual.ensures ∙ sym spelt

pub returns-in_err-byte-clause-value : goal.returns-in_err-byte-clause-value
returns-in_err-byte-clause-value c =
    let spelt = hex-is 2 c.args.self.now ∙ ap (option_and_then (hex_of 2)) (sym c.in_ok-number_apart.ensures.value) in
    c.from_residual-in_err-byte.ensures ∙ c.in_err-byte.ensures ∙ sym spelt

pub overflow_cast-result : goal.overflow_cast-result
overflow_cast-result c =
    let spelt = hex-is 2 c.args.self.now ∙ ap (option_and_then (hex_of 2)) (sym c.in_ok-number_apart.ensures.value) in
    let is : byte c.args.self.now ≡ Some c.in_ok-byte.byte = spelt ∙ sym c.in_ok-byte.ensures in
    omega (arith, byte-fits c.args.self.now c.in_ok-byte.byte is)

pub returns-clause-value : goal.returns-clause-value
returns-clause-value c =
    let spelt = hex-is 2 c.args.self.now ∙ ap (option_and_then (hex_of 2)) (sym c.in_ok-number_apart.ensures.value) in
    sym (spelt ∙ sym c.in_ok-byte.ensures)
