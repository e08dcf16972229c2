use Rattle.std.proofs.Common.{sym, ◌∙◌, ap}
use Rattle.trace_text.specs.Tokens.{dec}
use Rattle.trace_text.proofs.Letters.{decimal_past-there, decimal_past-none}
use Rattle.trace_text.proofs.words.Words.dec_past.Goals as goal

pub returns-then-not-skips-clause-value : goal.returns-then-not-skips-clause-value
returns-then-not-skips-clause-value c =
    sym (decimal_past-none c.args.letters.now c.args.self.now (sym c.if-not-skips.ensures.found))

pub returns-clause-value : goal.returns-clause-value
returns-clause-value c =
    let there = decimal_past-there c.args.letters.now c.args.self.now (sym c.if-not-skips.ensures.found) in
    c.dec.ensures.value ∙ ap dec c.if-not-skips.ensures.past ∙ sym there.0
