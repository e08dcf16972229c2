use Rattle.std.proofs.Common.{ℕ, ◌+◌, arith}
use Rattle.trace_text.proofs.ShortWords.{one_digit_word}
use Rattle.trace_text.proofs.words.Words.one_digit.Goals as goal

pub returns-clause-value : goal.returns-clause-value
returns-clause-value c =
    let at : ℕ = c.self.inside.at in
    (one_digit_word at (at + 2) c.in_ok-n.n c.self.inside.line.now _ c.self.view_is (omega arith) c.in_ok-n.ensures.0 c.in_ok-n.ensures.1).0

pub returns-clause-past : goal.returns-clause-past
returns-clause-past c =
    let at : ℕ = c.self.inside.at in
    (one_digit_word at (at + 2) c.in_ok-n.n c.self.inside.line.now _ c.self.view_is (omega arith) c.in_ok-n.ensures.0 c.in_ok-n.ensures.1).1
