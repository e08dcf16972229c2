use Rattle.std.proofs.Common.{ℕ, ◌+◌, arith}
use Rattle.trace_text.proofs.ShortWords.{two_digits_word}
use Rattle.trace_text.proofs.words.Words.usual_port.Goals as goal

pub returns-clause-hex : goal.returns-clause-hex
returns-clause-hex c =
    let at : ℕ = c.self.inside.at in
    (two_digits_word 16 at (at + 3) c.in_ok-n.n c.self.inside.line.now _ c.self.view_is (omega arith) (omega arith) c.in_ok-n.ensures.0 c.in_ok-n.ensures.2).0

pub returns-clause-past : goal.returns-clause-past
returns-clause-past c =
    let at : ℕ = c.self.inside.at in
    (two_digits_word 16 at (at + 3) c.in_ok-n.n c.self.inside.line.now _ c.self.view_is (omega arith) (omega arith) c.in_ok-n.ensures.0 c.in_ok-n.ensures.2).1
