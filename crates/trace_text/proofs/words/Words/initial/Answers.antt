use Rattle.std.proofs.Common.{subst}
use Rattle.trace_text.specs.private.Groups.{IsInitial}
use Rattle.trace_text.proofs.FirstWord.{initial-there, initial-none}
use Rattle.trace_text.proofs.words.Words.initial.Goals as goal

pub returns-then-self : goal.returns-then-self
returns-then-self c = subst (IsInitial _) c.self.view_is (initial-there c.self.inside.at c.self.inside.line.now c.if-self.true)

pub returns-else-self : goal.returns-else-self
returns-else-self c = subst (IsInitial 0) c.self.view_is (initial-none c.self.inside.at c.self.inside.line.now c.if-self.false)
