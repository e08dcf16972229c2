-- It grows with the TSC, and keeps near the exact time.
use Rattle.std.proofs.Common.{rules, arith}
use Rattle.pvclock_page.specs.Reading.{delta_of, reading_of}
use Rattle.pvclock_page.proofs.Times.{reading_of-mono, IsNear-elapsed_of, elapsed-whole, reading_of-zero}
use Rattle.pvclock_page.proofs.time.reading.Goals as goal

pub returns-clause-value : goal.returns-clause-value
unfolding reading_of
returns-clause-value c = search rules

pub returns-clause-grows : goal.returns-clause-grows
returns-clause-grows c =
    λ earlier h whole. rw (returns-clause-value c) (reading_of-mono c.args.page.now earlier c.args.tsc h whole)

pub returns-clause-near : goal.returns-clause-near
returns-clause-near c =
    λ hz s whole. rw (returns-clause-value c, elapsed-whole c.args.page.now c.args.tsc whole)
    (IsNear-elapsed_of hz (delta_of c.args.page.now c.args.tsc) c.args.page.now.mul c.args.page.now.shift s)

pub returns-clause-begins : goal.returns-clause-begins
returns-clause-begins c = λ none. rw (returns-clause-value c) (reading_of-zero c.args.page.now c.args.tsc (omega arith) none)
