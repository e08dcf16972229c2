use Rattle.std.proofs.Common.{arith}
use Rattle.reply_text.specs.private.Front.{IsFront}
use Rattle.reply_text.proofs.Fronts.{line_counts, number_counts_or_stays}
use Rattle.reply_text.proofs.counted.CountedLines.both_count_to.Goals as goal

pub invariant_of-self : goal.invariant_of-self
invariant_of-self c =
    let counts = c.if-counts_to.ensures in
    let last = c.counts_to-then-counts_to.ensures in
    let front : IsFront c.counts_to.new.before c.self.inside.number c.self.inside.start c.self.inside.end c.counts_to.new.text =
    rw counts.number (line_counts c.self.inside.line c.args.line c.self.inside.number c.self.inside.start c.self.inside.end c.self.inside.text
    c.counts_to.new.text c.self.invariant c.self.told (omega arith) counts.counts counts.up counts.over) in
    number_counts_or_stays c.counts_to-then-counts_to.result c.counts_to.new.before c.self.inside.number c.args.number
    c.counts_to-then-counts_to.new.before c.self.inside.start c.self.inside.end c.counts_to.new.text c.counts_to-then-counts_to.new.text
    front c.counts_to.ensures.room (omega arith) last.counts last.number last.up last.over last.still
