use Rattle.std.proofs.Common.{arith}
use Rattle.reply_text.proofs.Fronts.{line_counts}
use Rattle.reply_text.proofs.counted.CountedLines.go_to_line.Goals as goal

pub invariant_of-self-else-not-counts_to : goal.invariant_of-self-else-not-counts_to
invariant_of-self-else-not-counts_to c =
    let counts = c.if-not-counts_to.ensures in
    rw counts.number (line_counts c.self.inside.line c.args.line c.self.inside.number c.self.inside.start c.self.inside.end c.self.inside.text
    c.counts_to.new.text c.self.invariant c.self.told (omega arith) counts.counts counts.up counts.over)
