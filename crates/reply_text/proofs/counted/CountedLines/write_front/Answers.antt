use Rattle.reply_text.proofs.Fronts.{number_written}
use Rattle.reply_text.proofs.counted.CountedLines.write_front.Goals as goal

pub invariant_of-self : goal.invariant_of-self
invariant_of-self c =
    number_written _ _ _ _ _ _ _ _ c.self.invariant c.self.told c.put_number-self-inside.ensures.end
    c.put_number-self-inside.ensures.short c.put_number-self-inside.ensures.written
