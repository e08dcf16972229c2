use Rattle.std.proofs.Common.{◌≡◌, Result, Ok, ap}
use Rattle.trace_text.specs.declared.faults.RecordFault.{RecordFault}
use Rattle.trace_text.specs.declared.reading.Item.{Item}
use Rattle.trace_text.specs.declared.reading.Item.TheVariants.{End}
use Rattle.trace_text.proofs.reading.Reading.take_line.Goals as goal

pub returns-in-Ok-clause-open : goal.returns-in-Ok-clause-open
returns-in-Ok-clause-open c = λ other.
    c.in-Ok.ensures.open
    (λ (e : c.in-Ok.item ≡ End). other (ap (λ (i : Item). let r : Result Item RecordFault = Ok i in r) e))
