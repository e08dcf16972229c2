use Rattle.std.proofs.Common.{Result, ap, sym, ◌∙◌}
use Rattle.trace_text.specs.Lines.{record_in}
use Rattle.trace_text.specs.declared.faults.RecordFault.{RecordFault}
use Rattle.trace_text.specs.declared.reading.Item.{Item}
use Rattle.trace_runner.proofs.CheckReady.{check_next}
use Rattle.trace_runner.proofs.Sounds.{read_sound}
use Rattle.trace_runner.proofs.check.Check.answer_other.Goals as goal

pub answer_item-requires-clause-sound : goal.answer_item-requires-clause-sound
answer_item-requires-clause-sound g c = rw c.read_line.ensures.state (read_sound c.args.text.now c.args.self.now c.requires.may.sound)

pub answer_item-requires-clause-other : goal.answer_item-requires-clause-other
answer_item-requires-clause-other g c =
    ap (λ (r : Result Item RecordFault). record_in r) (sym c.in-Ok.is ∙ c.read_line.ensures.item) ∙ c.requires.other

pub returns-in-Ok-clause-may : goal.returns-in-Ok-clause-may
returns-in-Ok-clause-may g c =
    check_next c.answer_item.result c.answer_item.new.end c.args.line c.in-Ok.item c.args.self.now c.read_line.new.self c.answer_item.new.self c.args.text.now
    c.requires.may
    (sym c.read_line.ensures.item ∙ c.in-Ok.is) c.in-Ok.ensures.valid c.read_line.ensures.state c.answer_item.ensures.ends c.answer_item.ensures.state
