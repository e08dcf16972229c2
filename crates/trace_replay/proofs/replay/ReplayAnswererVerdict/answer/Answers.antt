use Rattle.std.proofs.Common.{List, ℕ, sym, ap, ◌∙◌}
use Rattle.trace_text.specs.Lines.{taken, after_line}
use Rattle.trace_records.specs.Calls.{asking}
use Rattle.trace_text.specs.declared.reading.Item.TheVariants.{Next}
use Rattle.trace_replay.proofs.ReadyNext.{read_ready}
use Rattle.trace_replay.proofs.replay.ReplayAnswererVerdict.answer.Goals as goal

pub returns-in-Some-take_usual-clause-may : goal.returns-in-Some-take_usual-clause-may
returns-in-Some-take_usual-clause-may c =
    read_ready c.answer_access.result c.answer_access.new.end c.args.line (Next (asking c.in-Some-take_usual.asked)) c.args.self.now
    c.answer_access.new.self c.take_usual.new.self c.args.text.now c.requires.may
    (ap (λ (l : List ℕ). taken c.args.self.now.reading l) (sym c.in-Some.ensures) ∙ c.in-Some-take_usual.ensures.item)
    (c.in-Some-take_usual.ensures.state ∙ ap (λ (l : List ℕ). after_line l c.args.self.now.reading) c.in-Some.ensures)
    c.answer_access.ensures.ends c.answer_access.ensures.state
