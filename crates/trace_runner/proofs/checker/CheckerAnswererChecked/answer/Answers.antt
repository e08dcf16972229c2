use Rattle.std.proofs.Common.{sym, subst}
use Rattle.trace_text.specs.declared.reading.Item.TheVariants.{Next}
use Rattle.trace_runner.specs.Check.{IsCheckReady}
use Rattle.trace_runner.proofs.CheckReady.{check_next}
use Rattle.trace_runner.proofs.checker.CheckerAnswererChecked.answer.Goals as goal

pub returns-then-read_record-clause-may : goal.returns-then-read_record-clause-may
returns-then-read_record-clause-may g c =
    check_next c.take.result c.take.new.end c.args.line (Next c.read_record.new.given) c.self.inside.check c.read_record.new.self c.take.new.self
    c.args.text.now (subst (IsCheckReady c.args.line) (sym c.self.view_is) c.requires.may) c.if-read_record.ensures.item c.if-read_record.ensures.valid
    c.if-read_record.ensures.state c.take.ensures.ends c.take.ensures.state
