use Rattle.std.proofs.Common.{rules, ◌-◌, codes, arith, append_assoc}
use Rattle.trace_gen.specs.Draws.{drawn}
use Rattle.trace_gen.specs.Text.{record_text, records_text}
use Rattle.trace_gen.proofs.Steps.{records_text-more, records_text-none}
use Rattle.trace_gen.proofs.course.Course.draw_next.Goals as goal

pub returns-then-self-eq0 : goal.returns-then-self-eq0
returns-then-self-eq0 c =
    let none = records_text-none c.args.self.now.left c.args.self.now.cpus c.args.self.now.draws (codes "end\n") (omega arith) in
    record { text = rw (c.requires.stage, c.of.ensures) none; some = search rules; kept = search rules }

pub returns : goal.returns
returns c =
    let more = records_text-more c.args.self.now.left (c.args.self.now.left - 1) c.args.self.now.cpus c.args.self.now.draws (omega arith) in
    record {
      text =
          rw (c.requires.stage, c.record_line.ensures.value, c.draw.ensures.value, more)
          (append_assoc (record_text c.args.self.now.cpus (drawn c.args.self.now.draws))
          (records_text (c.args.self.now.left - 1) c.args.self.now.cpus (drawn c.args.self.now.draws)) (codes "end\n"));
      some = search rules;
      kept = search rules;
    }
