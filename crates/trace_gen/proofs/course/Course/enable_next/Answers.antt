use Rattle.std.proofs.Common.{rules, ◌+◌, ◌-◌, ◌++◌, codes, arith, append_assoc}
use Rattle.trace_gen.specs.Text.{enable_text, enables_text}
use Rattle.trace_gen.specs.private.Course.{drawing}
use Rattle.trace_gen.proofs.Steps.{enables_text-more, enables_text-none}
use Rattle.trace_gen.proofs.course.Course.enable_next.Goals as goal

pub returns-then-self : goal.returns-then-self
returns-then-self c =
    let none = enables_text-none (c.args.self.now.cpus - c.args.self.now.enabled) c.args.self.now.enabled
    (codes "0 0 hw 10 4 1\n" ++ drawing c.args.self.now) (omega arith) in
    record { text = rw (c.requires.stage, c.of.ensures) none; some = search rules; kept = search rules }

pub returns : goal.returns
returns c =
    let more = enables_text-more (c.args.self.now.cpus - c.args.self.now.enabled) (c.args.self.now.cpus - (c.args.self.now.enabled + 1))
    c.args.self.now.enabled (omega arith) in
    record {
      text =
          rw (c.requires.stage, c.enable.ensures.value, more) (append_assoc (enable_text c.args.self.now.enabled)
          (enables_text (c.args.self.now.cpus - (c.args.self.now.enabled + 1)) (c.args.self.now.enabled + 1))
          (codes "0 0 hw 10 4 1\n" ++ drawing c.args.self.now));
      some = search rules;
      kept = search rules;
    }
