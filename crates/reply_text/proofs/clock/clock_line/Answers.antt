use Rattle.std.proofs.Common.{◌≡◌, ◌-◌, ◌++◌, ◌∷◌, [], take, drop, decimal, ◌∙◌, arith}
use Rattle.std.specs.Prelude.{codes}
use Rattle.reply_text.specs.Text.{clock_text}
use Rattle.reply_text.specs.private.Readings.{reading_text}
use Rattle.reply_text.proofs.Fronts.{clock_is, joined_at, length_between}
use Rattle.reply_text.proofs.clock.clock_line.Goals as goal

-- the bytes that are appended are the line
line_is : (c : goal.After-append_line) → take (c.put_clock-end.result - c.put_front-start.result) (drop c.put_front-start.result c.put_clock-end.new.text)
    ≡ clock_text c.args.line c.args.reply.now
line_is c =
    joined_at c.put_front-start.new.text c.put_clock-end.new.text (decimal c.args.line)
    (codes " clock " ++ (reading_text c.args.reply.now ++ 10 ∷ []))
    c.put_front-start.result 20 c.put_clock-end.result c.put_front-start.ensures.written c.put_clock-end.ensures.written
    c.put_front-start.ensures.before c.put_clock-end.ensures.within.0 (omega (arith, c.put_front-start.ensures.room))
    ∙ clock_is c.args.line c.args.reply.now

pub returns-clause-ok : goal.returns-clause-ok
returns-clause-ok c = rw (← line_is c) c.append_line.ensures.ok

pub returns-clause-full : goal.returns-clause-full
returns-clause-full c =
    let long = length_between c.put_clock-end.new.text c.put_front-start.result c.put_clock-end.result
    (omega (arith, c.put_clock-end.ensures.room, c.put_clock-end.ensures.within.1)) in
    rw (← line_is c, long) c.append_line.ensures.full
