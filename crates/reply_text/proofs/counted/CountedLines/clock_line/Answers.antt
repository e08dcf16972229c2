use Rattle.std.proofs.Common.{◌≡◌, ℕ, ◌-◌, ◌++◌, ◌∷◌, [], List, take, drop, decimal, ap, ◌∙◌, arith}
use Rattle.std.specs.Prelude.{codes}
use Rattle.reply_text.specs.Text.{clock_text}
use Rattle.reply_text.specs.private.Readings.{reading_text}
use Rattle.reply_text.proofs.Fronts.{clock_is, front_line, joined_at, length_between}
use Rattle.reply_text.proofs.counted.CountedLines.clock_line.Goals as goal

-- the bytes that are appended are the line
line_is : (c : goal.After-append_line) → take (c.put_clock-end.result - c.self.inside.start) (drop c.self.inside.start c.put_clock-end.new.text)
    ≡ clock_text c.args.line c.args.reply.now
line_is c =
    let words : List ℕ = codes " clock " ++ (reading_text c.args.reply.now ++ 10 ∷ []) in
    joined_at c.self.inside.text c.put_clock-end.new.text (decimal c.self.inside.line) words c.self.inside.start 20 c.put_clock-end.result
    (front_line _ _ _ _ _ c.self.invariant c.self.told) c.put_clock-end.ensures.written (omega (arith, c.self.invariant.start_is))
    c.put_clock-end.ensures.within.0 (omega (arith, c.self.told))
    ∙ ap (λ (p : ℕ × ℕ). decimal p.0 ++ words) (c.self.view_is ∙ c.go_to_line.ensures)
    ∙ clock_is c.args.line c.args.reply.now

pub returns-clause-ok : goal.returns-clause-ok
returns-clause-ok c = rw (← line_is c) c.append_line.ensures.ok

pub returns-clause-full : goal.returns-clause-full
returns-clause-full c =
    let long = length_between c.put_clock-end.new.text c.self.inside.start c.put_clock-end.result
    (omega (arith, c.put_clock-end.ensures.room, c.put_clock-end.ensures.within.1)) in
    rw (← line_is c, long) c.append_line.ensures.full
