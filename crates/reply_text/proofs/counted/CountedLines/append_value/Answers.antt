use Rattle.std.proofs.Common.{◌≡◌, ℕ, ◌-◌, ◌≤◌, length, take, drop, ap, ◌∙◌, arith, length-drop, length-take-le}
use Rattle.reply_text.specs.Text.{value_text}
use Rattle.reply_text.proofs.Fronts.{front_stays, before_words, line_printed}
use Rattle.reply_text.proofs.counted.CountedLines.append_value.Goals as goal

pub invariant_of-self-2 : goal.invariant_of-self-2
invariant_of-self-2 c =
    let short : c.self.inside.end ≤ length c.self.inside.text = omega (arith, c.self.told) in
    front_stays _ _ _ _ _ _ c.self.invariant
    (before_words _ _ _ _ _ c.in-Some.ensures.value.0 c.in-Some.ensures.value.1 short)

-- the bytes that are appended are the line
line_is : (c : goal.After-append_line) → take (c.in-Some.end - c.self.inside.start) (drop c.self.inside.start c.put_value.new.text)
    ≡ value_text c.args.self.now.0 c.args.self.now.1 c.args.value.now
line_is c =
    line_printed c.self.inside.line c.self.inside.number c.self.inside.start c.self.inside.end c.in-Some.end c.self.inside.text
    c.put_value.new.text c.args.value.now c.self.invariant c.self.told c.in-Some.ensures.value.0 c.in-Some.ensures.value.1
    ∙ ap (λ (p : ℕ × ℕ). value_text p.0 p.1 c.args.value.now) c.self.view_is

pub returns-clause-ok : goal.returns-clause-ok
returns-clause-ok c = rw (← line_is c) c.append_line.ensures.ok

pub returns-clause-full : goal.returns-clause-full
returns-clause-full c =
    let at : ℕ = c.in-Some.end in
    let start : ℕ = c.self.inside.start in
    let long : length (take (at - start) (drop start c.put_value.new.text)) ≡ at - start =
    length-take-le (at - start) (drop start c.put_value.new.text)
    (omega (arith, length-drop start c.put_value.new.text, c.put_value.ensures.room, c.in-Some.ensures.value.2, c.self.invariant.short)) in
    rw (← line_is c, long) c.append_line.ensures.full
