use Rattle.std.proofs.Common.{◌≡◌, ℕ, ◌+◌, ◌-◌, [], ◌∷◌, ◌∙◌, arith}
use Rattle.irq_edges.specs.Lines.{line_numbers}
use Rattle.reply_text.proofs.Ups.{put_step}
use Rattle.reply_text.proofs.ends.up_tail.Goals as goal

pub loop-place-preserved : goal.loop-place-preserved
loop-place-preserved c =
    let k : ℕ = c.loop-place.place - 1 in
    let next : k + 1 ≡ c.loop-place.place = omega arith in
    let step = put_step line_numbers c.args.levels.now k c.loop-place.place c.loop-place.found (10 ∷ []) c.loop-place.tail c.put_line-found.new.tail
    next (omega arith) (omega arith) c.loop-place.invariant.0 c.loop-place.invariant.1 c.put_line-found.ensures.value in
    (step.0, c.put_line-found.ensures.found ∙ step.1, omega arith)
