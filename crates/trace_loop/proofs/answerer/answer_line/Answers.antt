use Rattle.std.proofs.Common.{rules, ◌≡◌, ℕ, List, length, take, ap, ◌∙◌}
use Rattle.std.proofs.lemmas.Result.{on_err_weaker}
use Rattle.std.specs.Io.{StartsWith}
use Rattle.trace_loop.proofs.answerer.answer_line.Goals as goal

pub returns-then-is_err-clause-kept : goal.returns-then-is_err-clause-kept
returns-then-is_err-clause-kept g c =
    let before : List ℕ = c.args.out.now.items in
    let after : List ℕ = c.answer-result.new.out.items in
    let whole : c.len-whole.result ≡ length before = search rules in
    on_err_weaker c.answer-result.result
    (λ (begins : StartsWith after before). c.truncate.ensures.items ∙ ap (λ (n : ℕ). take n after) whole ∙ begins)
    c.answer-result.ensures.answered.err
