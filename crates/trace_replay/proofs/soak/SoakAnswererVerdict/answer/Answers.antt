use Rattle.std.proofs.Common.{rules, ◌≡◌, List, ℕ, ◌++◌, Some, take, drop, length, arith, refl, sym, ap, ◌∙◌}
use Rattle.board_core.specs.Time.{now_of}
use Rattle.reply_text.specs.Soak.{soak_text}
use Rattle.trace_loop.specs.Progress.{Answer}
use Rattle.trace_loop.specs.Answered.{printed, end_of}
use Rattle.trace_replay.specs.Replay.{answer_of}
use Rattle.trace_replay.specs.Soak.{soak_answer, sum_or}
use Rattle.trace_replay.specs.declared.replay.Replay.{Replay}
use Rattle.trace_replay.specs.declared.soak.Soak.{Soak}
use Rattle.trace_replay.specs.declared.status.Verdict.{Verdict}
use Rattle.trace_replay.proofs.Soaks.{soaked-ends, in_place}
use Rattle.trace_replay.proofs.soak.SoakAnswererVerdict.answer.Goals as goal

pub returns-in_ok-put-in-Some-clause-answered : goal.returns-in_ok-put-in-Some-clause-answered
unfolding soak_answer
returns-in_ok-put-in-Some-clause-answered c =
    let s : Soak = c.args.self.now in
    let verdict : Verdict = c.in-Some.verdict in
    let a : Answer Replay Verdict = answer_of c.args.line s.replay c.args.text.now in
    let ends : end_of a ≡ Some verdict = sym c.in_ok-answer.ensures.answered.ends ∙ c.in-Some.is in
    let sum : List ℕ = soak_text s.records s.edges (now_of s.replay.board) s.replay.board.greatest in
    let put : c.put.new.out.items ≡ take c.len-whole.result (c.args.out.now.items ++ printed a)
    ++ sum_or (drop c.len-whole.result (c.args.out.now.items ++ printed a)) verdict sum
    = c.in_ok-put-in-Some.ensures.printed ∙ rw (c.in_ok-answer.ensures.answered.printed, c.sum-sum.ensures) refl in
    let is_whole : c.len-whole.result ≡ length c.args.out.now.items = omega (arith, c.args.out.now.ok.0) in
    let in_sum = in_place c.args.out.now.items (printed a) c.put.new.out.items c.len-whole.result (λ (text : List ℕ). sum_or text verdict sum)
    is_whole put
    ∙ ap (λ (b : Answer Soak Verdict). c.args.out.now.items ++ printed b) (sym (soaked-ends a s verdict ends)) in record {
      printed = in_sum;
      ends = search rules;
      state = search rules;
      err = search rules;
    }
