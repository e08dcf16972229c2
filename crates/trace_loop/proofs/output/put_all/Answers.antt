use Rattle.std.proofs.Common.{rules, ℕ, ◌+◌, ◌-◌, ◌≤◌, List, length, take, drop, sym, subst, ◌∙◌, arith, length-take, length-drop}
use Rattle.board_io.specs.Ends.{Grows}
use Rattle.board_io.proofs.Bytes.{Grows-kept, Grows-trans}
use Rattle.std.proofs.lemmas.List.{take-append-drop}
use Rattle.trace_loop.specs.Outcome.{Begins}
use Rattle.trace_loop.proofs.Written.{on_err_from, take_piece}
use Rattle.trace_loop.proofs.output.put_all.Goals as goal

pub returns-in_err-put-clause-put : goal.returns-in_err-put-clause-put
returns-in_err-put-clause-put g c =
    let contents = λ (sink : g.row.K.Denot). (g.K.Sink.output sink).contents in
    let cut = on_err_from c.from_residual.result ((cut : List ℕ) × Begins cut c.args.text.now × Grows (contents c.args.sink.now)
    (contents c.put.new.self) cut) (
      take c.loop-put.put c.args.text.now,
      (drop c.loop-put.put c.args.text.now, sym (take-append-drop c.loop-put.put c.args.text.now)),
      Grows-kept (contents c.args.sink.now) (contents c.loop-put.sink) (contents c.put.new.self)
          (take c.loop-put.put c.args.text.now) c.loop-put.invariant.front c.in_err-put.ensures.bytes,
    ) in record {
      all = search rules;
      cut = cut;
      well = search rules;
      quiet = search rules;
      once = search rules;
      counted = search rules;
      failed = search rules;
    }

pub loop-put-preserved : goal.loop-put-preserved
loop-put-preserved g c =
    let contents = λ (sink : g.row.K.Denot). (g.K.Sink.output sink).contents in
    let inside : c.loop-put.put + c.in_ok-put.field-0 ≤ length c.args.text.now = omega (
      arith,
      c.in_ok-put.ensures.bound,
      length-take (length c.args.text.now - c.loop-put.put)
          (drop c.loop-put.put c.args.text.now),
      length-drop c.loop-put.put c.args.text.now,
    ) in record {
      within = inside;
      front =
          subst (λ (l : List ℕ). Grows (contents c.args.sink.now) (contents c.put.new.self) l)
          (take_piece c.args.text.now c.loop-put.put c.in_ok-put.field-0 inside)
          (Grows-trans (contents c.args.sink.now) (contents c.loop-put.sink) (contents c.put.new.self) _ _ c.loop-put.invariant.front
          c.in_ok-put.ensures.bytes);
      well = c.in_ok-put.ensures.well ∙ c.loop-put.invariant.well;
      quiet = grind (arith, c.put.ensures.done, c.in_ok-put.is, c.loop-put.invariant.quiet);
      once = λ done late. grind (arith, c.put.ensures.late, c.loop-put.invariant.quiet, c.loop-put.invariant.once done late, done);
    }
