use Rattle.std.proofs.Common.{rules, ℕ, List, ◌++◌, ap, ◌∙◌, take}
use Rattle.board_io.proofs.Bytes.{Grows-trans}
use Rattle.board_io.specs.Ends.{Grows}
use Rattle.std.specs.List.{flat_map}
use Rattle.std.specs.Vec.{vec_items}
use Rattle.trace_loop.specs.Outcome.{Begins}
use Rattle.trace_loop.proofs.Written.{on_err_from, begins_each}
use Rattle.trace_loop.proofs.output.put_each.Goals as goal

pub returns-in_err-put_all : goal.returns-in_err-put_all
returns-in_err-put_all g c =
    let contents = λ (sink : g.row.K.Denot). (g.K.Sink.output sink).contents in
    let texts = c.args.texts.now in
    let i = c.loop-text.text-index in
    let front : List ℕ = flat_map vec_items (take i texts) in
    let cut = c.in_err-put_all.ensures.put.cut in
    let cut = on_err_from c.from_residual.result
    ((cut : List ℕ) × Begins cut (flat_map vec_items texts) × Grows (contents c.args.sink.now) (contents c.put_all.new.sink) cut) (
      front ++ cut.0,
      begins_each vec_items texts i c.text-item.result cut.0 c.deref.result.now c.loop-text-test.true
          (c.deref.ensures.value ∙ ap vec_items c.text-item.is) cut.1,
      Grows-trans (contents c.args.sink.now) (contents c.loop-text.sink) (contents c.put_all.new.sink) front cut.0 c.loop-text.invariant.front cut.2,
    ) in record {
      all = search rules;
      cut = cut;
      well = search rules;
      quiet = search rules;
      once = search rules;
      counted = search rules;
      failed = search rules;
    }
