use Rattle.std.proofs.Common.{ℕ, List, ◌++◌, take, drop, refl, sym, subst, ◌∙◌, inr, arith}
use Rattle.board_io.specs.Ends.{Grows}
use Rattle.board_io.proofs.Bytes.{Grows-trans}
use Rattle.board_io.specs.Faults.{Rose}
use Rattle.trace_runner.proofs.Pieces.{filled_front, piece_more, piece_cut}
use Rattle.trace_runner.proofs.generate.generate.Goals as goal

pub pieces-preserved : goal.pieces-preserved
pieces-preserved g c =
    let contents = λ (sink : g.row.K.Denot). (g.K.Sink.output sink).contents in
    let n : ℕ = c.fill-n.result in
    let left : List ℕ = c.pieces.generator in
    let put : List ℕ = c.pieces.invariant.0 in
    let front = filled_front left c.pieces.piece c.fill-n.new.into n (omega arith) c.fill-n.ensures.bytes in (
      put ++ take n left,
      rw c.fill-n.ensures.rest (piece_more _ put left n c.pieces.invariant.1),
      Grows-trans (contents c.args.sink.now) (contents c.pieces.sink) (contents c.put_all.new.sink) put (take n left) c.pieces.invariant.2
          (subst (λ (l : List ℕ). Grows (contents c.pieces.sink) (contents c.put_all.new.sink) l) front c.in-Ok.ensures.put.all),
      c.in-Ok.ensures.put.well ∙ c.pieces.invariant.3,
      c.in-Ok.ensures.put.quiet ∙ c.pieces.invariant.4,
      λ done late. c.put_all.ensures.put.once (c.pieces.invariant.4 ∙ done) (c.pieces.invariant.5 done late),
    )

pub returns-in-Err : goal.returns-in-Err
returns-in-Err g c =
    let contents = λ (sink : g.row.K.Denot). (g.K.Sink.output sink).contents in
    let n : ℕ = c.fill-n.result in
    let left : List ℕ = c.pieces.generator in
    let put : List ℕ = c.pieces.invariant.0 in
    let cut : List ℕ = c.in-Err.ensures.put.cut.0 in
    let more : List ℕ = c.in-Err.ensures.put.cut.1.0 in
    let front = filled_front left c.pieces.piece c.fill-n.new.into n (omega arith) c.fill-n.ensures.bytes in record {
      said = inr (
        refl,
        subst (λ (k : ℕ). Rose k (g.K.Sink.output c.put_all.new.sink).faults) c.pieces.invariant.3 c.in-Err.ensures.put.failed,
        (
          put ++ cut,
          (more ++ drop n left, piece_cut _ put left cut more n c.pieces.invariant.1 (sym front ∙ c.in-Err.ensures.put.cut.1.1)),
          Grows-trans (contents c.args.sink.now) (contents c.pieces.sink) (contents c.put_all.new.sink) put cut c.pieces.invariant.2 c.in-Err.ensures.put.cut.2,
        ),
      );
      sink = record {
        well = λ no. absurd (no refl);
        quiet = λ no. absurd (no refl);
        once = λ done late. c.put_all.ensures.put.once (c.pieces.invariant.4 ∙ done) (c.pieces.invariant.5 done late);
      };
      counted = omega (arith, c.in-Err.ensures.put.counted, c.pieces.invariant.3);
    }
