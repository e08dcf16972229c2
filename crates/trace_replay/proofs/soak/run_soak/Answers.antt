use Rattle.std.proofs.Common.{ℕ, List, Some, take, refl, sym, ap, subst, arith}
use Rattle.board_io.specs.Ends.{Input}
use Rattle.board_io.specs.Faults.{Rose}
use Rattle.trace_gen.specs.Text.{gen_text}
use Rattle.trace_gen.specs.Feed.{Feed, input_in}
use Rattle.trace_loop.specs.Progress.{opened}
use Rattle.trace_loop.specs.Outcome.{Run, run_over}
use Rattle.trace_replay.specs.Soak.{soak_answer, soak_closing, soak_of, Soaked}
use Rattle.trace_replay.specs.Status.{status_of}
use Rattle.trace_replay.specs.declared.replay.Replay.{Replay}
use Rattle.trace_replay.specs.declared.soak.Soak.{Soak}
use Rattle.trace_replay.specs.declared.status.Status.{Status}
use Rattle.trace_replay.specs.declared.status.Verdict.{Verdict}
use Rattle.trace_replay.proofs.Soaks.{quiet-after, soaked_is}
use Rattle.trace_replay.proofs.soak.run_soak.Goals as goal

-- a soak before its first line, and its run
abbrev begun : ℕ → Replay → Soak
begun records r = record { replay = r; records = records; edges = 0 }

abbrev run_from : ℕ → List ℕ → Input → Input → Replay → Run Soak Verdict
run_from records text start end r = run_over soak_answer soak_closing (begun records r) text start end

pub returns-clause-said : goal.returns-clause-said
unfolding soak_of
returns-clause-said g c =
    let records : ℕ = c.args.size.records in
    let text : List ℕ = gen_text c.args.size.key records c.args.size.cpus in
    let w = run_from records text (input_in c.new-source.result) (input_in c.answer_lines.new.source) in
    let shown : Type 0 = Rose (g.K.Sink.output c.args.sink.now).faults (g.K.Sink.output c.answer_lines.new.sink).faults in
    let is = soaked_is (w c.new.result) c.answer_lines.result (g.K.Sink.output c.args.sink.now).contents (g.K.Sink.output c.answer_lines.new.sink).contents
    shown
    (λ k. quiet-after (take k text) (opened (begun records c.new.result)) (λ _. refl))
    (λ rose. absurd (omega (arith, rose)))
    c.answer_lines.ensures.ends.sink_fault (c.answer_lines.ensures.outcome text (c.answer_lines.ensures.gives.known text (ap (λ (f : Feed). Some f.left) c.new-source.ensures))) in
    subst (λ (s : Status). Soaked (soak_of c.args.size) s (g.K.Sink.output c.args.sink.now).contents (g.K.Sink.output c.answer_lines.new.sink).contents shown)
    (sym c.status_of.ensures)
    (subst (λ (r : Replay). Soaked (w r).whole (status_of c.answer_lines.result) (g.K.Sink.output c.args.sink.now).contents
    (g.K.Sink.output c.answer_lines.new.sink).contents shown)
    c.new.ensures is)
