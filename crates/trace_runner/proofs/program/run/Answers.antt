use Rattle.std.proofs.Common.{◌≡◌, ℕ, ◌-◌, Bool, List, None, map, take, refl, subst, sym, inl, inr}
use Rattle.std.specs.String.{string_bytes}
use Rattle.board_io.specs.Ends.{Input}
use Rattle.board_io.proofs.Bytes.{gives_nothing}
use Rattle.command_line.specs.Command.{command_of}
use Rattle.command_line.specs.declared.command.Command.TheVariants.{Replay as ReplayOf, Race as RaceOf}
use Rattle.trace_loop.specs.Text.{memory_fault_text}
use Rattle.trace_loop.specs.Progress.{opened, after_bytes}
use Rattle.trace_loop.specs.Outcome.{Outcome, run_over}
use Rattle.trace_replay.specs.Replay.{answer_of, closing_of, progress_after, replay, replay_run}
use Rattle.trace_replay.specs.Status.{Shown}
use Rattle.trace_replay.specs.declared.replay.Replay.{Replay}
use Rattle.trace_replay.specs.declared.status.Status.{Status}
use Rattle.trace_runner.proofs.Sayings.{by_flag}
use Rattle.trace_replay.proofs.Statuses.{shown_is}
use Rattle.trace_runner.proofs.program.run.Given.{Over}
use Rattle.trace_runner.proofs.program.run.Goals.{After-status_of, After-race}
use Rattle.trace_runner.proofs.program.run.Goals as goal

-- what is true of the flag that was read is true of the one that the words name
by_replay : (g : Over) (c : After-status_of g) (Q : Bool → Type 0) → Q c.in-Ok-Replay.shows_state → (shows : Bool)
    → command_of (map string_bytes c.args.words.now) ≡ ReplayOf shows → Q shows
by_replay g c Q =
    by_flag (λ b. ReplayOf b) (λ a b e. cc) Q c.in-Ok-Replay.shows_state c.command_of.result (map string_bytes c.args.words.now)
    c.command_of.ensures.command c.in-Ok-Replay.is c.in-Ok-Replay.field-0-is

by_race : (g : Over) (c : After-race g) (Q : Bool → Type 0) → Q c.in-Ok-Race.shows_state → (shows : Bool)
    → command_of (map string_bytes c.args.words.now) ≡ RaceOf shows → Q shows
by_race g c Q =
    by_flag (λ b. RaceOf b) (λ a b e. cc) Q c.in-Ok-Race.shows_state c.command_of.result (map string_bytes c.args.words.now)
    c.command_of.ensures.command c.in-Ok-Race.is c.in-Ok-Race.field-0-is

pub returns-in-Ok-Replay-clause-replay : goal.returns-in-Ok-Replay-clause-replay
unfolding progress_after replay
returns-in-Ok-Replay-clause-replay g c = by_replay g c _ (λ input e.
    let start : Input = g.S.Source.input c.args.source.now in
    let end : Input = g.S.Source.input c.answer_lines.new.source in
    let old = (g.K.Sink.output c.args.sink.now).contents in
    let new = (g.K.Sink.output c.answer_lines.new.sink).contents in
    let w = replay_run c.in-Ok-Replay.shows_state input start end in
    let outcome : Outcome w c.answer_lines.result old new =
    subst (λ (r : Replay). Outcome (run_over answer_of closing_of r input start end) c.answer_lines.result old new) c.new-replay.ensures
    (c.answer_lines.ensures.outcome input e) in
    inl (subst (λ (s : Status). Shown w s old new) (sym c.status_of.ensures) (shown_is w c.answer_lines.result old new outcome)))

pub returns-in-Ok-Replay-clause-stopped : goal.returns-in-Ok-Replay-clause-stopped
unfolding progress_after
returns-in-Ok-Replay-clause-stopped g c = by_replay g c _ (λ input e.
    let bytes : List ℕ = take ((g.S.Source.input c.answer_lines.new.source).before - (g.S.Source.input c.args.source.now).given) input in
    inl (subst (λ (r : Replay). (after_bytes answer_of bytes (opened r)).end ≡ None) c.new-replay.ensures (c.answer_lines.ensures.stopped input e)))

pub returns-in-Err-clause-replay : goal.returns-in-Err-clause-replay
unfolding memory_fault_text
returns-in-Err-clause-replay g c = λ shows is input e. inr (c.say.ensures.said, refl)

pub returns-in-Err-clause-said : goal.returns-in-Err-clause-said
unfolding memory_fault_text
returns-in-Err-clause-said g c = λ saying is. inr c.say.ensures.said

pub returns-in-Ok-Race-clause-race : goal.returns-in-Ok-Race-clause-race
returns-in-Ok-Race-clause-race g c = by_race g c _ c.race.ensures.leaves

pub returns-in-Ok-Race-clause-race_stopped : goal.returns-in-Ok-Race-clause-race_stopped
returns-in-Ok-Race-clause-race_stopped g c = by_race g c _ c.race.ensures.stopped

pub returns-in-Err-clause-race : goal.returns-in-Err-clause-race
unfolding memory_fault_text
returns-in-Err-clause-race g c = λ shows is input e. inr (c.say.ensures.said, refl)

pub returns-in-Ok-Race-clause-race_alone : goal.returns-in-Ok-Race-clause-race_alone
returns-in-Ok-Race-clause-race_alone g c = by_race g c _ c.race.ensures.alone

pub returns-in-Err-clause-race_alone : goal.returns-in-Err-clause-race_alone
unfolding memory_fault_text
returns-in-Err-clause-race_alone g c = λ shows is input e trace whole one. inr (c.say.ensures.said, refl)

-- where nothing is read, nothing was given
pub returns-in-Ok-clause-gives : goal.returns-in-Ok-clause-gives
returns-in-Ok-clause-gives g c = gives_nothing (g.S.Source.input c.args.source.now)

pub returns-in-Err-clause-gives : goal.returns-in-Err-clause-gives
returns-in-Err-clause-gives g c = gives_nothing (g.S.Source.input c.args.source.now)
