use Rattle.std.proofs.Common.{◌≡◌, inr, refl, ap, sym, ◌∙◌}
use Rattle.trace_loop.specs.declared.ended.Ended.{Ended}
use Rattle.trace_loop.specs.declared.ended.Ended.TheVariants.{By}
use Rattle.trace_runner.specs.Checked.{Checked}
use Rattle.trace_runner.proofs.Races.{has_ended, has_gone_on, whole_left, alone_left, stopped_left, never_whole}
use Rattle.trace_runner.proofs.race.race_in.Goals as goal

-- how the check ended
abbrev ends : {e : Ended Checked} {x y : Checked} → e ≡ By x → y ≡ x → e ≡ By y
ends is same = is ∙ ap (λ (z : Checked). By z) (sym same)

pub returns-in-Whole-clause-leaves : goal.returns-in-Whole-clause-leaves
returns-in-Whole-clause-leaves g c = λ input e.
    whole_left (has_ended c.args.shows_state refl c.run_and_check-ran.ensures.ended (ends c.in-By.is c.in-Whole.ensures) input e)
    c.write.result (g.K.Sink.output c.write.new.sink) c.write.ensures.said

pub returns-in-Whole-clause-alone : goal.returns-in-Whole-clause-alone
returns-in-Whole-clause-alone g c = λ input e trace is one.
    alone_left (has_ended c.args.shows_state refl c.run_and_check-ran.ensures.ended (ends c.in-By.is c.in-Whole.ensures) input e)
    c.write.result (g.K.Sink.output c.write.new.sink) trace is one c.write.ensures.alone

pub returns-in-By-clause-leaves : goal.returns-in-By-clause-leaves
returns-in-By-clause-leaves g c = λ input e.
    stopped_left (has_ended c.args.shows_state refl c.run_and_check-ran.ensures.ended (ends c.in-By.is c.in-Stopped.ensures) input e)
    c.verdict_status.result c.verdict_status.ensures

pub returns-in-By-clause-alone : goal.returns-in-By-clause-alone
returns-in-By-clause-alone g c = λ input e trace is one.
    absurd (never_whole (has_ended c.args.shows_state refl c.run_and_check-ran.ensures.ended (ends c.in-By.is c.in-Stopped.ensures) input e) trace is)

pub returns-in-SourceFault-clause-leaves : goal.returns-in-SourceFault-clause-leaves
returns-in-SourceFault-clause-leaves g c = λ input e.
    inr (has_ended c.args.shows_state refl c.run_and_check-ran.ensures.ended c.in-SourceFault.is input e).outcome

pub returns-in-SourceFault-clause-alone : goal.returns-in-SourceFault-clause-alone
returns-in-SourceFault-clause-alone g c = λ input e trace is one.
    inr (has_ended c.args.shows_state refl c.run_and_check-ran.ensures.ended c.in-SourceFault.is input e).outcome

pub returns-in-SinkFault-clause-leaves : goal.returns-in-SinkFault-clause-leaves
returns-in-SinkFault-clause-leaves g c = λ input e.
    inr (has_ended c.args.shows_state refl c.run_and_check-ran.ensures.ended c.in-SinkFault.is input e).outcome

pub returns-in-SinkFault-clause-alone : goal.returns-in-SinkFault-clause-alone
returns-in-SinkFault-clause-alone g c = λ input e trace is one.
    inr (has_ended c.args.shows_state refl c.run_and_check-ran.ensures.ended c.in-SinkFault.is input e).outcome

pub returns-clause-leaves : goal.returns-clause-leaves
returns-clause-leaves g c = λ input e.
    inr (has_ended c.args.shows_state refl c.run_and_check-ran.ensures.ended c.in-NoMemory.is input e).outcome

pub returns-clause-alone : goal.returns-clause-alone
returns-clause-alone g c = λ input e trace is one.
    inr (has_ended c.args.shows_state refl c.run_and_check-ran.ensures.ended c.in-NoMemory.is input e).outcome

-- however the check ended, it had gone on before the source was called last
pub returns-in-Whole-clause-stopped : goal.returns-in-Whole-clause-stopped
returns-in-Whole-clause-stopped g c = has_gone_on c.args.shows_state refl c.run_and_check-ran.ensures.ended

pub returns-in-By-clause-stopped : goal.returns-in-By-clause-stopped
returns-in-By-clause-stopped g c = has_gone_on c.args.shows_state refl c.run_and_check-ran.ensures.ended

pub returns-in-SourceFault-clause-stopped : goal.returns-in-SourceFault-clause-stopped
returns-in-SourceFault-clause-stopped g c = has_gone_on c.args.shows_state refl c.run_and_check-ran.ensures.ended

pub returns-in-SinkFault-clause-stopped : goal.returns-in-SinkFault-clause-stopped
returns-in-SinkFault-clause-stopped g c = has_gone_on c.args.shows_state refl c.run_and_check-ran.ensures.ended

pub returns-clause-stopped : goal.returns-clause-stopped
returns-clause-stopped g c = has_gone_on c.args.shows_state refl c.run_and_check-ran.ensures.ended
