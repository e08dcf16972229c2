use Rattle.std.proofs.Common.{refl, inl, inr}
use Rattle.board_io.proofs.Bytes.{gives_nothing}
use Rattle.trace_loop.specs.Text.{memory_fault_text}
use Rattle.trace_runner.proofs.race.race.Goals as goal

pub returns-in-Ok-clause-alone : goal.returns-in-Ok-clause-alone
returns-in-Ok-clause-alone g c = λ input e trace whole one. inl (c.race_in.ensures.alone input e trace whole one)

-- there was no memory for a row
pub returns-in-Err-clause-leaves : goal.returns-in-Err-clause-leaves
unfolding memory_fault_text
returns-in-Err-clause-leaves g c = λ input e. inr (c.say.ensures.said, refl)

pub returns-in-Err-clause-alone : goal.returns-in-Err-clause-alone
unfolding memory_fault_text
returns-in-Err-clause-alone g c = λ input e trace whole one. inr (c.say.ensures.said, refl)

pub returns-in-Err-clause-gives : goal.returns-in-Err-clause-gives
returns-in-Err-clause-gives g c = gives_nothing (g.S.Source.input c.args.source.now)
