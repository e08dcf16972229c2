use Rattle.runner_tests.proofs.known.run_known.Goals as goal

pub returns-clause-replay : goal.returns-clause-replay
returns-clause-replay g c = λ shows is input e. c.run.ensures.replay shows is input (c.run.ensures.gives.known input e)

pub returns-clause-stopped : goal.returns-clause-stopped
returns-clause-stopped g c = λ shows is input e. c.run.ensures.stopped shows is input (c.run.ensures.gives.known input e)

pub returns-clause-race : goal.returns-clause-race
returns-clause-race g c = λ shows is input e. c.run.ensures.race shows is input (c.run.ensures.gives.known input e)

pub returns-clause-race_stopped : goal.returns-clause-race_stopped
returns-clause-race_stopped g c = λ shows is input e. c.run.ensures.race_stopped shows is input (c.run.ensures.gives.known input e)

pub returns-clause-race_alone : goal.returns-clause-race_alone
returns-clause-race_alone g c = λ shows is input e. c.run.ensures.race_alone shows is input (c.run.ensures.gives.known input e)
