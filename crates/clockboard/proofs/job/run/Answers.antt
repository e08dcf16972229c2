use Rattle.board_io.specs.Ends.{input_of, output_of}
use Rattle.std.proofs.Common.{None}
use Rattle.clockboard.specs.Ran.{Replayed, Raced, RacedAlone}
use Rattle.clockboard.proofs.Begun.{from_start, by_input}
use Rattle.clockboard.proofs.job.run.Goals as goal

pub returns-clause-replay : goal.returns-clause-replay
returns-clause-replay g c = λ shows is.
    from_start (λ i o. Replayed shows c.run-status.result i (input_of None c.run-status.new.source.log.calls) o (output_of None c.run-status.new.sink.log.calls))
    c.new-source.ensures c.new-sink.ensures
    (λ input e. by_input (λ s. input_of None s.log.calls) (c.run-status.ensures.replay shows is input e))

pub returns-clause-race : goal.returns-clause-race
returns-clause-race g c = λ shows is.
    from_start (λ i o. Raced shows c.run-status.result i (input_of None c.run-status.new.source.log.calls) o (output_of None c.run-status.new.sink.log.calls))
    c.new-source.ensures c.new-sink.ensures
    (λ input e. by_input (λ s. input_of None s.log.calls) (c.run-status.ensures.race shows is input e))

pub returns-clause-race_alone : goal.returns-clause-race_alone
returns-clause-race_alone g c = λ shows is.
    from_start (λ i o. RacedAlone shows c.run-status.result i (input_of None c.run-status.new.source.log.calls) o (output_of None c.run-status.new.sink.log.calls))
    c.new-source.ensures c.new-sink.ensures
    (λ input e trace whole one. by_input (λ s. input_of None s.log.calls) (c.run-status.ensures.race_alone shows is input e trace whole one))
