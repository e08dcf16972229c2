use Rattle.trace_loop.proofs.program.answer_lines.Goals as goal

pub returns : goal.returns
returns g c = record {
  gives = c.answer_fed.ensures.over.gives;
  outcome = c.answer_fed.ensures.over.outcome;
  stopped = c.answer_fed.ensures.over.stopped;
  ends = record {
    once = c.answer_fed.ensures.over.once;
    well = c.answer_fed.ensures.over.well;
    source_fault = c.answer_fed.ensures.over.source_fault;
    sink_fault = c.answer_fed.ensures.over.sink_fault;
    sink = c.answer_fed.ensures.sink;
  };
}
