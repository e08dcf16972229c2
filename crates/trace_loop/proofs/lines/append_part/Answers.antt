use Rattle.trace_loop.proofs.lines.append_part.Goals as goal

pub returns-clause-ok : goal.returns-clause-ok
returns-clause-ok c = c.append.ensures.ok
