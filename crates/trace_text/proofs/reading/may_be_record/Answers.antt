use Rattle.std.proofs.Common.{inl, inr, arith}
use Rattle.trace_text.proofs.Limits.{within_limit}
use Rattle.trace_text.proofs.NoRecord.{IsNoRecord-empty, IsNoRecord-first, IsNoRecord-long}
use Rattle.trace_text.proofs.reading.may_be_record.Goals as goal

pub returns-in-48-to-57-clause-within : goal.returns-in-48-to-57-clause-within
returns-in-48-to-57-clause-within c = within_limit c.args.line.now

pub returns-in-48-to-57-clause-cause : goal.returns-in-48-to-57-clause-cause
returns-in-48-to-57-clause-cause c = IsNoRecord-long c.args.line.now (omega arith) (omega arith)

pub returns-in_default-clause-cause : goal.returns-in_default-clause-cause
returns-in_default-clause-cause c = IsNoRecord-empty c.args.line.now (omega arith)

pub returns-in_default-2-clause-cause : goal.returns-in_default-2-clause-cause
returns-in_default-2-clause-cause c = IsNoRecord-first c.args.line.now (inl (omega arith))

pub returns-in_default-3-clause-cause : goal.returns-in_default-3-clause-cause
returns-in_default-3-clause-cause c = IsNoRecord-first c.args.line.now (inr (omega arith))
