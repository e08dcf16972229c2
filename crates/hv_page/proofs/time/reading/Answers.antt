-- It goes on with the TSC, and keeps near the exact time.
use Rattle.std.proofs.Common.{rules, arith}
use Rattle.hv_page.specs.Time.{reference_time}
use Rattle.hv_page.proofs.Times.{reference_time-goes_on, reference_time-grows, IsNear-units_of, IsWithinTwo-units_of}
use Rattle.hv_page.proofs.time.reading.Goals as goal

pub returns-clause-value : goal.returns-clause-value
unfolding reference_time
returns-clause-value c = search rules

pub returns-clause-goes_on : goal.returns-clause-goes_on
returns-clause-goes_on c =
    λ earlier h. rw (returns-clause-value c) (reference_time-goes_on c.args.page.now earlier c.args.tsc h)

pub returns-clause-grows : goal.returns-clause-grows
returns-clause-grows c =
    λ earlier h fits. rw (returns-clause-value c) (reference_time-grows c.args.page.now earlier c.args.tsc h fits)

pub returns-clause-near : goal.returns-clause-near
returns-clause-near c =
    λ khz rate is. IsNear-units_of khz c.args.page.now.scale c.args.tsc (omega (arith, rate.slow)) (omega arith) is

pub returns-clause-between : goal.returns-clause-between
returns-clause-between c =
    λ khz earlier rate is h. IsWithinTwo-units_of khz c.args.page.now.scale earlier c.args.tsc (omega (arith, rate.slow)) (omega arith) is h
