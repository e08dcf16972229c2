use Rattle.std.proofs.Common.{refl, arith}
use Rattle.clk_units.specs.Events.{IsFirst}
use Rattle.rtc_calendar.specs.Alarms.{matches_in}
use Rattle.rtc_calendar.proofs.Times.{IsFirst-any}
use Rattle.rtc_calendar.proofs.alarms.first_match.Goals as goal

pub returns-then-n-eq0 : goal.returns-then-n-eq0
returns-then-n-eq0 c = record { first = rw c.if-n-eq0.true refl; any = λ any some. absurd (omega arith) }

pub returns : goal.returns
returns c =
    let first : IsFirst (matches_in c.args.form c.args.alarm c.args.bytes) c.args.n c.match_after.result =
    c.match_after.ensures c.args.bytes c.moment_of.ensures.value in
    record { first = first; any = λ any some. IsFirst-any c.args.form c.args.alarm c.args.bytes c.args.n c.match_after.result any some first }
