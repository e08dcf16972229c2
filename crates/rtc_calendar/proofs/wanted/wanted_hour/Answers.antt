use Rattle.std.proofs.Common.{ap, sym, ◌∙◌, ℕ, eqb}
use Rattle.rtc_calendar.specs.Bytes.{hour_spelling}
use Rattle.rtc_calendar.proofs.Next.{fits_byte-any, fits_byte-hour, fits_byte-no_hour}
use Rattle.rtc_calendar.proofs.wanted.wanted_hour.Goals as goal

pub returns-then-alarm-ge-ANYTHING-clause-value : goal.returns-then-alarm-ge-ANYTHING-clause-value
returns-then-alarm-ge-ANYTHING-clause-value c = λ hour most. fits_byte-any c.args.alarm (hour_spelling c.args.form hour) c.if-alarm-ge-ANYTHING.true

pub returns-then-is_hour-clause-value : goal.returns-then-is_hour-clause-value
returns-then-is_hour-clause-value c = λ hour most.
    ap (λ (x : ℕ). eqb hour x) c.hour_in.ensures.value
    ∙ fits_byte-hour c.args.form c.args.alarm hour c.if-alarm-ge-ANYTHING.false (sym c.if-is_hour.ensures) most

pub returns-else-is_hour-clause-value : goal.returns-else-is_hour-clause-value
returns-else-is_hour-clause-value c = λ hour most. fits_byte-no_hour c.args.form c.args.alarm hour c.if-alarm-ge-ANYTHING.false (sym c.if-is_hour.ensures) most
