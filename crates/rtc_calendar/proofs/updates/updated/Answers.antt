use Rattle.std.proofs.Common.{sym, subst}
use Rattle.rtc_calendar.specs.declared.calendar.Moment.{Moment}
use Rattle.rtc_calendar.specs.Calendar.{IsMoment}
use Rattle.rtc_calendar.proofs.Moments.{IsMoment-next_second}
use Rattle.rtc_calendar.proofs.updates.updated.Goals as goal

pub bytes_of-requires : goal.bytes_of-requires
bytes_of-requires c = subst (λ (m : Moment). IsMoment m) (sym c.next_second.ensures) (IsMoment-next_second c.moment_of.result c.moment_of.ensures.valid)
