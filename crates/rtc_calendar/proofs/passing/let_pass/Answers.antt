use Rattle.std.proofs.Common.{◌<◌, ap, refl, sym, subst, ◌∙◌, arith}
use Rattle.rtc_calendar.specs.declared.calendar.Moment.{Moment}
use Rattle.rtc_calendar.specs.Calendar.{IsMoment, next_seconds}
use Rattle.rtc_calendar.specs.Updates.{bytes_of}
use Rattle.rtc_calendar.proofs.Days.{IsMoment-next_seconds}
use Rattle.rtc_calendar.proofs.Times.{updated_times-some}
use Rattle.rtc_calendar.proofs.passing.let_pass.Goals as goal

pub returns-then-n-eq0 : goal.returns-then-n-eq0
returns-then-n-eq0 c = rw c.if-n-eq0.true record { bytes = refl; matched = refl }

pub bytes_of-requires : goal.bytes_of-requires
bytes_of-requires c = subst (λ (m : Moment). IsMoment m) (sym c.later.ensures)
    (IsMoment-next_seconds c.args.n c.moment_of-moment.result c.moment_of-moment.ensures.valid)

pub returns : goal.returns
returns c =
    let some : 0 < c.args.n = omega arith in
    record {
      bytes = c.bytes_of.ensures
          ∙ ap (bytes_of c.args.form) (c.later.ensures ∙ ap (next_seconds c.args.n) c.moment_of-moment.ensures.value)
          ∙ sym (updated_times-some c.args.form c.args.n c.args.bytes some);
      matched = c.match_after.ensures c.args.bytes c.moment_of-moment.ensures.value;
    }
