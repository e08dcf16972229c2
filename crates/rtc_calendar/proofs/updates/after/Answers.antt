use Rattle.std.proofs.Common.{◌≡◌, ◌<◌, ap, sym, subst, ◌∙◌, arith}
use Rattle.rtc_calendar.specs.declared.TimeBytes.{TimeBytes}
use Rattle.rtc_calendar.specs.declared.calendar.Moment.{Moment}
use Rattle.rtc_calendar.specs.Calendar.{IsMoment, next_seconds}
use Rattle.rtc_calendar.specs.Updates.{bytes_of, updated_times, IsValid, IsDayLater}
use Rattle.rtc_calendar.proofs.Days.{IsMoment-next_seconds}
use Rattle.rtc_calendar.proofs.Times.{updated_times-some, IsValid-updated_times, IsValid-kept}
use Rattle.rtc_calendar.proofs.Times.{IsDayLater-updated_times}
use Rattle.rtc_calendar.proofs.updates.after.Goals as goal

pub bytes_of-requires : goal.bytes_of-requires
bytes_of-requires c =
    subst (λ (m : Moment). IsMoment m) (sym c.later.ensures) (IsMoment-next_seconds c.args.n c.moment_of.result c.moment_of.ensures.valid)

pub returns-else-n-eq0 : goal.returns-else-n-eq0
returns-else-n-eq0 c =
    let some : 0 < c.args.n = omega arith in
    let value : c.bytes_of.result ≡ updated_times c.args.form c.args.n c.args.bytes =
    c.bytes_of.ensures
    ∙ ap (bytes_of c.args.form) (c.later.ensures ∙ ap (next_seconds c.args.n) c.moment_of.ensures.value)
    ∙ sym (updated_times-some c.args.form c.args.n c.args.bytes some) in
    record {
      value = value;
      valid = λ _. subst (λ (b : TimeBytes). IsValid c.args.form b) (sym value) (IsValid-updated_times c.args.form c.args.n c.args.bytes some);
      kept = λ valid. subst (λ (b : TimeBytes). IsValid c.args.form b) (sym value) (IsValid-kept c.args.form c.args.n c.args.bytes valid);
      day = λ day valid. subst (λ (b : TimeBytes). IsDayLater c.args.form c.args.bytes b) (sym value)
          (IsDayLater-updated_times c.args.form c.args.n c.args.bytes day c.moment_of.ensures.byte valid);
    }
