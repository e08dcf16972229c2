use Rattle.std.proofs.Common.{◌≡◌, ◌+◌, ap, ◌∙◌, arith}
use Rattle.rtc_calendar.specs.Updates.{moment_of}
use Rattle.rtc_calendar.specs.private.Days.{second_of_day}
use Rattle.rtc_calendar.specs.declared.TimeBytes.{TimeBytes}
use Rattle.rtc_calendar.proofs.Next.{AsksFor, matches_in-no_next, matches_in-before, IsFirst-next}
use Rattle.rtc_calendar.proofs.alarms.match_after.Goals as goal

pub returns-in_err-next : goal.returns-in_err-next
returns-in_err-next c =
    let asks : AsksFor c.args.form c.args.alarm c.wanted_time.result =
    record { second = c.wanted_time.ensures.second; minute = c.wanted_time.ensures.minute; hour = c.wanted_time.ensures.hour } in
    rw c.from_residual.ensures (λ (bytes : TimeBytes) is.
    let start : c.second_of_day-start.result + 1 ≡ second_of_day (moment_of c.args.form bytes) + 1 =
    ap (λ x. x + 1) (c.second_of_day-start.ensures.value ∙ ap second_of_day is) in
    matches_in-no_next c.args.form c.args.alarm c.wanted_time.result bytes c.args.n
    (c.second_of_day-start.result + 1) asks start c.in_err-next.ensures.next)

pub returns-then-update-n : goal.returns-then-update-n
returns-then-update-n c = λ (bytes : TimeBytes) is.
    let asks : AsksFor c.args.form c.args.alarm c.wanted_time.result =
    record { second = c.wanted_time.ensures.second; minute = c.wanted_time.ensures.minute; hour = c.wanted_time.ensures.hour } in
    let start : c.second_of_day-start.result + 1 ≡ second_of_day (moment_of c.args.form bytes) + 1 =
    ap (λ x. x + 1) (c.second_of_day-start.ensures.value ∙ ap second_of_day is) in
    IsFirst-next c.args.form c.args.alarm c.wanted_time.result bytes c.args.n
    (c.second_of_day-start.result + 1) c.in_ok-next.next asks start c.in_ok-next.ensures.next c.if-update-n.true

pub returns-else-update-n : goal.returns-else-update-n
returns-else-update-n c = λ (bytes : TimeBytes) is.
    let asks : AsksFor c.args.form c.args.alarm c.wanted_time.result =
    record { second = c.wanted_time.ensures.second; minute = c.wanted_time.ensures.minute; hour = c.wanted_time.ensures.hour } in
    let start : c.second_of_day-start.result + 1 ≡ second_of_day (moment_of c.args.form bytes) + 1 =
    ap (λ x. x + 1) (c.second_of_day-start.ensures.value ∙ ap second_of_day is) in
    matches_in-before c.args.form c.args.alarm c.wanted_time.result bytes c.args.n
    (c.second_of_day-start.result + 1) c.in_ok-next.next asks start c.in_ok-next.ensures.next (omega (arith, c.if-update-n.false))
