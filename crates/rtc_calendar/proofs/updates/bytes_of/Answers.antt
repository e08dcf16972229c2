use Rattle.std.proofs.Common.{arith}
use Rattle.rtc_calendar.proofs.Moments.{month_length-most}
use Rattle.rtc_calendar.proofs.updates.bytes_of.Goals as goal

pub spelling-requires-4 : goal.spelling-requires-4
spelling-requires-4 c = omega (arith, month_length-most c.args.m.year c.args.m.month)
