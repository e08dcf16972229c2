-- The records in file order, as one thread would take them: the meters that they leave, and which is refused.
use Rattle.std.specs.Prelude.{ℕ, List, [], ◌∷◌, Option, None}
use Rattle.std.specs.Option.{option_or}
use Rattle.board_meters.specs.declared.meters.Meters.{Meters}
use Rattle.board_meters.specs.Meters.{counted}
use Rattle.reply_text.specs.declared.ends.Refused.{Refused}
use Rattle.trace_records.specs.declared.Call.{Call}
use Rattle.trace_records.specs.declared.Call.TheVariants.{Act, ReadPage, ReadClock, ReadHv}
use Rattle.trace_blocks.specs.declared.records.Record.{Record}
use Rattle.trace_blocks.specs.Refusals.{call_refusal}

-- why a record is refused
abbrev pub record_refusal : Meters → Record → Option Refused
record_refusal m r = call_refusal m r.cpu r.h r.call

-- the meters after a call: a read leaves them
abbrev pub after_call : Meters → ℕ → ℕ → Call → Meters
after_call m cpu h (Act a) = counted cpu h a m
after_call m cpu h (ReadPage page) = m
after_call m cpu h (ReadClock page) = m
after_call m cpu h ReadHv = m

-- after a record
abbrev pub after_record : Meters → Record → Meters
after_record m r = after_call m r.cpu r.h r.call

-- after records, in order
abbrev pub after_records : Meters → List Record → Meters
after_records m [] = m
after_records m (r ∷ rs) = after_records (after_record m r) rs

-- why the first of these records that is refused is so
abbrev pub records_refusal : Meters → List Record → Option Refused
records_refusal m [] = None
records_refusal m (r ∷ rs) = option_or (record_refusal m r) (records_refusal (after_record m r) rs)
