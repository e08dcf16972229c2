-- Records: `CPU H` and one of the rows below.
use Rattle.std.specs.Prelude.{
  ℕ,
  ◌==◌,
  nat_lt,
  nat_le,
  List,
  [],
  ◌∷◌,
  Option,
  Some,
  Result,
  Ok,
  Err,
  if◌then◌else◌,
  codes,
  slice_index,
  slice_set,
  replicate,
  ◌<◌,
  ◌≤◌,
}
use Rattle.std.specs.Option.{option_map, option_map_or}
use Rattle.board_types.specs.Legal.{is_legal}
use Rattle.board_types.specs.declared.access.Access.{Access}
use Rattle.board_types.specs.declared.access.Access.TheVariants.{
  PortIn,
  PortOut,
  HpetRead,
  HpetWrite,
  MsrRead,
  MsrWrite,
  Ack,
  Step,
  Refresh,
  Wall,
  CountsOf,
  Next,
  Rose,
  Eoi,
}
use Rattle.board_types.specs.declared.access.TickSource.{TickSource}
use Rattle.board_types.specs.declared.access.TickSource.TheVariants.{Pit, Rtc, Hpet, Apic}
use Rattle.board_types.specs.declared.setup.TheConstants.{APIC_FORMAT, HV_FORMAT}
use Rattle.trace_text.specs.Tokens.{
  first,
  rest,
  decimal_past,
  dec,
  hex,
  byte,
  khz,
  dec_of_bits,
  hex_of_bits,
  starts,
  such_that,
}
use Rattle.trace_records.specs.Calls.{IsFittingCall}
use Rattle.trace_text.specs.Rows.{and_then, place, last, Row, row, by_table}
use Rattle.reply_text.specs.declared.ends.Reason.{Reason}
use Rattle.reply_text.specs.declared.ends.Reason.TheVariants.{Form, Steal, Cpu, CounterFell}
use Rattle.trace_records.specs.declared.Call.{Call}
use Rattle.trace_records.specs.declared.Call.TheVariants.{Act, ReadPage, ReadClock, ReadHv}
use Rattle.trace_records.specs.declared.Job.{Job}
use Rattle.trace_records.specs.declared.Job.TheVariants.{Ask, Save, Move}
use Rattle.trace_records.specs.declared.Record.{Record}
use Rattle.trace_text.specs.declared.records.Body.{Body}

-- an access, where the board takes it
abbrev pub board : Body → Access → Result Job Reason
board body a = if is_legal body.cpus body.format a then Ok (Ask (Act a)) else Err Form

-- an access to an MSR: that of steal time has a reason of its own
abbrev pub to_msr : Body → ℕ → Access → Result Job Reason
to_msr body m a = if m == 0x4b564d03 then Err Steal else board body a

-- a job on what a processor has, which has to be there
abbrev pub on_cpu : Body → ℕ → Job → Result Job Reason
on_cpu body p job = if nat_lt p body.cpus then Ok job else Err Cpu

-- a job that formats have from this one on
abbrev pub from_format : ℕ → Body → Result Job Reason → Result Job Reason
from_format least body job = if nat_le least body.format then job else Err Form

-- `pit`, `rtc`, `hpetT`
abbrev pub source : List (List ℕ) → Option TickSource
source ws =
    if starts (codes "pit") ws then Some Pit
    else if starts (codes "rtc") ws then Some Rtc
    else option_map Hpet (such_that (λ n. nat_lt n 8) (first (decimal_past (codes "hpet")) ws))

-- `apicP`: the local APIC of processor P
abbrev pub apic : List (List ℕ) → Option ℕ
apic = first (decimal_past (codes "apic"))

-- `in PORT`, `out PORT BYTE`
abbrev pub in_row : Body → List (List ℕ) → Result Job Reason
in_row body = place (hex_of_bits 8) (λ port. last (board body (PortIn port)))

-- `out PORT BYTE`
abbrev pub out_row : Body → List (List ℕ) → Result Job Reason
out_row body = place (hex_of_bits 8) (λ port. place byte (λ b. last (board body (PortOut port b))))

-- `hr OFFSET W`, `hw OFFSET W HEX`
abbrev pub hr_row : Body → List (List ℕ) → Result Job Reason
hr_row body =
    place (hex_of_bits 16) (λ offset. place (dec_of_bits 8) (λ w.
    last (board body (HpetRead offset w))))

-- `hw OFFSET W HEX`
abbrev pub hw_row : Body → List (List ℕ) → Result Job Reason
hw_row body =
    place (hex_of_bits 16) (λ offset. place (dec_of_bits 8) (λ w. place hex (λ v.
    last (board body (HpetWrite offset w v)))))

-- `rdmsr M`, `wrmsr M HEX`
abbrev pub rdmsr_row : Body → List (List ℕ) → Result Job Reason
rdmsr_row body = place (hex_of_bits 32) (λ m. last (to_msr body m (MsrRead m)))

-- `wrmsr M HEX`
abbrev pub wrmsr_row : Body → List (List ℕ) → Result Job Reason
wrmsr_row body = place (hex_of_bits 32) (λ m. place hex (λ v. last (to_msr body m (MsrWrite m v))))

-- `ack LINE`, `rose LINE`
abbrev pub line_row : Body → (ℕ → Access) → List (List ℕ) → Result Job Reason
line_row body access = place (dec_of_bits 8) (λ line. last (board body (access line)))

-- the ticks of the timer of a local APIC
abbrev pub apic_counts : Body → ℕ → Result Job Reason
apic_counts body p = from_format APIC_FORMAT body (on_cpu body p (Ask (Act (CountsOf (Apic p)))))

-- `counts WHO`, by the source that its first word names, if it names one
abbrev pub counts_row : Body → List (List ℕ) → Result Job Reason
counts_row body ws =
    option_map_or (λ who. last (board body (CountsOf who)) (rest ws)) (source ws)
    (place apic (λ p. last (apic_counts body p)) ws)

-- `P`, last in its line
abbrev pub page_at : Body → List (List ℕ) → Result ℕ Reason
page_at body = place dec (λ p. last (if nat_lt p body.cpus then Ok p else Err Cpu))

-- `refresh P`, `page P`, `clock P`
abbrev pub page_row : Body → (ℕ → Call) → List (List ℕ) → Result Job Reason
page_row body call = place dec (λ p. last (on_cpu body p (Ask (call p))))

-- `move KHZ START GAP`
abbrev pub move_row : Body → List (List ℕ) → Result Job Reason
move_row body = place khz (λ k. place dec (λ start. place dec (λ gap. last (Ok (Move k start gap)))))

-- the table of records; which formats have an access, the board says
abbrev pub rows : Body → List (Row Job)
rows body =
    row (codes "in") (in_row body)
    ∷ row (codes "out") (out_row body)
    ∷ row (codes "hr") (hr_row body)
    ∷ row (codes "hw") (hw_row body)
    ∷ row (codes "hv") (last (from_format HV_FORMAT body (Ok (Ask ReadHv))))
    ∷ row (codes "rdmsr") (rdmsr_row body)
    ∷ row (codes "wrmsr") (wrmsr_row body)
    ∷ row (codes "ack") (line_row body Ack)
    ∷ row (codes "eoi") (last (board body Eoi))
    ∷ row (codes "step") (last (board body Step))
    ∷ row (codes "refresh") (page_row body (λ p. Act (Refresh p)))
    ∷ row (codes "wall") (last (board body Wall))
    ∷ row (codes "counts") (counts_row body)
    ∷ row (codes "next") (last (board body Next))
    ∷ row (codes "page") (page_row body ReadPage)
    ∷ row (codes "clock") (page_row body ReadClock)
    ∷ row (codes "save") (last (Ok Save))
    ∷ row (codes "move") (move_row body)
    ∷ row (codes "rose") (line_row body Rose)
    ∷ []

-- what a record asks, by the words after its processor and its count
unfoldable pub job_of : Body → List (List ℕ) → Result Job Reason
job_of body = by_table (rows body)

-- the record of a processor that is there, at a counter that didn't fall
abbrev pub in_turn : Body → ℕ → ℕ → Job → Result Record Reason
in_turn body cpu h job =
    if nat_lt cpu body.cpus then
    (if nat_lt h (slice_index body.before cpu) then Err (CounterFell (slice_index body.before cpu))
    else Ok (record { cpu = cpu; h = h; job = job }))
    else Err Cpu

-- `CPU H` and a row of the table; the reasons in their order: Form and those of the job, Cpu,
-- CounterFell
unfoldable pub record_of : Body → List (List ℕ) → Result Record Reason
record_of body = place dec (λ cpu. place dec (λ h ws. and_then (in_turn body cpu h) (job_of body ws)))

-- the counters before, after a record: a move begins with its own start, for every processor
abbrev pub before_after : List ℕ → Record → Job → List ℕ
before_after before r (Move k start gap) = replicate 64 start
before_after before r _ = slice_set before r.cpu r.h

-- what is known after a record
abbrev pub body_after : Body → Record → Body
body_after body r = record body { before = before_after body.before r r.job }

-- what is known of a job: the board takes it, and the rate is in range
abbrev pub IsJob : Body → Job → Type 0
IsJob body (Ask call) = IsFittingCall body.cpus body.format call
IsJob body Save = Unit {0}
IsJob body (Move k start gap) = (100000 ≤ k) × (k ≤ 10000000)

-- and of a record
pub record IsRecord (body : Body) (r : Record) : Type 0 where
  pub cpu : r.cpu < body.cpus
  pub job : IsJob body r.job
