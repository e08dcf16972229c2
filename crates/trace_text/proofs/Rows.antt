-- Small rows that pin the definitions, one line of a trace each.
use Rattle.std.proofs.Common.{◌≡◌, ℕ, [], ◌∷◌, List, Some, None, Ok, Err, false, map, refl}
use Rattle.std.specs.Prelude.{Result, codes, replicate}
use Rattle.board_types.specs.declared.access.Access.{Access}
use Rattle.board_types.specs.declared.access.Access.TheVariants.{
  PortIn,
  PortOut,
  HpetRead,
  HpetWrite,
  MsrRead,
  MsrWrite,
  Ack,
  Step,
  Refresh,
  Wall,
  CountsOf,
  Next,
  Rose,
  Eoi,
}
use Rattle.board_types.specs.declared.access.TickSource.TheVariants.{Hpet, Apic}
use Rattle.board_types.specs.declared.parts.BoardParts.{BoardParts}
use Rattle.board_types.specs.declared.setup.Setup.{Setup}
use Rattle.board_types.specs.Setup.{setup_by_default}
use Rattle.hex.specs.Hex.{decode_pairs}
use Rattle.byte_table.specs.Kinds.{plain}
use Rattle.save_state.specs.Fields.{head as first_fields}
use Rattle.save_state.specs.Table.{fault_of}
use Rattle.tick_policy.specs.declared.parts.Policy.TheVariants.{Discard, Delay, Slew}
use Rattle.trace_loop.specs.Progress.{limit_of}
use Rattle.trace_text.specs.Tokens.{words_of, starts, number_in, decimal_in, decimal_past, hex_in, dec, hex, byte, khz}
use Rattle.trace_text.specs.Records.{record_of, job_of, body_after}
use Rattle.trace_text.specs.Header.{first_line, header_line, head_of}
use Rattle.irq_edges.specs.Lines.{place_of_line}
use Rattle.trace_text.specs.State.{restored}
use Rattle.trace_text.specs.Lines.{stepped, item_in, taken, after_line, at_start, end_fault}
use Rattle.reply_text.specs.declared.ends.Reason.{Reason}
use Rattle.reply_text.specs.declared.ends.Reason.TheVariants.{Form, Steal, Cpu, CounterFell, StateBytes, TooLong, NoEnd}
use Rattle.trace_text.specs.declared.faults.RecordFault.{RecordFault}
use Rattle.trace_text.specs.declared.records.Body.{Body}
use Rattle.trace_records.specs.declared.Call.TheVariants.{Act, ReadPage, ReadClock, ReadHv}
use Rattle.trace_records.specs.declared.Job.{Job}
use Rattle.trace_records.specs.declared.Job.TheVariants.{Ask, Save, Move}
use Rattle.trace_records.specs.declared.Record.{Record}
use Rattle.trace_text.specs.declared.header.Head.{Head}
use Rattle.trace_text.specs.declared.header.Begin.TheVariants.{Fresh, Saved}
use Rattle.trace_text.specs.declared.reading.Item.{Item}
use Rattle.trace_text.specs.declared.reading.Item.TheVariants.{Skipped, Part, Begun, End}
use Rattle.trace_text.specs.declared.reading.ReadingParts.{ReadingParts}
use Rattle.trace_text.specs.declared.reading.Stage.TheVariants.{Opening, Heading, Running, Ended, Refused}

-- words are parted by single spaces, and where none is left, none starts
parted : words_of (codes "0  step ") ≡ codes "0" ∷ [] ∷ codes "step" ∷ [] ∷ []
unfolding words_of
parted = refl

no_word_starts : starts (codes "pit") [] ≡ false
no_word_starts = refl

-- a DEC: its digits alone, at least one, no sign, no leading zero, at most 2^64 - 1
decimals : map (λ w. dec (w ∷ []))
    (codes "0" ∷ codes "07" ∷ codes "+7" ∷ [] ∷ codes "18446744073709551615" ∷ codes "18446744073709551616" ∷ [])
    ≡ Some 0 ∷ None ∷ None ∷ None ∷ Some 18446744073709551615 ∷ None ∷ []
unfolding decimal_in number_in
decimals = refl

-- a HEX: at most 16 digits, of either case
hexes : map (λ w. hex (w ∷ [])) (codes "00000000DeadBeef" ∷ codes "00000000000000040" ∷ []) ≡ Some 0xdeadbeef ∷ None ∷ []
unfolding hex_in number_in
hexes = refl

-- a BYTE: at most two digits
bytes : map (λ w. byte (w ∷ [])) (codes "f" ∷ codes "0fb" ∷ []) ≡ Some 15 ∷ None ∷ []
unfolding hex_in number_in
bytes = refl

-- KHZ: from 100000 to 10000000
rates : map (λ w. khz (w ∷ [])) (codes "99999" ∷ codes "10000000" ∷ []) ≡ None ∷ Some 10000000 ∷ []
unfolding decimal_in number_in
rates = refl

-- records of a format: of two processors, whose counters before are 5 and 7
abbrev body : ℕ → Body
body format = record { format = format; cpus = 2; before = 5 ∷ 7 ∷ [] }

abbrev read : ℕ → List ℕ → Result Record Reason
read format line = record_of (body format) (words_of line)

-- what a processor asks at a count
abbrev asks : ℕ → ℕ → Job → Result Record Reason
asks cpu h job = Ok (record { cpu = cpu; h = h; job = job })

abbrev acts : ℕ → ℕ → Access → Result Record Reason
acts cpu h access = asks cpu h (Ask (Act access))

-- a port that the board has, with leading zeros or without
ports : map (read 1) (codes "0 700 in 40" ∷ codes "0 700 in 44" ∷ codes "1 7 in 0071" ∷ codes "0 5 out 43 34" ∷ [])
    ≡ acts 0 700 (PortIn 0x40) ∷ Err Form ∷ acts 1 7 (PortIn 0x71) ∷ acts 0 5 (PortOut 0x43 0x34) ∷ []
unfolding record_of job_of words_of decimal_in hex_in number_in
ports = refl

-- an offset within the block, a width that there is, which is a DEC, and a value that isn't wider than it
hpet_registers : map (read 1) (codes "0 5 hr f0 8" ∷ codes "0 5 hr 400 8" ∷ codes "0 5 hr f0 3" ∷ codes "0 5 hr f0 08"
    ∷ codes "0 5 hw 108 4 ffffffff" ∷ codes "0 5 hw 108 4 100000000" ∷ [])
    ≡ acts 0 5 (HpetRead 0xf0 8) ∷ Err Form ∷ Err Form ∷ Err Form
    ∷ acts 0 5 (HpetWrite 0x108 4 0xffffffff) ∷ Err Form ∷ []
unfolding record_of job_of words_of decimal_in hex_in number_in
hpet_registers = refl

-- an MSR, and a line, that the board has
msrs_and_lines : map (read 1)
    (codes "0 5 rdmsr 4b564d01" ∷ codes "0 5 rdmsr 11" ∷ codes "0 5 wrmsr 3B 0" ∷ codes "0 5 ack 20" ∷ codes "0 5 ack 1" ∷ [])
    ≡ acts 0 5 (MsrRead 0x4b564d01) ∷ Err Form ∷ acts 0 5 (MsrWrite 0x3b 0) ∷ acts 0 5 (Ack 20) ∷ Err Form ∷ []
unfolding record_of job_of words_of decimal_in hex_in number_in
msrs_and_lines = refl

-- single spaces alone, and none after the last word
spaces : map (read 1) (codes "0 10 step" ∷ codes "0 10 step " ∷ codes "0  10 step" ∷ []) ≡ acts 0 10 Step ∷ Err Form ∷ Err Form ∷ []
unfolding record_of job_of words_of decimal_in hex_in number_in
spaces = refl

-- a page that there is
pages : map (read 1) (codes "0 5 refresh 1" ∷ codes "0 5 refresh 2" ∷ codes "0 5 page 1" ∷ codes "0 5 clock 0" ∷ [])
    ≡ acts 0 5 (Refresh 1) ∷ Err Cpu ∷ asks 0 5 (Ask (ReadPage 1)) ∷ asks 0 5 (Ask (ReadClock 0)) ∷ []
unfolding record_of job_of words_of decimal_in hex_in number_in
pages = refl

-- words of the table, and one that isn't in it
words : map (read 1)
    (codes "0 5 wall" ∷ codes "0 5 next" ∷ codes "0 5 save" ∷ codes "0 2000 move 3000000 500 1000000000" ∷ codes "0 5 jump" ∷ [])
    ≡ acts 0 5 Wall ∷ acts 0 5 Next ∷ asks 0 5 Save ∷ asks 0 2000 (Move 3000000 500 1000000000) ∷ Err Form ∷ []
unfolding record_of job_of words_of decimal_in hex_in number_in
words = refl

-- timers: three of them in format 1
timers : map (read 1) (codes "0 5 counts hpet2" ∷ codes "0 5 counts hpet3" ∷ []) ≡ acts 0 5 (CountsOf (Hpet 2)) ∷ Err Form ∷ []
unfolding record_of job_of words_of decimal_in decimal_past hex_in number_in
timers = refl

timer_in_format_2 : map (read 2) (codes "0 5 counts hpet7" ∷ codes "0 5 counts hpet8" ∷ codes "0 5 counts hpet07"
    ∷ codes "0 5 counts hpet" ∷ codes "0 5 counts hpet 7" ∷ [])
    ≡ acts 0 5 (CountsOf (Hpet 7)) ∷ Err Form ∷ Err Form ∷ Err Form ∷ Err Form ∷ []
unfolding record_of job_of words_of decimal_in decimal_past hex_in number_in
timer_in_format_2 = refl

-- `rose` is read from format 2 on
rose : map (λ format. read format (codes "0 5 rose 0")) (1 ∷ 2 ∷ []) ≡ Err Form ∷ acts 0 5 (Rose 0) ∷ []
unfolding record_of job_of words_of decimal_in hex_in number_in
rose = refl

-- local APICs from format 3 on: refused for the form before that ..
apics_in_format_2 : map (read 2) (codes "0 5 eoi" ∷ codes "0 5 counts apic1" ∷ codes "0 5 counts apic2" ∷ codes "0 5 rdmsr 838" ∷ [])
    ≡ Err Form ∷ Err Form ∷ Err Form ∷ Err Form ∷ []
unfolding record_of job_of words_of decimal_in decimal_past hex_in number_in
apics_in_format_2 = refl

-- .. an EOI is the processor's own ..
eois : map (read 3) (codes "1 7 eoi" ∷ codes "1 7 eoi 0" ∷ []) ≡ acts 1 7 Eoi ∷ Err Form ∷ []
unfolding record_of job_of words_of decimal_in decimal_past hex_in number_in
eois = refl

-- .. and an APIC is there, also where its number is beyond a byte, and is named by a DEC in the same word
apics : map (read 3) (codes "0 5 counts apic1" ∷ codes "0 5 counts apic2" ∷ codes "0 5 counts apic256"
    ∷ codes "0 5 counts apic01" ∷ codes "0 5 counts apic" ∷ codes "0 5 counts apic 1" ∷ codes "0 5 wrmsr 6e0 7d1" ∷ [])
    ≡ acts 0 5 (CountsOf (Apic 1)) ∷ Err Cpu ∷ Err Cpu
    ∷ Err Form ∷ Err Form ∷ Err Form ∷ acts 0 5 (MsrWrite 0x6e0 0x7d1) ∷ []
unfolding record_of job_of words_of decimal_in decimal_past hex_in number_in
apics = refl

-- the reference page from format 4 on: it is no processor's
hv_in_format_3 : map (read 3) (codes "0 5 hv" ∷ codes "0 5 rdmsr 40000020" ∷ []) ≡ Err Form ∷ Err Form ∷ []
unfolding record_of job_of words_of decimal_in decimal_past hex_in number_in
hv_in_format_3 = refl

hv : map (read 4) (codes "0 5 hv" ∷ codes "0 5 hv 0" ∷ codes "1 6 hv" ∷ codes "0 5 wrmsr 40000021 1" ∷ [])
    ≡ asks 0 5 (Ask ReadHv) ∷ Err Form ∷ Err (CounterFell 7) ∷ acts 0 5 (MsrWrite 0x40000021 1) ∷ []
unfolding record_of job_of words_of decimal_in decimal_past hex_in number_in
hv = refl

-- reasons in their order: Form, Steal, Cpu, and CounterFell, by the counter of the same processor
reasons : map (read 1) (codes "0 5 wrmsr 4b564d03" ∷ codes "9 0 rdmsr 4b564d03"
    ∷ codes "2 0 stop" ∷ codes "2 0 step" ∷ codes "1 6 step" ∷ codes "0 6 step" ∷ [])
    ≡ Err Form ∷ Err Steal ∷ Err Form ∷ Err Cpu ∷ Err (CounterFell 7) ∷ acts 0 6 Step ∷ []
unfolding record_of job_of words_of decimal_in hex_in number_in
reasons = refl

-- the counters before the next record: after a move that of every processor is its start
counters : map (λ job. (body_after (body 1) (record { cpu = 1; h = 9; job = job })).before) (Save ∷ Ask ReadHv ∷ Move 3000000 500 0 ∷ [])
    ≡ (5 ∷ 9 ∷ []) ∷ (5 ∷ 9 ∷ []) ∷ replicate 64 500 ∷ []
counters = refl

-- a line is refused by its number
abbrev refused_at : ℕ → Reason → Result Item RecordFault
refused_at line reason = Err (record { line = line; reason = reason })

-- a trace begins with its format, from 1 to the last; empty lines and comments are skipped
first_lines : map (taken at_start) (codes "clockboard 1" ∷ codes "clockboard 0" ∷ codes "clockboard 6" ∷ [] ∷ codes "# a comment" ∷ [])
    ≡ Ok Part ∷ refused_at 1 Form ∷ refused_at 1 Form ∷ Ok Skipped ∷ Ok Skipped ∷ []
unfolding stepped limit_of words_of decimal_in number_in
first_lines = refl

last_format : first_line (words_of (codes "clockboard 5")) ≡ Ok (head_of 5)
unfolding words_of decimal_in number_in
last_format = refl

-- a comment has at most 128 bytes
longest_comment : map (λ n. taken at_start (35 ∷ replicate n 32)) (127 ∷ 128 ∷ []) ≡ Ok Skipped ∷ refused_at 1 TooLong ∷ []
unfolding stepped limit_of
longest_comment = refl

no_end : end_fault (record { lines = 2; stage = Opening }) ≡ record { line = 3; reason = NoEnd }
no_end = refl

a_fault_stays : taken (after_line (codes "clockboard 9") at_start) (codes "clockboard 1") ≡ refused_at 1 Form
unfolding stepped limit_of words_of decimal_in number_in
a_fault_stays = refl

-- header lines, in their order
abbrev head : Head
head = head_of 1

abbrev setup : Setup
setup = setup_by_default 1

-- what a line of this number sets up
abbrev set : ℕ → Setup → Result Head Reason
set number s = Ok (record head { row = number; begin = Fresh s })

clock_lines : map (λ line. header_line head (words_of line)) (codes "host 2000000 1000000" ∷ codes "guest 2000000" ∷ [])
    ≡ set 1 (record setup { anchor = record { khz = 2000000; start = 1000000; base_ns = 0 } })
    ∷ set 2 (record setup { guest_khz = 2000000 }) ∷ []
unfolding header_line words_of decimal_in number_in
clock_lines = refl

-- 16 processors at most in format 1, and 64 from format 2 on
cpus_lines : map (λ line. header_line head (words_of line)) (codes "cpus 16" ∷ codes "cpus 64" ∷ [])
    ≡ set 3 (record setup { cpus = 16 }) ∷ Err Form ∷ []
unfolding header_line words_of decimal_in number_in
cpus_lines = refl

cpus_of_format_2 : header_line (head_of 2) (words_of (codes "cpus 64"))
    ≡ Ok (record (head_of 2) { row = 3; begin = Fresh (record (setup_by_default 2) { cpus = 64 }) })
unfolding header_line words_of decimal_in number_in
cpus_of_format_2 = refl

-- a policy each of the 8254, the RTC and the HPET, and what slewing takes, which isn't nothing
policy_lines : map (λ line. header_line head (words_of line)) (codes "policy slew discard delay" ∷ codes "slew 1000" ∷ codes "slew 0" ∷ [])
    ≡ set 4 (record setup { pit = Slew; rtc = Discard; hpet = Delay }) ∷ set 5 (record setup { slew_ns = 1000 }) ∷ Err Form ∷ []
unfolding header_line words_of decimal_in number_in
policy_lines = refl

time_lines : map (λ line. header_line head (words_of line)) (codes "wall 1700000000 999999999" ∷ codes "rtc 59 58 23 07 31 12 99" ∷ [])
    ≡ set 6 (record setup { wall_sec = 1700000000; wall_nsec = 999999999 })
    ∷ set 7 (record setup { time = record { sec = 0x59; min = 0x58; hour = 0x23; wday = 7; date = 0x31; month = 0x12; year = 0x99 } })
    ∷ []
unfolding header_line words_of decimal_in hex_in number_in
time_lines = refl

-- a route to a processor that is there, with a vector from 10h on ..
route_lines : map (λ line. header_line head (words_of line)) (codes "route 20 0 30" ∷ codes "route 0 1 30" ∷ codes "route 0 0 f" ∷ [])
    ≡ Ok (record head { row = 9; next_line = 21; routes = None ∷ None ∷ Some (record { cpu = 0; vector = 0x30 }) ∷ None ∷ None ∷ None ∷ [] })
    ∷ Err Cpu ∷ Err Form ∷ []
unfolding header_line words_of decimal_in hex_in number_in
route_lines = refl

-- .. of a line that rises
route_that_doesnt_rise : header_line (record head { row = 9; next_line = 21 }) (words_of (codes "route 20 9 30")) ≡ Err Form
unfolding header_line words_of decimal_in hex_in number_in
route_that_doesnt_rise = refl

-- the six lines in order of their numbers
places_of_lines : map place_of_line (8 ∷ 23 ∷ []) ≡ 1 ∷ 5 ∷ []
places_of_lines = refl

-- no line after one of its own number or of a greater one
order_of_lines : map (λ number. header_line (record head { row = number }) (words_of (codes "guest 2000000"))) (2 ∷ 3 ∷ [])
    ≡ Err Form ∷ Err Form ∷ []
unfolding header_line words_of decimal_in number_in
order_of_lines = refl

-- `state`: two digits a byte, at least one byte, nothing after them, and bytes that are a board
state_lines : map (λ line. header_line head (words_of line)) (codes "state" ∷ codes "state " ∷ codes "state 434" ∷ codes "state 4g"
    ∷ codes "state #" ∷ codes "state 43 #" ∷ codes "state 434C4b" ∷ [])
    ≡ Err Form ∷ Err Form ∷ Err Form ∷ Err Form
    ∷ Err Form ∷ Err Form ∷ Err (StateBytes 3) ∷ []
unfolding header_line words_of decode_pairs restored fault_of first_fields plain
state_lines = refl

-- it comes before all other lines, and routes alone come after it
state_after_another_line : map (λ number. header_line (record head { row = number }) (words_of (codes "state 43"))) (1 ∷ 9 ∷ [])
    ≡ Err Form ∷ Err Form ∷ []
unfolding header_line words_of decode_pairs restored
state_after_another_line = refl

lines_after_a_state : (b : BoardParts)
    → map (λ line. header_line (record head { row = 8; begin = Saved b }) (words_of line)) (codes "state 43" ∷ codes "host 2000000 0" ∷ [])
    ≡ Err Form ∷ Err Form ∷ []
unfolding header_line words_of
lines_after_a_state b = refl

-- `begin` and `end` are alone in their lines
begin_line : item_in (stepped (Heading head) (codes "begin")) ≡ Ok (Begun (record { begin = Fresh setup; routes = head.routes }))
unfolding stepped limit_of
begin_line = refl

end_lines : map (λ line. item_in (stepped (Running (body 1)) line)) (codes "end" ∷ codes "end " ∷ codes "end\r" ∷ [])
    ≡ Ok End ∷ Err Form ∷ Err Form ∷ []
unfolding stepped limit_of words_of record_of decimal_in number_in
end_lines = refl

-- after the end of a trace a record is refused, from then on, and a comment is skipped
abbrev ended : ReadingParts
ended = record { lines = 5; stage = Ended }

after_the_end : map (taken ended) (codes "0 0 step" ∷ codes "# 0 0 step" ∷ []) ≡ refused_at 6 Form ∷ Ok Skipped ∷ []
unfolding stepped limit_of
after_the_end = refl

refused_from_then_on : after_line (codes "0 0 step") ended ≡ record { lines = 6; stage = Refused (record { line = 6; reason = Form }) }
unfolding stepped limit_of
refused_from_then_on = refl

-- a refusal is the answer to all that comes after it, and stays
abbrev refused : ReadingParts
refused = record { lines = 5; stage = Refused (record { line = 3; reason = Steal }) }

after_a_refused_line : taken refused (codes "0 0 step") ≡ refused_at 3 Steal
after_a_refused_line = refl

refusal_stays : after_line (codes "0 0 step") refused ≡ refused
refusal_stays = refl

end_faults : map end_fault (ended ∷ refused ∷ []) ≡ record { line = 6; reason = NoEnd } ∷ record { line = 3; reason = Steal } ∷ []
end_faults = refl
