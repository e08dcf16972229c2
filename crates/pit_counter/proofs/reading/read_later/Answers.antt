use Rattle.std.proofs.Common.{◌/◌, ◌%◌, ℕ, Bool, cond, ap, sym, ◌∙◌}
use Rattle.pit_counter.specs.Mode.{access_of}
use Rattle.pit_counter.specs.Reading.{reads_high}
use Rattle.pit_counter.specs.Table.{pulsed_times}
use Rattle.pit_counter.proofs.Keeps.{IsCounter-ce}
use Rattle.pit_counter.proofs.Later.{
  byte_read-later,
  byte_read-status,
  byte_read-latched,
  byte_read-present,
  read_as-binary,
}
use Rattle.pit_counter.proofs.reading.read_later.Goals as goal
use Rattle.pit_counter.proofs.reading.read_later.Goals.{then-p-via-then-p, then-p-via-else-p+then-p-2}

pub read-requires : goal.read-requires
read-requires c = IsCounter-ce c.args.p.now c.requires.valid

pub returns-then-p-clause-byte : goal.returns-then-p-clause-byte
returns-then-p-clause-byte c =
    let p = c.args.p.now in
    let n = c.args.n in
    elim c.then-p.branch [
      | then-p-via-then-p w ↦ c.read.ensures.byte ∙ byte_read-status p (pulsed_times n p).ce w.if-p.true ∙ byte_read-later p n
      | then-p-via-else-p+then-p-2 w ↦ c.read.ensures.byte ∙ byte_read-latched p (pulsed_times n p).ce w.if-p-2.true ∙ byte_read-later p n
    ]

pub count_later-requires-clause-below : goal.count_later-requires-clause-below
count_later-requires-clause-below c = IsCounter-ce c.args.p.now c.requires.valid

pub returns-in-Some-clause-byte : goal.returns-in-Some-clause-byte
returns-in-Some-clause-byte c =
    let p = c.args.p.now in
    let x = (pulsed_times c.args.n p).ce in
    let byte : Bool → ℕ → ℕ = λ high k. cond high (k / 256) (k % 256) in
    c.byte_of.ensures
    ∙ ap (λ (high : Bool). byte high c.in-Some.count) c.turn.ensures.high
    ∙ ap (byte (reads_high (access_of p.bits) p.high_next))
    (c.in-Some.ensures ∙ sym (read_as-binary p.bits x (sym c.is_bcd.ensures ∙ c.if-is_bcd.false)))
    ∙ byte_read-present (record p { ce = x }) c.if-p.false c.if-p-2.false
    ∙ byte_read-later p c.args.n
