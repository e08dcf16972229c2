use Rattle.std.proofs.Common.{ap, sym, ◌∙◌, ℕ, eqb}
use Rattle.rtc_calendar.specs.Bytes.{spelling}
use Rattle.rtc_calendar.proofs.Next.{fits_byte-any, fits_byte-number, fits_byte-no_number}
use Rattle.rtc_calendar.proofs.wanted.wanted_number.Goals as goal

pub returns-then-alarm-ge-ANYTHING-clause-value : goal.returns-then-alarm-ge-ANYTHING-clause-value
returns-then-alarm-ge-ANYTHING-clause-value c = λ number most. fits_byte-any c.args.alarm (spelling c.args.binary number) c.if-alarm-ge-ANYTHING.true

pub returns-then-is_spelt-clause-value : goal.returns-then-is_spelt-clause-value
returns-then-is_spelt-clause-value c = λ number most.
    ap (λ (x : ℕ). eqb number x) c.number_in.ensures.value
    ∙ fits_byte-number c.args.binary c.args.alarm number c.if-alarm-ge-ANYTHING.false (sym c.if-is_spelt.ensures) most

pub returns-else-is_spelt-clause-value : goal.returns-else-is_spelt-clause-value
returns-else-is_spelt-clause-value c =
    λ number most. fits_byte-no_number c.args.binary c.args.alarm number c.if-alarm-ge-ANYTHING.false (sym c.if-is_spelt.ensures) most
