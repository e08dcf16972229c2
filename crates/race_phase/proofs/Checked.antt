-- Records that aren't refused, one more.
use Rattle.std.proofs.Common.{◌≡◌, List, [], ◌∷◌, ◌++◌, Option, None, refl, ap, ◌∙◌}
use Rattle.std.specs.Option.{option_or}
use Rattle.board_meters.specs.declared.meters.Meters.{Meters}
use Rattle.reply_text.specs.declared.ends.Refused.{Refused}
use Rattle.trace_blocks.specs.declared.records.Record.{Record}
use Rattle.race_phase.specs.Order.{record_refusal, after_record, after_records, records_refusal}
use Rattle.race_phase.proofs.Taken.{or_none}

pub or_both : (a o : Option Refused) → a ≡ None → o ≡ None → option_or a o ≡ None
or_both a o e f = ap (λ (x : Option Refused). option_or x o) e ∙ f

-- records
pub after_records-snoc : (m : Meters) (rs : List Record) (r : Record) → after_records m (rs ++ r ∷ []) ≡ after_record (after_records m rs) r
after_records-snoc m [] r = refl
after_records-snoc m (x ∷ xs) r = after_records-snoc (after_record m x) xs r

pub records_refusal-snoc : (m : Meters) (rs : List Record) (r : Record) → records_refusal m rs ≡ None → record_refusal (after_records m rs) r ≡ None
    → records_refusal m (rs ++ r ∷ []) ≡ None
records_refusal-snoc m [] r free last = or_both (record_refusal m r) None last refl
records_refusal-snoc m (x ∷ xs) r free last =
    let p : (record_refusal m x ≡ None) × (records_refusal (after_record m x) xs ≡ None) = or_none (record_refusal m x) (records_refusal (after_record m x) xs) free in
    or_both (record_refusal m x) (records_refusal (after_record m x) (xs ++ r ∷ [])) p.0 (records_refusal-snoc (after_record m x) xs r p.1 last)
