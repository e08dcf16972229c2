-- The comparator register of a timer (IA-PC HPET specification 1.0a, section 2.3.9).
use Rattle.std.specs.Prelude.{ℕ, ◌%◌, Bool, ◌&&◌, not, if◌then◌else◌, bit_and}
use Rattle.hpet_comparator.specs.Part.{part_written}
use Rattle.hpet_comparator.specs.declared.parts.TimerParts.{TimerParts}
use Rattle.hpet_comparator.specs.Parts.{is_periodic, takes_comparator, modulus}

-- a write to the comparator register, whole or of one half: it sets the period and, unless the
-- timer is periodic without VAL_SET, the comparator; and it clears VAL_SET (2.3.9.2; that it reads
-- as set until then is own)
unfoldable pub comparator_written : ℕ → Bool → ℕ → TimerParts → TimerParts
comparator_written width high v t = record {
  config = bit_and t.config 0xffbf;
  comparator =
      if is_periodic t && not (takes_comparator t) then t.comparator
      else part_written width high v t.comparator % modulus t;
  period = part_written width high v t.period % modulus t;
}
