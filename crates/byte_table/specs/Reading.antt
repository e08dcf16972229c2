-- Fields that are read one after another (own).
use Rattle.std.specs.Prelude.{◌≡◌, ℕ, ◌+◌, ◌≤◌, length}
use Rattle.byte_table.specs.declared.fields.Fields.{Fields}

-- the same bytes, n bytes on
pub record IsPast (n : ℕ) (old new : Fields) : Type 0 where
  pub bytes : new.bytes.now ≡ old.bytes.now
  pub place : new.place ≡ old.place + n

-- .. and not past the end
pub record Passes (n : ℕ) (old new : Fields) : Type 0 where
  pub past : IsPast n old new
  pub there : new.place ≤ length new.bytes.now
