-- The codes of refusals.
use Rattle.std.specs.Prelude.{ℕ}
use Rattle.host_counter.specs.declared.TimeFault.{TimeFault}
use Rattle.host_counter.specs.declared.TimeFault.TheVariants.{BeforeStart, OutOfRange}
use Rattle.board_types.specs.declared.reply.Refusal.{Refusal}
use Rattle.board_types.specs.declared.reply.Refusal.TheVariants.{NoTime, VersionsSpent, Spent}
use Rattle.clockboard_c.specs.declared.code.TheConstants.{
  BEFORE_START,
  OUT_OF_RANGE,
  VERSIONS_SPENT,
  ACCESSES_SPENT,
}

-- why a count has no time
abbrev pub time_code : TimeFault → ℕ
time_code (BeforeStart start) = BEFORE_START
time_code (OutOfRange ns) = OUT_OF_RANGE

-- why the board refuses an access
abbrev pub code_of : Refusal → ℕ
code_of (NoTime fault) = time_code fault
code_of (VersionsSpent version) = VERSIONS_SPENT
code_of (Spent number) = ACCESSES_SPENT
