-- Words of the body that makes several ticks due at once.
use Rattle.std.specs.Prelude.{ℕ, ◌+◌, Bool, if◌then◌else◌, min}
use Rattle.tick_policy.specs.declared.parts.Policy.{Policy}
use Rattle.tick_policy.specs.declared.parts.Counts.{Counts}
use Rattle.tick_policy.specs.Parts.{is_kept}

-- how many of n ticks bring the line up: the first of them, where it is down
abbrev pub shown_at_once : Bool → ℕ → ℕ
shown_at_once up n = if up then 0 else min n 1

-- the counts with n ticks more that found the line up
abbrev pub with_missed : Policy → ℕ → Counts → Counts
with_missed policy n c = record c {
  queue = if is_kept policy then c.queue + n else c.queue;
  lost = if is_kept policy then c.lost else c.lost + n;
}
