-- What is still to come of a trace, after the lines that were made.
use Rattle.std.specs.Prelude.{codes, ◌≡◌, ℕ, ◌+◌, ◌-◌, ◌*◌, ◌<◌, ◌≤◌, List, [], ◌++◌, length}
use Rattle.trace_gen.specs.Text.{records_text, enables_text, header_text}
use Rattle.trace_gen.specs.declared.course.Course.{Course}
use Rattle.trace_gen.specs.declared.course.Stage.{Stage}
use Rattle.trace_gen.specs.declared.course.Stage.TheVariants.{Header, Enabling, Drawing, Ended}

-- the records, and the last line
abbrev pub drawing : Course → List ℕ
drawing c = records_text c.left c.cpus c.draws ++ codes "end\n"

-- the pages that are still to be switched on, and what follows them
abbrev pub enabling : Course → List ℕ
enabling c = enables_text (c.cpus - c.enabled) c.enabled ++ (codes "0 0 hw 10 4 1\n" ++ drawing c)

abbrev pub text_at : Stage → Course → List ℕ
text_at Header c = header_text c.cpus ++ enabling c
text_at Enabling c = enabling c
text_at Drawing c = drawing c
text_at Ended c = []

-- all that is still to come
abbrev pub text_after : Course → List ℕ
text_after c = text_at c.stage c

-- its numbers are in range
pub record IsCourse (c : Course) : Type 0 where
  pub some_cpu : 0 < c.cpus
  pub cpus : c.cpus ≤ 16
  pub enabled : c.enabled ≤ c.cpus
  pub records : c.draws.made + c.left ≤ 200000
  pub h : c.draws.h ≤ 100000 * c.draws.made

-- the next lines were made
pub record IsMade (old new : Course) (lines : List ℕ) : Type 0 where
  pub text : text_after old ≡ lines ++ text_after new
  pub some : 0 < length lines
  pub kept : IsCourse new
