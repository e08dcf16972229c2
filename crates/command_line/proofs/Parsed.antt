-- What a parse answers is what the words ask for.
use Rattle.std.proofs.Common.{
  ◌≡◌,
  ◌≢◌,
  ◌∙◌,
  ℕ,
  Bool,
  List,
  [],
  sym,
  ap,
  inl,
  inr,
  IfOk,
  OnOk,
  Option,
  codes,
  Ok,
  Err,
  Result,
}
use Rattle.clk_units.specs.declared.NoMemory.{NoMemory}
use Rattle.clap.specs.Words.{
  HasKind,
  Kinds,
  Row,
  Text,
  fault_of,
  matches_of,
  found_of,
  first_of,
  rows_of,
  kind_of,
}
use Rattle.clap.specs.declared.error.Error.{Error}
use Rattle.clap.specs.declared.error.kind.ErrorKind.TheVariants.{OutOfMemory}
use Rattle.clap.specs.declared.parser.matches.ArgMatches.{ArgMatches}
use Rattle.command_line.specs.Command.{
  app,
  asked_for,
  by_kinds,
  by_rows,
  refused_for,
  command_of,
  number_in,
  is_used,
}
use Rattle.command_line.specs.declared.command.Command.{Command}
use Rattle.command_line.proofs.Single.{fault_of-single, by_kinds-among}

-- a parse that took the words
pub took : (words : List Text) (m : ArgMatches) → fault_of app words ≡ [] → rows_of (found_of m) ≡ matches_of app words
    → by_rows (rows_of (found_of m)) ≡ command_of words
unfolding command_of
took words m none rows = ap by_rows rows ∙ sym (ap (λ (kinds : Kinds). by_kinds words kinds (matches_of app words)) none)

-- one that refused them, where memory didn't run out
pub refused : (words : List Text) (e : Error) → kind_of e ≢ OutOfMemory → HasKind (fault_of app words) e → refused_for words (kind_of e) ≡ command_of words
unfolding command_of
refused words e memory (inl same) = absurd (memory same)
refused words e memory (inr among) = by_kinds-among words (fault_of app words) (matches_of app words) (kind_of e) (fault_of-single words) among

-- the same as an answer
pub answered : (words : List Text) (e : Error) (r : Result Command NoMemory) → HasKind (fault_of app words) e → IfOk r (λ c. c ≡ refused_for words (kind_of e))
    → OnOk r (kind_of e ≢ OutOfMemory) → IfOk r (λ c. c ≡ command_of words)
answered words e (Ok c) has is memory = is ∙ refused words e memory has
answered words e (Err x) has is memory = tt

-- what the matches name is what their rows say
pub named : (rows : List Row) (job : Option Text) (key records cpus : Option ℕ) (shows_state : Bool)
    → job ≡ first_of (codes "job") rows → key ≡ number_in (codes "key") rows → records ≡ number_in (codes "records") rows
    → cpus ≡ number_in (codes "cpus") rows → shows_state ≡ is_used (codes "state") rows
    → asked_for job key records cpus shows_state ≡ by_rows rows
named rows job key records cpus shows_state a b c d e =
    ap (λ (x : Option Text). asked_for x key records cpus shows_state) a
    ∙ ap (λ (x : Option ℕ). asked_for (first_of (codes "job") rows) x records cpus shows_state) b
    ∙ ap (λ (x : Option ℕ). asked_for (first_of (codes "job") rows) (number_in (codes "key") rows) x cpus shows_state) c
    ∙ ap (λ (x : Option ℕ). asked_for (first_of (codes "job") rows) (number_in (codes "key") rows) (number_in (codes "records") rows) x shows_state) d
    ∙ ap (λ (x : Bool). asked_for (first_of (codes "job") rows) (number_in (codes "key") rows) (number_in (codes "records") rows)
    (number_in (codes "cpus") rows) x) e
