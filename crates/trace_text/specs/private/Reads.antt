-- What a record leaves that is read.
use Rattle.std.specs.Prelude.{
  ◌≡◌,
  ◌<◌,
  ◌≤◌,
  ℕ,
  Bool,
  List,
  Option,
  Some,
  Result,
  Ok,
  IsErr,
  IfSome,
  IfNone,
  slice_index,
}
use Rattle.std.specs.Bool.{OnTrue, OnFalse}
use Rattle.board_types.specs.declared.access.Access.{Access}
use Rattle.reply_text.specs.declared.ends.Reason.{Reason}
use Rattle.trace_text.specs.declared.records.Body.{Body}
use Rattle.trace_records.specs.declared.Call.TheVariants.{Act}
use Rattle.trace_records.specs.declared.Job.{Job}
use Rattle.trace_records.specs.declared.Job.TheVariants.{Ask}
use Rattle.trace_records.specs.declared.Record.{Record}
use Rattle.trace_text.specs.Tokens.{dec, rest}
use Rattle.trace_text.specs.Records.{record_of, body_after, IsJob, IsRecord}

-- these words were to be read as a record after `body`: where they are one it is in its place, and
-- `after` is what is known then; else nothing has changed
pub record IsReadInto (body : Body) (words : List (List ℕ)) (result : Bool) (into : Record)
    (after : Body) : Type 0 where
  pub read : OnTrue result (record_of body words ≡ Ok into)
  pub cause : OnFalse result (IsErr (record_of body words))
  pub valid : OnTrue result (IsRecord body into)
  pub behind : OnTrue result (after ≡ body_after body into)
  pub still : OnFalse result (after ≡ body)

-- the same of a record that is handed out, where it is one of those that `of` makes
pub record IsTaken {A : Type 0} (of : A → Record) (body : Body) (words : List (List ℕ))
    (result : Option A) (after : Body) : Type 0 where
  pub read : IfSome result (λ a. record_of body words ≡ Ok (of a))
  pub valid : IfSome result (λ a. IsRecord body (of a))
  pub behind : IfSome result (λ a. after ≡ body_after body (of a))
  pub still : IfNone result (after ≡ body)

-- these words begin with a processor that is there, at a counter that didn't fall
pub record IsTurn (body : Body) (words : List (List ℕ)) (cpu h : ℕ) : Type 0 where
  pub processor : dec words ≡ Some cpu
  pub counter : dec (rest words) ≡ Some h
  pub there : cpu < body.cpus
  pub after : slice_index body.before cpu ≤ h

-- `made` is the job of what was read, and in range
pub record IsJobOf {A : Type 0} (of : A → Job) (body : Body) (made : Result Job Reason)
    (result : Option A) : Type 0 where
  pub job : IfSome result (λ a. made ≡ Ok (of a))
  pub valid : IfSome result (λ a. IsJob body (of a))

-- the job of an access
abbrev pub acting : Access → Job
acting a = Ask (Act a)
