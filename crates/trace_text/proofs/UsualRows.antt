-- The usual rows of the table of records, by the bytes that they begin with.
use Rattle.std.proofs.Common.{◌≡◌, true, List, [], ℕ, ◌++◌, codes, Option, Some, None, IfSome, Result, Ok, sym, ◌∙◌, ap, refl}
use Rattle.board_types.specs.declared.access.Access.{Access}
use Rattle.board_types.specs.declared.access.Access.TheVariants.{Ack, HpetRead, Step, Refresh}
use Rattle.board_types.specs.Legal.{is_legal}
use Rattle.reply_text.specs.declared.ends.Reason.{Reason}
use Rattle.trace_text.specs.Tokens.{words_of, number_in, decimal_in, hex_in}
use Rattle.trace_text.specs.Records.{job_of, in_row, out_row, line_row, page_row, hr_row, hw_row}
use Rattle.trace_text.specs.private.Reads.{IsJobOf, acting}
use Rattle.trace_text.specs.declared.records.Body.{Body}
use Rattle.trace_records.specs.declared.Call.TheVariants.{Act, ReadClock}
use Rattle.trace_records.specs.declared.Job.{Job}
use Rattle.trace_records.specs.declared.Job.TheVariants.{Ask}

pub in_first : (body : Body) (m : List ℕ) → job_of body (words_of (codes "in " ++ m)) ≡ in_row body (words_of m)
unfolding job_of words_of
in_first body m = refl

pub out_first : (body : Body) (m : List ℕ) → job_of body (words_of (codes "out " ++ m)) ≡ out_row body (words_of m)
unfolding job_of words_of
out_first body m = refl

pub clock_first : (body : Body) (m : List ℕ) → job_of body (words_of (codes "clock " ++ m)) ≡ page_row body ReadClock (words_of m)
unfolding job_of words_of
clock_first body m = refl

pub ack_first : (body : Body) (m : List ℕ) → job_of body (words_of (codes "ack " ++ m)) ≡ line_row body Ack (words_of m)
unfolding job_of words_of
ack_first body m = refl

pub refresh_first : (body : Body) (m : List ℕ)
    → job_of body (words_of (codes "refresh " ++ m)) ≡ page_row body (λ p. Act (Refresh p)) (words_of m)
unfolding job_of words_of
refresh_first body m = refl

pub hw_first : (body : Body) (m : List ℕ) → job_of body (words_of (codes "hw " ++ m)) ≡ hw_row body (words_of m)
unfolding job_of words_of
hw_first body m = refl

pub hr_first : (body : Body) (m : List ℕ) → job_of body (words_of (codes "hr " ++ m)) ≡ hr_row body (words_of m)
unfolding job_of words_of
hr_first body m = refl

-- what the row of a name made of the words after it
pub by_row : {A : Type 0} {of : A → Job} {body : Body} {ws : List (List ℕ)} {r : Option A} (row : List (List ℕ) → Result Job Reason)
    (name left more : List ℕ) → ((m : List ℕ) → job_of body (words_of (name ++ m)) ≡ row (words_of m)) → left ≡ name ++ more
    → ws ≡ words_of more → IsJobOf of body (row ws) r → IsJobOf of body (job_of body (words_of left)) r
by_row {r = None} row name left more first e same made = record { job = tt; valid = tt }
by_row {body = body} {r = Some j} row name left more first e same made = record {
  job = ap (λ (l : List ℕ). job_of body (words_of l)) e ∙ first more ∙ ap row (sym same) ∙ made.job;
  valid = made.valid;
}

-- a step, with nothing after its name, and a read of the HPET's whole main counter
pub step_alone : (body : Body) → job_of body (words_of (codes "step" ++ [])) ≡ Ok (Ask (Act Step))
unfolding job_of words_of
step_alone body = refl

pub counter_alone : (body : Body) → job_of body (words_of (codes "hr f" ++ codes "0 8")) ≡ Ok (Ask (Act (HpetRead 0xf0 8)))
unfolding job_of words_of decimal_in hex_in number_in
counter_alone body = refl

-- the access of a line that has these bytes alone
pub by_bytes : (name rest : List ℕ) (access : Access) (body : Body) (left more : List ℕ) (r : Option Access)
    → job_of body (words_of (name ++ rest)) ≡ Ok (acting access) → is_legal body.cpus body.format access ≡ true → left ≡ name ++ more
    → IfSome r (λ a. (more ≡ rest) × (a ≡ access)) → IsJobOf acting body (job_of body (words_of left)) r
by_bytes name rest access body left more None alone legal e job = record { job = tt; valid = tt }
by_bytes name rest access body left more (Some a) alone legal e job = record {
  job =
      ap (λ (l : List ℕ). job_of body (words_of l)) (e ∙ ap (λ (m : List ℕ). name ++ m) job.0) ∙ alone
      ∙ ap (λ (k : Access). Ok (acting k)) (sym job.1);
  valid = ap (λ (k : Access). is_legal body.cpus body.format k) job.1 ∙ legal;
}
