use Rattle.std.proofs.Common.{ℕ, ◌-◌, ◌%◌, List, length, take, drop, codes, Result, Ok, sym, ap, ◌∙◌, rules, arith}
use Rattle.board_types.specs.declared.access.Access.TheVariants.{Refresh}
use Rattle.trace_text.specs.Records.{hr_row, hw_row, page_row}
use Rattle.reply_text.specs.declared.ends.Reason.{Reason}
use Rattle.trace_records.specs.declared.Call.TheVariants.{Act}
use Rattle.trace_records.specs.declared.Job.{Job}
use Rattle.trace_text.proofs.Prefixes.{refresh_prefix, hr_prefix, hw_prefix, sliced, all_left}
use Rattle.trace_text.proofs.UsualRows.{refresh_first, hr_first, hw_first, by_row}
use Rattle.trace_text.proofs.usual.usual_job.Goals as goal

-- the bytes after some of them
abbrev after : ℕ → List ℕ → List ℕ
after n left = take (length left - n) (drop n left)

pub returns-then-prefix-eq-REFR : goal.returns-then-prefix-eq-REFR
returns-then-prefix-eq-REFR c =
    let left : List ℕ = c.args.left.now in
    let digits : List ℕ = c.in_ok-digits.digits.now in
    let word = sym c.first_four-prefix.ensures ∙ c.if-prefix-eq-REFR.true in
    let begins = refresh_prefix left digits (λ j. (c.type_inv.left j).fits) c.if-left-lt4.false word
    (sym (all_left 4 left c.if-left-lt4.false) ∙ c.in_ok-digits.ensures) in
    by_row (page_row c.args.body.now (λ p. Act (Refresh p))) (codes "refresh ") left digits (refresh_first c.args.body.now) begins c.new.ensures
    (record { job = c.in_ok-page.ensures.job (λ p. Act (Refresh p)) ∙ ap (λ (j : Job). let o : Result Job Reason = Ok j in o) (sym c.act.ensures); valid = search rules })

pub returns-else-left-ne7 : goal.returns-else-left-ne7
returns-else-left-ne7 c =
    let left : List ℕ = c.args.left.now in
    let word = ap (λ (n : ℕ). n % 16777216) (sym c.first_four-prefix.ensures) ∙ c.in-2126440.is in
    let begins = sliced 3 (codes "hr ") left (omega arith) (hr_prefix left (λ j. (c.type_inv.left j).fits) c.if-left-lt4.false word) in
    by_row (hr_row c.args.body.now) (codes "hr ") left (after 3 left) (hr_first c.args.body.now) begins c.new-in-2126440.ensures c.usual_hr.ensures

pub returns-in-2127720 : goal.returns-in-2127720
returns-in-2127720 c =
    let left : List ℕ = c.args.left.now in
    let word = ap (λ (n : ℕ). n % 16777216) (sym c.first_four-prefix.ensures) ∙ c.in-2127720.is in
    let begins = sliced 3 (codes "hw ") left (omega arith) (hw_prefix left (λ j. (c.type_inv.left j).fits) c.if-left-lt4.false word) in
    by_row (hw_row c.args.body.now) (codes "hw ") left (after 3 left) (hw_first c.args.body.now) begins c.new-in-2127720.ensures c.usual_hw.ensures
