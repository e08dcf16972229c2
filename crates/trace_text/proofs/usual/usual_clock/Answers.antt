use Rattle.std.proofs.Common.{◌≡◌, ℕ, ◌<◌, List, Option, None, Some, IfSome, Ok, codes, sym, ◌∙◌}
use Rattle.trace_text.specs.Records.{page_row}
use Rattle.trace_text.specs.private.Reads.{IsJobOf}
use Rattle.trace_text.specs.declared.records.Body.{Body}
use Rattle.trace_records.specs.declared.Call.{Call}
use Rattle.trace_records.specs.declared.Call.TheVariants.{ReadClock}
use Rattle.trace_records.specs.declared.Job.TheVariants.{Ask}
use Rattle.trace_text.proofs.Prefixes.{clock_prefix, all_left}
use Rattle.trace_text.proofs.UsualRows.{clock_first, by_row}
use Rattle.trace_text.proofs.usual.usual_clock.Goals as goal

-- a page that was read, at the call that reads the clock by it
by_page : (body : Body) (ws : List (List ℕ)) (r : Option ℕ) → IfSome r (λ p. (call : ℕ → Call) → page_row body call ws ≡ Ok (Ask (call p)))
    → IfSome r (λ p. p < body.cpus) → IsJobOf (λ p. Ask (ReadClock p)) body (page_row body ReadClock ws) r
by_page body ws None made valid = record { job = tt; valid = tt }
by_page body ws (Some p) made valid = record { job = made ReadClock; valid = valid }

pub returns : goal.returns
returns c =
    let left : List ℕ = c.args.left.now in
    let digits : List ℕ = c.in_ok-digits.digits.now in
    let word = sym c.first_four-prefix.ensures ∙ c.if-prefix-ne-CLOC.false in
    let begins = clock_prefix left digits (λ j. (c.type_inv.left j).fits) c.if-left-lt4.false word
    (sym (all_left 4 left c.if-left-lt4.false) ∙ c.in_ok-digits.ensures) in
    by_row (page_row c.args.body.now ReadClock) (codes "clock ") left digits (clock_first c.args.body.now) begins c.new.ensures
    (by_page c.args.body.now c.new.result c.usual_page.result c.usual_page.ensures.job c.usual_page.ensures.valid)
