use Rattle.std.proofs.Common.{ℕ, ◌-◌, ◌%◌, List, [], length, take, drop, codes, refl, sym, ap, ◌∙◌, arith}
use Rattle.board_types.specs.declared.access.Access.TheVariants.{Ack, HpetRead, Step}
use Rattle.trace_text.specs.Records.{in_row, out_row, line_row}
use Rattle.trace_text.proofs.Prefixes.{in_prefix, step_prefix, ack_prefix, out_prefix, counter_prefix, sliced}
use Rattle.trace_text.proofs.UsualRows.{in_first, out_first, ack_first, by_row, step_alone, counter_alone, by_bytes}
use Rattle.trace_text.proofs.usual.usual_access.Goals as goal

-- the bytes after some of them
abbrev after : ℕ → List ℕ → List ℕ
after n left = take (length left - n) (drop n left)

pub returns-then-prefix-eq-IN : goal.returns-then-prefix-eq-IN
returns-then-prefix-eq-IN c =
    let left : List ℕ = c.args.left.now in
    let word = ap (λ (n : ℕ). n % 16777216) (sym c.first_four-prefix.ensures) ∙ c.if-prefix-eq-IN.true in
    let begins = sliced 3 (codes "in ") left (omega arith) (in_prefix left (λ j. (c.type_inv.left j).fits) c.if-left-lt4.false word) in
    by_row (in_row c.args.body.now) (codes "in ") left (after 3 left) (in_first c.args.body.now) begins c.new.ensures c.usual_in.ensures

pub returns-in-1885697139 : goal.returns-in-1885697139
returns-in-1885697139 c =
    let left : List ℕ = c.args.left.now in
    let word = sym c.first_four-prefix.ensures ∙ c.in-1885697139.is in
    let begins = sliced 4 (codes "step") left (omega arith) (step_prefix left (λ j. (c.type_inv.left j).fits) c.if-left-lt4.false word) in
    by_bytes (codes "step") [] Step c.args.body.now left (after 4 left) c.usual_step.result (step_alone c.args.body.now) refl begins
    c.usual_step.ensures.job

pub returns-else-left-ne5-2 : goal.returns-else-left-ne5-2
returns-else-left-ne5-2 c =
    let left : List ℕ = c.args.left.now in
    let word = sym c.first_four-prefix.ensures ∙ c.in-543908705.is in
    let begins = sliced 4 (codes "ack ") left (omega arith) (ack_prefix left (λ j. (c.type_inv.left j).fits) c.if-left-lt4.false word) in
    by_row (line_row c.args.body.now Ack) (codes "ack ") left (after 4 left) (ack_first c.args.body.now) begins c.new-in-543908705.ensures
    c.usual_ack.ensures

pub returns-else-left-ne9 : goal.returns-else-left-ne9
returns-else-left-ne9 c =
    let left : List ℕ = c.args.left.now in
    let word = sym c.first_four-prefix.ensures ∙ c.in-544503151.is in
    let begins = sliced 4 (codes "out ") left (omega arith) (out_prefix left (λ j. (c.type_inv.left j).fits) c.if-left-lt4.false word) in
    by_row (out_row c.args.body.now) (codes "out ") left (after 4 left) (out_first c.args.body.now) begins c.new-in-544503151.ensures
    c.usual_out.ensures

pub returns-in-1713402472 : goal.returns-in-1713402472
returns-in-1713402472 c =
    let left : List ℕ = c.args.left.now in
    let word = sym c.first_four-prefix.ensures ∙ c.in-1713402472.is in
    let begins = sliced 4 (codes "hr f") left (omega arith) (counter_prefix left (λ j. (c.type_inv.left j).fits) c.if-left-lt4.false word) in
    by_bytes (codes "hr f") (codes "0 8") (HpetRead 0xf0 8) c.args.body.now left (after 4 left) c.usual_counter.result (counter_alone c.args.body.now)
    refl begins c.usual_counter.ensures.job
