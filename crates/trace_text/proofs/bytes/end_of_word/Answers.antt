use Rattle.std.proofs.Common.{◌≡◌, ℕ, ◌+◌, ◌≤◌, length, drop, List, [], refl, ◌∙◌, arith, length-drop}
use Rattle.std.proofs.Math.ListN.{drop_of_length-le}
use Rattle.trace_text.specs.private.Spelled.{after_word}
use Rattle.trace_text.proofs.Spells.{word-differs, word-same, word-at_end, word-at_space, word-longer, word-short}
use Rattle.trace_text.proofs.bytes.end_of_word.Goals.{
  else-end-line-via-then-end-line+else-line-end-ne32,
  else-end-line-via-else-end-line,
}
use Rattle.trace_text.proofs.bytes.end_of_word.Goals as goal

-- all bytes of a name were there
all_taken : (at i : ℕ) (name line : List ℕ) → length name ≤ i → i ≡ length name
    → after_word (drop i name) (drop (at + i) line) ≡ after_word [] (drop (at + length name) line)
all_taken at i name line h same = rw (drop_of_length-le name h, same) refl

pub returns-then-line-at : goal.returns-then-line-at
returns-then-line-at c = λ within.
    let left = length-drop c.args.at c.args.line.now in
    word-short c.args.name.now (drop c.args.at c.args.line.now) (omega arith)

pub returns-then-line-at-2 : goal.returns-then-line-at-2
returns-then-line-at-2 c = λ within.
    c.loop-i.invariant
    ∙ word-differs c.args.at c.loop-i.i c.args.name.now c.args.line.now c.loop-i-test.true (omega arith) c.if-line-at-2.true

pub loop-i-preserved : goal.loop-i-preserved
loop-i-preserved c =
    let next : c.args.at + (c.loop-i.i + 1) ≡ c.args.at + c.loop-i.i + 1 = omega arith in
    rw next
    (c.loop-i.invariant ∙ word-same c.args.at c.loop-i.i c.args.name.now c.args.line.now c.loop-i-test.true (omega arith) c.if-line-at-2.false)

pub returns-then-line-end-ne32 : goal.returns-then-line-end-ne32
returns-then-line-end-ne32 c = λ within.
    let i : c.loop-i.i ≡ length c.args.name.now = omega arith in
    let done =
    all_taken c.args.at c.loop-i.i c.args.name.now c.args.line.now c.loop-i-test.false i in
    c.loop-i.invariant
    ∙ done
    ∙ word-longer (c.args.at + length c.args.name.now) c.args.line.now c.if-end-line.true c.if-line-end-ne32.true

pub returns : goal.returns
returns c =
    let i : c.loop-i.i ≡ length c.args.name.now = omega arith in
    let done =
    all_taken c.args.at c.loop-i.i c.args.name.now c.args.line.now c.loop-i-test.false i in
    elim c.else-end-line.branch [
      | else-end-line-via-then-end-line+else-line-end-ne32 w ↦ (
        omega arith,
        omega arith,
        c.loop-i.invariant ∙ done ∙ word-at_space (c.args.at + length c.args.name.now) c.args.line.now w.if-end-line.true w.if-line-end-ne32.false,
      )
      | else-end-line-via-else-end-line w ↦ (
        omega arith,
        omega arith,
        c.loop-i.invariant ∙ done ∙ word-at_end (c.args.at + length c.args.name.now) c.args.line.now w.if-end-line.false,
      )
    ]
