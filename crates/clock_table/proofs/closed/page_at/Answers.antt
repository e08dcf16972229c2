use Rattle.std.proofs.Common.{◌+◌, ◌*◌, ◌∷◌, [], arith, ◌∙◌}
use Rattle.std.specs.Slots.{slots_items}
use Rattle.pvclock_page.specs.Words.{page_of}
use Rattle.clock_table.specs.Words.{place}
use Rattle.clock_table.proofs.EndSteps.{at_word}
use Rattle.clock_table.proofs.closed.page_at.Goals as goal

pub returns : goal.returns
returns c = let ws = slots_items c.args.words.now.words in let i = c.args.page in
    let a = at_word ws (32 + 16 * i) (place i 0) c.word.result (omega arith) c.word.ensures in
    let b = at_word ws (32 + 16 * i + 1) (place i 1) c.word-2.result (omega arith) c.word-2.ensures in
    let d = at_word ws (32 + 16 * i + 2) (place i 2) c.word-3.result (omega arith) c.word-3.ensures in
    let e = at_word ws (32 + 16 * i + 3) (place i 3) c.word-4.result (omega arith) c.word-4.ensures in
    let f = at_word ws (32 + 16 * i + 4) (place i 4) c.word-5.result (omega arith) c.word-5.ensures in
    c.words_page.ensures.value ∙ (λ k. page_of (a k ∷ b k ∷ d k ∷ e k ∷ f k ∷ []))
