use Rattle.std.proofs.Common.{◌≡◌, ℕ, List, ◌+◌, ◌*◌, ◌<◌, ap, ◌∙◌, arith, get_or, refl}
use Rattle.pvclock_page.specs.Words.{words_of}
use Rattle.clock_table.specs.Words.{pages_for}
use Rattle.board_history.specs.Machine.{page_at}
use Rattle.clock_table.proofs.Laid.{laid-more}
use Rattle.clock_table.proofs.blank.laid.Goals as goal

pub loop-page-preserved : goal.loop-page-preserved
loop-page-preserved c =
    let s = c.args.state.now in
    let ws = c.loop-page.words.items in
    let n = c.loop-page.page in
    let less = c.loop-page-test.true in
    let pages = c.loop-page.invariant.pages in
    let p' : List ℕ = c.page_words.result in
    let p : (k : ℕ) → get_or p' k 0 ≡ get_or (words_of (page_at s n)) k 0 =
    λ k. ap (λ (l : List ℕ). get_or l k 0) (c.page_words.ensures.value ∙ ap words_of c.table_page.ensures) in
    let few : n < pages_for s.cpus = omega arith in
    let laid = laid-more n 0 (32 + 16 * n) (5 * n) (5 * n + 1) (get_or p' 0 0) s ws (omega arith) few (omega arith) (omega arith) refl (p 0) c.loop-page.invariant.laid in
    let laid = laid-more n 1 (32 + 16 * n + 1) (5 * n + 1) (5 * n + 2) (get_or p' 1 0) s _ (omega arith) few (omega arith) refl (omega arith) (p 1) laid in
    let laid = laid-more n 2 (32 + 16 * n + 2) (5 * n + 2) (5 * n + 3) (get_or p' 2 0) s _ (omega arith) few (omega arith) refl (omega arith) (p 2) laid in
    let laid = laid-more n 3 (32 + 16 * n + 3) (5 * n + 3) (5 * n + 4) (get_or p' 3 0) s _ (omega arith) few (omega arith) refl (omega arith) (p 3) laid in
    let laid = laid-more n 4 (32 + 16 * n + 4) (5 * n + 4) (5 * (n + 1)) (get_or p' 4 0) s _ (omega arith) few (omega arith) refl (omega arith) (p 4) laid in
    record { pages = pages; laid = laid }
