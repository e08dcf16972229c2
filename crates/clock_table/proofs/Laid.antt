-- The words of the pages, written one by one.
use Rattle.std.proofs.Common.{◌≡◌, ℕ, ◌+◌, ◌*◌, ◌<◌, List, get_or, set, sym, ◌∙◌, subst, arith, length-set, get_or-set_same, get_or-set_other}
use mathlib.Core.Logic.{dite}
use native.Mathlib.Decide.{ℕ_discrete}
use Rattle.pvclock_page.specs.Words.{words_of}
use Rattle.board_types.specs.declared.parts.BoardParts.{BoardParts}
use Rattle.board_history.specs.Machine.{page_at}
use Rattle.clock_table.specs.Words.{place, word_of, pages_for}
use Rattle.clock_table.specs.private.Laid.{IsLaidBelow}

-- one word more is written: the word k of the page n, at i
pub laid-more : (n k i m m' x : ℕ) (s : BoardParts) (ws : List ℕ) → place n k ≡ i → n < pages_for s.cpus → k < 5 → m ≡ 5 * n + k → m' ≡ m + 1
    → x ≡ get_or (words_of (page_at s n)) k 0 → IsLaidBelow m s ws → IsLaidBelow m' s (set ws i x)
laid-more n k i m m' x s ws at few small is is' value l =
    let wide = l.wide in
    record {
      wide = length-set ws i x ∙ l.wide;
      front = get_or-set_other ws i 0 x 0 (λ e. omega arith) ∙ l.front;
      clamp = get_or-set_other ws i 16 x 0 (λ e. omega arith) ∙ l.clamp;
      word = λ c j less below. dite (ℕ_discrete (5 * c + j) (5 * n + k))
          (λ e. let page : n ≡ c = omega arith in
          let word : k ≡ j = omega arith in
          subst (λ (z : ℕ × ℕ). word_of (set ws i x) z.0 z.1 ≡ get_or (words_of (page_at s z.0)) z.1 0) (λ t. (page t, word t))
          (subst (λ (z : ℕ). get_or (set ws i x) z 0 ≡ get_or (words_of (page_at s n)) k 0) (sym at) (get_or-set_same ws i x 0 (omega arith) ∙ value)))
          (λ ne. get_or-set_other ws i (place c j) x 0 (λ e. ne (omega arith)) ∙ l.word c j less (omega arith));
    }
