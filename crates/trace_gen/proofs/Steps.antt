-- Lemmas on one line more.
use Rattle.std.proofs.Common.{◌≡◌, ℕ, suc, ◌+◌, ◌≤◌, List, ◌++◌, length, take, drop, refl, sym, subst, arith, ◌∙◌, ap}
use Rattle.std.proofs.Math.Seq.{take-add, take-append_seam}
use Rattle.std.proofs.lemmas.List.{length-take-le}
use Rattle.std.proofs.lemmas.Slice.{drop-append-drop}
use Rattle.trace_gen.specs.Draws.{drawn}
use Rattle.trace_gen.specs.Text.{record_text, records_text, enable_text, enables_text}
use Rattle.trace_gen.specs.declared.draws.Draws.{Draws}

-- one page more, by a number that counts down
pub enables_text-more : (k j cpu : ℕ) → k ≡ j + 1 → enables_text k cpu ≡ enable_text cpu ++ enables_text j (cpu + 1)
unfolding enables_text
enables_text-more k j cpu e = subst (λ (m : ℕ). enables_text m cpu ≡ enable_text cpu ++ enables_text j (cpu + 1))
    (let next : suc j ≡ k = omega arith in next) refl

-- none more
pub enables_text-none : (k cpu : ℕ) (rest : List ℕ) → k ≡ 0 → enables_text k cpu ++ rest ≡ rest
unfolding enables_text
enables_text-none k cpu rest e = rw e refl

-- one record more
pub records_text-more : (k j cpus : ℕ) (d : Draws) → k ≡ j + 1 → records_text k cpus d ≡ record_text cpus (drawn d) ++ records_text j cpus (drawn d)
unfolding records_text
records_text-more k j cpus d e = subst (λ (m : ℕ). records_text m cpus d ≡ record_text cpus (drawn d) ++ records_text j cpus (drawn d))
    (let next : suc j ≡ k = omega arith in next) refl

-- none more
pub records_text-none : (k cpus : ℕ) (d : Draws) (rest : List ℕ) → k ≡ 0 → records_text k cpus d ++ rest ≡ rest
unfolding records_text
records_text-none k cpus d rest e = rw e refl

-- bytes of a text are in the first places, and more of them after these
pub moved_more : (text places into self new : List ℕ) (put n : ℕ) → put ≤ length text
    → into ≡ take put text ++ drop put places
    → self ≡ drop put text
    → new ≡ take put into ++ take n self ++ drop (put + n) into
    → new ≡ take (put + n) text ++ drop (put + n) places
moved_more text places into self new put n within is_into is_self is_new =
    let long : length (take put text) ≡ put = length-take-le put text within in
    let front : take put (take put text ++ drop put places) ≡ take put text =
    ap (λ (k : ℕ). take k (take put text ++ drop put places)) (sym long) ∙ take-append_seam (take put text) (drop put places) in
    let back = drop-append-drop put places (take put text) (put + n) (omega arith) long in
    rw (is_new, is_into, is_self, front, back, take-add put n text) refl
