use Rattle.std.proofs.Common.{◌≡◌, ℕ, ◌+◌, ◌-◌, ◌≤◌, List, ◌++◌, length, take, drop, unwrap_or, ap, ◌∙◌, subst, arith}
use Rattle.std.proofs.lemmas.List.{take_all, length-take-le}
use Rattle.trace_loop.specs.Progress.{limit_of}
use Rattle.trace_loop.specs.Cut.{HasNoEnd}
use Rattle.trace_loop.specs.Found.{IsFound}
use Rattle.trace_loop.specs.declared.lines.Found.TheVariants.{End, Excess, Nothing}
use Rattle.trace_loop.proofs.Progresses.{limit_least, limit_grows, limit_part}
use Rattle.trace_loop.proofs.Cuts.{no_end_found, found_within, found_at}
use Rattle.trace_loop.proofs.lines.Lines.find.Goals as goal
use Rattle.trace_loop.proofs.lines.Lines.find.Goals.{After-limit_met-limit}

-- the bytes that are left, what came of the line before them, and where a line ends in them: as the fields have them
abbrev rest : After-limit_met-limit → List ℕ
rest c = let r = c.self.inside in take (r.to - r.from) (drop r.from r.piece)

abbrev kept : After-limit_met-limit → List ℕ
kept c = c.self.inside.kept.items

same : (c : After-limit_met-limit) → ◌≡◌ {A = List ℕ × List ℕ} (kept c, rest c) (c.args.self.now.text, c.args.self.now.left)
same c = λ i. ((c.self.view_is i).text, (c.self.view_is i).left)

most : (c : After-limit_met-limit) → c.unwrap_or-n.result ≤ length (rest c)
most c = omega (arith, c.unwrap_or-n.ensures, found_within (rest c) c.memchr-end.result c.memchr-end.ensures)

least : (c : After-limit_met-limit) → c.limit_met-limit.result ≤ limit_of (kept c ++ take c.unwrap_or-n.result (rest c))
least c = subst (λ (t : List ℕ). c.limit_met-limit.result ≤ limit_of (t ++ take c.unwrap_or-n.result (rest c))) c.deref.ensures.value
    c.limit_met-limit.ensures.least

-- the limit that the line exceeds
abbrev met : goal.After-len-then-len-n → After-limit_met-limit
met c = (goal.at.overflow_sub-result c).After-limit_met-limit

over : (c : goal.After-len-then-len-n) → c.limit_met-limit.result ≡ limit_of (kept (met c) ++ take c.unwrap_or-n.result (rest (met c)))
over c =
    c.limit_met-limit.ensures.over (omega (
      arith,
      length-take-le c.unwrap_or-n.result (rest (met c)) (most (met c)),
      ap length c.deref.ensures.value,
      c.len.ensures,
      c.self.inside.kept.ok.0,
      c.if-len-n.true,
    ))
    ∙ ap (λ (t : List ℕ). limit_of (t ++ take c.unwrap_or-n.result (rest (met c)))) c.deref.ensures.value

pub overflow_sub-result : goal.overflow_sub-result
overflow_sub-result c =
    omega (
      arith,
      over c,
      limit_grows (kept (met c)) (take c.unwrap_or-n.result (rest (met c))) c.self.invariant.5,
      c.len-then-len-n.ensures,
      c.self.inside.kept.ok.0,
    )

pub returns-then-len-n : goal.returns-then-len-n
returns-then-len-n c =
    let xs = kept (met c) in
    let ys = rest (met c) in
    let N : ℕ = c.unwrap_or-n.result in
    let n : ℕ = c.limit_met-limit.result + 1 - c.len-then-len-n.result in
    let all : c.len-then-len-n.result ≡ length xs = c.len-then-len-n.ensures ∙ c.self.inside.kept.ok.0 in
    let grows : length xs ≤ c.limit_met-limit.result = omega (arith, over c, limit_grows xs (take N ys) c.self.invariant.5) in
    let low : n ≤ N = omega (arith, all, c.len.ensures, c.self.inside.kept.ok.0, c.if-len-n.true) in
    let part : limit_of (xs ++ take N ys) ≡ limit_of (xs ++ take n ys) = limit_part xs ys n N low (omega (arith, low, most (met c)))
    (omega (arith, all, grows, over c, limit_least (xs ++ take N ys))) in
    subst (λ (z : List ℕ × List ℕ). IsFound z.0 z.1 (Excess n)) (same (met c)) (
      omega (arith, low, most (met c)),
      no_end_found ys c.memchr-end.result n c.memchr-end.ensures (omega (arith, low, c.unwrap_or-n.ensures)),
      omega (arith, part, over c, all, grows),
    )

pub returns-in-Some : goal.returns-in-Some
returns-in-Some c =
    let d = (goal.at.returns-in-Some c).After-limit_met-limit in
    let xs = kept d in
    let ys = rest d in
    let n : ℕ = c.in-Some.n in
    let at = found_at ys c.memchr-end.result n c.memchr-end.ensures c.in-Some.is in
    let is : unwrap_or c.memchr-end.result (length ys) ≡ n = ap (λ o. unwrap_or o (length ys)) c.in-Some.is in
    subst (λ (z : List ℕ × List ℕ). IsFound z.0 z.1 (End n)) (same d) (
      at.0,
      no_end_found ys c.memchr-end.result n c.memchr-end.ensures (omega (arith, is)),
      at.1,
      subst (λ (m : ℕ). length xs + m ≤ limit_of (xs ++ take m ys)) (c.unwrap_or-n.ensures ∙ is)
          (omega (arith, least d, c.if-len-n.false, c.len.ensures, c.self.inside.kept.ok.0)),
    )

pub returns-in-None : goal.returns-in-None
returns-in-None c =
    let d = (goal.at.returns-in-None c).After-limit_met-limit in
    let xs = kept d in
    let ys = rest d in
    let is : unwrap_or c.memchr-end.result (length ys) ≡ length ys = ap (λ o. unwrap_or o (length ys)) c.in-None.is in
    subst (λ (z : List ℕ × List ℕ). IsFound z.0 z.1 Nothing) (same d)
    (subst (λ (l : List ℕ). HasNoEnd l × (length xs + length ys ≤ limit_of (xs ++ l))) (take_all (length ys) ys (omega arith)) (
      no_end_found ys c.memchr-end.result (length ys) c.memchr-end.ensures (omega (arith, is)),
      subst (λ (m : ℕ). length xs + m ≤ limit_of (xs ++ take m ys)) (c.unwrap_or-n.ensures ∙ is)
          (omega (arith, least d, c.if-len-n.false, c.len.ensures, c.self.inside.kept.ok.0)),
    ))
