use Rattle.trace_loop.proofs.Outcomes.{excess_some}
use Rattle.trace_loop.specs.Progress.{limit_of}
use Rattle.std.proofs.lemmas.List.{length-take-le}
use Rattle.std.proofs.Common.{◌≡◌, ℕ, ◌<◌, ◌≤◌, List, ◌++◌, length, take, refl, ap, ◌∙◌, subst, arith, length-append}
use Rattle.trace_loop.specs.Cut.{Cut}
use Rattle.trace_loop.proofs.Written.{on_err_from}
use Rattle.trace_loop.proofs.lines.Lines.advance_far.Goals as goal

pub returns-in_err-hand_out-in-Excess-clause-err : goal.returns-in_err-hand_out-in-Excess-clause-err
returns-in_err-hand_out-in-Excess-clause-err c =
    let text : c.self.inside.kept.items ≡ c.args.self.now.text = ap (λ (s : Cut). s.text) c.self.view_is in
    on_err_from c.from_residual-in_err-hand_out-in-Excess.result (0 < length c.args.self.now.left)
    (let left : List ℕ = c.args.self.now.left in
    let n : ℕ = c.in-Excess.n in
    let len : length (take n left) ≡ n = length-take-le n left c.in-Excess.ensures.0 in
    let short : length c.args.self.now.text ≤ limit_of c.args.self.now.text = subst (λ (t : List ℕ). length t ≤ limit_of t) text c.self.invariant.5 in
    omega (
      arith,
      len,
      c.in-Excess.ensures.0,
      excess_some c.args.self.now.text (take n left) (c.args.self.now.text ++ take n left) refl short
          (length-append c.args.self.now.text (take n left) ∙ omega (arith, len, c.in-Excess.ensures.2)),
    ))
