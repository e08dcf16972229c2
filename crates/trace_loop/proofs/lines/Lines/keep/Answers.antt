use Rattle.trace_loop.specs.Progress.{limit_of}
use Rattle.std.proofs.Common.{◌≡◌, ℕ, ◌-◌, ◌≤◌, List, ◌++◌, length, take, drop, sym, ap, ◌∙◌, subst, arith, length-append}
use Rattle.trace_loop.specs.Cut.{Cut, HasNoEnd}
use Rattle.trace_loop.proofs.Cuts.{no_end_++}
use Rattle.trace_loop.proofs.lines.Lines.keep.Goals as goal

pub invariant_of-self-2 : goal.invariant_of-self-2
invariant_of-self-2 c =
    let r = c.self.inside in
    let rest : List ℕ = take (r.to - r.from) (drop r.from r.piece) in
    let left : rest ≡ c.args.self.now.left = ap (λ (s : Cut). s.left) c.self.view_is in
    let text : r.kept.items ≡ c.args.self.now.text = ap (λ (s : Cut). s.text) c.self.view_is in
    let all : c.append_part.new.out.items ≡ r.kept.items ++ rest = c.in_ok-append_part.ensures.ok in
    let none : HasNoEnd rest = subst HasNoEnd (sym left) c.requires.in_line in (
      omega arith,
      c.self.invariant.1,
      c.self.invariant.2,
      c.self.invariant.3,
      subst HasNoEnd (sym all) (no_end_++ r.kept.items rest c.self.invariant.4 none),
      subst (λ (t : List ℕ). length t ≤ limit_of t) (sym (all ∙ ap (λ (t : List ℕ). t ++ rest) text ∙ ap (λ (l : List ℕ). c.args.self.now.text ++ l) left))
          (omega (arith, length-append c.args.self.now.text c.args.self.now.left, c.requires.short)),
    )
