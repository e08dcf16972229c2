use Rattle.std.proofs.Common.{◌≡◌, ℕ, ◌-◌, ◌<◌, ◌++◌, List, length, take, drop, slice_index, Some, w64, refl, sym, ap, subst, arith}
use Rattle.std.specs.Int.{trailing_zeros}
use Rattle.std.proofs.lemmas.Bool.{eqb-true}
use Rattle.std.proofs.lemmas.Nat.Bits.{bit_at-trailing_zeros}
use Rattle.trace_loop.specs.Cut.{Cut, HasNoEnd}
use Rattle.trace_loop.proofs.Ends.{first_of_mask}
use Rattle.trace_loop.proofs.Progresses.{limit_least}
use Rattle.trace_loop.proofs.Cuts.{no_end_found, found_at}
use Rattle.trace_loop.proofs.lines.Lines.near_end.Goals as goal

pub returns-clause-end : goal.returns-clause-end
returns-clause-end c =
    let r = c.self.inside in
    let rest : List ℕ = take (r.to - r.from) (drop r.from r.piece) in
    let k : ℕ = trailing_zeros w64 c.ends_in-ends.result in
    let left : rest ≡ c.args.self.now.left = ap (λ (s : Cut). s.left) c.self.view_is in
    let text : r.kept.items ≡ c.args.self.now.text = ap (λ (s : Cut). s.text) c.self.view_is in
    let lowest = bit_at-trailing_zeros w64 c.ends_in-ends.result (omega (arith, c.if-ends-eq0.false)) c.ends_in-ends.type_inv in
    let first = first_of_mask rest c.ends_in-ends.result k c.if-rest-lt32.false c.ends_in-ends.ensures lowest.1 lowest.2 in
    let at = found_at rest (Some k) k first refl in
    let none = no_end_found rest (Some k) k first (omega arith) in
    let there = subst (λ (l : List ℕ). (k < length l) × HasNoEnd (take k l) × (slice_index l k ≡ 10)) left (at.0, none, at.1) in
    let empty = eqb-true _ 0 (sym c.if-not-is_empty.ensures) in (
      there.0,
      there.1,
      there.2,
      omega (arith, empty, r.kept.ok.0, ap length text, lowest.0, limit_least (c.args.self.now.text ++ take k c.args.self.now.left)),
    )
