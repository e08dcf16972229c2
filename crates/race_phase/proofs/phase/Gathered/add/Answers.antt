use Rattle.std.proofs.Common.{◌≡◌, ℕ, List, [], ◌∷◌, length, length-append, ap, sym, subst, arith}
use Rattle.shared_board.specs.declared.known.PassKnown.{PassKnown}
use Rattle.race_phase.specs.private.Feed.{GatheredAll}
use Rattle.race_phase.proofs.Gathered.{gathered_more}
use Rattle.race_phase.proofs.phase.Gathered.add.Goals as goal

pub returns : goal.returns
returns g c = λ ds ran before.
    let st = g.N.Name.state in
    let old = c.args.self.now in
    let w = c.args.worked in
    let told = rw c.if-not-has_taken.false at c.has_taken.ensures in
    let number : w.pass.number ≡ length old.passes.items =
    (let a = c.if-number-len.false in let b = c.number.ensures.number in let d = c.len.ensures in let e = old.passes.ok.0 in omega arith) in
    let all = gathered_more st ds old.taken.items w.taken.items old.end w.end old.passes.items old.text w.pass w.text.items w.pass.number before.none told
    before.all ran number in
    let pushed = c.in-Ok.ensures.items in
    let more = c.in_ok-append.ensures.ok in
    let long = ap (λ (ps : List PassKnown). length ps) pushed in
    let last = length-append old.passes.items (w.pass ∷ []) in record {
      none = λ none. absurd (omega arith);
      all = λ some. subst (λ (z : List PassKnown × List ℕ). GatheredAll st ds w.taken.items w.end z.0 z.1) (λ k. (sym pushed k, sym more k)) all;
    }
