use Rattle.std.proofs.Common.{◌≡◌, Bool, true, false, ltb, ◌||◌, refl}
use Rattle.tick_policy.proofs.Ticks.{ticked_times-at_once}
use Rattle.tick_policy.proofs.rules.with_ticks.Goals as goal
use Rattle.tick_policy.proofs.rules.with_ticks.Goals.{then-line, else-line}

either : (a b r : Bool) → a ≡ true → r ≡ a → r ≡ (a || b)
either true b r e f = f
either false b r e f = cc

other : (a b r : Bool) → a ≡ false → r ≡ b → r ≡ (a || b)
other true b r e f = cc
other false b r e f = f

pub returns-clause-state : goal.returns-clause-state
returns-clause-state c =
    let up : c.if-line.result ≡ (c.args.line.up || ltb 0 c.args.n) = elim c.if-line.branch [
      | then-line w ↦ either c.args.line.up (ltb 0 c.args.n) c.if-line.result w.if-line.true w.result-is
      | else-line w ↦ other c.args.line.up (ltb 0 c.args.n) c.if-line.result w.if-line.false w.result-is
    ] in
    rw (ticked_times-at_once c.args.n c.args.line, up, c.with_missed.ensures, c.shown_at_once-shown.ensures.value) refl
