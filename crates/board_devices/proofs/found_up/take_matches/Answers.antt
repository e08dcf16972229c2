use Rattle.std.proofs.Common.{◌≡◌, ℕ, ◌+◌, Bool, true, false, cond, ltb, ◌&&◌, get_or, refl, ap, subst, sym, ◌∙◌, inl, inr, arith}
use Rattle.std.proofs.lemmas.Bool.{cases_eq, cases_lt, lt-ltb}
use Rattle.hpet_registers.specs.Outputs.{has_ticks}
use Rattle.hpet_registers.specs.Stretch.{timer_matches}
use Rattle.tick_policy.specs.Line.{ticked_times}
use Rattle.board_devices.specs.Places.{no_line}
use Rattle.board_devices.proofs.Idle.{no_ticks}
use Rattle.board_devices.proofs.found_up.take_matches.Goals as goal

-- where there is none, none is counted
none_where : (b : Bool) (m : ℕ) → m ≡ 0 → cond b m 0 ≡ 0
none_where true m e = e
none_where false m e = refl

due_where : (b : Bool) (m : ℕ) → cond (ltb 0 m && b) m 0 ≡ cond b m 0
due_where b m = elim (cases_lt 0 m) [
  | inl some ↦ ap (λ (x : Bool). cond (x && b) m 0) (lt-ltb 0 m some)
  | inr few ↦ none_where (ltb 0 m && b) m (omega (arith, few)) ∙ sym (none_where b m (omega (arith, few)))
]

pub loop-k-preserved : goal.loop-k-preserved
loop-k-preserved c =
    let k : ℕ = c.loop-k.k in
    let t : Bool = has_ticks k c.args.h.now in
    let m : ℕ = (timer_matches c.args.matches.now k).count in
    let here : get_or c.count_ticks.new.lines (k + 2) no_line ≡ ticked_times (cond t m 0) (get_or c.args.lines.now (k + 2) no_line) =
    c.count_ticks.ensures.here
    ∙ ap (λ (b : Bool). ticked_times (cond b m 0) (get_or c.loop-k.lines (k + 2) no_line)) c.has_due.ensures
    ∙ ap (λ (n : ℕ). ticked_times n (get_or c.loop-k.lines (k + 2) no_line)) (due_where t m)
    ∙ ap (ticked_times (cond t m 0)) (c.loop-k.invariant.rest (k + 2) (omega arith)) in
    record {
      places = c.count_ticks.ensures.places;
      front = λ j less. c.count_ticks.ensures.others j (λ same. absurd (omega (arith, same))) ∙ c.loop-k.invariant.front j less;
      done = λ j less. elim (cases_eq j k) [
        | inl same ↦ subst (λ (i : ℕ). get_or c.count_ticks.new.lines (i + 2) no_line
            ≡ ticked_times (cond (has_ticks i c.args.h.now) (timer_matches c.args.matches.now i).count 0)
            (get_or c.args.lines.now (i + 2) no_line)) (sym same) here
        | inr other ↦ c.count_ticks.ensures.others (j + 2) (λ same. other (omega (arith, same))) ∙ c.loop-k.invariant.done j (omega (arith, less, other))
      ];
      rest = λ j behind. c.count_ticks.ensures.others j (λ same. absurd (omega (arith, same, behind))) ∙ c.loop-k.invariant.rest j (omega (arith, behind));
    }

-- no timer after those matched
pub returns-clause-done : goal.returns-clause-done
returns-clause-done c = λ j inside. elim (cases_lt j c.loop-k.k) [
  | inl less ↦ c.loop-k.invariant.done j less
  | inr past ↦ c.loop-k.invariant.rest (j + 2) (omega (arith, past))
      ∙ sym (no_ticks (cond (has_ticks j c.args.h.now) (timer_matches c.args.matches.now j).count 0) (get_or c.args.lines.now (j + 2) no_line)
      (none_where (has_ticks j c.args.h.now) (timer_matches c.args.matches.now j).count (c.requires.reach.none j (omega (arith, past)))))
]

pub returns-clause-rest : goal.returns-clause-rest
returns-clause-rest c = λ j past. c.loop-k.invariant.rest j (omega (arith, past, c.requires.inside))
