use Rattle.std.proofs.Common.{◌≡◌, ℕ, suc, ◌+◌, Bool, ap, sym, ◌∙◌, get_or, Option, subst, inl, inr, arith}
use Rattle.std.proofs.lemmas.Bool.{cases_eq}
use Rattle.clk_units.specs.Bits.{bit}
use Rattle.hpet_comparator.specs.declared.stretch.Matches.{Matches}
use Rattle.hpet_registers.specs.Stretch.{timer_matches}
use Rattle.board_devices.specs.Places.{no_line}
use Rattle.board_devices.specs.private.Stretch.{timer_ticks, end_of, output_up, slot_of, with_rise, slots_from}
use Rattle.board_devices.proofs.stretch.run_timers_apart.Goals as goal
use Rattle.board_devices.proofs.stretch.run_timers_apart.Goals.{in-Some, in_default}

-- from when on each output is up
up : (c : goal.Joined-output) → ℕ → Option ℕ
up c j = output_up c.args.span j c.args.h.now (bit j c.args.status) (timer_matches c.args.matches.now j) (get_or c.args.lines.now (j + 2) no_line)

-- the line of this timer, as it was
here : (c : goal.Joined-output) → get_or c.loop-k.lines (c.loop-k.k + 2) no_line ≡ get_or c.args.lines.now (c.loop-k.k + 2) no_line
here c = c.loop-k.invariant.rest (c.loop-k.k + 2) (omega arith)

output : (c : goal.Joined-output) → c.run_timer-output.result ≡ up c c.loop-k.k
unfolding up
output c =
    let k : ℕ = c.loop-k.k in
    let m : Matches = timer_matches c.args.matches.now k in
    c.run_timer-output.ensures.output
    ∙ ap (λ (b : Bool). output_up c.args.span k c.args.h.now b m (get_or c.loop-k.lines (k + 2) no_line)) c.is_set-was_set.ensures
    ∙ ap (output_up c.args.span k c.args.h.now (bit k c.args.status) m) (here c)

times : (c : goal.Joined-output) → c.match-output.times ≡ slots_from (suc c.loop-k.k) c.args.h.now (up c) c.args.times.now
unfolding up
times c =
    let k : ℕ = c.loop-k.k in
    let before : c.loop-k.times ≡ slots_from k c.args.h.now (up c) c.args.times.now = c.loop-k.invariant.times in
    elim c.match-output.branch [
      | in-Some w ↦
          w.times-is ∙ w.add_rise.ensures
          ∙ ap (λ (u : Option ℕ). with_rise u w.slot_of.result c.loop-k.times) (sym w.in-Some.is ∙ output c)
          ∙ ap (λ (s : Option ℕ). with_rise (up c k) s c.loop-k.times) w.slot_of.ensures.value
          ∙ ap (with_rise (up c k) (slot_of k c.args.h.now)) before
      | in_default w ↦
          w.times-is ∙ before
          ∙ ap (λ (u : Option ℕ). with_rise u (slot_of k c.args.h.now) (slots_from k c.args.h.now (up c) c.args.times.now))
          (sym (sym (output c) ∙ w.in_default.is))
    ]

pub loop-k-preserved : goal.loop-k-preserved
unfolding up
loop-k-preserved c =
    let k : ℕ = c.loop-k.k in
    let more : k + 1 ≡ suc k = omega arith in
    record {
      places = c.run_timer-output.ensures.places;
      front = λ j less. c.run_timer-output.ensures.others j (λ same. absurd (omega (arith, same))) ∙ c.loop-k.invariant.front j less;
      done = λ j less. elim (cases_eq j k) [
        | inl same ↦ subst (λ (i : ℕ). get_or c.run_timer-output.new.lines (i + 2) no_line ≡ end_of c.args.span.point c.args.span.to
            (timer_ticks c.args.span.from i c.args.h.now (timer_matches c.args.matches.now i)) (get_or c.args.lines.now (i + 2) no_line)) (sym same)
            (c.run_timer-output.ensures.here ∙ ap (end_of c.args.span.point c.args.span.to
            (timer_ticks c.args.span.from k c.args.h.now (timer_matches c.args.matches.now k))) (here c))
        | inr other ↦ c.run_timer-output.ensures.others (j + 2) (λ same. other (omega (arith, same)))
            ∙ c.loop-k.invariant.done j (omega (arith, less, other))
      ];
      rest = λ j behind. c.run_timer-output.ensures.others j (λ same. absurd (omega (arith, same, behind))) ∙ c.loop-k.invariant.rest j (omega (arith, behind));
      times = times c ∙ ap (λ (n : ℕ). slots_from n c.args.h.now (up c) c.args.times.now) (sym more);
    }

pub returns-clause-times : goal.returns-clause-times
returns-clause-times c =
    let end : c.loop-k.k ≡ c.args.h.now.timers = omega (arith, c.loop-k-test.false, c.loop-k.auto.k-end, c.timers-k-end.ensures.value) in
    c.loop-k.invariant.times
    ∙ ap (λ (n : ℕ). slots_from n c.args.h.now (λ j. output_up c.args.span j c.args.h.now (bit j c.args.status) (timer_matches c.args.matches.now j)
    (get_or c.args.lines.now (j + 2) no_line)) c.args.times.now) end
