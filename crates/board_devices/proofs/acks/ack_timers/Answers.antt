use Rattle.std.proofs.Common.{◌≡◌, ℕ, ◌+◌, ◌<◌, Bool, ◌||◌, ◌⊎◌, List, get_or, ap, sym, subst, ◌∙◌, inl, inr, arith}
use Rattle.std.proofs.lemmas.Bool.{cases_eq}
use Rattle.hpet_registers.specs.declared.parts.HpetParts.{HpetParts}
use Rattle.hpet_registers.specs.Parts.{IsHpet, is_legacy}
use Rattle.tick_policy.specs.declared.parts.TickParts.{TickParts}
use Rattle.board_devices.specs.declared.acks.Levels.{Levels}
use Rattle.board_devices.specs.Act.{acks, acked_where, down_where}
use Rattle.board_devices.specs.Places.{each, no_line}
use Rattle.board_devices.specs.private.Acks.{timer_acks, timer_levels, shown_by}
use Rattle.board_devices.proofs.AckLevels.{shown-all, shown-more, shown-plain}
use Rattle.board_devices.proofs.acks.ack_timers.Goals as goal

-- the line of this timer, as it was
here : (c : goal.After-joined-levels) → get_or c.loop-k.ticks (c.loop-k.k + 2) no_line ≡ get_or c.args.ticks.now (c.loop-k.k + 2) no_line
here c = c.loop-k.invariant.rest (c.loop-k.k + 2) (omega arith)

timer : (c : goal.After-joined-levels)
    → c.ack_timer.result ≡ timer_levels (is_legacy c.args.h.now) c.args.line c.loop-k.k c.args.h.now (get_or c.args.ticks.now (c.loop-k.k + 2) no_line)
timer c = c.ack_timer.ensures.levels ∙ ap (timer_levels (is_legacy c.args.h.now) c.args.line c.loop-k.k c.args.h.now) (here c)

few : (c : goal.After-joined-levels) → c.loop-k.k < 8
few c = below c.timers-k-end.ensures.range c.loop-k-test.true
  where
    below : {n k : ℕ} → (n ≡ 3) ⊎ (n ≡ 8) → k < n → k < 8
    below (inl e) less = omega arith
    below (inr e) less = omega arith

pub loop-k-preserved : goal.loop-k-preserved
loop-k-preserved c =
    let k : ℕ = c.loop-k.k in
    let line : ℕ = c.args.line in
    let h : HpetParts = c.args.h.now in
    let ls : List TickParts = c.args.ticks.now in
    let down : List TickParts = each (λ i t. down_where (acks line h i) t) 0 ls in
    let again : List TickParts = each (λ i t. acked_where (acks line h i) t) 0 ls in
    record {
      places = c.ack_timer.ensures.places;
      front = λ j less. c.ack_timer.ensures.others j (λ same. absurd (omega (arith, same))) ∙ c.loop-k.invariant.front j less;
      done = λ j less. elim (cases_eq j k) [
        | inl same ↦ subst (λ (i : ℕ). get_or c.ack_timer.new.ticks (i + 2) no_line ≡ acked_where (timer_acks line h i) (get_or ls (i + 2) no_line)) (sym same)
            (c.ack_timer.ensures.here ∙ ap (acked_where (timer_acks line h k)) (here c))
        | inr other ↦ c.ack_timer.ensures.others (j + 2) (λ same. other (omega (arith, same)))
            ∙ c.loop-k.invariant.done j (omega (arith, less, other))
      ];
      rest = λ j behind. c.ack_timer.ensures.others j (λ same. absurd (omega (arith, same, behind))) ∙ c.loop-k.invariant.rest j (omega (arith, behind));
      before = c.joined-levels.ensures.before
          ∙ ap (λ (b : Bool). b || c.ack_timer.result.before) c.loop-k.invariant.before
          ∙ ap (λ (x : Levels). shown_by (is_legacy h) line k h ls || x.before) (timer c)
          ∙ sym (shown-plain (is_legacy h) line k h ls);
      between = c.joined-levels.ensures.between
          ∙ ap (λ (b : Bool). b || c.ack_timer.result.between) c.loop-k.invariant.between
          ∙ ap (λ (x : Levels). shown_by (is_legacy h) line k h down || x.between) (timer c)
          ∙ sym (shown-more (is_legacy h) line k h down_where ls (omega (arith, c.told-ticks)) (few c));
      after = c.joined-levels.ensures.after
          ∙ ap (λ (b : Bool). b || c.ack_timer.result.after) c.loop-k.invariant.after
          ∙ ap (λ (x : Levels). shown_by (is_legacy h) line k h again || x.after) (timer c)
          ∙ sym (shown-more (is_legacy h) line k h acked_where ls (omega (arith, c.told-ticks)) (few c));
    }

-- after the last timer
valid : (c : goal.After-loop-k) → IsHpet c.args.h.now
valid c = subst IsHpet c.parts-parts.ensures.parts c.parts-parts.ensures.valid

last : (c : goal.After-loop-k) → c.loop-k.k ≡ c.args.h.now.timers
last c = omega (arith, c.loop-k-test.false, c.loop-k.auto.k-end, c.timers-k-end.ensures.value)

whole : (c : goal.After-loop-k) (ls : List TickParts) → shown_by (is_legacy c.args.h.now) c.args.line c.loop-k.k c.args.h.now ls
    ≡ shown_by (is_legacy c.args.h.now) c.args.line 8 c.args.h.now ls
whole c ls = ap (λ (n : ℕ). shown_by (is_legacy c.args.h.now) c.args.line n c.args.h.now ls) (last c)
    ∙ shown-all (is_legacy c.args.h.now) c.args.line c.args.h.now ls (valid c)

pub returns-clause-before : goal.returns-clause-before
returns-clause-before c = c.loop-k.invariant.before ∙ whole c c.args.ticks.now

pub returns-clause-between : goal.returns-clause-between
returns-clause-between c = c.loop-k.invariant.between ∙ whole c (each (λ i t. down_where (acks c.args.line c.args.h.now i) t) 0 c.args.ticks.now)

pub returns-clause-after : goal.returns-clause-after
returns-clause-after c = c.loop-k.invariant.after ∙ whole c (each (λ i t. acked_where (acks c.args.line c.args.h.now i) t) 0 c.args.ticks.now)
