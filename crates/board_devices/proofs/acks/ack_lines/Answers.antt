use Rattle.std.proofs.Common.{◌≡◌, ◌+◌, Bool, true, cond, eqb, ◌&&◌, not, List, get_or, ap, sym, ◌∙◌, arith}
use Rattle.std.proofs.lemmas.List.{get_or_default}
use Rattle.hpet_registers.specs.Parts.{is_legacy}
use Rattle.tick_policy.specs.declared.parts.TickParts.{TickParts}
use Rattle.tick_policy.specs.Line.{acked}
use Rattle.board_devices.specs.Act.{acks, acked_where, down_where}
use Rattle.board_devices.specs.Places.{each, no_line}
use Rattle.board_devices.specs.private.Acks.{shown_by}
use Rattle.board_devices.proofs.AckLevels.{each-acks}
use Rattle.board_devices.proofs.Places.{each-at}
use Rattle.board_devices.proofs.acks.ack_lines.Goals as goal

pub returns-then-not-both-clause-state : goal.returns-then-not-both-clause-state
returns-then-not-both-clause-state c = each-acks c.args.line c.args.h.now c.args.ticks.now c.ack_timers-timers.new.ticks
    (omega (arith, c.told-ticks)) c.ack_timers-timers.ensures.places
    (c.ack_timers-timers.ensures.front 0 (omega arith) ∙ ap (λ (b : Bool). acked_where b (get_or c.args.ticks.now 0 no_line))
    (sym (ap (λ (l : Bool). eqb c.args.line 0 && not l) (sym c.legacy.ensures) ∙ sym c.both.ensures ∙ c.if-not-both.true)))
    (c.ack_timers-timers.ensures.front 1 (omega arith)) c.ack_timers-timers.ensures.timers

-- the line of the 8254 is reached
plain : (c : goal.After-ack_at-after) → (eqb c.args.line 0 && not (is_legacy c.args.h.now)) ≡ true
plain c = ap (λ (l : Bool). eqb c.args.line 0 && not l) (sym c.legacy.ensures) ∙ sym c.both.ensures ∙ c.if-not-both.false

front : (c : goal.After-ack_at-after) → get_or c.ack_timers-timers.new.ticks 0 no_line ≡ get_or c.args.ticks.now 0 no_line
front c = c.ack_timers-timers.ensures.front 0 (omega arith)

pub returns-clause-state : goal.returns-clause-state
returns-clause-state c = each-acks c.args.line c.args.h.now c.args.ticks.now c.ack_at-after.new.ticks
    (omega (arith, c.told-ticks)) c.ack_at-after.ensures.places
    (c.ack_at-after.ensures.here ∙ ap acked (front c) ∙ ap (λ (b : Bool). acked_where b (get_or c.args.ticks.now 0 no_line)) (sym (plain c)))
    (c.ack_at-after.ensures.others 1 (λ e. absurd (omega (arith, e))) ∙ c.ack_timers-timers.ensures.front 1 (omega arith))
    (λ k less. c.ack_at-after.ensures.others (k + 2) (λ e. absurd (omega (arith, e))) ∙ c.ack_timers-timers.ensures.timers k less)

-- the level of line 0, by the lines
level : (c : goal.After-ack_at-after) (ls : List TickParts) → (get_or ls 0 no_line).up
    ≡ cond (eqb c.args.line 0 && not (is_legacy c.args.h.now)) (get_or ls 0 no_line).up (shown_by (is_legacy c.args.h.now) c.args.line 8 c.args.h.now ls)
level c ls = ap (λ (b : Bool). cond b (get_or ls 0 no_line).up (shown_by (is_legacy c.args.h.now) c.args.line 8 c.args.h.now ls)) (sym (plain c))

-- the first line after the operation
first : (c : goal.After-ack_at-after) (op : Bool → TickParts → TickParts)
    → (get_or (each (λ k l. op (acks c.args.line c.args.h.now k) l) 0 c.args.ticks.now) 0 no_line).up
    ≡ (op true (get_or c.args.ticks.now 0 no_line)).up
first c op = ap (λ (l : TickParts). l.up) (each-at (λ k l. op (acks c.args.line c.args.h.now k) l) 0 0 c.args.ticks.now no_line (omega (arith, c.told-ticks)))
    ∙ ap (λ (b : Bool). (op b (get_or c.args.ticks.now 0 no_line)).up) (plain c)

pub returns-clause-before : goal.returns-clause-before
returns-clause-before c =
    c.is_up-before.ensures
    ∙ ap (λ (l : TickParts). l.up) (get_or_default c.ack_timers-timers.new.ticks 0 c.index-ticks-0.result no_line
    (omega (arith, c.ack_timers-timers.ensures.places)) ∙ front c)
    ∙ level c c.args.ticks.now

pub returns-clause-between : goal.returns-clause-between
returns-clause-between c = sym (first c down_where) ∙ level c (each (λ k l. down_where (acks c.args.line c.args.h.now k) l) 0 c.args.ticks.now)

pub returns-clause-after : goal.returns-clause-after
returns-clause-after c = c.ack_at-after.ensures.up ∙ ap (λ (l : TickParts). (acked l).up) (front c)
    ∙ sym (first c acked_where) ∙ level c (each (λ k l. acked_where (acks c.args.line c.args.h.now k) l) 0 c.args.ticks.now)
