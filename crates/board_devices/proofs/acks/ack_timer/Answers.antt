use Rattle.std.proofs.Common.{◌≡◌, ◌&&◌, ◌+◌, Bool, false, get_or, refl, ap, sym, ◌∙◌, arith}
use Rattle.std.proofs.lemmas.List.{get_or_default}
use Rattle.hpet_comparator.specs.declared.parts.TimerParts.{TimerParts}
use Rattle.hpet_comparator.specs.Parts.{is_level}
use Rattle.hpet_registers.specs.Parts.{timer_at}
use Rattle.tick_policy.specs.declared.parts.TickParts.{TickParts}
use Rattle.board_devices.specs.Places.{no_line}
use Rattle.tick_policy.specs.Line.{acked}
use Rattle.board_devices.proofs.AckLevels.{same_levels, levels-edge}
use Rattle.board_devices.proofs.acks.ack_timer.Goals as goal

pub returns-clause-levels : goal.returns-clause-levels
returns-clause-levels c =
    let l : TickParts = get_or c.args.ticks.now (c.args.k + 2) no_line in
    let was : c.is_up.result ≡ l.up =
    c.is_up.ensures
    ∙ ap (λ (x : TickParts). x.up) (get_or_default c.args.ticks.now (c.args.k + 2) c.index-ticks-k.result no_line (omega (arith, c.told-ticks))) in
    let edge : is_level (timer_at c.args.k c.args.h.now) ≡ false =
    ap (λ (t : TimerParts). is_level t) (sym c.timer.ensures.value) ∙ sym c.is_level.ensures ∙ c.if-is_level.false in
    same_levels
    (c.both-before.ensures ∙ ap (λ (b : Bool). c.shows-shown.result && b) was ∙ ap (λ (b : Bool). b && l.up) c.shows-shown.ensures)
    refl
    (c.both.ensures ∙ ap (λ (b : Bool). c.shows-shown.result && b) c.ack_at-again.ensures.up ∙ ap (λ (b : Bool). b && (acked l).up) c.shows-shown.ensures)
    ∙ sym (levels-edge c.args.line c.args.k c.args.h.now l c.requires.there edge (sym c.is_message.ensures ∙ c.if-is_message.false)
    (sym c.drives_now.ensures ∙ c.if-not-drives_now.false))
