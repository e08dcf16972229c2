use Rattle.std.proofs.Common.{◌≡◌, ℕ, cond, [], ◌∷◌, Some, None, get_or, subst, ap, ◌∙◌, arith}
use Rattle.irq_edges.specs.Rises.{levels_at}
use Rattle.rtc_registers.specs.Registers.{irqf_of}
use Rattle.hpet_registers.specs.declared.parts.HpetParts.{HpetParts}
use Rattle.hpet_registers.specs.Parts.{IsHpet, is_legacy}
use Rattle.board_devices.specs.Places.{no_line}
use Rattle.board_devices.specs.private.Stretch.{output_by, slots_from}
use Rattle.board_devices.proofs.LevelsOf.{levels-of}
use Rattle.board_devices.proofs.lines.lines_of.Goals as goal

pub returns : goal.returns
returns c = λ p slew.
    let h : HpetParts = c.args.hpet.now in
    let valid : IsHpet h = subst IsHpet c.parts-parts.ensures.parts c.parts-parts.ensures.valid in
    let end : c.loop-k.k ≡ h.timers = omega (arith, c.loop-k-test.false, c.loop-k.auto.k-end, c.timers-k-end.ensures.value) in
    c.lines_at.ensures
    ∙ ap (levels_at 0) (c.loop-k.invariant ∙ ap (λ (n : ℕ). slots_from n h (λ j. cond (output_by j h c.args.ticks.now) (Some 0) None)
    (cond (is_legacy h) None (cond (get_or c.args.ticks.now 0 no_line).up (Some 0) None)
    ∷ cond (is_legacy h) None (cond (irqf_of c.args.rtc.now) (Some 0) None) ∷ None ∷ None ∷ None ∷ None ∷ [])) end)
    ∙ levels-of (record { pit = p; rtc = c.args.rtc.now; hpet = h; ticks = c.args.ticks.now; slew_ns = slew }) valid
