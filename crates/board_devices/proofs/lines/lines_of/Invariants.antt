use Rattle.std.proofs.Common.{◌≡◌, cond, [], ◌∷◌, Some, None, get_or}
use Rattle.rtc_registers.specs.Registers.{irqf_of}
use Rattle.hpet_registers.specs.Parts.{is_legacy}
use Rattle.board_devices.specs.Places.{no_line}
use Rattle.board_devices.specs.private.Stretch.{output_by, slots_from}
use Rattle.board_devices.proofs.lines.lines_of.Given as goal

abbrev pub invariant-loop-k : goal.invariant-loop-k
invariant-loop-k l = l.times ≡ slots_from l.k l.hpet (λ j. cond (output_by j l.hpet l.ticks) (Some 0) None)
    (cond (is_legacy l.hpet) None (cond (get_or l.ticks 0 no_line).up (Some 0) None)
    ∷ cond (is_legacy l.hpet) None (cond (irqf_of l.rtc) (Some 0) None) ∷ None ∷ None ∷ None ∷ None ∷ [])
