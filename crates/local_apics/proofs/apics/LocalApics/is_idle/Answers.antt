use Rattle.std.proofs.Common.{ℕ, not, ap, ◌∙◌, sym}
use Rattle.clk_units.specs.Bits.{bit}
use Rattle.local_apics.specs.declared.parts.ApicsParts.{ApicsParts}
use Rattle.local_apics.specs.Parts.{is_idle}
use Rattle.local_apics.specs.Places.{timer_at}
use Rattle.local_apics.proofs.Mask.{bit-clear}
use Rattle.local_apics.proofs.apics.LocalApics.is_idle.Goals as goal

pub returns-clause-value : goal.returns-clause-value
returns-clause-value c =
    ap not (c.bit.ensures ∙ ap (λ (i : ℕ). bit i c.self.inside.armed) c.from.ensures)
    ∙ bit-clear is_idle c.args.cpu c.self.inside.armed c.self.inside.timers c.requires (sym c.self.invariant.armed)
    ∙ ap (λ (a : ApicsParts). is_idle (timer_at c.args.cpu a)) c.self.view_is
