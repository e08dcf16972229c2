use Rattle.std.proofs.Common.{sym, ap, ◌∙◌, arith}
use Rattle.std.proofs.lemmas.Nat.{trailing_le}
use Rattle.local_apics.specs.declared.parts.ApicsParts.{ApicsParts}
use Rattle.local_apics.specs.Parts.{is_idle}
use Rattle.local_apics.specs.Places.{timer_at}
use Rattle.local_apics.proofs.Mask.{low-clear}
use Rattle.local_apics.proofs.apics.LocalApics.first_armed.Goals as goal

pub returns-clause-idle : goal.returns-clause-idle
returns-clause-idle c = λ k low.
    ap (λ (a : ApicsParts). is_idle (timer_at k a)) (sym c.self.view_is)
    ∙ low-clear is_idle k c.self.inside.armed c.self.inside.timers low (omega (arith, low, trailing_le 64 c.self.inside.armed)) (sym c.self.invariant.armed)
