use Rattle.std.proofs.Common.{◌≡◌, ◌/◌, ◌^◌, true, sym, subst}
use Rattle.std.proofs.lemmas.Bool.{eqb-true}
use Rattle.local_apics.specs.declared.parts.ApicsParts.{ApicsParts}
use Rattle.local_apics.specs.Parts.{is_idle}
use Rattle.local_apics.specs.Places.{timer_at}
use Rattle.local_apics.proofs.Mask.{high-clear}
use Rattle.local_apics.proofs.apics.LocalApics.is_idle_from.Goals as goal

pub returns : goal.returns
returns c = λ none k order less. subst (λ (a : ApicsParts). is_idle (timer_at k a) ≡ true) c.self.view_is
    (high-clear is_idle c.args.cpu k c.self.inside.armed c.self.inside.timers order less (sym c.self.invariant.armed)
    (eqb-true (c.self.inside.armed / 2 ^ c.args.cpu) 0 none))
