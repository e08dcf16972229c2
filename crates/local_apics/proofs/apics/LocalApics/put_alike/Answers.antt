use Rattle.std.proofs.Common.{ℕ, ap, sym, ◌∙◌, eqb}
use Rattle.std.proofs.lemmas.List.{length-set}
use Rattle.local_apics.specs.Parts.{is_idle}
use Rattle.local_apics.specs.Places.{timer_at}
use Rattle.local_apics.specs.declared.parts.ApicsParts.{ApicsParts}
use Rattle.local_apics.specs.private.Mask.{no_deadline}
use Rattle.local_apics.proofs.Mask.{mask-same}
use Rattle.local_apics.proofs.apics.LocalApics.put_alike.Goals as goal

pub invariant_of-self : goal.invariant_of-self
invariant_of-self c = record {
  armed = mask-same is_idle c.args.cpu c.self.inside.armed c.self.inside.timers c.args.timer c.requires.place c.self.invariant.joined.timers
      c.self.invariant.armed (c.requires.idle ∙ ap (λ (a : ApicsParts). is_idle (timer_at c.args.cpu a)) (sym c.self.view_is));
  waiting = mask-same no_deadline c.args.cpu c.self.inside.waiting c.self.inside.timers c.args.timer c.requires.place c.self.invariant.joined.timers
      c.self.invariant.waiting (ap (λ (d : ℕ). eqb d 0) (c.requires.deadline ∙ ap (λ (a : ApicsParts). (timer_at c.args.cpu a).deadline) (sym c.self.view_is)));
  joined = record {
    timers = length-set c.self.inside.timers c.args.cpu c.args.timer ∙ c.self.invariant.joined.timers;
    lines = c.self.invariant.joined.lines;
    policy = c.self.invariant.joined.policy;
  };
}
