use Rattle.std.proofs.Common.{sym, ap, ◌∙◌}
use Rattle.std.proofs.lemmas.List.{length-set}
use Rattle.local_apics.specs.Parts.{is_idle}
use Rattle.local_apics.specs.Places.{timer_at}
use Rattle.local_apics.specs.private.Mask.{no_deadline}
use Rattle.local_apics.proofs.Mask.{mask-with}
use Rattle.local_apics.proofs.apics.LocalApics.put.Goals as goal

pub mask_with-self-inside-requires-clause-has : goal.mask_with-self-inside-requires-clause-has
mask_with-self-inside-requires-clause-has c =
    (mask-with is_idle c.args.cpu c.self.inside.armed c.self.inside.timers c.timer-before.result c.args.timer c.is_idle.result c.is_idle-2.result
    c.requires c.self.invariant.joined.timers c.self.invariant.armed
    (c.timer-before.ensures.value ∙ ap (timer_at c.args.cpu) (sym c.self.view_is)) c.is_idle.ensures c.is_idle-2.ensures).0

pub mask_with-self-inside-requires-clause-fits : goal.mask_with-self-inside-requires-clause-fits
mask_with-self-inside-requires-clause-fits c =
    (mask-with is_idle c.args.cpu c.self.inside.armed c.self.inside.timers c.timer-before.result c.args.timer c.is_idle.result c.is_idle-2.result
    c.requires c.self.invariant.joined.timers c.self.invariant.armed
    (c.timer-before.ensures.value ∙ ap (timer_at c.args.cpu) (sym c.self.view_is)) c.is_idle.ensures c.is_idle-2.ensures).1

pub mask_with-self-inside-requires-2-clause-has : goal.mask_with-self-inside-requires-2-clause-has
mask_with-self-inside-requires-2-clause-has c =
    (mask-with no_deadline c.args.cpu c.self.inside.waiting c.self.inside.timers c.timer-before.result c.args.timer
    c.no_deadline.result c.no_deadline-2.result c.requires c.self.invariant.joined.timers c.self.invariant.waiting
    (c.timer-before.ensures.value ∙ ap (timer_at c.args.cpu) (sym c.self.view_is)) c.no_deadline.ensures c.no_deadline-2.ensures).0

pub mask_with-self-inside-requires-2-clause-fits : goal.mask_with-self-inside-requires-2-clause-fits
mask_with-self-inside-requires-2-clause-fits c =
    (mask-with no_deadline c.args.cpu c.self.inside.waiting c.self.inside.timers c.timer-before.result c.args.timer
    c.no_deadline.result c.no_deadline-2.result c.requires c.self.invariant.joined.timers c.self.invariant.waiting
    (c.timer-before.ensures.value ∙ ap (timer_at c.args.cpu) (sym c.self.view_is)) c.no_deadline.ensures c.no_deadline-2.ensures).1

pub invariant_of-self : goal.invariant_of-self
invariant_of-self c = record {
  armed =
      (mask-with is_idle c.args.cpu c.self.inside.armed c.self.inside.timers c.timer-before.result c.args.timer c.is_idle.result c.is_idle-2.result
      c.requires c.self.invariant.joined.timers c.self.invariant.armed
      (c.timer-before.ensures.value ∙ ap (timer_at c.args.cpu) (sym c.self.view_is)) c.is_idle.ensures c.is_idle-2.ensures).2
      ∙ sym c.mask_with-self-inside.ensures;
  waiting =
      (mask-with no_deadline c.args.cpu c.self.inside.waiting c.self.inside.timers c.timer-before.result c.args.timer
      c.no_deadline.result c.no_deadline-2.result c.requires c.self.invariant.joined.timers c.self.invariant.waiting
      (c.timer-before.ensures.value ∙ ap (timer_at c.args.cpu) (sym c.self.view_is)) c.no_deadline.ensures c.no_deadline-2.ensures).2
      ∙ sym c.mask_with-self-inside-2.ensures;
  joined = record {
    timers = length-set c.self.inside.timers c.args.cpu c.args.timer ∙ c.self.invariant.joined.timers;
    lines = c.self.invariant.joined.lines;
    policy = c.self.invariant.joined.policy;
  };
}
