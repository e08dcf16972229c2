use Rattle.std.proofs.Common.{ap, ◌∙◌}
use Rattle.trace_runner.specs.Checking.{Checking}
use Rattle.trace_runner.proofs.Counted.{opened_by}
use Rattle.trace_runner.proofs.Sounds.{whole_free}
use Rattle.trace_runner.proofs.check.Check.whole.Goals as goal

pub invariant_of-result : goal.invariant_of-result
invariant_of-result g c =
    let i = c.self.inside in (
      whole_free c.args.self.now c.end_phase.new.self _ _ c.requires.sound c.requires.few c.in_ok-end_phase.ensures
          (c.in-Ok.ensures.ok ∙ ap (λ (s : Checking). s.opening) c.self.view_is)
          (c.in_ok-written.ensures.phases ∙ ap (λ (s : Checking). s.phases) c.self.view_is),
      opened_by i.opening i.deliveries c.self.invariant _ c.in_ok-written.ensures.opened _ c.in-Ok.ensures.ok,
    )
