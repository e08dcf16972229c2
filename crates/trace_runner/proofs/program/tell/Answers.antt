use Rattle.std.proofs.Common.{◌∙◌, ℕ, List, Some, ap, sym, inl, inr, true≢false}
use Rattle.trace_runner.specs.declared.texts.TheConstants.{USAGE, VERSION}
use Rattle.trace_runner.specs.Sayings.{Saying, reads_trace, saying_of}
use Rattle.trace_replay.specs.declared.status.Status.TheVariants.{Ok, Usage}
use Rattle.trace_runner.proofs.Sayings.{said-whole}
use Rattle.trace_runner.proofs.program.tell.Goals as goal

abbrev done_by : List ℕ → Saying
done_by text = record { status = Ok; text = text }

pub returns-in-Help-clause-said : goal.returns-in-Help-clause-said
returns-in-Help-clause-said g c = λ saying is.
    said-whole (done_by c.help.result.now) saying c.say.result _ _ _
    (ap (λ (text : List ℕ). Some (done_by text)) c.help.ensures ∙ (ap saying_of (sym c.in-Help.is) ∙ is)) c.say.ensures.said

pub returns-in-Version-clause-said : goal.returns-in-Version-clause-said
returns-in-Version-clause-said g c = λ saying is.
    said-whole (record { status = Ok; text = VERSION.now }) saying c.say-in-Version.result _ _ _ (ap saying_of (sym c.in-Version.is) ∙ is)
    c.say-in-Version.ensures.said

pub returns-in-Unknown-clause-said : goal.returns-in-Unknown-clause-said
returns-in-Unknown-clause-said g c = λ saying is.
    elim c.in-Unknown.is [
      | inl unknown ↦
          said-whole (record { status = Usage; text = USAGE.now }) saying c.say-in-Unknown.result _ _ _ (ap saying_of (sym unknown) ∙ is)
          c.say-in-Unknown.ensures.said
      | inr trace ↦ elim trace [
        | inl replay ↦ absurd (true≢false (sym (ap reads_trace replay.1) ∙ c.requires.trace))
        | inr race ↦ absurd (true≢false (sym (ap reads_trace race.1) ∙ c.requires.trace))
      ]
    ]
