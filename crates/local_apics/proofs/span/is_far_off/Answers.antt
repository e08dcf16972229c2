use Rattle.std.proofs.Common.{◌≡◌, ℕ, ◌+◌, ◌^◌, ◌≤◌, sym, subst, ◌∙◌, inl, inr}
use Rattle.std.proofs.lemmas.Bool.{cases_eq}
use Rattle.tsc_scale.specs.Tsc.{difference}
use Rattle.lapic_timer.specs.declared.parts.ApicParts.{ApicParts}
use Rattle.lapic_timer.specs.Parts.{mode_of}
use Rattle.local_apics.specs.declared.span.Span.{Span}
use Rattle.local_apics.specs.Nanosecond.{tsc_in}
use Rattle.local_apics.proofs.Spans.{tsc-by_count, reached-nowhere_far}
use Rattle.local_apics.proofs.span.is_far_off.Goals as goal

pub returns : goal.returns
returns c = λ far armed.
    let span : Span = c.args.span.now in
    let p : ApicParts = c.args.timer.now in
    let mode : mode_of p.lvt ≡ 2 = elim (cases_eq (mode_of p.lvt) 2) [
      | inl deadline ↦ deadline
      | inr other ↦ absurd (armed (sym c.deadline.ensures.value ∙ c.deadline.ensures.other_modes other))
    ] in
    let last : c.tsc_by.result ≡ tsc_in span.clock c.args.tsc span.to =
    c.tsc_by.ensures ∙ tsc-by_count span c.args.tsc c.requires.span span.last span.to c.requires.span.last in
    let apart : 2 ^ 63 + 2 ^ 60 ≤ difference (tsc_in span.clock c.args.tsc span.to) p.deadline =
    subst (λ (x : ℕ). 2 ^ 63 + 2 ^ 60 ≤ difference x p.deadline) last
    (subst (λ (d : ℕ). 2 ^ 63 + 2 ^ 60 ≤ difference c.tsc_by.result d) c.deadline.ensures.value (c.is_far.ensures.far far)) in
    let none = reached-nowhere_far span c.args.tsc c.requires.span p mode (c.is_far.ensures.short far) apart in
    record { timer = none.0; ticks = none.1 }
