use Rattle.std.proofs.Common.{◌≡◌, ℕ, sym, subst, ap, ◌∙◌, arith}
use Rattle.tick_policy.specs.declared.parts.Policy.{Policy}
use Rattle.tick_policy.specs.declared.parts.TickParts.{TickParts}
use Rattle.tick_policy.specs.Line.{ticked_times}
use Rattle.tick_policy.specs.Parts.{IsTickLine}
use Rattle.tick_policy.specs.Stored.{parts_of}
use Rattle.tick_policy.proofs.Ticks.{ticked_times-zero, policy-ticked_times}
use Rattle.tick_policy.proofs.line.TickLine.due.Goals as goal

pub returns-else-n-gt0 : goal.returns-else-n-gt0
returns-else-n-gt0 c =
    let none : c.args.n ≡ 0 = omega arith in
    sym (ap (λ (n : ℕ). ticked_times n c.args.self.now) none ∙ ticked_times-zero c.args.self.now)

-- ticks leave the policy
with_policy : (p : Policy) (l : TickParts) → l.policy ≡ p → record { policy = p; up = l.up; counts = l.counts } ≡ l
with_policy p l e = ap (λ (q : Policy). record l { policy = q }) (sym e)

ticked_line : (n : ℕ) (old before after : TickParts) → before ≡ old → after ≡ ticked_times n before
    → record { policy = old.policy; up = after.up; counts = after.counts } ≡ after
ticked_line n old before after same ticked = with_policy old.policy after
    (ap (λ (l : TickParts). l.policy) ticked ∙ policy-ticked_times n before ∙ ap (λ (l : TickParts). l.policy) same)

pub invariant_of-self : goal.invariant_of-self
invariant_of-self c = record {
  byte = c.self.invariant.byte;
  line = subst IsTickLine
      (sym (ticked_line c.args.n (parts_of c.self.inside) c.parts.result c.with_ticks-parts.result (c.parts.ensures.value ∙ sym c.self.view_is) c.with_ticks-parts.ensures.state))
      c.with_ticks-parts.ensures.valid;
}

pub returns-then-n-gt0 : goal.returns-then-n-gt0
returns-then-n-gt0 c =
    ticked_line c.args.n (parts_of c.self.inside) c.parts.result c.with_ticks-parts.result (c.parts.ensures.value ∙ sym c.self.view_is) c.with_ticks-parts.ensures.state
    ∙ c.with_ticks-parts.ensures.state ∙ ap (ticked_times c.args.n) c.parts.ensures.value
