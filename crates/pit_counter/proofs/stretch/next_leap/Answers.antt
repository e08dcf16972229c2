use Rattle.std.proofs.Common.{
  ◌≡◌,
  ◌≤◌,
  ℕ,
  suc,
  Bool,
  cond,
  Option,
  None,
  sym,
  ap,
  ◌∙◌,
  arith,
  subst,
  rules,
}
use Rattle.clk_units.specs.Events.{IsFirst, first_more}
use Rattle.clk_units.proofs.Events.{IsFirst-more}
use Rattle.pit_counter.specs.Table.{affected, pulsed, pulsed_times, has_risen, rises_next, rises_in}
use Rattle.pit_counter.specs.private.Stretch.{quiet_for, glided}
use Rattle.pit_counter.specs.declared.table.Effect.{Effect}
use Rattle.pit_counter.specs.declared.parts.CounterParts.{CounterParts}
use Rattle.pit_counter.proofs.Keeps.{IsCounter-ce}
use Rattle.pit_counter.proofs.Times.{
  pulsed_times-zero,
  pulsed_times-suc,
  rises_in-zero,
  rises_in-suc,
}
use Rattle.pit_counter.proofs.Quiet.{next_effect, pulsed_times-glided, rises_in-glided}
use Rattle.pit_counter.proofs.stretch.next_leap.Goals as goal

pub glided-requires : goal.glided-requires
glided-requires c = IsCounter-ce c.args.p c.requires.valid

pub returns-then-quiet-gt0 : goal.returns-then-quiet-gt0
returns-then-quiet-gt0 c =
    let quiet : c.quiet_for.result ≡ quiet_for (next_effect c.args.p) c.args.p = c.quiet_for.ensures
    ∙ ap (λ (e : Effect). quiet_for e c.args.p) c.next_effect-effect.ensures in
    let within : c.min-quiet.result ≤ quiet_for (next_effect c.args.p) c.args.p = omega (arith, c.min-quiet.ensures) in
    let none = rises_in-glided c.args.p c.min-quiet.result (IsCounter-ce c.args.p c.requires.valid) within in
    record {
      forward = search rules;
      within = omega (arith, c.min-quiet.ensures);
      taken = record {
        state = c.glided.ensures ∙ ap (λ (e : Effect). glided e c.min-quiet.result c.args.p) c.next_effect-effect.ensures
            ∙ sym (pulsed_times-glided c.args.p c.min-quiet.result (IsCounter-ce c.args.p c.requires.valid) within);
        count = sym none;
        first = none;
      };
    }

-- a single pulse
single : (p : CounterParts) → pulsed_times 1 p ≡ pulsed p
single p = pulsed_times-suc 0 p ∙ ap pulsed (pulsed_times-zero p)

single_rises : (p parts : CounterParts) (rose : Bool) → parts ≡ pulsed p → rose ≡ has_risen p parts → rises_next (pulsed_times 0 p) ≡ rose
unfolding rises_next
single_rises p parts rose e f = ap rises_next (pulsed_times-zero p) ∙ ap (has_risen p) (sym e) ∙ sym f

-- by its effect, that is known already
by_effect : (p parts : CounterParts) (e : Effect) → parts ≡ affected e p → e ≡ next_effect p → parts ≡ pulsed p
unfolding pulsed
by_effect p parts e h f = h ∙ ap (λ (x : Effect). affected x p) f

pub returns : goal.returns
returns c =
    let parts = by_effect c.args.p c.affected-parts.result c.next_effect-effect.result c.affected-parts.ensures c.next_effect-effect.ensures in
    let test = single_rises c.args.p c.affected-parts.result c.has_risen-rose.result parts c.has_risen-rose.ensures in
    let none = rises_in-zero c.args.p in
    let first : first_more None 0 (rises_next (pulsed_times 0 c.args.p)) ≡ c.with_pulse.result.first = ap (first_more None 0) test
    ∙ sym c.with_pulse.ensures.first in
    record {
      forward = search rules;
      within = omega (arith, c.requires.some);
      taken = record {
        state = parts ∙ sym (single c.args.p);
        count = c.with_pulse.ensures.count
            ∙ sym (rises_in-suc c.args.p 0 ∙ ap (λ (b : Bool). cond b (suc (rises_in c.args.p 0)) (rises_in c.args.p 0)) test
            ∙ ap (λ (n : ℕ). cond c.has_risen-rose.result (suc n) n) none);
        first = subst (λ (o : Option ℕ). IsFirst (rises_in c.args.p) 1 o) first
            (IsFirst-more (rises_in c.args.p) 0 (rises_next (pulsed_times 0 c.args.p)) None (rises_in-suc c.args.p 0) none);
      };
    }
