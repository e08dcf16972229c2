-- The conditions are kept: each place holds a timer and its line, and an empty place stays empty.
use Rattle.std.proofs.Common.{◌≡◌, ℕ, zero, suc, ◌+◌, ◌-◌, ◌<◌, ◌≤◌, Bool, true, false, cond, nat_lt, get_or, set}
use Rattle.std.proofs.Common.{replicate, ◌++◌, refl, sym, ap, subst, ◌∙◌, inl, inr, arith}
use Rattle.std.proofs.lemmas.Bool.{cases_eq, cases_lt, lt-ltb, false≢true}
use Rattle.std.proofs.lemmas.List.{length-set, get_or-set_same, get_or-set_other}
use Rattle.tick_policy.specs.declared.parts.Policy.TheVariants.{Discard}
use Rattle.tick_policy.specs.declared.parts.TickParts.{TickParts}
use Rattle.tick_policy.specs.Parts.{IsTickLine}
use Rattle.tick_policy.specs.Line.{acked}
use Rattle.tick_policy.specs.Stretch.{ticked_where}
use Rattle.tick_policy.proofs.Kept.{IsTickLine-line_at_power_on, IsTickLine-acked, IsTickLine-ticked_where, policy-ticked_where}
use Rattle.lapic_timer.specs.declared.parts.ApicParts.{ApicParts}
use Rattle.lapic_timer.specs.declared.registers.ApicRegister.{ApicRegister}
use Rattle.lapic_timer.specs.declared.registers.ApicRegister.TheVariants.{Lvt}
use Rattle.lapic_timer.specs.Parts.{IsApicTimer, is_deadline, apic_at_power_on}
use Rattle.lapic_timer.specs.Registers.{register_written}
use Rattle.lapic_timer.specs.Stretch.{passed, nanosecond}
use Rattle.lapic_timer.specs.Deadline.{looked}
use Rattle.lapic_timer.proofs.Keeps.{IsApicTimer-looked, IsApicTimer-passed, IsApicTimer-register_written, IsApicTimer-apic_at_power_on}
use Rattle.local_apics.specs.declared.parts.ApicsParts.{ApicsParts}
use Rattle.local_apics.specs.Parts.{IsPlaceOf, AreApicsOf, apics_at_power_on, timers_at_power_on}
use Rattle.local_apics.specs.Places.{each, no_timer, no_line, timer_at, line_at}
use Rattle.local_apics.specs.Nanosecond.{tick_with, at_nanosecond, run, looks_due, looked_all}
use Rattle.local_apics.specs.Registers.{written_at, eoi_at}
use Rattle.local_apics.proofs.Places.{each-in, length-each}
use Rattle.local_apics.proofs.Product.{both}
use Rattle.local_apics.proofs.Ticks.{nanosecond-idle, tick-idle, looked-quiet}
use Rattle.local_apics.proofs.PowerOn.{power_on-length}

-- one place
IsApicTimer-nanosecond : (t : ℕ) (p : ApicParts) → IsApicTimer p → IsApicTimer (nanosecond t p)
IsApicTimer-nanosecond t p valid = by (is_deadline p)
  where
    by : (b : Bool) → IsApicTimer (cond b (looked t p) (passed p))
    by true = IsApicTimer-looked t p valid
    by false = IsApicTimer-passed p valid

ticked-no_line : (b : Bool) → b ≡ false → ticked_where b no_line ≡ no_line
ticked-no_line true h = absurd (false≢true (sym h))
ticked-no_line false h = refl

place-nanosecond : (there : Bool) (t : ℕ) (p : ApicParts) (l : TickParts) → IsPlaceOf there p l
    → IsPlaceOf there (nanosecond t p) (ticked_where (tick_with t p) l)
place-nanosecond there t p l is = record {
  timer = IsApicTimer-nanosecond t p is.timer;
  line = IsTickLine-ticked_where (tick_with t p) l is.line;
  policy = policy-ticked_where (tick_with t p) l ∙ is.policy;
  no_timer = λ absent. ap (nanosecond t) (is.no_timer absent) ∙ nanosecond-idle t no_timer refl refl;
  no_line = λ absent. ap (λ (q : ApicParts). ticked_where (tick_with t q) l) (is.no_timer absent)
      ∙ ap (ticked_where (tick_with t no_timer)) (is.no_line absent) ∙ ticked-no_line (tick_with t no_timer) (tick-idle t no_timer refl refl);
}

place-looked : (there : Bool) (t : ℕ) (p : ApicParts) (l : TickParts) → IsPlaceOf there p l → IsPlaceOf there (looked t p) (ticked_where (looks_due t p) l)
place-looked there t p l is = record {
  timer = IsApicTimer-looked t p is.timer;
  line = IsTickLine-ticked_where (looks_due t p) l is.line;
  policy = policy-ticked_where (looks_due t p) l ∙ is.policy;
  no_timer = λ absent. ap (looked t) (is.no_timer absent) ∙ looked-quiet t no_timer refl;
  no_line = λ absent. ap (λ (q : ApicParts). ticked_where (looks_due t q) l) (is.no_timer absent)
      ∙ ap (ticked_where (looks_due t no_timer)) (is.no_line absent) ∙ ticked-no_line (looks_due t no_timer) refl;
}

-- all places
keeps-each : (cpus : ℕ) (f : ℕ → ApicParts → ApicParts) (g : ℕ → TickParts → TickParts) (a : ApicsParts) → AreApicsOf cpus a
    → ((k : ℕ) → k < 64 → IsPlaceOf (nat_lt k cpus) (f k (timer_at k a)) (g k (line_at k a)))
    → AreApicsOf cpus (both (each f 0 a.timers) (each g 0 a.lines))
keeps-each cpus f g a are place = record {
  timers = length-each f 0 a.timers ∙ are.timers;
  lines = length-each g 0 a.lines ∙ are.lines;
  place = λ k less.
      let timer : f k (timer_at k a) ≡ get_or (each f 0 a.timers) k no_timer =
      sym (each-in f no_timer 0 k a.timers (omega (arith, less, are.timers)) ∙ ap (λ (j : ℕ). f j (timer_at k a)) (omega arith)) in
      let line : g k (line_at k a) ≡ get_or (each g 0 a.lines) k no_line =
      sym (each-in g no_line 0 k a.lines (omega (arith, less, are.lines)) ∙ ap (λ (j : ℕ). g j (line_at k a)) (omega arith)) in
      subst (λ (p : ApicParts). IsPlaceOf (nat_lt k cpus) p (get_or (each g 0 a.lines) k no_line)) timer
      (subst (λ (l : TickParts). IsPlaceOf (nat_lt k cpus) (f k (timer_at k a)) l) line (place k less));
}

pub AreApicsOf-at_nanosecond : (cpus : ℕ) (tsc : ℕ → ℕ) (a : ApicsParts) → AreApicsOf cpus a → AreApicsOf cpus (at_nanosecond tsc a)
unfolding at_nanosecond
AreApicsOf-at_nanosecond cpus tsc a are =
    keeps-each cpus (λ k p. nanosecond (tsc k) p) (λ k l. ticked_where (tick_with (tsc k) (timer_at k a)) l) a are
    (λ k less. place-nanosecond (nat_lt k cpus) (tsc k) (timer_at k a) (line_at k a) (are.place k less))

pub AreApicsOf-run : (cpus : ℕ) (tsc : ℕ → ℕ → ℕ) (from n : ℕ) (a : ApicsParts) → AreApicsOf cpus a → AreApicsOf cpus (run tsc from n a)
AreApicsOf-run cpus tsc from zero a are = are
AreApicsOf-run cpus tsc from (suc n) a are =
    AreApicsOf-at_nanosecond cpus (λ k. tsc k (from + n + 1)) (run tsc from n a) (AreApicsOf-run cpus tsc from n a are)

pub AreApicsOf-looked_all : (cpus : ℕ) (tsc : ℕ → ℕ) (a : ApicsParts) → AreApicsOf cpus a → AreApicsOf cpus (looked_all tsc a)
unfolding looked_all
AreApicsOf-looked_all cpus tsc a are =
    keeps-each cpus (λ k p. looked (tsc k) p) (λ k l. ticked_where (looks_due (tsc k) (timer_at k a)) l) a are
    (λ k less. place-looked (nat_lt k cpus) (tsc k) (timer_at k a) (line_at k a) (are.place k less))

-- accesses
pub AreApicsOf-written_at : (cpus k : ℕ) (r : ApicRegister) (v : ℕ) (a : ApicsParts) → k < cpus → AreApicsOf cpus a → AreApicsOf cpus (written_at k r v a)
AreApicsOf-written_at cpus k r v a there are =
    let p : ApicParts = register_written r v (timer_at k a) in
    record {
      timers = length-set a.timers k p ∙ are.timers;
      lines = are.lines;
      place = λ j less. elim (cases_eq j k) [
        | inl same ↦
            let old : IsPlaceOf (nat_lt k cpus) (timer_at k a) (line_at k a) = are.place k (omega (arith, less, same)) in
            let new : IsPlaceOf (nat_lt k cpus) p (line_at k a) = record {
              timer = IsApicTimer-register_written r v (timer_at k a) old.timer;
              line = old.line;
              policy = old.policy;
              no_timer = λ absent. absurd (false≢true (sym absent ∙ lt-ltb k cpus there));
              no_line = old.no_line;
            } in
            let here : p ≡ get_or (set a.timers k p) k no_timer = sym (get_or-set_same a.timers k p no_timer (omega (arith, less, same, are.timers))) in
            subst (λ (i : ℕ). IsPlaceOf (nat_lt i cpus) (get_or (set a.timers k p) i no_timer) (line_at i a)) (sym same)
            (subst (λ (q : ApicParts). IsPlaceOf (nat_lt k cpus) q (line_at k a)) here new)
        | inr other ↦ subst (λ (q : ApicParts). IsPlaceOf (nat_lt j cpus) q (line_at j a)) (sym (get_or-set_other a.timers k j p no_timer other))
            (are.place j less)
      ];
    }

place-acked : (there : Bool) (p : ApicParts) (l : TickParts) → IsPlaceOf there p l → IsPlaceOf there p (acked l)
place-acked there p l is = record {
  timer = is.timer;
  line = IsTickLine-acked l is.line;
  policy = is.policy;
  no_timer = is.no_timer;
  no_line = λ absent. ap acked (is.no_line absent);
}

pub AreApicsOf-eoi_at : (cpus k : ℕ) (a : ApicsParts) → AreApicsOf cpus a → AreApicsOf cpus (eoi_at k a)
AreApicsOf-eoi_at cpus k a are =
    let l : TickParts = acked (line_at k a) in
    record {
      timers = are.timers;
      lines = length-set a.lines k l ∙ are.lines;
      place = λ j less. elim (cases_eq j k) [
        | inl same ↦
            let new : IsPlaceOf (nat_lt k cpus) (timer_at k a) l =
            place-acked (nat_lt k cpus) (timer_at k a) (line_at k a) (are.place k (omega (arith, less, same))) in
            let here : l ≡ get_or (set a.lines k l) k no_line = sym (get_or-set_same a.lines k l no_line (omega (arith, less, same, are.lines))) in
            subst (λ (i : ℕ). IsPlaceOf (nat_lt i cpus) (timer_at i a) (get_or (set a.lines k l) i no_line)) (sym same)
            (subst (λ (m : TickParts). IsPlaceOf (nat_lt k cpus) (timer_at k a) m) here new)
        | inr other ↦ subst (λ (m : TickParts). IsPlaceOf (nat_lt j cpus) (timer_at j a) m) (sym (get_or-set_other a.lines k j l no_line other))
            (are.place j less)
      ];
    }

-- power on
IsApicTimer-no_timer : IsApicTimer no_timer
IsApicTimer-no_timer = IsApicTimer-register_written Lvt 0 apic_at_power_on IsApicTimer-apic_at_power_on

timer-there : (n m k : ℕ) → k < n → get_or (replicate n apic_at_power_on ++ replicate m no_timer) k no_timer ≡ apic_at_power_on
timer-there zero m k less = absurd (omega (arith, less))
timer-there (suc n) m zero less = refl
timer-there (suc n) m (suc k) less = timer-there n m k (omega (arith, less))

timer-absent : (n m k : ℕ) → n ≤ k → get_or (replicate n apic_at_power_on ++ replicate m no_timer) k no_timer ≡ no_timer
timer-absent zero zero k after = refl
timer-absent zero (suc m) zero after = refl
timer-absent zero (suc m) (suc k) after = timer-absent zero m k (omega arith)
timer-absent (suc n) m zero after = absurd (omega (arith, after))
timer-absent (suc n) m (suc k) after = timer-absent n m k (omega (arith, after))

no_lines-line : (m k : ℕ) → get_or (replicate m no_line) k no_line ≡ no_line
no_lines-line zero k = refl
no_lines-line (suc m) zero = refl
no_lines-line (suc m) (suc k) = no_lines-line m k

pub AreApicsOf-apics_at_power_on : (cpus : ℕ) → cpus ≤ 64 → AreApicsOf cpus (apics_at_power_on cpus)
AreApicsOf-apics_at_power_on cpus few = record {
  timers = power_on-length cpus few;
  lines = refl;
  place = λ k less. record {
    timer = valid k;
    line = subst IsTickLine (sym (no_lines-line 64 k)) (IsTickLine-line_at_power_on Discard);
    policy = ap (λ (l : TickParts). l.policy) (no_lines-line 64 k);
    no_timer = λ absent. timer-absent cpus (64 - cpus) k (after k absent);
    no_line = λ absent. no_lines-line 64 k;
  };
}
  where
    after : (k : ℕ) → nat_lt k cpus ≡ false → cpus ≤ k
    after k absent = elim (cases_lt k cpus) [
      | inl less ↦ absurd (false≢true (sym absent ∙ lt-ltb k cpus less))
      | inr more ↦ more
    ]

    valid : (k : ℕ) → IsApicTimer (get_or (timers_at_power_on cpus) k no_timer)
    valid k = elim (cases_lt k cpus) [
      | inl less ↦ subst IsApicTimer (sym (timer-there cpus (64 - cpus) k less)) IsApicTimer-apic_at_power_on
      | inr more ↦ subst IsApicTimer (sym (timer-absent cpus (64 - cpus) k more)) IsApicTimer-no_timer
    ]
