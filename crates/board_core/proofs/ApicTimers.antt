-- The conditions on the timers of local APICs are kept.
use Rattle.std.proofs.Common.{◌≡◌, ℕ, ◌+◌, ◌<◌, ◌≤◌, Bool, true, false, cond, ltb, leb, eqb, ◌||◌, IsTrue, Option, Some, None, get_or, set, List}
use Rattle.std.proofs.Common.{refl, sym, ap, subst, ◌∙◌, inl, inr, arith}
use Rattle.std.proofs.lemmas.Bool.{cases_lt, cases_eq, and_from, and_left, and_right, lt-ltb, le-ltb, le-leb, lt-leb, leb-true, eqb-true, false≢true}
use Rattle.std.proofs.lemmas.List.{get_or-replicate, get_or-set_same, get_or-set_other}
use Rattle.std.proofs.Math.ListN.{get_or-map}
use Rattle.tick_policy.specs.declared.parts.TickParts.{TickParts}
use Rattle.tick_policy.specs.Line.{acked}
use Rattle.lapic_timer.specs.declared.registers.ApicRegister.{ApicRegister}
use Rattle.lapic_timer.specs.declared.registers.ApicRegister.TheVariants.{Lvt, Initial, Current, Divide, Deadline}
use Rattle.lapic_timer.specs.Registers.{register_of}
use Rattle.local_apics.specs.declared.parts.ApicsParts.{ApicsParts}
use Rattle.local_apics.specs.Parts.{AreApicsOf, apics_at_power_on}
use Rattle.local_apics.specs.Places.{no_line, no_tsc, line_at}
use Rattle.local_apics.specs.Nanosecond.{run, looked_all, tscs_of, tsc_by_time, tsc_in}
use Rattle.local_apics.specs.Registers.{eoi_at, written_at}
use Rattle.local_apics.proofs.Keeps.{AreApicsOf-apics_at_power_on, AreApicsOf-run, AreApicsOf-looked_all, AreApicsOf-written_at, AreApicsOf-eoi_at}
use Rattle.local_apics.proofs.Laws.{due-run, due-looked_all}
use Rattle.board_types.specs.Legal.{is_legal, is_msr}
use Rattle.board_types.specs.declared.access.Access.{Access}
use Rattle.board_types.specs.declared.access.Access.TheVariants.{MsrWrite, Eoi}
use Rattle.board_types.specs.declared.setup.TheConstants.{APIC_FORMAT}
use Rattle.board_types.specs.declared.parts.ProcessorParts.{ProcessorParts}
use Rattle.std.specs.Option.{option_map_or}
use Rattle.board_core.specs.Apics.{apics_of, apics_acted}
use Rattle.host_counter.specs.declared.Anchor.{Anchor}
use Rattle.lapic_timer.specs.Deadline.{count_at}
use Rattle.local_apics.specs.declared.span.TscClock.{TscClock}
use Rattle.board_core.specs.Tsc.{no_processor, tsc_of, tsc_read}
use Rattle.board_core.specs.Conditions.{AreApics}
use Rattle.board_core.specs.Upgrade.{gets_apics, apics_upgraded}

-- more ticks may be due later
pub AreApics-more : (format cpus n m : ℕ) (a : ApicsParts) → AreApics format cpus n a → n ≤ m → AreApics format cpus m a
AreApics-more format cpus n m a valid more = record { places = valid.places; due = λ k less. omega (arith, valid.due k less) }

-- those at power on
pub AreApics-power_on : (format cpus most : ℕ) → cpus ≤ 64 → AreApics format cpus most (apics_at_power_on (apics_of format cpus))
AreApics-power_on format cpus most few = record {
  places = AreApicsOf-apics_at_power_on (apics_of format cpus) (within (leb APIC_FORMAT format));
  due = λ k less. omega (arith, ap (λ (l : TickParts). l.counts.due) (get_or-replicate 64 k no_line no_line less));
}
  where
    within : (b : Bool) → cond b cpus 0 ≤ 64
    within true = few
    within false = omega arith

-- those of a later format
pub AreApics-later : (format to cpus most : ℕ) (a : ApicsParts) → cpus ≤ 64 → format ≤ to → AreApics format cpus most a
    → AreApics to cpus most (apics_upgraded cpus (gets_apics format to) a)
AreApics-later format to cpus most a few later valid = elim (cases_lt format APIC_FORMAT) [
  | inl before ↦ elim (cases_lt to APIC_FORMAT) [
    | inl still ↦ kept (ap (λ (b : Bool). cond b cpus 0) (lt-leb APIC_FORMAT format before ∙ sym (lt-leb APIC_FORMAT to still)))
        (and_right (ltb format APIC_FORMAT) (leb APIC_FORMAT to) (lt-leb APIC_FORMAT to still))
    | inr gets ↦ got (le-leb APIC_FORMAT to gets) (and_from (ltb format APIC_FORMAT) (leb APIC_FORMAT to) (lt-ltb format APIC_FORMAT before)
        (le-leb APIC_FORMAT to gets))
  ]
  | inr has ↦ kept (ap (λ (b : Bool). cond b cpus 0) (le-leb APIC_FORMAT format has ∙ sym (le-leb APIC_FORMAT to (omega (arith, has, later)))))
      (and_left (ltb format APIC_FORMAT) (leb APIC_FORMAT to) (le-ltb format APIC_FORMAT has))
]
  where
    kept : apics_of format cpus ≡ apics_of to cpus → gets_apics format to ≡ false → AreApics to cpus most (apics_upgraded cpus (gets_apics format to) a)
    kept same none = subst (λ (b : Bool). AreApics to cpus most (apics_upgraded cpus b a)) (sym none)
        (record { places = subst (λ (n : ℕ). AreApicsOf n a) same valid.places; due = valid.due })

    got : leb APIC_FORMAT to ≡ true → gets_apics format to ≡ true → AreApics to cpus most (apics_upgraded cpus (gets_apics format to) a)
    got there more = subst (λ (b : Bool). AreApics to cpus most (apics_upgraded cpus b a)) (sym more)
        (subst (λ (b : Bool). AreApics to cpus most (apics_at_power_on (cond b cpus 0))) there (AreApics-power_on to cpus most few))

-- a run brings a line one tick a nanosecond at most, and a look one
pub AreApics-ran : (format cpus most : ℕ) (tsc : ℕ → ℕ → ℕ) (from n : ℕ) (a : ApicsParts) → AreApics format cpus most a
    → AreApics format cpus (most + n) (run tsc from n a)
AreApics-ran format cpus most tsc from n a valid = record {
  places = AreApicsOf-run (apics_of format cpus) tsc from n a valid.places;
  due = λ k less. omega (arith, valid.due k less, due-run tsc from n k a (omega (arith, less, valid.places.lines)));
}

pub AreApics-looked : (format cpus most : ℕ) (tsc : ℕ → ℕ) (a : ApicsParts) → AreApics format cpus most a
    → ((k : ℕ) → k < 64 → (line_at k a).counts.due < most) → AreApics format cpus most (looked_all tsc a)
AreApics-looked format cpus most tsc a valid room = record {
  places = AreApicsOf-looked_all (apics_of format cpus) tsc a valid.places;
  due = λ k less. omega (arith, room k less, due-looked_all tsc k a (omega (arith, less, valid.places.lines)));
}

-- a legal access to one of a timer's MSRs comes in a format that has them
apic_msr : (format msr : ℕ) (r : ApicRegister) → IsTrue (is_msr format msr) → register_of msr ≡ Some r → APIC_FORMAT ≤ format
apic_msr format msr r legal some =
    by (eqb msr 0x832) refl (eqb msr 0x838) refl (eqb msr 0x839) refl (eqb msr 0x83e) refl (eqb msr 0x6e0) refl some
  where
    has : (b : Bool) → leb APIC_FORMAT format ≡ b → IsTrue (b || false) → APIC_FORMAT ≤ format
    has true e t = leb-true APIC_FORMAT format e
    has false e t = absurd (false≢true t)

    of : (m : ℕ) → eqb msr m ≡ true → IsTrue (is_msr format m)
    of m is = subst (λ (n : ℕ). IsTrue (is_msr format n)) (eqb-true msr m is) legal

    by : (lvt : Bool) → eqb msr 0x832 ≡ lvt → (initial : Bool) → eqb msr 0x838 ≡ initial → (current : Bool) → eqb msr 0x839 ≡ current
        → (divide : Bool) → eqb msr 0x83e ≡ divide → (deadline : Bool) → eqb msr 0x6e0 ≡ deadline
        → cond lvt (Some Lvt) (cond initial (Some Initial) (cond current (Some Current) (cond divide (Some Divide) (cond deadline (Some Deadline) None))))
        ≡ Some r
        → APIC_FORMAT ≤ format
    by true e1 b2 e2 b3 e3 b4 e4 b5 e5 s = has (leb APIC_FORMAT format) refl (of 0x832 e1)
    by false e1 true e2 b3 e3 b4 e4 b5 e5 s = has (leb APIC_FORMAT format) refl (of 0x838 e2)
    by false e1 false e2 true e3 b4 e4 b5 e5 s = has (leb APIC_FORMAT format) refl (of 0x839 e3)
    by false e1 false e2 false e3 true e4 b5 e5 s = has (leb APIC_FORMAT format) refl (of 0x83e e4)
    by false e1 false e2 false e3 false e4 true e5 s = has (leb APIC_FORMAT format) refl (of 0x6e0 e5)
    by false e1 false e2 false e3 false e4 false e5 s = cc s

-- an access leaves the ticks as they are
pub AreApics-acted : (format cpus most cpu : ℕ) (a : Access) (x : ApicsParts) → cpu < cpus → cpus ≤ 64 → IsTrue (is_legal cpus format a)
    → AreApics format cpus most x → AreApics format cpus most (apics_acted cpu a x)
AreApics-acted format cpus most cpu (MsrWrite msr v) x there few legal valid = by (register_of msr) refl
  where
    by : (r : Option ApicRegister) → register_of msr ≡ r → AreApics format cpus most (option_map_or (λ (r : ApicRegister). written_at cpu r v x) r x)
    by None e = valid
    by (Some r) e =
        let inside : cpu < apics_of format cpus =
        subst (λ (b : Bool). cpu < cond b cpus 0) (sym (le-leb APIC_FORMAT format (apic_msr format msr r legal e))) there in
        record { places = AreApicsOf-written_at (apics_of format cpus) cpu r v x inside valid.places; due = valid.due }
AreApics-acted format cpus most cpu Eoi x there few legal valid = record {
  places = AreApicsOf-eoi_at (apics_of format cpus) cpu x valid.places;
  due = λ k less. elim (cases_eq k cpu) [
    | inl same ↦
        let here : get_or (set x.lines cpu (acked (line_at cpu x))) cpu no_line ≡ acked (line_at cpu x) =
        get_or-set_same x.lines cpu (acked (line_at cpu x)) no_line (omega (arith, there, few, valid.places.lines)) in
        subst (λ (j : ℕ). (line_at j (eoi_at cpu x)).counts.due ≤ most) (sym same)
        (subst (λ (l : TickParts). l.counts.due ≤ most) (sym here) (valid.due cpu (omega (arith, there, few))))
    | inr other ↦ subst (λ (l : TickParts). l.counts.due ≤ most) (sym (get_or-set_other x.lines cpu k (acked (line_at cpu x)) no_line other)) (valid.due k less)
  ];
}
AreApics-acted format cpus most cpu _ x there few legal valid = valid

-- the numbers of the TSCs, place by place
pub tsc-at : (ps : List ProcessorParts) (k : ℕ) → get_or (tscs_of ps) k no_tsc ≡ tsc_of (get_or ps k no_processor)
tsc-at ps k = get_or-map tsc_of ps k no_processor

-- the TSCs of processors by time, as the timers are run by them
abbrev pub tscs_read : Anchor → ℕ → List ProcessorParts → ℕ → ℕ → ℕ
tscs_read anchor guest_khz ps k t = tsc_read anchor guest_khz (count_at anchor t) (get_or ps k no_processor)

pub tscs-read : (clock : TscClock) (ps : List ProcessorParts) → tsc_by_time clock (tscs_of ps) ≡ tscs_read clock.anchor clock.guest_khz ps
tscs-read clock ps = λ i k t. tsc_in clock (tsc-at ps k i) t
