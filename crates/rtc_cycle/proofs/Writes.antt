-- Writes keep the conditions.
use Rattle.std.proofs.Common.{◌≡◌, ℕ, ◌≤◌, Bool, true, false, not, inl, inr, refl, arith}
use Rattle.std.proofs.lemmas.Bool.{cases_eq, eq-eqb, ne_eqb, false≢true, and_parts, not-true}
use Rattle.rtc_cycle.specs.declared.parts.DividerParts.{DividerParts}
use Rattle.rtc_cycle.specs.Divider.{with_dv, with_rate, with_set}
use Rattle.rtc_cycle.specs.Parts.{IsDivider}

pub IsDivider-with_dv : (dv : ℕ) (p : DividerParts) → dv ≤ 7 → IsDivider p → IsDivider (with_dv dv p)
IsDivider-with_dv dv p few h = elim (cases_eq dv 2) [
  | inl runs ↦ rw (eq-eqb dv 2 runs) (record {
    below = h.below;
    held = inl runs;
    in_cycle = λ c. let was : (p.dv ≡ 2) × (p.set ≡ false) × (p.d ≤ 64) = h.in_cycle c in (runs, was.1, was.2);
    dv = few;
    rs = h.rs;
  })
  | inr held ↦ rw (ne_eqb dv 2 held) (record {
    below = omega arith;
    held = inr refl;
    in_cycle = λ c. absurd (false≢true c);
    dv = few;
    rs = h.rs;
  })
]

pub IsDivider-with_rate : (rs : ℕ) (p : DividerParts) → rs ≤ 15 → IsDivider p → IsDivider (with_rate rs p)
IsDivider-with_rate rs p few h = record { below = h.below; held = h.held; in_cycle = h.in_cycle; dv = h.dv; rs = few }

pub IsDivider-with_set : (on : Bool) (p : DividerParts) → IsDivider p → IsDivider (with_set on p)
IsDivider-with_set on p h = record {
  below = h.below;
  held = h.held;
  in_cycle = λ c.
      let parts : (p.cycle ≡ true) × (not on ≡ true) = and_parts p.cycle (not on) c in
      let was : (p.dv ≡ 2) × (p.set ≡ false) × (p.d ≤ 64) = h.in_cycle parts.0 in
      (was.0, not-true on parts.1, was.2);
  dv = h.dv;
  rs = h.rs;
}
