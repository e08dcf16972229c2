use Rattle.std.proofs.Common.{◌≡◌, ◌-◌, ◌+◌, ◌/◌, ◌%◌, ℕ, true, false, None, Some, sym, ap, ◌∙◌, arith, subst}
use Rattle.std.proofs.lemmas.Bool.{and_parts}
use Rattle.std.proofs.Math.Nat.{div-le_self, mod-lt}
use Rattle.pit_counter.specs.Count.{meant_count}
use Rattle.pit_counter.specs.private.Stretch.{height, is_dividing, is_rate_running, with_left}
use Rattle.pit_counter.specs.private.Taken.{HasTaken}
use Rattle.pit_counter.specs.declared.parts.CounterParts.{CounterParts}
use Rattle.pit_counter.specs.declared.rises.Rises.{Rises}
use Rattle.pit_counter.proofs.Keeps.{IsCounter-ce}
use Rattle.pit_counter.proofs.Divided.{DividesBy-some, height-le, taken-first, taken-later, height-dividing}
use Rattle.pit_counter.proofs.division.divide.Goals as goal

pub set_left-requires : goal.set_left-requires
set_left-requires c = record {
  within = omega (arith, c.height-left.ensures.value, height-le c.args.p.now (IsCounter-ce c.args.p.now c.requires.valid));
}

pub returns-then-n-left-clause-taken : goal.returns-then-n-left-clause-taken
returns-then-n-left-clause-taken c =
    let left = c.height-left.ensures.value in
    subst (λ (d : CounterParts). HasTaken c.args.n c.args.p.now d (record { count = 0; first = None }))
    (ap (λ (h : ℕ). with_left (h - c.args.n) c.args.p.now) (sym left) ∙ sym c.set_left.ensures)
    (taken-first c.args.p.now c.args.n c.requires.valid c.requires.divides.counts (omega (arith, c.if-n-left.true, left)))

-- what is left of a period, and whether the count was written anew, are no matter of it
running : (c : CounterParts) → is_dividing c ≡ true → is_rate_running c ≡ true
unfolding is_dividing
running c h = (and_parts _ _ h).0

pub returns-then-n-left-clause-runs : goal.returns-then-n-left-clause-runs
returns-then-n-left-clause-runs c = ap (λ (d : CounterParts). is_rate_running d) c.set_left.ensures ∙ running c.args.p.now c.requires.divides.counts

pub nonzero_rem-later : goal.nonzero_rem-later
nonzero_rem-later c = DividesBy-some c.args.period c.args.p.now c.requires.divides

pub overflow_sub-period : goal.overflow_sub-period
overflow_sub-period c = omega (arith, mod-lt (c.args.n - c.height-left.result) (nonzero_rem-later c))

pub nonzero_div-result : goal.nonzero_div-result
nonzero_div-result c = DividesBy-some c.args.period c.args.p.now c.requires.divides

pub overflow_add-result : goal.overflow_add-result
overflow_add-result c =
    omega (
      arith,
      div-le_self (c.args.n - c.height-left.result) c.args.period,
      height-dividing c.args.p.now c.requires.divides.counts,
      c.height-left.ensures.value,
    )

-- as the body has it
as_taken : (c d : CounterParts) (n left period : ℕ) → left ≡ height c → period ≡ meant_count c.bits c.cr
    → d ≡ with_left (period - (n - left) % period) (record c { null = false })
    → HasTaken n c (with_left (meant_count c.bits c.cr - (n - height c) % meant_count c.bits c.cr) (record c { null = false }))
    (record { count = 1 + (n - height c) / meant_count c.bits c.cr; first = Some (height c) })
    → HasTaken n c d (record { count = 1 + (n - left) / period; first = Some left })
as_taken c d n left period e f state h =
    let after : with_left (meant_count c.bits c.cr - (n - height c) % meant_count c.bits c.cr) (record c { null = false }) ≡ d =
    ap (λ (k : ℕ). with_left (meant_count c.bits c.cr - (n - k) % meant_count c.bits c.cr) (record c { null = false })) (sym e)
    ∙ ap (λ (m : ℕ). with_left (m - (n - left) % m) (record c { null = false })) (sym f) ∙ sym state in
    let rises : Rises = record { count = 1 + (n - height c) / meant_count c.bits c.cr; first = Some (height c) } in
    let both : rises ≡ record { count = 1 + (n - left) / period; first = Some left } =
    ap (λ (k : ℕ). record { count = 1 + (n - k) / meant_count c.bits c.cr; first = Some k }) (sym e)
    ∙ ap (λ (m : ℕ). record { count = 1 + (n - left) / m; first = Some left }) (sym f) in
    subst (λ (r : Rises). HasTaken n c d r) both (subst (λ (x : CounterParts). HasTaken n c x rises) after h)

pub returns-clause-taken : goal.returns-clause-taken
returns-clause-taken c =
    let divides = c.requires.divides in
    as_taken c.args.p.now c.set_left-2.new.p c.args.n c.height-left.result c.args.period
    c.height-left.ensures.value divides.period c.set_left-2.ensures
    (taken-later c.args.p.now c.args.n c.requires.valid divides.counts (omega (arith, divides.short, divides.period))
    (omega (arith, DividesBy-some c.args.period c.args.p.now divides, divides.period))
    (omega (arith, c.if-n-left.false, c.height-left.ensures.value)))

pub returns-clause-runs : goal.returns-clause-runs
returns-clause-runs c = ap (λ (d : CounterParts). is_rate_running d) c.set_left-2.ensures ∙ running c.args.p.now c.requires.divides.counts
