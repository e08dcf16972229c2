use Rattle.std.proofs.Common.{◌≡◌, ◌-◌, ◌*◌, ◌/◌, ◌%◌, ◌<◌, ◌≤◌, ℕ, true, false, eqb, sym, ap, ◌∙◌, arith}
use Rattle.pit_counter.specs.Count.{modulus, meant_count}
use Rattle.pit_counter.specs.Table.{affected, pulsed_times}
use Rattle.pit_counter.specs.declared.table.Effect.TheVariants.{Load}
use Rattle.pit_counter.specs.declared.parts.CounterParts.{CounterParts}
use Rattle.pit_counter.proofs.Square.{Square, Square-from, place-high, place-low, placed}
use Rattle.pit_counter.proofs.halves.set_place.Goals as goal

-- with the period as the body has it
high : (c : CounterParts) (period place count : ℕ) → Square c → period ≡ meant_count c.bits c.cr → period ≤ modulus c.bits
    → place < period - period / 2 → count ≡ 2 * (period / 2 - place) % modulus c.bits
    → record c { ce = count; out = true; null = false; odd = eqb (period % 2) 1 } ≡ pulsed_times place (affected (Load true) c)
high c period place count s e few h n =
    let f : meant_count c.bits c.cr ≤ modulus c.bits = omega (arith, e, few) in
    let g : place < meant_count c.bits c.cr - meant_count c.bits c.cr / 2 = omega (arith, e, h) in
    placed c count true (eqb (period % 2) 1) s (ap (λ (k : ℕ). eqb (k % 2) 1) e)
    ∙ ap (λ (x : ℕ). record (affected (Load true) c) { ce = x }) (n ∙ ap (λ (k : ℕ). 2 * (k / 2 - place) % modulus c.bits) e)
    ∙ sym (place-high c place s f g)

low : (c : CounterParts) (period place count : ℕ) → Square c → period ≡ meant_count c.bits c.cr → period ≤ modulus c.bits
    → period - period / 2 ≤ place → place < period → count ≡ 2 * (period - place) % modulus c.bits
    → record c { ce = count; out = false; null = false; odd = eqb (period % 2) 1 } ≡ pulsed_times place (affected (Load true) c)
low c period place count s e few h within n =
    let f : meant_count c.bits c.cr ≤ modulus c.bits = omega (arith, e, few) in
    let g : meant_count c.bits c.cr - meant_count c.bits c.cr / 2 ≤ place = omega (arith, e, h) in
    placed c count false (eqb (period % 2) 1) s (ap (λ (k : ℕ). eqb (k % 2) 1) e)
    ∙ ap (λ (x : ℕ). record (affected (Load false) c) { ce = x }) (n ∙ ap (λ (k : ℕ). 2 * (k - place) % modulus c.bits) e)
    ∙ sym (place-low c place s f g (omega (arith, e, within)))

pub returns-then-place-period : goal.returns-then-place-period
returns-then-place-period c =
    high c.args.p.now c.args.period c.args.place c.count_left-p.result (Square-from c.args.p.now c.requires.valid c.requires.counts) c.requires.period
    c.requires.short c.if-place-period.true c.count_left-p.ensures

pub returns-else-place-period : goal.returns-else-place-period
returns-else-place-period c =
    low c.args.p.now c.args.period c.args.place c.count_left-p-else-place-period.result (Square-from c.args.p.now c.requires.valid c.requires.counts)
    c.requires.period c.requires.short c.if-place-period.false c.requires.within c.count_left-p-else-place-period.ensures
