use Rattle.std.proofs.Common.{◌≡◌, ◌-◌, ◌+◌, ◌*◌, ◌/◌, ◌%◌, ℕ, true, None, Some, sym, ap, ◌∙◌, arith, subst}
use Rattle.std.proofs.Math.Nat.{div-le_self}
use Rattle.pit_counter.specs.Count.{modulus, meant_count}
use Rattle.pit_counter.specs.Table.{affected, pulsed_times}
use Rattle.pit_counter.specs.private.Stretch.{to_rise}
use Rattle.pit_counter.specs.private.Taken.{HasTaken}
use Rattle.pit_counter.specs.declared.table.Effect.TheVariants.{Load}
use Rattle.pit_counter.specs.declared.parts.CounterParts.{CounterParts}
use Rattle.pit_counter.specs.declared.rises.Rises.{Rises}
use Rattle.pit_counter.proofs.Keeps.{IsCounter-ce}
use Rattle.pit_counter.proofs.Divided.{height-le}
use Rattle.pit_counter.proofs.Square.{Square-from, ending-square, low-enough, taken-half, taken-low, taken-rising}
use Rattle.pit_counter.proofs.halves.take_square.Goals as goal

pub overflow_sub-height : goal.overflow_sub-height
overflow_sub-height c =
    omega (arith, c.height.ensures.value, low-enough c.args.p.now c.args.n (omega (arith, c.if-n-left.true, c.half_left-left.ensures.value)))

pub count_left-p-requires : goal.count_left-p-requires
count_left-p-requires c = omega (arith, c.height.ensures.value, height-le c.args.p.now (IsCounter-ce c.args.p.now c.requires.valid))

pub returns-then-n-left : goal.returns-then-n-left
returns-then-n-left c =
    let p = c.args.p.now in
    subst (λ (d : CounterParts). HasTaken c.args.n p d (record { count = 0; first = None }))
    (ap (λ (h : ℕ). record p { ce = (h - 2 * c.args.n) % modulus p.bits }) (sym c.height.ensures.value)
    ∙ ap (λ (x : ℕ). record p { ce = x }) (sym c.count_left-p.ensures))
    (taken-half p c.args.n (Square-from p c.requires.valid c.requires.counts) (omega (arith, c.if-n-left.true, c.half_left-left.ensures.value)))

pub overflow_sub-period : goal.overflow_sub-period
overflow_sub-period c =
    let p = c.args.p.now in
    let period = c.meant_count-period.ensures in
    let low = (taken-low p c.args.n (Square-from p c.requires.valid c.requires.counts) (omega (arith, period.greatest, period.value))
    (omega (arith, c.if-n-left.false, c.half_left-left.ensures.value))
    (omega (arith, c.if-n-first.true, c.to_rise-first.ensures))).0 in
    omega (arith, low, period.value, c.to_rise-first.ensures)

pub returns-then-n-first : goal.returns-then-n-first
returns-then-n-first c =
    let p = c.args.p.now in
    let period = c.meant_count-period.ensures in
    let low = (taken-low p c.args.n (Square-from p c.requires.valid c.requires.counts) (omega (arith, period.greatest, period.value))
    (omega (arith, c.if-n-left.false, c.half_left-left.ensures.value))
    (omega (arith, c.if-n-first.true, c.to_rise-first.ensures))).1 in
    subst (λ (d : CounterParts). HasTaken c.args.n p d (record { count = 0; first = None }))
    (ap (λ (m : ℕ). pulsed_times (m - (to_rise p - c.args.n)) (affected (Load true) p)) (sym period.value)
    ∙ ap (λ (r : ℕ). pulsed_times (c.meant_count-period.result - (r - c.args.n)) (affected (Load true) p)) (sym c.to_rise-first.ensures)
    ∙ sym c.set_place.ensures)
    low

pub overflow_add-result : goal.overflow_add-result
overflow_add-result c =
    let p = c.args.p.now in
    let period = c.meant_count-period.ensures in
    omega (
      arith,
      div-le_self (c.args.n - c.to_rise-first.result) c.meant_count-period.result,
      (ending-square p (Square-from p c.requires.valid c.requires.counts) (omega (arith, period.greatest, period.value))).first.some,
      c.to_rise-first.ensures,
      c.if-n-first.false,
    )

-- as the body has it
as_taken : (c d : CounterParts) (n first period : ℕ) → first ≡ to_rise c → period ≡ meant_count c.bits c.cr
    → d ≡ pulsed_times ((n - first) % period) (affected (Load true) c)
    → HasTaken n c (pulsed_times ((n - to_rise c) % meant_count c.bits c.cr) (affected (Load true) c))
    (record { count = 1 + (n - to_rise c) / meant_count c.bits c.cr; first = Some (to_rise c) })
    → HasTaken n c d (record { count = 1 + (n - first) / period; first = Some first })
as_taken c d n first period e f state h =
    let after : pulsed_times ((n - to_rise c) % meant_count c.bits c.cr) (affected (Load true) c) ≡ d =
    ap (λ (k : ℕ). pulsed_times ((n - k) % meant_count c.bits c.cr) (affected (Load true) c)) (sym e)
    ∙ ap (λ (m : ℕ). pulsed_times ((n - first) % m) (affected (Load true) c)) (sym f) ∙ sym state in
    let rises : Rises = record { count = 1 + (n - to_rise c) / meant_count c.bits c.cr; first = Some (to_rise c) } in
    let both : rises ≡ record { count = 1 + (n - first) / period; first = Some first } =
    ap (λ (k : ℕ). record { count = 1 + (n - k) / meant_count c.bits c.cr; first = Some k }) (sym e)
    ∙ ap (λ (m : ℕ). record { count = 1 + (n - first) / m; first = Some first }) (sym f) in
    subst (λ (r : Rises). HasTaken n c d r) both (subst (λ (x : CounterParts). HasTaken n c x rises) after h)

pub returns : goal.returns
returns c =
    let p = c.args.p.now in
    let period = c.meant_count-period.ensures in
    as_taken p c.set_place-2.new.p c.args.n c.to_rise-first.result c.meant_count-period.result c.to_rise-first.ensures period.value
    c.set_place-2.ensures
    (taken-rising p c.args.n (Square-from p c.requires.valid c.requires.counts) (omega (arith, period.greatest, period.value))
    (omega (arith, c.if-n-first.false, c.to_rise-first.ensures)))
