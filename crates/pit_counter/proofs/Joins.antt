-- Two stretches of pulses, one after the other.
use Rattle.std.proofs.Common.{◌≡◌, ℕ, zero, suc, ◌+◌, ◌-◌, ◌^◌, ◌<◌, Bool, true, false, cond, Option, Some, None, sym, ap, ◌∙◌, arith, subst}
use Rattle.std.specs.Option.{IfSome}
use Rattle.clk_units.specs.Events.{IsFirst}
use Rattle.pit_counter.specs.private.Stretch.{joined_first}
use Rattle.pit_counter.specs.private.Taken.{HasTaken}
use Rattle.pit_counter.specs.Table.{pulsed_times, rises_next, rises_in}
use Rattle.pit_counter.specs.Parts.{IsCounter}
use Rattle.pit_counter.specs.declared.parts.CounterParts.{CounterParts}
use Rattle.pit_counter.specs.declared.rises.Rises.{Rises}
use Rattle.pit_counter.proofs.Keeps.{IsCounter-pulsed}
use Rattle.pit_counter.proofs.Times.{pulsed_times-+, rises_in-suc, rises_in-zero}

pub pulsed_times-joined : (c : CounterParts) (m k : ℕ) → pulsed_times (m + k) c ≡ pulsed_times k (pulsed_times m c)
pulsed_times-joined c m k = ap (λ (n : ℕ). pulsed_times n c) (omega arith) ∙ pulsed_times-+ k m c

-- the rises of both
pub rises_in-joined : (c : CounterParts) (m k : ℕ) → rises_in c (m + k) ≡ rises_in c m + rises_in (pulsed_times m c) k
rises_in-joined c m zero = let e : m + 0 ≡ m = omega arith in rw (e, rises_in-zero (pulsed_times m c)) (omega arith)
rises_in-joined c m (suc k) =
    let e : m + suc k ≡ suc (m + k) = omega arith in
    let more = rises_in-suc c (m + k) in
    let later = rises_in-suc (pulsed_times m c) k in
    let before = rises_in-joined c m k in
    let test : rises_next (pulsed_times (m + k) c) ≡ rises_next (pulsed_times k (pulsed_times m c)) = ap rises_next (pulsed_times-joined c m k) in
    ap (rises_in c) e ∙ more ∙ by_test _ _ _ _ _ _ test before later
  where
    by_test : (s t : Bool) (x y z total : ℕ) → s ≡ t → x ≡ y + z → total ≡ cond t (suc z) z → cond s (suc x) x ≡ y + total
    by_test s true x y z total e f g = rw (e, g) (omega arith)
    by_test s false x y z total e f g = rw (e, g) (omega arith)

-- the first of both
pub IsFirst-joined : (c : CounterParts) (m k : ℕ) (first later : Option ℕ) → IsFirst (rises_in c) m first → IsFirst (rises_in (pulsed_times m c)) k later
    → IsFirst (rises_in c) (m + k) (joined_first first m later)
IsFirst-joined c m k (Some x) later f g = (f.0, omega arith, f.2, f.3)
IsFirst-joined c m k None None f g = omega (arith, rises_in-joined c m k)
IsFirst-joined c m k None (Some j) f g =
    let place : m + j - 1 ≡ m + (j - 1) = omega (arith, g.0) in
    (omega (arith, g.0), omega (arith, g.1), ap (rises_in c) place ∙ omega (arith, rises_in-joined c m (j - 1), g.2), omega (arith, rises_in-joined c m j, g.3))

-- the first of a stretch lies in it
pub IfSome-first : (c : CounterParts) (done k : ℕ) (first : Option ℕ) → IsFirst (rises_in c) k first → done + k < 2 ^ 64 → IfSome first (λ j. done + j < 2 ^ 64)
IfSome-first c done k (Some j) f h = omega (arith, f.1)
IfSome-first c done k None f h = tt

-- the conditions stay
pub IsCounter-pulsed_times : (c : CounterParts) (n : ℕ) → IsCounter c → IsCounter (pulsed_times n c)
unfolding pulsed_times
IsCounter-pulsed_times c zero h = h
IsCounter-pulsed_times c (suc n) h = IsCounter-pulsed (pulsed_times n c) (IsCounter-pulsed_times c n h)

-- pulses, and then more
pub HasTaken-joined : (m n : ℕ) (a b c : CounterParts) (early later both : Rises) → HasTaken m a b early → HasTaken n b c later
    → both.count ≡ early.count + later.count → both.first ≡ joined_first early.first m later.first → HasTaken (m + n) a c both
HasTaken-joined m n a b c early later both f g count first = record {
  state = g.state ∙ ap (pulsed_times n) f.state ∙ sym (pulsed_times-joined a m n);
  count = omega (arith, count, f.count, g.count, rises_in-joined a m n, ap (λ (x : CounterParts). rises_in x n) f.state);
  first = subst (λ (o : Option ℕ). IsFirst (rises_in a) (m + n) o) (sym first)
      (IsFirst-joined a m n early.first later.first f.first
      (subst (λ (x : CounterParts). IsFirst (rises_in x) n later.first) f.state g.first));
}
