-- The bursts of the timers below one.
use Rattle.std.proofs.Common.{◌≡◌, ℕ, zero, suc, ◌+◌, ◌<◌, ◌≤◌, false, List, [], ◌∷◌, length, Option, Some, None, refl, ap, ◌∙◌, length-append, arith}
use Rattle.irq_edges.specs.declared.bursts.Burst.{Burst}
use Rattle.hpet_registers.specs.declared.parts.HpetParts.{HpetParts}
use Rattle.hpet_registers.specs.Outputs.{is_message}
use Rattle.hpet_bursts.specs.Bursts.{burst_from, burst_in, with_burst, bursts_below}
use Rattle.hpet_bursts.proofs.Times.{times-none}

pub bursts_below-zero : (t n : ℕ) (h : HpetParts) → bursts_below 0 t n h ≡ []
unfolding bursts_below
bursts_below-zero t n h = refl

-- one timer more
pub bursts_below-more : (k t n : ℕ) (h : HpetParts) → bursts_below (k + 1) t n h ≡ with_burst (bursts_below k t n h) (burst_in k t n h)
unfolding bursts_below
bursts_below-more k t n h = let e : k + 1 ≡ suc k = omega arith in ap (λ (x : ℕ). bursts_below x t n h) e

-- no timer has more than one
pub bursts_below-few : (k t n : ℕ) (h : HpetParts) → length (bursts_below k t n h) ≤ k
unfolding bursts_below
bursts_below-few zero t n h = omega arith
bursts_below-few (suc k) t n h = by (burst_in k t n h) (bursts_below k t n h) (bursts_below-few k t n h)
  where
    by : (b : Option Burst) (bs : List Burst) → length bs ≤ k → length (with_burst bs b) ≤ suc k
    by None bs few = omega arith
    by (Some b) bs few = omega (arith, length-append bs (b ∷ []))

-- and none has one where none sends messages
pub bursts_below-none : (k t n : ℕ) (h : HpetParts) → ((j : ℕ) → j < k → is_message j h ≡ false) → bursts_below k t n h ≡ []
unfolding bursts_below
bursts_below-none zero t n h silent = refl
bursts_below-none (suc k) t n h silent =
    ap (λ (times : List ℕ). with_burst (bursts_below k t n h) (burst_from k h times)) (times-none k t n h (silent k (omega arith)))
    ∙ bursts_below-none k t n h (λ j less. silent j (omega arith))

-- .. nor where no nanosecond goes by
pub bursts_below-still : (k t : ℕ) (h : HpetParts) → bursts_below k t 0 h ≡ []
unfolding bursts_below
bursts_below-still zero t h = refl
bursts_below-still (suc k) t h = bursts_below-still k t h
