-- A timer that doesn't reach its fire goes down by whole counts.
use Rattle.std.proofs.Common.{◌≡◌, ℕ, zero, suc, ◌+◌, ◌-◌, ◌*◌, ◌/◌, ◌%◌, ◌^◌, ◌<◌, ◌≤◌, ap, ◌∙◌, arith}
use Rattle.std.proofs.Math.Nat.{mul-le-mul_right}
use Rattle.std.proofs.lemmas.Nat.{mod_below, div-add-mod', div-mul-add, mod-mul-add}
use Rattle.lapic_timer.specs.declared.parts.ApicParts.{ApicParts}
use Rattle.lapic_timer.specs.Parts.{divisor}
use Rattle.lapic_timer.specs.private.Rounds.{ahead_of, placed}
use Rattle.lapic_timer.proofs.Divisors.{divisor-range, product-small}
use Rattle.lapic_timer.proofs.Steps.{same_counts}

-- a count more
count_more : (c d : ℕ) → 0 < c → (c - 1) * d + d ≡ c * d
count_more (suc k) d some = let e : suc k - 1 ≡ k = omega arith in rw e (omega arith)
count_more zero d some = absurd (omega arith)

-- some of the counts
counts_less : (c q d : ℕ) → q < c → (c - 1) * d ≡ (c - 1 - q) * d + q * d
counts_less c q d few =
    let e : c - 1 ≡ c - 1 - q + q = omega arith in
    ap (λ (x : ℕ). x * d) e ∙ distribute (c - 1 - q) q d
  where
    distribute : (m q d : ℕ) → (m + q) * d ≡ m * d + q * d
    distribute m q d = omega arith

-- q counts and a rest go by
ahead-less : (c d f n q r : ℕ) → f < d → q * d + r ≡ f + n → r < d → q < c
    → (n ≤ (c - 1) * d + (d - 1 - f)) × ((c - 1) * d + (d - 1 - f) - n ≡ (c - 1 - q) * d + (d - 1 - r))
ahead-less c d f n q r phase e rest few =
    let less : (c - 1) * d ≡ (c - 1 - q) * d + q * d = counts_less c q d few in
    (omega (arith, less, e), omega (arith, less, e))

-- all counts go by
ahead-past : (c d f n q r : ℕ) → 0 < c → f < d → q * d + r ≡ f + n → c ≤ q → (c - 1) * d + (d - 1 - f) < n
ahead-past c d f n q r some phase e many =
    let more : (c - 1) * d + d ≡ c * d = count_more c d some in
    let product : c * d ≤ q * d = mul-le-mul_right d many in
    omega (arith, more, product, e)

module _ (p : ApicParts) (some : 0 < p.current) (phase : p.phase < divisor p.divide) (n : ℕ) where
  -- so many counts go by
  abbrev passing : ℕ
  passing = (p.phase + n) / divisor p.divide

  abbrev left : ℕ
  left = (p.phase + n) % divisor p.divide

  whole : passing * divisor p.divide + left ≡ p.phase + n
  whole = div-add-mod' (p.phase + n) (divisor p.divide)

  small : left < divisor p.divide
  small = mod_below (p.phase + n) (divisor p.divide) (divisor-range p.divide).0

  pub glides : passing < p.current → (n ≤ ahead_of p) × (record p { current = p.current - passing; phase = left } ≡ placed (ahead_of p - n) p)
  glides few =
      let is : (n ≤ ahead_of p) × (ahead_of p - n ≡ (p.current - 1 - passing) * divisor p.divide + (divisor p.divide - 1 - left)) =
      ahead-less p.current (divisor p.divide) p.phase n passing left phase whole small few in
      let less : divisor p.divide - 1 - left < divisor p.divide = omega (arith, small) in
      let quotient : (ahead_of p - n) / divisor p.divide ≡ p.current - 1 - passing =
      ap (λ (x : ℕ). x / divisor p.divide) is.1 ∙ div-mul-add (p.current - 1 - passing) (divisor p.divide) (divisor p.divide - 1 - left) less in
      let rest : (ahead_of p - n) % divisor p.divide ≡ divisor p.divide - 1 - left =
      ap (λ (x : ℕ). x % divisor p.divide) is.1 ∙ mod-mul-add (p.current - 1 - passing) (divisor p.divide) (divisor p.divide - 1 - left) less in (
        is.0,
        same_counts p (p.current - passing) ((ahead_of p - n) / divisor p.divide + 1) left (divisor p.divide - 1 - (ahead_of p - n) % divisor p.divide)
            (omega (arith, quotient, few)) (omega (arith, rest, small)),
      )

  pub fires : p.current ≤ passing → ahead_of p < n
  fires many = ahead-past p.current (divisor p.divide) p.phase n passing left some phase whole many

  pub fires-late : p.current ≤ 2 ^ 32 → 2 ^ 39 ≤ n → ahead_of p < n
  fires-late small_count late =
      let more : (p.current - 1) * divisor p.divide + divisor p.divide ≡ p.current * divisor p.divide = count_more p.current (divisor p.divide) some in
      let product : p.current * divisor p.divide ≤ 2 ^ 39 = product-small p.current (divisor p.divide) small_count (divisor-range p.divide).1 in
      omega (arith, more, product, phase, late)
