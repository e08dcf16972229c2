-- Times of counts.
use Rattle.std.proofs.Common.{◌≡◌, ℕ, ◌+◌, ◌-◌, ◌*◌, ◌/◌, ◌<◌, ◌≤◌, max, ap, ◌∙◌, inl, inr, arith}
use Rattle.std.proofs.Math.Nat.{mul-div_cancel}
use Rattle.std.proofs.lemmas.Bool.{cases_lt}
use Rattle.host_counter.specs.declared.Anchor.{Anchor}
use Rattle.host_counter.specs.Time.{time_at}
use Rattle.host_counter.proofs.Times.{time_at-mono}

-- the time of the greater count
pub time_at_max : (anchor : Anchor) (g h : ℕ) → 0 < anchor.khz → time_at anchor (max g h) ≡ max (time_at anchor g) (time_at anchor h)
time_at_max anchor g h runs = elim (cases_lt g h) [
  | inl less ↦
      let e : max g h ≡ h = omega arith in
      let mono : time_at anchor g ≤ time_at anchor h = time_at-mono anchor g h runs (omega arith) in
      rw e (omega arith)
  | inr other ↦
      let e : max g h ≡ g = omega arith in
      let mono : time_at anchor h ≤ time_at anchor g = time_at-mono anchor h g runs (omega arith) in
      rw e (omega arith)
]

-- counts of nanoseconds
pub time_at_counts : (anchor : Anchor) (h : ℕ) → anchor.khz ≡ 1000000 → time_at anchor h ≡ anchor.base_ns + (h - anchor.start)
unfolding time_at
time_at_counts anchor h rate =
    ap (λ (khz : ℕ). anchor.base_ns + (h - anchor.start) * 1000000 / khz) rate
    ∙ ap (λ (n : ℕ). anchor.base_ns + n) (mul-div_cancel (h - anchor.start) (omega arith))

-- no count's time is before the anchor's
pub base-first : (anchor : Anchor) (h : ℕ) → anchor.base_ns ≤ time_at anchor h
unfolding time_at
base-first anchor h = omega arith
