-- Timers over a stretch, each by itself.
use Rattle.std.specs.Prelude.{◌≡◌, ◌≢◌, ℕ, zero, suc, ◌+◌, ◌<◌, ◌≤◌, if◌then◌else◌}
use Rattle.tick_policy.specs.declared.parts.TickParts.{TickParts}
use Rattle.tick_policy.specs.Line.{ticked_times}
use Rattle.lapic_timer.specs.declared.parts.ApicParts.{ApicParts}
use Rattle.tick_policy.specs.Stretch.{ticked_where}
use Rattle.lapic_timer.specs.Deadline.{looked}
use Rattle.lapic_timer.specs.Stretch.{nanoseconds}
use Rattle.local_apics.specs.declared.parts.ApicsParts.{ApicsParts}
use Rattle.local_apics.specs.Nanosecond.{tick_with, looks_due}
use Rattle.local_apics.specs.Parts.{AreApicPlaces}
use Rattle.local_apics.specs.Places.{each, timer_at, line_at}

-- how many ticks a timer makes in the n nanoseconds after `from`
abbrev pub ticks_in : (ℕ → ℕ) → ℕ → ApicParts → ℕ → ℕ
ticks_in tsc from p zero = 0
ticks_in tsc from p (suc n) =
    if tick_with (tsc (from + n + 1)) (nanoseconds tsc from n p) then suc (ticks_in tsc from p n)
    else ticks_in tsc from p n

-- all of them after n nanoseconds, each by itself
unfoldable pub parted : (ℕ → ℕ → ℕ) → ℕ → ℕ → ApicsParts → ApicsParts
parted tsc from n a = record {
  timers = each (λ k p. nanoseconds (tsc k) from n p) 0 a.timers;
  lines = each (λ k l. ticked_times (ticks_in (tsc k) from (timer_at k a) n) l) 0 a.lines;
}

-- processor k has this timer and this tick line then, and the others have theirs
pub record IsDoneAt (k : ℕ) (p : ApicParts) (l : TickParts) (old new : ApicsParts) : Type 0 where
  pub timer : timer_at k new ≡ p
  pub line : line_at k new ≡ l
  pub other_timers : (j : ℕ) → j ≢ k → timer_at j new ≡ timer_at j old
  pub other_lines : (j : ℕ) → j ≢ k → line_at j new ≡ line_at j old
  pub joined : AreApicPlaces new

-- one timer has run
abbrev pub IsRunAt : ℕ → (ℕ → ℕ) → ℕ → ℕ → ApicsParts → ApicsParts → Type 0
IsRunAt k tsc from n a b = IsDoneAt k (nanoseconds tsc from n (timer_at k a))
    (ticked_times (ticks_in tsc from (timer_at k a) n) (line_at k a)) a b

-- one deadline was looked at
abbrev pub IsLookedAt : ℕ → ℕ → ApicsParts → ApicsParts → Type 0
IsLookedAt k tsc a b = IsDoneAt k (looked tsc (timer_at k a))
    (ticked_where (looks_due tsc (timer_at k a)) (line_at k a)) a b

-- what was done at the first n places of `old` makes `new`
pub record IsDoneBelow (n : ℕ) (f : ℕ → ApicParts → ApicParts) (g : ℕ → TickParts → TickParts)
    (old new : ApicsParts) : Type 0 where
  pub before : AreApicPlaces old
  pub after : AreApicPlaces new
  pub timers : (k : ℕ) → k < n → timer_at k new ≡ f k (timer_at k old)
  pub lines : (k : ℕ) → k < n → line_at k new ≡ g k (line_at k old)
  pub other_timers : (k : ℕ) → n ≤ k → timer_at k new ≡ timer_at k old
  pub other_lines : (k : ℕ) → n ≤ k → line_at k new ≡ line_at k old

-- the first so many timers have run
abbrev pub IsRunBelow : ℕ → (ℕ → ℕ → ℕ) → ℕ → ℕ → ApicsParts → ApicsParts → Type 0
IsRunBelow k tsc from n a b = IsDoneBelow k (λ k p. nanoseconds (tsc k) from n p)
    (λ k l. ticked_times (ticks_in (tsc k) from (timer_at k a) n) l) a b

-- the first so many deadlines were looked at
abbrev pub IsLookedBelow : ℕ → (ℕ → ℕ) → ApicsParts → ApicsParts → Type 0
IsLookedBelow k tsc a b = IsDoneBelow k (λ k p. looked (tsc k) p)
    (λ k l. ticked_where (looks_due (tsc k) (timer_at k a)) l) a b

-- a timer that the n nanoseconds after `from` leave as it is, without a tick
pub record IsStill (tsc : ℕ → ℕ) (from n : ℕ) (p : ApicParts) : Type 0 where
  pub timer : nanoseconds tsc from n p ≡ p
  pub ticks : ticks_in tsc from p n ≡ 0
