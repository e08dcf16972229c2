-- The messages of a stretch as bursts. That they are given so is this project's own choice.
use Rattle.std.specs.Prelude.{◌≡◌, ℕ, zero, suc, ◌+◌, ◌-◌, ◌*◌, ◌/◌, ◌%◌, ◌^◌, ◌<◌, List, [], ◌∷◌}
use Rattle.std.specs.Prelude.{◌++◌, length, Option, Some, None}
use Rattle.irq_edges.specs.declared.bursts.Burst.{Burst}
use Rattle.hpet_registers.specs.declared.parts.HpetParts.{HpetParts}
use Rattle.hpet_registers.specs.Parts.{message_word_at}
use Rattle.hpet_registers.specs.Outputs.{message_of}
use Rattle.hpet_bursts.specs.Messages.{message_times}

-- from the first of these times to the second; 0 where there is one alone
abbrev pub distance_of : List ℕ → ℕ
distance_of [] = 0
distance_of (t ∷ []) = 0
distance_of (t ∷ u ∷ us) = u - t

-- so many messages of timer k, with address and data of its message register (2.3.10)
abbrev pub burst_at : ℕ → HpetParts → ℕ → ℕ → ℕ → Burst
burst_at k h first count every = record {
  timer = k;
  first = first;
  count = count;
  every = every;
  address = message_word_at k h / 2 ^ 32;
  «data» = message_word_at k h % 2 ^ 32;
}

-- the messages of timer k at these times as one burst; none where there are no times
abbrev pub burst_from : ℕ → HpetParts → List ℕ → Option Burst
burst_from k h [] = None
burst_from k h (t ∷ ts) = Some (burst_at k h t (length (t ∷ ts)) (distance_of (t ∷ ts)))

-- the burst of timer k in the n nanoseconds after t
abbrev pub burst_in : ℕ → ℕ → ℕ → HpetParts → Option Burst
burst_in k t n h = burst_from k h (message_times k t n h)

-- a list, and after it a burst where there is one
abbrev pub with_burst : List Burst → Option Burst → List Burst
with_burst bs None = bs
with_burst bs (Some b) = bs ++ b ∷ []

-- the bursts of the timers below k, in order of timers
unfoldable pub bursts_below : ℕ → ℕ → ℕ → HpetParts → List Burst
bursts_below zero t n h = []
bursts_below (suc k) t n h = with_burst (bursts_below k t n h) (burst_in k t n h)

-- the bursts of all timers in the n nanoseconds after t
abbrev pub bursts_of : ℕ → ℕ → HpetParts → List Burst
bursts_of = bursts_below 8

-- first, first + every, .. , so many
abbrev pub evenly : ℕ → ℕ → ℕ → List ℕ
evenly first every zero = []
evenly first every (suc count) = evenly first every count ++ (first + count * every) ∷ []

-- a burst gives these times of timer k, each of them and no other
pub record IsTheBurst (k : ℕ) (h : HpetParts) (times : List ℕ) (b : Burst) : Type 0 where
  pub timer : b.timer ≡ k
  pub some : 0 < b.count
  pub falls : evenly b.first b.every b.count ≡ times
  pub alone : b.count ≡ 1 → b.every ≡ 0
  pub message : message_of k h ≡ Some (b.address, b.data)

-- .. and there is none where there are no times
abbrev pub IsBurst : ℕ → HpetParts → List ℕ → Option Burst → Type 0
IsBurst k h times None = times ≡ []
IsBurst k h times (Some b) = IsTheBurst k h times b
