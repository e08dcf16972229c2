-- Words of the closed form of many pulses alone. Table defines what a pulse does.
use Rattle.std.specs.Prelude.{
  ◌≡◌,
  ◌≤◌,
  ℕ,
  ◌+◌,
  ◌-◌,
  ◌*◌,
  ◌/◌,
  ◌%◌,
  ◌^◌,
  ◌==◌,
  ◌&&◌,
  not,
  Bool,
  true,
  false,
  Option,
  Some,
  None,
  if◌then◌else◌,
}
use Rattle.pit_counter.specs.Mode.{mode_of, is_rate, is_square}
use Rattle.pit_counter.specs.Count.{modulus, meant_count}
use Rattle.pit_counter.specs.declared.table.Effect.{Effect}
use Rattle.pit_counter.specs.declared.table.Effect.TheVariants.{
  Load,
  DownToHigh,
  DownToLow,
  DownByTwo,
  DownToStrobe,
  Stand,
}
use Rattle.pit_counter.specs.declared.parts.CounterParts.{CounterParts}

-- how far the count goes down at each pulse
abbrev pub step_of : Effect → ℕ
step_of (Load level) = 0
step_of DownToHigh = 1
step_of DownToLow = 1
step_of DownByTwo = 2
step_of DownToStrobe = 1
step_of (Stand level) = 0

-- a pulse with this effect divides: mode 2 alone has it
abbrev pub divides : Effect → Bool
divides (Load level) = false
divides DownToHigh = false
divides DownToLow = true
divides DownByTwo = false
divides DownToStrobe = false
divides (Stand level) = false

-- a pulse with this effect changes nothing
abbrev pub is_still : Effect → Bool → Bool
is_still (Load level) out = false
is_still DownToHigh out = false
is_still DownToLow out = false
is_still DownByTwo out = false
is_still DownToStrobe out = false
is_still (Stand level) out = if level then out else not out

-- more pulses than are ever asked for
abbrev pub forever : ℕ
forever = 2 ^ 64 - 1

-- how far the count is above 0: the whole way round where it is 0
unfoldable pub height : CounterParts → ℕ
height c = if c.ce == 0 then modulus c.bits else c.ce

-- how many pulses with this effect leave all but the count as it is, and keep the effect
unfoldable pub quiet_for : Effect → CounterParts → ℕ
quiet_for (Load level) c = 0
quiet_for DownToHigh c = if c.out then forever else height c - 1
quiet_for DownToLow c = height c - 2
quiet_for DownByTwo c = if c.out && c.odd then c.ce / 2 else height c / 2 - 1
quiet_for DownToStrobe c = if c.out then (if c.armed then height c - 1 else forever) else 0
quiet_for (Stand level) c = if is_still (Stand level) c.out then forever else 0

-- the count lower by `down`
unfoldable pub glided_count : ℕ → ℕ → ℕ → ℕ
glided_count bits ce down = (ce + modulus bits - down % modulus bits) % modulus bits

-- the counter after n quiet pulses
unfoldable pub glided : Effect → ℕ → CounterParts → CounterParts
glided e n c = record c { ce = glided_count c.bits c.ce (step_of e * n) }

-- mode 2 counts with GATE high ..
abbrev pub is_rate_running : CounterParts → Bool
is_rate_running c = is_rate (mode_of c.bits) && c.gate && c.live && not c.trig

-- .. on to the load after a count of 1
unfoldable pub is_dividing : CounterParts → Bool
is_dividing c = is_rate_running c && not (c.ce == 1)

-- .. by this period
pub record DividesBy (n : ℕ) (c : CounterParts) : Type 0 where
  pub counts : is_dividing c ≡ true
  pub period : n ≡ meant_count c.bits c.cr
  pub short : n ≤ modulus c.bits

-- the same so many pulses before its next load, the last of them with OUT low
abbrev pub with_left : ℕ → CounterParts → CounterParts
with_left left c = record c { ce = left % modulus c.bits; out = not (left == 1) }

-- mode 3 counts with GATE high
unfoldable pub is_halving : CounterParts → Bool
is_halving c = is_square (mode_of c.bits) && c.gate && c.live && not c.trig

-- how many pulses are left then of the present half
unfoldable pub half_left : CounterParts → ℕ
half_left c = if c.out && c.odd then c.ce / 2 + 1 else height c / 2

-- and how many to the next rise: OUT rises with the load that ends the low half
unfoldable pub to_rise : CounterParts → ℕ
to_rise c = half_left c + (if c.out then meant_count c.bits c.cr / 2 else 0)

-- the first of both, where the second begins after the first m
abbrev pub joined_first : Option ℕ → ℕ → Option ℕ → Option ℕ
joined_first (Some k) m later = Some k
joined_first None m (Some j) = Some (m + j)
joined_first None m None = None
