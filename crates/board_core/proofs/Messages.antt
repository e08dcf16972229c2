-- Messages of a stretch that begins later, and stretches without any.
use Rattle.std.proofs.Common.{◌≡◌, ℕ, zero, suc, ◌+◌, ◌/◌, ◌%◌, ◌^◌, ◌<◌, ◌≤◌, length, Bool, true, false, cond, ◌||◌, ◌&&◌, List, [], ◌∷◌, ◌++◌, Option, Some, None, refl}
use Rattle.std.proofs.Common.{sym, ap, subst, ◌∙◌, append-nil, inl, inr, arith}
use Rattle.std.proofs.lemmas.Bool.{cases_eq}
use Rattle.clk_units.specs.Pulses.{falls_at, pulses_by, pulses_from}
use Rattle.clk_units.proofs.Pulses.{pulses_from-joins}
use Rattle.hpet_registers.specs.declared.hpet.TheConstants.{HPET_HZ}
use Rattle.hpet_registers.specs.declared.parts.HpetParts.{HpetParts}
use Rattle.hpet_registers.specs.Stretch.{hpet_pulsed_times}
use Rattle.hpet_registers.proofs.Product.{hpet_pulsed_times-add}
use Rattle.hpet_bursts.specs.Messages.{message_next, message_at, message_times}
use Rattle.irq_edges.specs.declared.bursts.Burst.{Burst}
use Rattle.hpet_registers.proofs.Product.{message_word_at-hpet_pulsed_times}
use Rattle.hpet_bursts.specs.Bursts.{distance_of, burst_from, with_burst, bursts_below}
use Rattle.std.specs.Option.{option_or}
use Rattle.hpet_bursts.specs.Next.{first_where, sends_below}

-- the pulses of two stretches
pulses_from-joined : (hz t m n : ℕ) → pulses_from hz t (m + n) ≡ pulses_from hz t m + pulses_from hz (t + m) n
pulses_from-joined hz t m n =
    let place : pulses_by hz (t + (m + n)) ≡ pulses_by hz (t + m + n) = ap (pulses_by hz) (omega arith) in
    omega (arith, place, pulses_from-joins hz t (m + n), pulses_from-joins hz t m, pulses_from-joins hz (t + m) n)

-- a nanosecond of the second stretch
pub message_at-later : (k t m n : ℕ) (h : HpetParts) → message_at k t (m + n) h ≡ message_at k (t + m) n (hpet_pulsed_times (pulses_from HPET_HZ t m) h)
message_at-later k t m n h =
    let place : t + (m + n) + 1 ≡ t + m + n + 1 = omega arith in
    ap (λ (u : ℕ). falls_at HPET_HZ u && message_next k (hpet_pulsed_times (pulses_from HPET_HZ t (m + n)) h)) place
    ∙ ap (λ (j : ℕ). falls_at HPET_HZ (t + m + n + 1) && message_next k (hpet_pulsed_times j h)) (pulses_from-joined HPET_HZ t m n)
    ∙ ap (λ (x : HpetParts). falls_at HPET_HZ (t + m + n + 1) && message_next k x)
    (hpet_pulsed_times-add (pulses_from HPET_HZ t m) (pulses_from HPET_HZ (t + m) n) h)

-- a stretch in which none is sent
times-silent : (k t n : ℕ) (h : HpetParts) → ((i : ℕ) → i < n → message_at k t i h ≡ false) → message_times k t n h ≡ []
times-silent k t zero h none = refl
times-silent k t (suc n) h none =
    ap (λ (b : Bool). message_times k t n h ++ cond b ((t + n + 1) ∷ []) []) (none n (omega arith))
    ∙ append-nil (message_times k t n h)
    ∙ times-silent k t n h (λ i less. none i (omega (arith, less)))

pub bursts-silent : (m t n : ℕ) (h : HpetParts) → ((k i : ℕ) → k < m → i < n → message_at k t i h ≡ false) → bursts_below m t n h ≡ []
unfolding bursts_below
bursts-silent zero t n h none = refl
bursts-silent (suc m) t n h none =
    ap (λ (times : List ℕ). with_burst (bursts_below m t n h) (burst_from m h times)) (times-silent m t n h (λ i less. none m i (omega arith) less))
    ∙ bursts-silent m t n h (λ k i small less. none k i (omega (arith, small)) less)

-- after a stretch in which a timer sends none, its messages are those of the rest
times-later : (k t m n : ℕ) (h : HpetParts) → ((i : ℕ) → i < m → message_at k t i h ≡ false)
    → message_times k t (m + n) h ≡ message_times k (t + m) n (hpet_pulsed_times (pulses_from HPET_HZ t m) h)
times-later k t m zero h none =
    let all : m + 0 ≡ m = omega arith in
    ap (λ (j : ℕ). message_times k t j h) all ∙ times-silent k t m h none
times-later k t m (suc n) h none =
    let x : HpetParts = hpet_pulsed_times (pulses_from HPET_HZ t m) h in
    let more : m + suc n ≡ suc (m + n) = omega arith in
    let at : t + (m + n) + 1 ≡ t + m + n + 1 = omega arith in
    ap (λ (j : ℕ). message_times k t j h) more
    ∙ ap (λ (l : List ℕ). l ++ cond (message_at k t (m + n) h) ((t + (m + n) + 1) ∷ []) []) (times-later k t m n h none)
    ∙ ap (λ (b : Bool). message_times k (t + m) n x ++ cond b ((t + (m + n) + 1) ∷ []) []) (message_at-later k t m n h)
    ∙ ap (λ (u : ℕ). message_times k (t + m) n x ++ cond (message_at k (t + m) n x) (u ∷ []) []) at

burst : ℕ → ℕ → ℕ → ℕ → ℕ → Burst
burst k first count every word = record {
  timer = k;
  first = first;
  count = count;
  every = every;
  address = word / 2 ^ 32;
  «data» = word % 2 ^ 32;
}

-- a pulse leaves the message registers
burst_from-pulsed : (k i : ℕ) (h : HpetParts) (times : List ℕ) → burst_from k h times ≡ burst_from k (hpet_pulsed_times i h) times
unfolding burst
burst_from-pulsed k i h [] = refl
burst_from-pulsed k i h (t ∷ ts) =
    ap (λ (w : ℕ). Some (burst k t (length (t ∷ ts)) (distance_of (t ∷ ts)) w)) (sym (message_word_at-hpet_pulsed_times k i h))

pub bursts-later : (j t m n : ℕ) (h : HpetParts) → ((k i : ℕ) → k < j → i < m → message_at k t i h ≡ false)
    → bursts_below j t (m + n) h ≡ bursts_below j (t + m) n (hpet_pulsed_times (pulses_from HPET_HZ t m) h)
unfolding bursts_below
bursts-later zero t m n h none = refl
bursts-later (suc j) t m n h none =
    let i : ℕ = pulses_from HPET_HZ t m in
    let x : HpetParts = hpet_pulsed_times i h in
    ap (λ (bs : List Burst). with_burst bs (burst_from j h (message_times j t (m + n) h)))
    (bursts-later j t m n h (λ k at small less. none k at (omega (arith, small)) less))
    ∙ ap (λ (times : List ℕ). with_burst (bursts_below j (t + m) n x) (burst_from j h times))
    (times-later j t m n h (λ at less. none j at (omega arith) less))
    ∙ ap (with_burst (bursts_below j (t + m) n x)) (burst_from-pulsed j i h (message_times j (t + m) n x))

-- what the first nanosecond of which a test holds says of those before it
abbrev pub Found : (ℕ → Bool) → ℕ → ℕ → Option ℕ → Type 0
Found test t n None = (i : ℕ) → i < n → test i ≡ false
Found test t n (Some s) = (t < s) × (s ≤ t + n) × ((i : ℕ) → t + i + 1 < s → test i ≡ false)

pub found : (test : ℕ → Bool) (t n : ℕ) → Found test t n (first_where test t n)
unfolding first_where
found test t zero = λ i less. absurd (omega (arith, less))
found test t (suc n) = by (first_where test t n) (test n) refl (found test t n)
  where
    by : (a : Option ℕ) (c : Bool) → test n ≡ c → Found test t n a → Found test t (suc n) (option_or a (cond c (Some (t + n + 1)) None))
    by (Some s) c e f = (f.0, omega (arith, f.1), f.2)
    by None true e f = (omega arith, omega arith, λ i less. f i (omega (arith, less)))
    by None false e f = λ i less. elim (cases_eq i n) [
      | inl same ↦ ap test same ∙ e
      | inr other ↦ f i (omega (arith, less, other))
    ]

-- that of messages comes after the stretch begins, and not after its end
pub message-in : (t n : ℕ) (h : HpetParts) (s : ℕ) → Some s ≡ first_where (sends_below 8 t h) t n → (t < s) × (s ≤ t + n)
message-in t n h s is = let f = subst (Found (sends_below 8 t h) t n) (sym is) (found (sends_below 8 t h) t n) in (f.0, f.1)

-- where no timer sends, none of them does
sends-each : (m k t i : ℕ) (h : HpetParts) → k < m → sends_below m t h i ≡ false → message_at k t i h ≡ false
unfolding sends_below
sends-each zero k t i h less e = absurd (omega (arith, less))
sends-each (suc m) k t i h less e = elim (cases_eq k m) [
  | inl same ↦ ap (λ (j : ℕ). message_at j t i h) same ∙ last (sends_below m t h i) (message_at m t i h) e
  | inr other ↦ sends-each m k t i h (omega (arith, less, other)) (first (sends_below m t h i) (message_at m t i h) e)
]
  where
    first : (a b : Bool) → (a || b) ≡ false → a ≡ false
    first false b e = refl
    first true b e = e

    last : (a b : Bool) → (a || b) ≡ false → b ≡ false
    last false b e = e
    last true false e = refl
    last true true e = e

-- before the next message there is none
abbrev pub IsWithin : ℕ → ℕ → ℕ → Option ℕ → Type 0
IsWithin t n m None = m ≤ n
IsWithin t n m (Some s) = t + m < s

pub silent-before : (t n m : ℕ) (h : HpetParts) (next : Option ℕ) → next ≡ first_where (sends_below 8 t h) t n → IsWithin t n m next
    → (k i : ℕ) → k < 8 → i < m → message_at k t i h ≡ false
silent-before t n m h next is within k i small less =
    sends-each 8 k t i h small (at next (subst (Found (sends_below 8 t h) t n) (sym is) (found (sends_below 8 t h) t n)) within)
  where
    at : (o : Option ℕ) → Found (sends_below 8 t h) t n o → IsWithin t n m o → sends_below 8 t h i ≡ false
    at None f w = f i (omega (arith, less, w))
    at (Some s) f w = f.2 i (omega (arith, less, w))
