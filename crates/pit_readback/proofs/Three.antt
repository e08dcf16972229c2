-- Three counters as a list.
use Rattle.std.proofs.Common.{◌≡◌, ◌≢◌, ℕ, zero, suc, ◌<◌, List, [], ◌∷◌, length, map, get_or, true, refl, ap, sym, ◌∙◌, arith}
use Rattle.std.proofs.lemmas.List.{get_or-set_other}
use Rattle.clk_units.specs.Bits.{bit}
use Rattle.pit_counter.specs.declared.parts.CounterParts.{CounterParts}
use Rattle.pit_counter.specs.Programming.{counter_at_power_on, gated}
use Rattle.pit_counter.specs.Table.{pulsed, pulsed_times}
use Rattle.pit_counter.proofs.Quiet.{pulsed_times-counter_at_power_on}
use Rattle.pit_readback.specs.Ports.{port_written, written_61}
use Rattle.pit_readback.specs.Pit.{counter_of, pit_pulsed, pit_pulsed_times}
use Rattle.pit_readback.specs.declared.parts.PitParts.{PitParts}

-- no pulses
pub pit_pulsed_times-zero : (p : PitParts) → pit_pulsed_times 0 p ≡ p
unfolding pit_pulsed_times
pit_pulsed_times-zero p = refl

-- one pulse more
pub pit_pulsed_times-suc : (n : ℕ) (p : PitParts) → pit_pulsed_times (suc n) p ≡ pit_pulsed (pit_pulsed_times n p)
unfolding pit_pulsed_times
pit_pulsed_times-suc n p = refl

map_same : (xs : List CounterParts) → map (pulsed_times 0) xs ≡ xs
unfolding pulsed_times
map_same [] = refl
map_same (x ∷ xs) = ap (λ (ys : List CounterParts). x ∷ ys) (map_same xs)

map_more : (n : ℕ) (xs : List CounterParts) → map pulsed (map (pulsed_times n) xs) ≡ map (pulsed_times (suc n)) xs
unfolding pulsed_times
map_more n [] = refl
map_more n (x ∷ xs) = ap (λ (ys : List CounterParts). pulsed (pulsed_times n x) ∷ ys) (map_more n xs)

-- n pulses are n pulses in each counter
pub pit_pulsed_times-each : (n : ℕ) (p : PitParts) → pit_pulsed_times n p ≡ record p { counters = map (pulsed_times n) p.counters }
unfolding pit_pulsed_times pit_pulsed
pit_pulsed_times-each zero p = ap (λ (xs : List CounterParts). record p { counters = xs }) (sym (map_same p.counters))
pit_pulsed_times-each (suc n) p = ap pit_pulsed (pit_pulsed_times-each n p)
    ∙ ap (λ (xs : List CounterParts). record p { counters = xs }) (map_more n p.counters)

-- where no counter is there a pulse changes nothing
get_or-map_pulsed : (n : ℕ) (xs : List CounterParts) (k : ℕ)
    → get_or (map (pulsed_times n) xs) k (counter_at_power_on true) ≡ pulsed_times n (get_or xs k (counter_at_power_on true))
get_or-map_pulsed n [] k = sym (pulsed_times-counter_at_power_on true n)
get_or-map_pulsed n (x ∷ xs) zero = refl
get_or-map_pulsed n (x ∷ xs) (suc k) = get_or-map_pulsed n xs k

-- one counter of them
pub counter_of-pit_pulsed_times : (n k : ℕ) (p : PitParts) → counter_of (pit_pulsed_times n p) k ≡ pulsed_times n (counter_of p k)
counter_of-pit_pulsed_times n k p = ap (λ (q : PitParts). counter_of q k) (pit_pulsed_times-each n p) ∙ get_or-map_pulsed n p.counters k

length-map_three : (f : CounterParts → CounterParts) (xs : List CounterParts) → length (map f xs) ≡ length xs
length-map_three f [] = refl
length-map_three f (x ∷ xs) = ap suc (length-map_three f xs)

pub length-pit_pulsed_times : (n : ℕ) (p : PitParts) → length (pit_pulsed_times n p).counters ≡ length p.counters
length-pit_pulsed_times n p = ap (λ (q : PitParts). length q.counters) (pit_pulsed_times-each n p) ∙ length-map_three (pulsed_times n) p.counters

-- a write of port 61h leaves counters 0 and 1 alone
pub counter_of-written_61 : (byte k : ℕ) (p : PitParts) → k < 2 → counter_of (written_61 byte p) k ≡ counter_of p k
unfolding written_61
counter_of-written_61 byte k p h =
    let apart : k ≢ 2 = λ (e : k ≡ 2). omega arith in
    get_or-set_other p.counters 2 k (gated (bit 0 byte) (counter_of p 2)) (counter_at_power_on true) apart

pub port_written-61 : (byte : ℕ) (p : PitParts) → port_written 0x61 byte p ≡ written_61 byte p
unfolding port_written
port_written-61 byte p = refl
