-- Counts in binary and in BCD. Intel 8254 data sheet, "Programming the 8254".
use Rattle.std.specs.Prelude.{ℕ, ◌+◌, ◌-◌, ◌*◌, ◌/◌, ◌%◌, ◌==◌, ◌&&◌, Bool, if◌then◌else◌}
use Rattle.pit_counter.specs.Mode.{mode_of, is_bcd, is_periodic, is_square}

-- how many counts there are: the counting element runs from this less 1 to 0, and on from there
unfoldable pub modulus : ℕ → ℕ
modulus bits = if is_bcd bits then 10000 else 65536

-- four decimal digits as a number; a digit above 9 counts as its value (own)
unfoldable pub from_digits : ℕ → ℕ
from_digits word = word / 4096 * 1000 + word / 256 % 16 * 100 + word / 16 % 16 * 10 + word % 16

-- a number below 10,000 as four decimal digits
unfoldable pub to_digits : ℕ → ℕ
to_digits n = n / 1000 * 4096 + n / 100 % 10 * 256 + n / 10 % 10 * 16 + n % 10

-- the number that a count register holds
unfoldable pub number_in : ℕ → ℕ → ℕ
number_in bits cr = if is_bcd bits then from_digits cr % 10000 else cr

-- the count that a count register means: 0 means the greatest count, 2^16 or 10^4, and in modes 2
-- and 3 a count of 1, which the sheet forbids, acts as 2 (own)
unfoldable pub meant_count : ℕ → ℕ → ℕ
meant_count bits cr =
    let n = number_in bits cr in
    if n == 0 then modulus bits
    else if n == 1 && is_periodic (mode_of bits) then 2
    else n

-- whether the count is odd where that matters: in mode 3
unfoldable pub is_odd_square : ℕ → ℕ → Bool
is_odd_square bits cr = is_square (mode_of bits) && meant_count bits cr % 2 == 1

-- what a load puts into the counting element: the count, in mode 3 an odd one less 1; the greatest
-- count is 0 there
unfoldable pub loaded_count : ℕ → ℕ → ℕ
loaded_count bits cr =
    (meant_count bits cr - (if is_odd_square bits cr then 1 else 0)) % modulus bits

-- the count lower by `by`, going round below 0
unfoldable pub lowered : ℕ → ℕ → ℕ → ℕ
lowered bits ce by = (ce + modulus bits - by) % modulus bits

-- the counting element as the processor reads it: in BCD as four digits
unfoldable pub read_as : ℕ → ℕ → ℕ
read_as bits ce = if is_bcd bits then to_digits ce else ce
