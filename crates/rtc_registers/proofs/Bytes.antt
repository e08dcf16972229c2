-- Lemmas on the bytes: the time, register C and the rest are apart.
use Rattle.std.proofs.Common.{◌≡◌, ℕ, ◌≤◌, Bool, true, false, List, [], ◌∷◌, length, get_or, set, refl, arith}
use Rattle.rtc_calendar.specs.declared.TimeBytes.{TimeBytes}
use Rattle.clk_units.specs.Bits.{bit}
use Rattle.rtc_registers.specs.Registers.{flags_byte, time_in, with_time}

-- of a list of at least 14 bytes it is enough to look at lists that are written out that far
fourteen : (P : List ℕ → Type 0)
    → ((b0 b1 b2 b3 b4 b5 b6 b7 b8 b9 b10 b11 b12 b13 : ℕ) (rest : List ℕ)
    → P (b0 ∷ b1 ∷ b2 ∷ b3 ∷ b4 ∷ b5 ∷ b6 ∷ b7 ∷ b8 ∷ b9 ∷ b10 ∷ b11 ∷ b12 ∷ b13 ∷ rest)) → (bs : List ℕ) → 14 ≤ length bs → P bs
fourteen P shown [] h = absurd (omega arith)
fourteen P shown (b0 ∷ []) h = absurd (omega arith)
fourteen P shown (b0 ∷ b1 ∷ []) h = absurd (omega arith)
fourteen P shown (b0 ∷ b1 ∷ b2 ∷ []) h = absurd (omega arith)
fourteen P shown (b0 ∷ b1 ∷ b2 ∷ b3 ∷ []) h = absurd (omega arith)
fourteen P shown (b0 ∷ b1 ∷ b2 ∷ b3 ∷ b4 ∷ []) h = absurd (omega arith)
fourteen P shown (b0 ∷ b1 ∷ b2 ∷ b3 ∷ b4 ∷ b5 ∷ []) h = absurd (omega arith)
fourteen P shown (b0 ∷ b1 ∷ b2 ∷ b3 ∷ b4 ∷ b5 ∷ b6 ∷ []) h = absurd (omega arith)
fourteen P shown (b0 ∷ b1 ∷ b2 ∷ b3 ∷ b4 ∷ b5 ∷ b6 ∷ b7 ∷ []) h = absurd (omega arith)
fourteen P shown (b0 ∷ b1 ∷ b2 ∷ b3 ∷ b4 ∷ b5 ∷ b6 ∷ b7 ∷ b8 ∷ []) h = absurd (omega arith)
fourteen P shown (b0 ∷ b1 ∷ b2 ∷ b3 ∷ b4 ∷ b5 ∷ b6 ∷ b7 ∷ b8 ∷ b9 ∷ []) h = absurd (omega arith)
fourteen P shown (b0 ∷ b1 ∷ b2 ∷ b3 ∷ b4 ∷ b5 ∷ b6 ∷ b7 ∷ b8 ∷ b9 ∷ b10 ∷ []) h = absurd (omega arith)
fourteen P shown (b0 ∷ b1 ∷ b2 ∷ b3 ∷ b4 ∷ b5 ∷ b6 ∷ b7 ∷ b8 ∷ b9 ∷ b10 ∷ b11 ∷ []) h = absurd (omega arith)
fourteen P shown (b0 ∷ b1 ∷ b2 ∷ b3 ∷ b4 ∷ b5 ∷ b6 ∷ b7 ∷ b8 ∷ b9 ∷ b10 ∷ b11 ∷ b12 ∷ []) h = absurd (omega arith)
fourteen P shown (b0 ∷ b1 ∷ b2 ∷ b3 ∷ b4 ∷ b5 ∷ b6 ∷ b7 ∷ b8 ∷ b9 ∷ b10 ∷ b11 ∷ b12 ∷ b13 ∷ rest) h = shown b0 b1 b2 b3 b4 b5 b6 b7 b8 b9 b10 b11 b12 b13 rest

-- which byte is where, once the time and register C are written
pub record Moved (t : TimeBytes) (flags : ℕ) (bs : List ℕ) : Type 0 where
  pub time : time_in (set (with_time t bs) 12 flags) ≡ t
  pub alarm_sec : get_or (set (with_time t bs) 12 flags) 1 0 ≡ get_or bs 1 0
  pub alarm_min : get_or (set (with_time t bs) 12 flags) 3 0 ≡ get_or bs 3 0
  pub alarm_hour : get_or (set (with_time t bs) 12 flags) 5 0 ≡ get_or bs 5 0
  pub register_a : get_or (set (with_time t bs) 12 flags) 10 0 ≡ get_or bs 10 0
  pub register_b : get_or (set (with_time t bs) 12 flags) 11 0 ≡ get_or bs 11 0
  pub register_c : get_or (set (with_time t bs) 12 flags) 12 0 ≡ flags
  pub register_d : get_or (set (with_time t bs) 12 flags) 13 0 ≡ get_or bs 13 0
  pub places : length (set (with_time t bs) 12 flags) ≡ length bs
  -- what is written last counts
  pub again : (u : TimeBytes) (later : ℕ) → set (with_time u (set (with_time t bs) 12 flags)) 12 later ≡ set (with_time u bs) 12 later
  pub flags_again : (later : ℕ) → set (set (with_time t bs) 12 flags) 12 later ≡ set (with_time t bs) 12 later
  pub flags_before : (earlier : ℕ) → set (with_time t (set bs 12 earlier)) 12 flags ≡ set (with_time t bs) 12 flags

pub moved-bytes : (t : TimeBytes) (flags : ℕ) (bs : List ℕ) → 14 ≤ length bs → Moved t flags bs
unfolding with_time
moved-bytes t flags bs h = fourteen (Moved t flags) (λ b0 b1 b2 b3 b4 b5 b6 b7 b8 b9 b10 b11 b12 b13 rest. record {
  time = refl;
  alarm_sec = refl;
  alarm_min = refl;
  alarm_hour = refl;
  register_a = refl;
  register_b = refl;
  register_c = refl;
  register_d = refl;
  places = refl;
  again = λ u later. refl;
  flags_again = λ later. refl;
  flags_before = λ earlier. refl;
}) bs h

-- the bytes written as they are
pub same-bytes : (bs : List ℕ) → 14 ≤ length bs → set (with_time (time_in bs) bs) 12 (get_or bs 12 0) ≡ bs
unfolding with_time
same-bytes bs h = fourteen (λ xs. set (with_time (time_in xs) xs) 12 (get_or xs 12 0) ≡ xs) (λ b0 b1 b2 b3 b4 b5 b6 b7 b8 b9 b10 b11 b12 b13 rest. refl) bs h

-- the time written as it is
pub same-time : (flags : ℕ) (bs : List ℕ) → 14 ≤ length bs → set (with_time (time_in bs) bs) 12 flags ≡ set bs 12 flags
unfolding with_time
same-time flags bs h = fourteen (λ xs. set (with_time (time_in xs) xs) 12 flags ≡ set xs 12 flags)
    (λ b0 b1 b2 b3 b4 b5 b6 b7 b8 b9 b10 b11 b12 b13 rest. refl) bs h

-- which byte is where, once register C is written
pub record Flagged (flags : ℕ) (bs : List ℕ) : Type 0 where
  pub time : time_in (set bs 12 flags) ≡ time_in bs
  pub alarm_sec : get_or (set bs 12 flags) 1 0 ≡ get_or bs 1 0
  pub alarm_min : get_or (set bs 12 flags) 3 0 ≡ get_or bs 3 0
  pub alarm_hour : get_or (set bs 12 flags) 5 0 ≡ get_or bs 5 0
  pub register_a : get_or (set bs 12 flags) 10 0 ≡ get_or bs 10 0
  pub register_b : get_or (set bs 12 flags) 11 0 ≡ get_or bs 11 0
  pub register_c : get_or (set bs 12 flags) 12 0 ≡ flags
  pub register_d : get_or (set bs 12 flags) 13 0 ≡ get_or bs 13 0
  pub places : length (set bs 12 flags) ≡ length bs

pub flagged-bytes : (flags : ℕ) (bs : List ℕ) → 14 ≤ length bs → Flagged flags bs
flagged-bytes flags bs h = fourteen (Flagged flags) (λ b0 b1 b2 b3 b4 b5 b6 b7 b8 b9 b10 b11 b12 b13 rest. record {
  time = refl;
  alarm_sec = refl;
  alarm_min = refl;
  alarm_hour = refl;
  register_a = refl;
  register_b = refl;
  register_c = refl;
  register_d = refl;
  places = refl;
}) bs h

-- the flags are the bits of their byte
flags-read : (pf af uf : Bool) → (bit 6 (flags_byte pf af uf) ≡ pf) × (bit 5 (flags_byte pf af uf) ≡ af) × (bit 4 (flags_byte pf af uf) ≡ uf)
flags-read true true true = (refl, refl, refl)
flags-read true true false = (refl, refl, refl)
flags-read true false true = (refl, refl, refl)
flags-read true false false = (refl, refl, refl)
flags-read false true true = (refl, refl, refl)
flags-read false true false = (refl, refl, refl)
flags-read false false true = (refl, refl, refl)
flags-read false false false = (refl, refl, refl)

pub bit-pf : (pf af uf : Bool) → bit 6 (flags_byte pf af uf) ≡ pf
bit-pf pf af uf = (flags-read pf af uf).0

pub bit-af : (pf af uf : Bool) → bit 5 (flags_byte pf af uf) ≡ af
bit-af pf af uf = (flags-read pf af uf).1

pub bit-uf : (pf af uf : Bool) → bit 4 (flags_byte pf af uf) ≡ uf
bit-uf pf af uf = (flags-read pf af uf).2

-- the byte of its own flags
pub flags_byte-read : (pf af uf : Bool)
    → flags_byte pf af uf ≡ flags_byte (bit 6 (flags_byte pf af uf)) (bit 5 (flags_byte pf af uf)) (bit 4 (flags_byte pf af uf))
flags_byte-read pf af uf = rw (bit-pf pf af uf, bit-af pf af uf, bit-uf pf af uf) refl
