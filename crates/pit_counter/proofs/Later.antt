-- What pulses leave for a read.
use Rattle.std.proofs.Common.{◌≡◌, ◌≢◌, if◌then◌else◌, ℕ, zero, suc, ◌/◌, ◌%◌, Bool, true, false, not, ◌&&◌, ◌||◌, cond, eqb, refl, sym, ap, ◌∙◌}
use Rattle.std.specs.Prelude.{IsTrue}
use Rattle.std.proofs.lemmas.Bool.{eqb-true, ne_eqb}
use Rattle.pit_counter.specs.Mode.{mode_of, access_of, is_bcd, takes_two}
use Rattle.pit_counter.specs.Table.{effect_in, affected, pulsed, pulsed_times}
use Rattle.pit_counter.specs.Count.{read_as, to_digits}
use Rattle.pit_counter.specs.Reading.{count_of, shown_count, reads_high, reads_last, byte_read, status_released, count_released, after_read}
use Rattle.pit_counter.specs.Parts.{IsCounter, only_where, read_order_valid, latched_count_valid}
use Rattle.pit_counter.specs.declared.table.Effect.{Effect}
use Rattle.pit_counter.specs.declared.table.Effect.TheVariants.{
  Load,
  DownToHigh,
  DownToLow,
  DownByTwo,
  DownToStrobe,
  Stand,
}
use Rattle.pit_counter.specs.declared.mode.Access.TheVariants.{LowByte, HighByte, LowThenHigh}
use Rattle.pit_counter.specs.declared.parts.CounterParts.{CounterParts}
use Rattle.pit_counter.proofs.Times.{pulsed_times-zero, pulsed_times-suc}

-- an effect changes a read by the count alone
byte_read-affected : (e : Effect) (c : CounterParts) (x : ℕ) → byte_read (record (affected e c) { ce = x }) ≡ byte_read (record c { ce = x })
unfolding byte_read shown_count count_of
byte_read-affected (Load level) c x = refl
byte_read-affected DownToHigh c x = refl
byte_read-affected DownToLow c x = refl
byte_read-affected DownByTwo c x = refl
byte_read-affected DownToStrobe c x = refl
byte_read-affected (Stand level) c x = refl

-- and so do pulses
byte_read-at : (c : CounterParts) (n x : ℕ) → byte_read (record (pulsed_times n c) { ce = x }) ≡ byte_read (record c { ce = x })
unfolding pulsed
byte_read-at c zero x = ap (λ (d : CounterParts). byte_read (record d { ce = x })) (pulsed_times-zero c)
byte_read-at c (suc n) x =
    let d : CounterParts = pulsed_times n c in
    ap (λ (d : CounterParts). byte_read (record d { ce = x })) (pulsed_times-suc n c)
    ∙ byte_read-affected (effect_in (mode_of d.bits) d) d x
    ∙ byte_read-at c n x

pub byte_read-later : (c : CounterParts) (n : ℕ) → byte_read (record c { ce = (pulsed_times n c).ce }) ≡ byte_read (pulsed_times n c)
byte_read-later c n = sym (byte_read-at c n (pulsed_times n c).ce)

first_of : (test : Bool) (x y z : ℕ) → test ≡ true → cond test x y ≡ cond test x z
first_of true x y z h = refl
first_of false x y z h = cc

-- what is latched is read at any count
pub byte_read-status : (c : CounterParts) (x : ℕ) → c.status_latched ≡ true → byte_read c ≡ byte_read (record c { ce = x })
unfolding byte_read
byte_read-status c x h = first_of c.status_latched _ _ _ h

pub byte_read-latched : (c : CounterParts) (x : ℕ) → c.count_latched ≡ true → byte_read c ≡ byte_read (record c { ce = x })
unfolding byte_read shown_count
byte_read-latched c x h =
    ap (λ (k : ℕ). cond c.status_latched c.latched_status (cond (reads_high (access_of c.bits) c.high_next) (k / 256) (k % 256)))
    (first_of c.count_latched _ _ _ h)

-- with nothing latched the present count is read
pub byte_read-present : (c : CounterParts) → c.status_latched ≡ false → c.count_latched ≡ false
    → cond (reads_high (access_of c.bits) c.high_next) (read_as c.bits c.ce / 256) (read_as c.bits c.ce % 256) ≡ byte_read c
unfolding byte_read shown_count count_of
byte_read-present c s l =
    let byte : ℕ → ℕ = λ k. cond (reads_high (access_of c.bits) c.high_next) (k / 256) (k % 256) in
    sym (ap (λ (b : Bool). cond b c.latched_status (byte (cond c.count_latched c.latched_count (read_as c.bits c.ce)))) s
    ∙ ap (λ (b : Bool). byte (cond b c.latched_count (read_as c.bits c.ce))) l)

-- ---- what a read with nothing latched leaves

-- the high byte is next only where there are two
same_next : (a t : Bool) → IsTrue (only_where a t) → t ≡ false → a ≡ (t && not a)
same_next a true h e = cc
same_next true false h e = cc
same_next false false h e = refl

pub one_byte-next : (c : CounterParts) → IsCounter c → takes_two (access_of c.bits) ≡ false → c.high_next ≡ (takes_two (access_of c.bits) && not c.high_next)
unfolding read_order_valid
one_byte-next c h e = same_next c.high_next (takes_two (access_of c.bits)) h.read_order e

-- a latched count is 0 where none is latched
none_latched : (b : Bool) (x : ℕ) → b ≡ false → IsTrue (b || eqb x 0) → x ≡ 0
none_latched true x e h = cc
none_latched false x e h = eqb-true x 0 h

zero_either : (b : Bool) (x : ℕ) → x ≡ 0 → x ≡ cond b 0 x
zero_either true x e = e
zero_either false x e = refl

-- RW1 and RW0 of 01 and 10 name one byte, and others both
pub takes_one : (bits rw : ℕ) → bits / 16 % 4 ≡ rw
    → takes_two (access_of bits) ≡ takes_two (if eqb rw 1 then LowByte else if eqb rw 2 then HighByte else LowThenHigh)
unfolding access_of
takes_one bits rw e = ap (λ (n : ℕ). takes_two (if eqb n 1 then LowByte else if eqb n 2 then HighByte else LowThenHigh)) e

pub takes_both : (bits : ℕ) → bits / 16 % 4 ≢ 1 → bits / 16 % 4 ≢ 2 → takes_two (access_of bits) ≡ true
unfolding access_of
takes_both bits not1 not2 =
    let rw = bits / 16 % 4 in
    ap (λ (b : Bool). takes_two (if b then LowByte else if eqb rw 2 then HighByte else LowThenHigh)) (ne_eqb rw 1 not1)
    ∙ ap (λ (b : Bool). takes_two (if b then HighByte else LowThenHigh)) (ne_eqb rw 2 not2)

pub after_read-present : (c : CounterParts) (next : Bool) → IsCounter c → c.status_latched ≡ false → c.count_latched ≡ false
    → next ≡ (takes_two (access_of c.bits) && not c.high_next) → record c { high_next = next } ≡ after_read c
unfolding after_read count_released latched_count_valid
after_read-present c next h s l e =
    let last : Bool = reads_last (access_of c.bits) c.high_next in
    let count : c.count_latched ≡ (c.count_latched && not last) = l ∙ sym (ap (λ (b : Bool). b && not last) l) in
    let latched : c.latched_count ≡ cond last 0 c.latched_count = zero_either last c.latched_count
    (none_latched c.count_latched c.latched_count l h.latched_count) in
    let released : record c { high_next = next } ≡ count_released c =
    λ i. record c { high_next = e i; count_latched = count i; latched_count = latched i } in
    released ∙ sym (ap (λ (b : Bool). cond b (status_released c) (count_released c)) s)

-- in binary the count reads as it is
pub read_as-binary : (bits ce : ℕ) → is_bcd bits ≡ false → read_as bits ce ≡ ce
unfolding read_as
read_as-binary bits ce h = ap (λ (b : Bool). cond b (to_digits ce) ce) h
