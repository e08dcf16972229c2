-- How long a generated trace is.
use Rattle.std.proofs.Common.{
  ℕ,
  zero,
  suc,
  ◌+◌,
  ◌-◌,
  ◌*◌,
  ◌%◌,
  ◌^◌,
  ◌==◌,
  ◌<◌,
  ◌≤◌,
  Bool,
  true,
  false,
  cond,
  List,
  [],
  ◌∷◌,
  ◌++◌,
  length,
  decimal,
  arith,
  length-append,
  lit≤,
}
use Rattle.std.specs.Prelude.{codes}
use Rattle.std.proofs.lemmas.Fmt.{length-decimal-le}
use Rattle.trace_gen.specs.Draws.{at_key, drawn, kind_of, byte_of}
use Rattle.trace_gen.specs.Text.{act_text, record_text, records_text, enable_text, enables_text, header_text, gen_text}
use Rattle.trace_gen.specs.declared.draws.Draws.{Draws}

-- its numbers are in range
pub record IsInRange (d : Draws) (left : ℕ) : Type 0 where
  pub records : d.made + left ≤ 200000
  pub h : d.h ≤ 100000 * d.made

-- and stay in it
pub IsInRange-drawn : (d : Draws) (left : ℕ) → IsInRange d (suc left) → IsInRange (drawn d) left
IsInRange-drawn d left h = record { records = omega arith; h = omega arith }

-- a number of 64 bits
pub length-number : (n : ℕ) → n < 2 ^ 64 → length (decimal n) ≤ 20
length-number n h = length-decimal-le 20 n (omega arith) (omega arith) h

-- one of two texts
either : (t : Bool) (xs ys : List ℕ) → length xs ≤ 11 → length ys ≤ 11 → length (cond t xs ys) ≤ 11
either true xs ys a b = a
either false xs ys a b = b

-- what a record does
pub length-act_text : (kind b : ℕ) → length (act_text kind b) ≤ 11
unfolding act_text
length-act_text kind b =
    either (kind == 0) _ _ (lit≤ tt)
    (either (kind == 1) _ _ (lit≤ tt)
    (either (kind == 2) _ _ (lit≤ tt)
    (either (kind == 3) _ _ (lit≤ tt)
    (either (kind == 4) _ _ (lit≤ tt)
    (either (kind == 5) _ _ (lit≤ tt)
    (either (kind == 6) _ _ (lit≤ tt)
    (either (kind == 7) _ _ (lit≤ tt)
    (either (kind == 8) _ _ (lit≤ tt)
    (either (kind == 9) _ _ (lit≤ tt)
    (either (kind == 10) _ _ (lit≤ tt)
    (either (kind == 11) _ _ (lit≤ tt)
    (either (kind == 12) _ _ (lit≤ tt)
    (either (kind == 13) _ _ (lit≤ tt)
    (either (kind == 14) _ _ (lit≤ tt) (lit≤ tt)))))))))))))))

-- a record
pub length-record_text : (cpus : ℕ) (d : Draws) → 0 < cpus → cpus ≤ 16 → d.h < 2 ^ 63 → length (record_text cpus d) ≤ 64
unfolding record_text
length-record_text cpus d some most h =
    let act : List ℕ = act_text (kind_of d.state) (byte_of d.state) in
    let cpu = length-number ((d.made - 1) % cpus) (omega arith) in
    let counter = length-number d.h (omega arith) in
    let does = length-act_text (kind_of d.state) (byte_of d.state) in
    omega (
      arith,
      length-append (decimal ((d.made - 1) % cpus)) (32 ∷ (decimal d.h ++ 32 ∷ (act ++ 10 ∷ []))),
      length-append (decimal d.h) (32 ∷ (act ++ 10 ∷ [])),
      length-append act (10 ∷ []),
    )

-- records
pub length-records_text : (count cpus : ℕ) (d : Draws) → 0 < cpus → cpus ≤ 16 → IsInRange d count → length (records_text count cpus d) ≤ 64 * count
unfolding records_text
length-records_text zero cpus d some most h = omega arith
length-records_text (suc count) cpus d some most h =
    let next = IsInRange-drawn d count h in
    let first = length-record_text cpus (drawn d) some most (omega (arith, next.h, next.records)) in
    let rest = length-records_text count cpus (drawn d) some most next in
    omega (arith, first, rest, length-append (record_text cpus (drawn d)) (records_text count cpus (drawn d)))

-- pages that are switched on
pub length-enables_text : (count cpu : ℕ) → cpu + count ≤ 16 → length (enables_text count cpu) ≤ 64 * count
unfolding enables_text enable_text
length-enables_text zero cpu h = omega arith
length-enables_text (suc count) cpu h =
    let number = length-number cpu (omega arith) in
    let rest = length-enables_text count (cpu + 1) (omega arith) in
    omega (
      arith,
      length-append (decimal cpu) (codes " 0 wrmsr 4b564d01 1\n"),
      length-append (decimal cpu ++ codes " 0 wrmsr 4b564d01 1\n") (enables_text count (cpu + 1)),
    )

-- a whole trace
pub length-gen_text : (key records cpus : ℕ) → records ≤ 200000 → 0 < cpus → cpus ≤ 16 → length (gen_text key records cpus) ≤ 2 ^ 24
unfolding gen_text header_text
length-gen_text key records cpus few some most =
    let number = length-number cpus (omega arith) in
    let pages = length-enables_text cpus 0 (omega arith) in
    let range : IsInRange (at_key key) records = record { records = omega arith; h = omega arith } in
    let lines = length-records_text records cpus (at_key key) some most range in
    let text : List ℕ = records_text records cpus (at_key key) in
    let start : List ℕ = codes "0 0 hw 10 4 1\n" ++ (text ++ codes "end\n") in
    omega (
      arith,
      length-append text (codes "end\n"),
      length-append (enables_text cpus 0) start,
      length-append (decimal cpus) (codes "\nbegin\n"),
      length-append (decimal cpus ++ codes "\nbegin\n") (enables_text cpus 0 ++ start),
    )
