-- The times of messages.
use Rattle.std.proofs.Common.{◌≡◌, ℕ, zero, suc, ◌+◌, ◌-◌, ◌*◌, ◌/◌, ◌%◌, ◌^◌, ◌<◌, ◌≤◌, Bool, true, false, cond, ◌&&◌, leb, List, [], ◌∷◌, ◌++◌, min, Option, Some, None, is_some, inl, inr, refl, sym, ap, subst, ◌∙◌, append-nil, arith}
use Rattle.std.proofs.lemmas.Bool.{cases_lt, lt-ltb, le-ltb, le-leb, ltb-true, false≢true}
use Rattle.std.proofs.lemmas.Nat.{div-mul-add}
use Rattle.clk_units.specs.Events.{first_at}
use Rattle.clk_units.proofs.Events.{CountsUp-mono}
use Rattle.hpet_comparator.specs.Stretch.{spacing_of}
use Rattle.hpet_comparator.proofs.Rounds.{spacing_of-pos}
use Rattle.hpet_registers.specs.Parts.{timer_at, message_word_at}
use Rattle.hpet_registers.specs.Outputs.{message_of}
use Rattle.hpet_registers.proofs.Product.{CountsUp-matches_of}
use Rattle.clk_units.specs.Pulses.{falls_at, pulses_by, pulses_from, time_of}
use Rattle.clk_units.proofs.Pulses.{pulses_from-zero, pulses_from-more, pulses_from-joins, pulses_from-mono}
use Rattle.hpet_comparator.specs.Stretch.{falls_on}
use Rattle.hpet_comparator.specs.declared.stretch.Matches.{Matches}
use Rattle.hpet_registers.specs.declared.hpet.TheConstants.{HPET_HZ}
use Rattle.hpet_registers.specs.declared.parts.HpetParts.{HpetParts}
use Rattle.hpet_registers.specs.Outputs.{is_message}
use Rattle.hpet_registers.specs.Stretch.{matches_next, hpet_pulsed_times, matches_of}
use Rattle.hpet_registers.proofs.After.{is_message-hpet_pulsed_times}
use Rattle.hpet_bursts.specs.Messages.{message_next, message_times}
use Rattle.hpet_bursts.specs.Bursts.{evenly}
use Rattle.hpet_bursts.specs.private.Matches.{AreMatches}
use Rattle.hpet_bursts.proofs.Falls.{fallen, fallen-step}

-- nothing more
nothing : (xs ys : List ℕ) (b : Bool) (u : ℕ) → xs ≡ ys → b ≡ false → xs ++ cond b (u ∷ []) [] ≡ ys
nothing xs ys b u e low = ap (λ (c : Bool). xs ++ cond c (u ∷ []) []) low ∙ append-nil xs ∙ e

never : (a b : Bool) → b ≡ false → (a && b) ≡ false
never true b low = low
never false b low = refl

-- no messages, where the timer sends none
pub times-none : (k t n : ℕ) (h : HpetParts) → is_message k h ≡ false → message_times k t n h ≡ []
times-none k t zero h silent = refl
times-none k t (suc n) h silent =
    nothing (message_times k t n h) [] (falls_at HPET_HZ (t + n + 1) && message_next k (hpet_pulsed_times (pulses_from HPET_HZ t n) h)) (t + n + 1)
    (times-none k t n h silent) (never (falls_at HPET_HZ (t + n + 1)) (message_next k (hpet_pulsed_times (pulses_from HPET_HZ t n) h))
    (ap (λ (b : Bool). b && matches_next k (hpet_pulsed_times (pulses_from HPET_HZ t n) h))
    (is_message-hpet_pulsed_times k (pulses_from HPET_HZ t n) h ∙ silent)))

-- a pulse falls at each tenth nanosecond
falls-time : (u : ℕ) → falls_at HPET_HZ u ≡ true → u ≡ 10 * pulses_by HPET_HZ u
unfolding falls_at pulses_by
falls-time u falls =
    let less : (u - 1) * 100000000 / 1000000000 < u * 100000000 / 1000000000 = ltb-true _ _ falls in
    omega (arith, less)

-- .. or where no match comes
pub times-quiet : (k t n : ℕ) (h : HpetParts) → ((i : ℕ) → i < pulses_from HPET_HZ t n → matches_next k (hpet_pulsed_times i h) ≡ false)
    → message_times k t n h ≡ []
times-quiet k t zero h none = refl
times-quiet k t (suc n) h none =
    nothing (message_times k t n h) [] (falls_at HPET_HZ (t + n + 1) && message_next k (hpet_pulsed_times m h)) (t + n + 1)
    (times-quiet k t n h (λ i less. none i (omega (arith, less, pulses_from-mono HPET_HZ t n (suc n) (omega arith)))))
    (by (falls_at HPET_HZ (t + n + 1)) refl)
  where
    m : ℕ
    m = pulses_from HPET_HZ t n

    by : (b : Bool) → falls_at HPET_HZ (t + n + 1) ≡ b → (b && message_next k (hpet_pulsed_times m h)) ≡ false
    by false e = refl
    by true e =
        let grows : pulses_from HPET_HZ t (suc n) ≡ suc m =
        pulses_from-more HPET_HZ t n (omega arith) ∙ ap (λ (b : Bool). cond b (suc m) m) e in
        never (is_message k (hpet_pulsed_times m h)) (matches_next k (hpet_pulsed_times m h)) (none m (omega (arith, grows)))

-- as many matches as fall
pub matches-fallen : (k : ℕ) (h : HpetParts) (d c s n : ℕ) → 0 < d → 0 < s
    → ((i : ℕ) → i < n → matches_next k (hpet_pulsed_times i h) ≡ falls_on (Some d) c s (suc i))
    → (m : ℕ) → m ≤ n → matches_of k h m ≡ fallen d c s m
matches-fallen k h d c s n ahead some every zero less = sym (ap (λ (b : Bool). min c (cond b 0 ((0 - d) / s + 1))) (lt-ltb 0 d ahead) ∙ omega arith)
matches-fallen k h d c s n ahead some every (suc m) less =
    ap (λ (b : Bool). cond b (suc (matches_of k h m)) (matches_of k h m)) (every m (omega (arith, less)))
    ∙ ap (λ (x : ℕ). cond (falls_on (Some d) c s (suc m)) (suc x) x) (matches-fallen k h d c s n ahead some every m (omega (arith, less)))
    ∙ sym (fallen-step d c s m ahead some).0

-- the messages of a timer are even
module _ (k t : ℕ) (h : HpetParts) (d c s : ℕ) (sends : is_message k h ≡ true) (ahead : 0 < d) (some : 0 < s) where
  pub times-even : (n : ℕ) → ((i : ℕ) → i < pulses_from HPET_HZ t n → matches_next k (hpet_pulsed_times i h) ≡ falls_on (Some d) c s (suc i))
      → message_times k t n h ≡ evenly (10 * (pulses_by HPET_HZ t + d)) (10 * s) (fallen d c s (pulses_from HPET_HZ t n))
  times-even zero every =
      let none : fallen d c s (pulses_from HPET_HZ t 0) ≡ 0 =
      ap (fallen d c s) (pulses_from-zero HPET_HZ t) ∙ ap (λ (b : Bool). min c (cond b 0 ((0 - d) / s + 1))) (lt-ltb 0 d ahead) ∙ omega arith in
      sym (ap (evenly (10 * (pulses_by HPET_HZ t + d)) (10 * s)) none)
  times-even (suc n) every = by (falls_at HPET_HZ (t + n + 1)) refl (times-even n (λ i less. every i
      (omega (arith, less, pulses_from-mono HPET_HZ t n (suc n) (omega arith)))))
    where
      m : ℕ
      m = pulses_from HPET_HZ t n

      a : ℕ
      a = 10 * (pulses_by HPET_HZ t + d)

      even : (p d q s x : ℕ) → x ≡ d + q * s → 10 * (p + x) ≡ 10 * (p + d) + q * (10 * s)
      even p d q s x e = omega (arith, e)

      at : (f : Bool) → falls_on (Some d) c s (suc m) ≡ f → t + n + 1 ≡ 10 * (pulses_by HPET_HZ t + suc m)
          → evenly a (10 * s) (fallen d c s m) ++ cond f ((t + n + 1) ∷ []) [] ≡ evenly a (10 * s) (fallen d c s (suc m))
      at false e time =
          append-nil (evenly a (10 * s) (fallen d c s m))
          ∙ ap (evenly a (10 * s)) (sym ((fallen-step d c s m ahead some).0 ∙ ap (λ (b : Bool). cond b (suc (fallen d c s m)) (fallen d c s m)) e))
      at true e time =
          let q : ℕ = fallen d c s m in
          let which : suc m ≡ d + q * s = (fallen-step d c s m ahead some).1 e in
          let here : t + n + 1 ≡ a + q * (10 * s) = time ∙ even (pulses_by HPET_HZ t) d q s (suc m) which in
          ap (λ (x : ℕ). evenly a (10 * s) q ++ x ∷ []) here
          ∙ ap (evenly a (10 * s)) (sym ((fallen-step d c s m ahead some).0 ∙ ap (λ (b : Bool). cond b (suc (fallen d c s m)) (fallen d c s m)) e))

      by : (b : Bool) → falls_at HPET_HZ (t + n + 1) ≡ b → message_times k t n h ≡ evenly a (10 * s) (fallen d c s m)
          → message_times k t (suc n) h ≡ evenly a (10 * s) (fallen d c s (pulses_from HPET_HZ t (suc n)))
      by false e before =
          let stays : pulses_from HPET_HZ t (suc n) ≡ m = pulses_from-more HPET_HZ t n (omega arith) ∙ ap (λ (b : Bool). cond b (suc m) m) e in
          nothing (message_times k t n h) (evenly a (10 * s) (fallen d c s m)) (falls_at HPET_HZ (t + n + 1) && message_next k (hpet_pulsed_times m h))
          (t + n + 1) before (ap (λ (b : Bool). b && message_next k (hpet_pulsed_times m h)) e)
          ∙ ap (λ (x : ℕ). evenly a (10 * s) (fallen d c s x)) (sym stays)
      by true e before =
          let grows : pulses_from HPET_HZ t (suc n) ≡ suc m = pulses_from-more HPET_HZ t n (omega arith) ∙ ap (λ (b : Bool). cond b (suc m) m) e in
          let test : (falls_at HPET_HZ (t + n + 1) && message_next k (hpet_pulsed_times m h)) ≡ falls_on (Some d) c s (suc m) =
          ap (λ (b : Bool). b && message_next k (hpet_pulsed_times m h)) e
          ∙ ap (λ (b : Bool). b && matches_next k (hpet_pulsed_times m h)) (is_message-hpet_pulsed_times k m h ∙ sends)
          ∙ every m (omega (arith, grows)) in
          let time : t + n + 1 ≡ 10 * (pulses_by HPET_HZ t + suc m) = falls-time (t + n + 1) e
          ∙ ap (λ (x : ℕ). 10 * x) (let r : pulses_by HPET_HZ (t + n + 1) ≡ pulses_by HPET_HZ t + suc m = omega (arith, joins, grows) in r) in
          ap (λ (x : Bool). message_times k t n h ++ cond x ((t + n + 1) ∷ []) []) test
          ∙ ap (λ (xs : List ℕ). xs ++ cond (falls_on (Some d) c s (suc m)) ((t + n + 1) ∷ []) []) before
          ∙ at (falls_on (Some d) c s (suc m)) refl time
          ∙ ap (λ (x : ℕ). evenly a (10 * s) (fallen d c s x)) (sym grows)
        where
          joins : pulses_from HPET_HZ t (suc n) + pulses_by HPET_HZ t ≡ pulses_by HPET_HZ (t + n + 1)
          joins = pulses_from-joins HPET_HZ t (suc n) ∙ ap (pulses_by HPET_HZ) (omega arith)

None≢Some : {X : Type 0} {x : X} → None ≡ Some x → ⊥
None≢Some e = false≢true (ap is_some e)

Some-injective : (x y : ℕ) → Some x ≡ Some y → x ≡ y
Some-injective x y e = grind arith

time_of-tenth : (x : ℕ) → time_of HPET_HZ x ≡ 10 * x
unfolding time_of
time_of-tenth x = omega arith

-- one message has no distance
alone : (a e c : ℕ) → 0 < c → evenly a (cond (leb 2 c) (e * 10) 0) c ≡ evenly a (10 * e) c
alone a e c some = elim (cases_lt c 2) [
  | inl one ↦
      let is : c ≡ 1 = omega (arith, one) in
      let z : a + 0 * 0 ≡ a + 0 * (10 * e) = omega arith in
      subst (λ (n : ℕ). evenly a (cond (leb 2 n) (e * 10) 0) n ≡ evenly a (10 * e) n) (sym is) (ap (λ (x : ℕ). x ∷ []) z)
  | inr more ↦ ap (λ (b : Bool). evenly a (cond b (e * 10) 0) c) (le-leb 2 c more) ∙ ap (λ (x : ℕ). evenly a x c) (omega arith)
]

two-within : (d c s n : ℕ) → 0 < s → c ≡ fallen d c s n → 2 ≤ c → s ≤ n
two-within d c s n some is two = elim (cases_lt n d) [
  | inl early ↦
      let none : fallen d c s n ≡ 0 = ap (λ (b : Bool). min c (cond b 0 ((n - d) / s + 1))) (lt-ltb n d early) ∙ omega arith in
      absurd (omega (arith, is, none, two))
  | inr late ↦ elim (cases_lt (n - d) s) [
    | inl less ↦
        let e : n - d ≡ 0 * s + (n - d) = omega arith in
        let quotient : (n - d) / s ≡ 0 = ap (λ (x : ℕ). x / s) e ∙ div-mul-add 0 s (n - d) less in
        let one : fallen d c s n ≡ 1 =
        ap (λ (b : Bool). min c (cond b 0 ((n - d) / s + 1))) (le-ltb n d late) ∙ ap (λ (x : ℕ). min c (x + 1)) quotient ∙ omega (arith, two) in
        absurd (omega (arith, is, one, two))
    | inr more ↦ omega (arith, more)
  ]
]

-- whether a timer's matches are messages
sends-is : (k : ℕ) (h : HpetParts) (x : ℕ × ℕ) → message_of k h ≡ Some x → is_message k h ≡ true
sends-is k h x = by (is_message k h)
  where
    by : (b : Bool) → cond b (Some (message_word_at k h / 2 ^ 32, message_word_at k h % 2 ^ 32)) None ≡ Some x → b ≡ true
    by true e = refl
    by false e = absurd (None≢Some e)

silent-is : (k : ℕ) (h : HpetParts) → message_of k h ≡ None → is_message k h ≡ false
silent-is k h = by (is_message k h)
  where
    by : (b : Bool) → ◌≡◌ {A = Option (ℕ × ℕ)} (cond b (Some (message_word_at k h / 2 ^ 32, message_word_at k h % 2 ^ 32)) None) None → b ≡ false
    by true e = absurd (None≢Some (sym e))
    by false e = refl

-- the messages of c matches, the first at nanosecond f
pub record AreSent (k t n : ℕ) (h : HpetParts) (c f : ℕ) : Type 0 where
  pub some : 0 < c
  pub falls : evenly f (cond (leb 2 c) (spacing_of (timer_at k h) * 10) 0) c ≡ message_times k t n h
  pub within : 2 ≤ c → spacing_of (timer_at k h) ≤ pulses_from HPET_HZ t n

some-by : (k t n : ℕ) (h : HpetParts) (c : ℕ) (first : Option ℕ) (f : ℕ) → is_message k h ≡ true
    → AreMatches k (pulses_from HPET_HZ t n) h (record { count = c; first = first }) → first_at HPET_HZ t first ≡ Some f → AreSent k t n h c f
some-by k t n h c None f sends are e = absurd (None≢Some e)
some-by k t n h c (Some d) f sends are e =
    let s : ℕ = spacing_of (timer_at k h) in
    let m : ℕ = pulses_from HPET_HZ t n in
    let pos : 0 < s = spacing_of-pos (timer_at k h) in
    let is : c ≡ fallen d c s m = are.count ∙ matches-fallen k h d c s m are.first.0 pos are.every m (omega arith) in
    let some : 0 < c = omega (arith, are.count, are.first.3, CountsUp-mono (matches_of k h) (CountsUp-matches_of k h) d m are.first.1) in
    let at : f ≡ 10 * (pulses_by HPET_HZ t + d) = sym (Some-injective _ _ e) ∙ time_of-tenth (pulses_by HPET_HZ t + d) in
    record {
      some = some;
      falls = alone f s c some ∙ ap (λ (x : ℕ). evenly x (10 * s) c) at ∙ ap (evenly (10 * (pulses_by HPET_HZ t + d)) (10 * s)) is
          ∙ sym (times-even k t h d c s sends are.first.0 pos n are.every);
      within = two-within d c s m pos is;
    }

-- a timer that sends messages sends one at each match
pub sent-by : (k t n : ℕ) (h : HpetParts) (m : Matches) (message : ℕ × ℕ) (f : ℕ) → message_of k h ≡ Some message
    → AreMatches k (pulses_from HPET_HZ t n) h m → first_at HPET_HZ t m.first ≡ Some f → AreSent k t n h m.count f
sent-by k t n h m message f sends are e = some-by k t n h m.count m.first f (sends-is k h message sends) are e

-- .. and none where no match comes
pub none-by : (k t n : ℕ) (h : HpetParts) (m : Matches) → AreMatches k (pulses_from HPET_HZ t n) h m → first_at HPET_HZ t m.first ≡ None
    → message_times k t n h ≡ []
none-by k t n h m are e = by m.first are e
  where
    by : (first : Option ℕ) → AreMatches k (pulses_from HPET_HZ t n) h (record { count = m.count; first = first }) → first_at HPET_HZ t first ≡ None
        → message_times k t n h ≡ []
    by None are e = times-quiet k t n h are.every
    by (Some d) are e = absurd (None≢Some (sym e))

-- .. or where its matches are no messages
pub silent-by : (k t n : ℕ) (h : HpetParts) → message_of k h ≡ None → message_times k t n h ≡ []
silent-by k t n h silent = times-none k t n h (silent-is k h silent)
