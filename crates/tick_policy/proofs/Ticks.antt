-- Lemmas on ticks, acknowledgements and catch-up points.
use Rattle.std.proofs.Common.{◌≡◌, ℕ, zero, suc, ◌+◌, ◌-◌, ◌<◌, Bool, true, false, not, ltb, ◌&&◌, ◌||◌, refl, sym, ap, ◌∙◌, inl, inr, arith}
use Rattle.std.proofs.lemmas.Bool.{cases_Bool, lt-ltb, false≢true}
use Rattle.tick_policy.specs.declared.parts.Policy.{Policy}
use Rattle.tick_policy.specs.declared.parts.Policy.TheVariants.{Discard, Delay, Slew}
use Rattle.tick_policy.specs.declared.parts.TickParts.{TickParts}
use Rattle.tick_policy.specs.Parts.{is_slew}
use Rattle.tick_policy.specs.Line.{ticked, ticked_times, with_one_shown, is_waiting, caught_up}
use Rattle.tick_policy.specs.private.AtOnce.{shown_at_once, with_missed}

-- no ticks
pub ticked_times-zero : (l : TickParts) → ticked_times 0 l ≡ l
unfolding ticked_times
ticked_times-zero l = refl

-- one tick more
pub ticked_times-suc : (n : ℕ) (l : TickParts) → ticked_times (suc n) l ≡ ticked (ticked_times n l)
unfolding ticked_times
ticked_times-suc n l = refl

-- a single tick
pub ticked_times-one : (l : TickParts) → ticked_times 1 l ≡ ticked l
unfolding ticked_times
ticked_times-one l = refl

-- a line is up after ticks
pub up-ticked_times : (n : ℕ) (l : TickParts) → 0 < n → (ticked_times n l).up ≡ true
up-ticked_times zero l h = absurd (omega arith)
up-ticked_times (suc n) l h = ap (λ (k : TickParts). k.up) (ticked_times-suc n l)

-- a line that is up stays up
pub up-ticked_times-up : (n : ℕ) (l : TickParts) → l.up ≡ true → (ticked_times n l).up ≡ true
up-ticked_times-up zero l up = ap (λ (k : TickParts). k.up) (ticked_times-zero l) ∙ up
up-ticked_times-up (suc n) l up = up-ticked_times (suc n) l (omega arith)

-- ticks keep the policy
pub policy-ticked_times : (n : ℕ) (l : TickParts) → (ticked_times n l).policy ≡ l.policy
policy-ticked_times zero l = ap (λ (k : TickParts). k.policy) (ticked_times-zero l)
policy-ticked_times (suc n) l = ap (λ (k : TickParts). k.policy) (ticked_times-suc n l) ∙ policy-ticked_times n l

-- a line that is up doesn't wait for a catch-up point
pub is_waiting-up : (l : TickParts) → l.up ≡ true → is_waiting l ≡ false
is_waiting-up l up = none (is_slew l.policy) l.up (ltb 0 l.counts.queue) up
  where
    none : (slew up some : Bool) → up ≡ true → (slew && (not up && some)) ≡ false
    none true true some e = refl
    none false up some e = refl
    none true false some e = absurd (false≢true e)

-- a line that doesn't wait stays as it is
pub caught_up-still : (l : TickParts) → is_waiting l ≡ false → caught_up l ≡ l
caught_up-still l none = stays l (is_waiting l) none
  where
    same_up : (l : TickParts) (b : Bool) → b ≡ l.up → (record l { up = b }) ≡ l
    same_up l b e = ap (λ (v : Bool). record l { up = v }) e

    or_false : (b : Bool) → (b || false) ≡ b
    or_false true = refl
    or_false false = refl

    stays : (l : TickParts) (b : Bool) → b ≡ false → (record l { up = l.up || b; counts = with_one_shown b l.counts }) ≡ l
    stays l false e = same_up l (l.up || false) (or_false l.up)
    stays l true e = absurd (false≢true (sym e))

-- a second catch-up point finds nothing to do
pub caught_up-again : (l : TickParts) → caught_up (caught_up l) ≡ caught_up l
caught_up-again l = elim (cases_Bool (is_waiting l)) [
  | inl waits ↦ caught_up-still (caught_up l) (is_waiting-up (caught_up l) (or_right l.up (is_waiting l) waits))
  | inr none ↦ ap caught_up (caught_up-still l none)
]
  where
    or_right : (a b : Bool) → b ≡ true → (a || b) ≡ true
    or_right true b e = refl
    or_right false b e = e

-- ticks count as due
pub due_ticked_times : (n : ℕ) (l : TickParts) → (ticked_times n l).counts.due ≡ l.counts.due + n
due_ticked_times zero l = ap (λ (k : TickParts). k.counts.due) (ticked_times-zero l) ∙ omega arith
due_ticked_times (suc n) l =
    let e : (ticked_times (suc n) l).counts.due ≡ (ticked_times n l).counts.due + 1 = ap (λ (k : TickParts). k.counts.due) (ticked_times-suc n l) in
    omega (arith, due_ticked_times n l)

-- n ticks at once: the first of them brings a line up that is down, the others find it up
abbrev pub at_once : ℕ → TickParts → TickParts
at_once n l =
    let shown : ℕ = shown_at_once l.up n in
    record l {
      up = l.up || ltb 0 n;
      counts = with_missed l.policy (n - shown) (record l.counts { due = l.counts.due + n; rises = l.counts.rises + shown });
    }

-- a line of its fields
abbrev line_of : Policy → Bool → ℕ → ℕ → ℕ → ℕ → TickParts
line_of policy up due rises queue lost = record { policy = policy; up = up; counts = record { due = due; rises = rises; queue = queue; lost = lost } }

-- lines of equal fields are equal
same_line : (p : Policy) (a b : Bool) (d d' r r' q q' x x' : ℕ) → a ≡ b → d ≡ d' → r ≡ r' → q ≡ q' → x ≡ x' → line_of p a d r q x ≡ line_of p b d' r' q' x'
same_line p a b d d' r r' q q' x x' ea ed er eq ex = cc

-- one tick more
at_once-more : (n : ℕ) (p : Policy) (up : Bool) (d r q x : ℕ) → ticked (at_once n (line_of p up d r q x)) ≡ at_once (suc n) (line_of p up d r q x)
at_once-more n Discard true d r q x = same_line Discard _ _ _ _ _ _ _ _ _ _ refl (omega arith) (omega arith) (omega arith) (omega arith)
at_once-more n Delay true d r q x = same_line Delay _ _ _ _ _ _ _ _ _ _ refl (omega arith) (omega arith) (omega arith) (omega arith)
at_once-more n Slew true d r q x = same_line Slew _ _ _ _ _ _ _ _ _ _ refl (omega arith) (omega arith) (omega arith) (omega arith)
at_once-more zero Discard false d r q x = same_line Discard _ _ _ _ _ _ _ _ _ _ refl (omega arith) (omega arith) (omega arith) (omega arith)
at_once-more zero Delay false d r q x = same_line Delay _ _ _ _ _ _ _ _ _ _ refl (omega arith) (omega arith) (omega arith) (omega arith)
at_once-more zero Slew false d r q x = same_line Slew _ _ _ _ _ _ _ _ _ _ refl (omega arith) (omega arith) (omega arith) (omega arith)
at_once-more (suc n) Discard false d r q x =
    rw (lt-ltb 0 (suc n) (omega arith), lt-ltb 0 (suc (suc n)) (omega arith))
    (same_line Discard _ _ _ _ _ _ _ _ _ _ refl (omega arith) (omega arith) (omega arith) (omega arith))
at_once-more (suc n) Delay false d r q x =
    rw (lt-ltb 0 (suc n) (omega arith), lt-ltb 0 (suc (suc n)) (omega arith))
    (same_line Delay _ _ _ _ _ _ _ _ _ _ refl (omega arith) (omega arith) (omega arith) (omega arith))
at_once-more (suc n) Slew false d r q x =
    rw (lt-ltb 0 (suc n) (omega arith), lt-ltb 0 (suc (suc n)) (omega arith))
    (same_line Slew _ _ _ _ _ _ _ _ _ _ refl (omega arith) (omega arith) (omega arith) (omega arith))

-- no ticks
at_once-zero : (p : Policy) (up : Bool) (d r q x : ℕ) → line_of p up d r q x ≡ at_once 0 (line_of p up d r q x)
at_once-zero Discard true d r q x = same_line Discard _ _ _ _ _ _ _ _ _ _ refl (omega arith) (omega arith) (omega arith) (omega arith)
at_once-zero Discard false d r q x = same_line Discard _ _ _ _ _ _ _ _ _ _ refl (omega arith) (omega arith) (omega arith) (omega arith)
at_once-zero Delay true d r q x = same_line Delay _ _ _ _ _ _ _ _ _ _ refl (omega arith) (omega arith) (omega arith) (omega arith)
at_once-zero Delay false d r q x = same_line Delay _ _ _ _ _ _ _ _ _ _ refl (omega arith) (omega arith) (omega arith) (omega arith)
at_once-zero Slew true d r q x = same_line Slew _ _ _ _ _ _ _ _ _ _ refl (omega arith) (omega arith) (omega arith) (omega arith)
at_once-zero Slew false d r q x = same_line Slew _ _ _ _ _ _ _ _ _ _ refl (omega arith) (omega arith) (omega arith) (omega arith)

-- n ticks at once are n single ones
pub ticked_times-at_once : (n : ℕ) (l : TickParts) → ticked_times n l ≡ at_once n l
ticked_times-at_once zero l = ticked_times-zero l ∙ at_once-zero l.policy l.up l.counts.due l.counts.rises l.counts.queue l.counts.lost
ticked_times-at_once (suc n) l =
    ticked_times-suc n l ∙ ap ticked (ticked_times-at_once n l) ∙ at_once-more n l.policy l.up l.counts.due l.counts.rises l.counts.queue l.counts.lost

-- a catch-up point and a tick of one nanosecond, in either order
pub caught_up-ticked : (l : TickParts) → caught_up (ticked l) ≡ ticked (caught_up l)
caught_up-ticked l = either l.policy l.up l.counts.due l.counts.rises l.counts.queue l.counts.lost
  where
    either : (p : Policy) (up : Bool) (d r q x : ℕ) → caught_up (ticked (line_of p up d r q x)) ≡ ticked (caught_up (line_of p up d r q x))
    either Discard true d r q x = refl
    either Discard false d r q x = refl
    either Delay true d r q x = refl
    either Delay false d r q x = refl
    either Slew true d r q x = refl
    either Slew false d r zero x = refl
    either Slew false d r (suc q) x =
        rw (lt-ltb 0 (suc q) (omega arith)) (same_line Slew _ _ _ _ _ _ _ _ _ _ refl (omega arith) (omega arith) (omega arith) (omega arith))
