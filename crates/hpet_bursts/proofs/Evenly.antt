-- A burst that gives the times of a timer's messages is the one that these times give.
use Rattle.std.proofs.Common.{◌≡◌, ℕ, zero, suc, ◌+◌, ◌-◌, ◌*◌, ◌/◌, ◌%◌, ◌^◌, ◌<◌, Bool, true, false, cond, List, [], ◌∷◌, ◌++◌, length, Option, Some, None, refl, sym, ap, ◌∙◌, arith}
use Rattle.std.proofs.Common.{length-append}
use Rattle.irq_edges.specs.declared.bursts.Burst.{Burst}
use Rattle.hpet_registers.specs.declared.parts.HpetParts.{HpetParts}
use Rattle.hpet_registers.specs.Parts.{message_word_at}
use Rattle.hpet_registers.specs.Outputs.{is_message, message_of}
use Rattle.hpet_bursts.specs.Bursts.{burst_at, burst_from, evenly, IsTheBurst}

-- the times after the second of them
more : ℕ → ℕ → ℕ → List ℕ
more f e zero = []
more f e (suc c) = more f e c ++ (f + suc (suc c) * e) ∷ []

evenly-one : (f e : ℕ) → evenly f e 1 ≡ f ∷ []
evenly-one f e = ap (λ (t : ℕ). t ∷ []) (omega arith)

evenly-two : (f e c : ℕ) → evenly f e (suc (suc c)) ≡ f ∷ (f + e) ∷ more f e c
unfolding more
evenly-two f e zero =
    let first : f + 0 * e ≡ f = omega arith in
    let second : f + 1 * e ≡ f + e = omega arith in
    ap (λ (t : ℕ). t ∷ (f + 1 * e) ∷ []) first ∙ ap (λ (t : ℕ). f ∷ t ∷ []) second
evenly-two f e (suc c) = ap (λ (ts : List ℕ). ts ++ (f + suc (suc c) * e) ∷ []) (evenly-two f e c)

length-evenly : (f e c : ℕ) → length (evenly f e c) ≡ c
length-evenly f e zero = refl
length-evenly f e (suc c) =
    length-append (evenly f e c) ((f + c * e) ∷ []) ∙ ap (λ (n : ℕ). n + 1) (length-evenly f e c) ∙ omega arith

-- the burst that even times give
burst_from-evenly : (k : ℕ) (h : HpetParts) (f e c : ℕ) → 0 < c → (c ≡ 1 → e ≡ 0) → Some (burst_at k h f c e) ≡ burst_from k h (evenly f e c)
burst_from-evenly k h f e zero some alone = absurd (omega arith)
burst_from-evenly k h f e (suc zero) some alone =
    ap (λ (x : ℕ). Some (burst_at k h f 1 x)) (alone refl) ∙ sym (ap (burst_from k h) (evenly-one f e))
burst_from-evenly k h f e (suc (suc c)) some alone =
    let ts : List ℕ = f ∷ (f + e) ∷ more f e c in
    let many : length ts ≡ suc (suc c) = sym (ap (λ (us : List ℕ). length us) (evenly-two f e c)) ∙ length-evenly f e (suc (suc c)) in
    let apart : f + e - f ≡ e = omega arith in
    ap (λ (n : ℕ). Some (burst_at k h f n e)) (sym many) ∙ ap (λ (x : ℕ). Some (burst_at k h f (length ts) x)) (sym apart)
    ∙ sym (ap (burst_from k h) (evenly-two f e c))

-- address and data of a timer that sends are those of its message register
words-sent : (k : ℕ) (h : HpetParts) (address data_word : ℕ) → message_of k h ≡ Some (address, data_word)
    → (address ≡ message_word_at k h / 2 ^ 32) × (data_word ≡ message_word_at k h % 2 ^ 32)
words-sent k h address data_word = by (is_message k h)
  where
    w : ℕ
    w = message_word_at k h

    by : (b : Bool) → ◌≡◌ {A = Option (ℕ × ℕ)} (cond b (Some (w / 2 ^ 32, w % 2 ^ 32)) None) (Some (address, data_word))
        → (address ≡ w / 2 ^ 32) × (data_word ≡ w % 2 ^ 32)
    by true e = (grind arith, grind arith)
    by false e = absurd (cc)

pub burst_from-is : (k : ℕ) (h : HpetParts) (times : List ℕ) (b : Burst) → IsTheBurst k h times b → Some b ≡ burst_from k h times
burst_from-is k h times b is =
    let words = words-sent k h b.address b.data is.message in
    same is.timer words.0 words.1 ∙ burst_from-evenly k h b.first b.every b.count is.some is.alone ∙ ap (burst_from k h) is.falls
  where
    same : b.timer ≡ k → b.address ≡ message_word_at k h / 2 ^ 32 → b.data ≡ message_word_at k h % 2 ^ 32
        → Some b ≡ Some (burst_at k h b.first b.count b.every)
    same e f g =
        ap (λ (x : ℕ). Some (record b { timer = x })) e ∙ ap (λ (x : ℕ). Some (record b { timer = k; address = x })) f
        ∙ ap (λ (x : ℕ). Some (record b { timer = k; address = message_word_at k h / 2 ^ 32; «data» = x })) g
