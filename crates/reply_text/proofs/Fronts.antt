-- Lemmas on the front of a reply's line, whose numbers count up.
use Rattle.std.proofs.Common.{
  ◌≡◌,
  ◌≢◌,
  ℕ,
  ◌+◌,
  ◌-◌,
  ◌/◌,
  ◌%◌,
  ◌^◌,
  ◌<◌,
  ◌≤◌,
  Bool,
  true,
  false,
  List,
  [],
  ◌∷◌,
  ◌++◌,
  length,
  take,
  drop,
  get_or,
  set,
  decimal,
  refl,
  sym,
  ap,
  ◌∙◌,
  inl,
  inr,
  arith,
  eq-zero-or-pos,
  append_assoc,
  length-append,
  length-drop,
  length-take-le,
}
use Rattle.std.proofs.Math.Seq.{take-set-lt, take-append-add}
use Rattle.std.proofs.lemmas.Fmt.{decimal_digit, decimal_step}
use Rattle.std.proofs.lemmas.List.{take_at, drop_at, set_at, get_or_at, get_or-take, take-take, take-append-drop, take-append-le, drop-append-le, drop-take, append-nil}
use Rattle.board_types.specs.declared.reply.Value.{Value}
use Rattle.reply_text.specs.Words.{spaced}
use Rattle.pvclock_page.specs.declared.page.ClockReply.{ClockReply}
use Rattle.pvclock_page.specs.declared.page.ClockReply.TheVariants.{Off as ClockOff, On as ClockOn}
use Rattle.std.specs.Prelude.{codes}
use Rattle.std.specs.Bool.{OnTrue, OnFalse}
use Rattle.reply_text.specs.Text.{clock_text, value_text, value_words}
use Rattle.reply_text.specs.private.Front.{IsFront}
use Rattle.reply_text.specs.private.Readings.{reading_text}

-- the last digit of a number, and of one more
pub last_digit : (n : ℕ) → n < 2 ^ 64
    → (f : List ℕ) × (decimal n ≡ f ++ (48 + n % 10) ∷ [])
    × (n % 10 < 9 → n + 1 < 2 ^ 64 → decimal (n + 1) ≡ f ++ (49 + n % 10) ∷ [])
last_digit n fits = elim (eq-zero-or-pos (n - 9)) [
  | inl z ↦
      let one : n % 10 ≡ n = omega arith in (
        [],
        rw one (decimal_digit n (omega arith)),
        λ low fits'.
            let up : 49 + n % 10 ≡ 48 + (n + 1) = omega arith in
            rw up (decimal_digit (n + 1) (omega arith)),
      )
  | inr g ↦ (
    decimal (n / 10),
    decimal_step n (omega arith) fits,
    λ low fits'.
        let high : (n + 1) / 10 ≡ n / 10 = omega arith in
        let up : 48 + (n + 1) % 10 ≡ 49 + n % 10 = omega arith in
        rw (decimal_step (n + 1) (omega arith) fits', high, up),
  )
]

-- a byte among others, and another in its place
byte_at : (pre f post text : List ℕ) (x k end : ℕ) → take end text ≡ pre ++ ((f ++ x ∷ []) ++ post)
    → length pre + length f ≡ k → k < end
    → (get_or text k 0 ≡ x) × ((y : ℕ) → take end (set text k y) ≡ pre ++ ((f ++ y ∷ []) ++ post))
byte_at pre f post text x k end is at within =
    let parts : (z : ℕ) → pre ++ ((f ++ z ∷ []) ++ post) ≡ (pre ++ f) ++ z ∷ post = λ (z : ℕ).
    ap (λ (t : List ℕ). pre ++ t) (append_assoc f (z ∷ []) post) ∙ sym (append_assoc pre f (z ∷ post)) in
    let long : length (pre ++ f) ≡ k = length-append pre f ∙ at in (
      sym (get_or-take end text k 0 within) ∙ ap (λ (t : List ℕ). get_or t k 0) (is ∙ parts x)
          ∙ get_or_at (pre ++ f) x post 0 k long,
      λ y. take-set-lt end text k y within ∙ ap (λ (t : List ℕ). set t k y) (is ∙ parts x)
          ∙ set_at (pre ++ f) x post y k long ∙ sym (parts y),
    )

-- the last two digits of a number that ends in a 9, and of one more
last_two : (n : ℕ) → 10 ≤ n → n < 2 ^ 64 → n % 10 ≡ 9
    → (f : List ℕ) × (decimal n ≡ f ++ (48 + n / 10 % 10) ∷ 57 ∷ [])
    × (n / 10 % 10 < 9 → n + 1 < 2 ^ 64 → decimal (n + 1) ≡ f ++ (49 + n / 10 % 10) ∷ 48 ∷ [])
last_two n least fits nine =
    let tens = last_digit (n / 10) (omega arith) in
    let f : List ℕ = tens.0 in
    let digit : 48 + n % 10 ≡ 57 = omega arith in (
      f,
      decimal_step n least fits ∙ ap (λ (x : ℕ). decimal (n / 10) ++ x ∷ []) digit
          ∙ ap (λ (t : List ℕ). t ++ 57 ∷ []) tens.1 ∙ append_assoc f ((48 + n / 10 % 10) ∷ []) (57 ∷ []),
      λ low fits'.
          let high : (n + 1) / 10 ≡ n / 10 + 1 = omega arith in
          let zero : 48 + (n + 1) % 10 ≡ 48 = omega arith in
          decimal_step (n + 1) (omega arith) fits' ∙ ap (λ (m : ℕ). decimal m ++ (48 + (n + 1) % 10) ∷ []) high
          ∙ ap (λ (x : ℕ). decimal (n / 10 + 1) ++ x ∷ []) zero
          ∙ ap (λ (t : List ℕ). t ++ 48 ∷ []) (tens.2 low (omega arith)) ∙ append_assoc f ((49 + n / 10 % 10) ∷ []) (48 ∷ []),
    )

-- two bytes among others, and others in their places
two_at : (pre f post text : List ℕ) (x y k end : ℕ) → take end text ≡ pre ++ ((f ++ x ∷ y ∷ []) ++ post)
    → length pre + length f ≡ k → k + 1 < end
    → (get_or text k 0 ≡ x)
    × ((u v : ℕ) → take end (set (set text (k + 1) v) k u) ≡ pre ++ ((f ++ u ∷ v ∷ []) ++ post))
two_at pre f post text x y k end is at within =
    let apart : (u v : ℕ) → (f ++ u ∷ v ∷ []) ++ post ≡ (f ++ u ∷ []) ++ v ∷ post = λ (u v : ℕ).
    append_assoc f (u ∷ v ∷ []) post ∙ sym (append_assoc f (u ∷ []) (v ∷ post)) in
    let first = byte_at pre f (y ∷ post) text x k end (is ∙ ap (λ (t : List ℕ). pre ++ t) (apart x y)) at (omega arith) in
    let second = byte_at pre (f ++ x ∷ []) post text y (k + 1) end
    (is ∙ ap (λ (t : List ℕ). pre ++ (t ++ post)) (sym (append_assoc f (x ∷ []) (y ∷ []))))
    (omega (arith, length-append f (x ∷ []))) within in (
      first.0,
      λ u v.
          (byte_at pre f (v ∷ post) (set text (k + 1) v) x k end
          (second.1 v ∙ ap (λ (t : List ℕ). pre ++ t) (append_assoc (f ++ x ∷ []) (v ∷ []) post)) at (omega arith)).1 u
          ∙ ap (λ (t : List ℕ). pre ++ t) (sym (apart u v)),
    )

-- how long a number is by its last digit
length_by_last : (n x : ℕ) (f : List ℕ) → decimal n ≡ f ++ x ∷ [] → length (decimal n) ≡ length f + 1
length_by_last n x f e = ap length e ∙ length-append f (x ∷ [])

length_by_two : (n x y : ℕ) (f : List ℕ) → decimal n ≡ f ++ x ∷ y ∷ [] → length (decimal n) ≡ length f + 2
length_by_two n x y f e = ap length e ∙ length-append f (x ∷ y ∷ [])

-- a number in a text that ends in a 9 after another digit counts up by its last two
counted_over : (n n' at end : ℕ) (pre post text : List ℕ) → take end text ≡ pre ++ (decimal n ++ post)
    → length pre + length (decimal n) ≡ at + 2 → at + 1 < end → n' < 2 ^ 64 → n + 1 ≡ n' → 10 ≤ n → n % 10 ≡ 9
    → get_or text at 0 ≢ 57
    → (take end (set (set text (at + 1) 48) at (get_or text at 0 + 1)) ≡ pre ++ (decimal n' ++ post))
    × (length (decimal n') ≡ length (decimal n))
counted_over n n' at end pre post text is place within fits next least nine low =
    let two = last_two n least (omega arith) nine in
    let f : List ℕ = two.0 in
    let tens : ℕ = n / 10 % 10 in
    let around : List ℕ → List ℕ = λ (ds : List ℕ). pre ++ (ds ++ post) in
    let digits : decimal n ≡ f ++ (48 + tens) ∷ 57 ∷ [] = two.1 in
    let long : length (decimal n) ≡ length f + 2 = length_by_two n (48 + tens) 57 f digits in
    let bytes = two_at pre f post text (48 + tens) 57 at end (is ∙ ap around digits) (omega arith) within in
    let digit : get_or text at 0 ≡ 48 + tens = bytes.0 in
    let next' : decimal n' ≡ f ++ (49 + tens) ∷ 48 ∷ [] = ap decimal (sym next) ∙ two.2 (omega arith) (omega arith) in
    let y : get_or text at 0 + 1 ≡ 49 + tens = omega arith in (
      bytes.1 (get_or text at 0 + 1) 48 ∙ ap (λ (x : ℕ). around (f ++ x ∷ 48 ∷ [])) y ∙ ap around (sym next'),
      length_by_two n' (49 + tens) 48 f next' ∙ sym long,
    )

-- .. and another by its last one
counted_up : (n n' last end : ℕ) (pre post text : List ℕ) → take end text ≡ pre ++ (decimal n ++ post)
    → length pre + length (decimal n) ≡ last + 1 → last < end → n' < 2 ^ 64 → n + 1 ≡ n'
    → (get_or text last 0 ≡ 48 + n % 10)
    × (get_or text last 0 ≢ 57 → (take end (set text last (get_or text last 0 + 1)) ≡ pre ++ (decimal n' ++ post))
    × (length (decimal n') ≡ length (decimal n)))
counted_up n n' last end pre post text is place within fits next =
    let one = last_digit n (omega arith) in
    let f : List ℕ = one.0 in
    let around : List ℕ → List ℕ = λ (ds : List ℕ). pre ++ (ds ++ post) in
    let digits : decimal n ≡ f ++ (48 + n % 10) ∷ [] = one.1 in
    let long : length (decimal n) ≡ length f + 1 = length_by_last n (48 + n % 10) f digits in
    let byte = byte_at pre f post text (48 + n % 10) last end (is ∙ ap around digits) (omega arith) within in
    let digit : get_or text last 0 ≡ 48 + n % 10 = byte.0 in (
      digit,
      λ low.
          let next' : decimal n' ≡ f ++ (49 + n % 10) ∷ [] = ap decimal (sym next) ∙ one.2 (omega arith) (omega arith) in
          let y : get_or text last 0 + 1 ≡ 49 + n % 10 = omega arith in (
            byte.1 (get_or text last 0 + 1) ∙ ap (λ (x : ℕ). around (f ++ x ∷ [])) y ∙ ap around (sym next'),
            length_by_last n' (49 + n % 10) f next' ∙ sym long,
          ),
    )

-- .. so each by one of the two
counted : (n n' last end : ℕ) (pre post text new : List ℕ) → take end text ≡ pre ++ (decimal n ++ post)
    → length pre + length (decimal n) ≡ last + 1 → last < end → n' < 2 ^ 64 → n + 1 ≡ n'
    → (get_or text last 0 ≢ 57 → new ≡ set text last (get_or text last 0 + 1))
    → (get_or text last 0 ≡ 57 → (10 ≤ n) × (get_or text (last - 1) 0 ≢ 57)
    × (new ≡ set (set text last 48) (last - 1) (get_or text (last - 1) 0 + 1)))
    → (take end new ≡ pre ++ (decimal n' ++ post)) × (length (decimal n') ≡ length (decimal n))
counted n n' last end pre post text new is place within fits next up over =
    let by_one = counted_up n n' last end pre post text is place within fits next in
    let digit : get_or text last 0 ≡ 48 + n % 10 = by_one.0 in
    elim (eq-zero-or-pos (57 - get_or text last 0)) [
      | inr low ↦
          let other : get_or text last 0 ≢ 57 = omega arith in
          let after = by_one.1 other in (ap (take end) (up other) ∙ after.0, after.1)
      | inl none ↦
          let nine : get_or text last 0 ≡ 57 = omega arith in
          let carried = over nine in
          let least : 10 ≤ n = carried.0 in
          let two = last_two n least (omega arith) (omega arith) in
          let long : length (decimal n) ≡ length two.0 + 2 = length_by_two n (48 + n / 10 % 10) 57 two.0 two.1 in
          let last_is : last ≡ (last - 1) + 1 = omega arith in
          let after = counted_over n n' (last - 1) end pre post text is (omega arith) (omega arith) fits next least (omega arith) carried.1 in (
            ap (take end) carried.2
                ∙ ap (λ (k : ℕ). take end (set (set text k 48) (last - 1) (get_or text (last - 1) 0 + 1))) last_is
                ∙ after.0,
            after.1,
          )
    ]

-- what is before the words of a text
front_part : (k m end : ℕ) (text new rest : List ℕ) → take end new ≡ take m text ++ rest → k ≤ m → m ≤ end → m ≤ length text
    → take k new ≡ take k text
front_part k m end text new rest is le more within =
    sym (take-take k end new (omega arith)) ∙ ap (take k) is
    ∙ take-append-le k (take m text) rest (omega (arith, length-take-le m text within)) ∙ take-take k m text le

-- the line counts up
pub line_counts : (line line' number start end : ℕ) (text new : List ℕ) → IsFront line number start end text → length text ≡ 96
    → line' < 2 ^ 64 → line + 1 ≡ line'
    → (get_or text 19 0 ≢ 57 → new ≡ set text 19 (get_or text 19 0 + 1))
    → (get_or text 19 0 ≡ 57 → (10 ≤ line) × (get_or text 18 0 ≢ 57)
    × (new ≡ set (set text 19 48) 18 (get_or text 18 0 + 1)))
    → IsFront line' number start end new
line_counts line line' number start end text new front room fits next up over =
    let start_is = front.start_is in
    let end_is = front.end_is in
    let before : length (take start text) ≡ start = length-take-le start text (omega arith) in
    let after = counted line line' 19 end (take start text) (32 ∷ decimal number) text new front.written
    (omega arith) (omega arith) fits next up over in
    let same : take start new ≡ take start text =
    front_part start start end text new (decimal line' ++ 32 ∷ decimal number) after.0 (omega arith) (omega arith) (omega arith) in
    record {
      start_is = omega (arith, after.1);
      end_is = end_is;
      short = front.short;
      written = after.0 ∙ ap (λ (p : List ℕ). p ++ (decimal line' ++ 32 ∷ decimal number)) (sym same);
    }

-- the number after what is before it
apart : (pre line number : List ℕ) → pre ++ (line ++ 32 ∷ number) ≡ (pre ++ (line ++ 32 ∷ [])) ++ number
apart pre line number = sym (append_assoc pre (line ++ 32 ∷ []) number ∙ ap (λ (t : List ℕ). pre ++ t) (append_assoc line (32 ∷ []) number))

-- and how long that is
length_before : (line number start end : ℕ) (text : List ℕ) → IsFront line number start end text → length text ≡ 96
    → length (take start text ++ (decimal line ++ 32 ∷ [])) ≡ 21
length_before line number start end text front room =
    let start_is = front.start_is in
    let before : length (take start text) ≡ start = length-take-le start text (omega arith) in
    omega (arith, length-append (take start text) (decimal line ++ 32 ∷ []), length-append (decimal line) (32 ∷ []))

-- the number counts up
pub number_counts : (line number number' start end : ℕ) (text new : List ℕ) → IsFront line number start end text → length text ≡ 96
    → number' < 2 ^ 64 → number + 1 ≡ number'
    → (get_or text (end - 1) 0 ≢ 57 → new ≡ set text (end - 1) (get_or text (end - 1) 0 + 1))
    → (get_or text (end - 1) 0 ≡ 57 → (10 ≤ number) × (get_or text (end - 1 - 1) 0 ≢ 57)
    × (new ≡ set (set text (end - 1) 48) (end - 1 - 1) (get_or text (end - 1 - 1) 0 + 1)))
    → IsFront line number' start end new
number_counts line number number' start end text new front room fits next up over =
    let start_is = front.start_is in
    let end_is = front.end_is in
    let pre : List ℕ = take start text ++ (decimal line ++ 32 ∷ []) in
    let before : length pre ≡ 21 = length_before line number start end text front room in
    let whole : (ds : List ℕ) → take start text ++ (decimal line ++ 32 ∷ ds) ≡ pre ++ (ds ++ []) = λ (ds : List ℕ).
    apart (take start text) (decimal line) ds ∙ ap (λ (t : List ℕ). pre ++ t) (sym (append-nil ds)) in
    let after = counted number number' (end - 1) end pre [] text new (front.written ∙ whole (decimal number))
    (omega arith) (omega arith) fits next up over in
    let written : take end new ≡ take start text ++ (decimal line ++ 32 ∷ decimal number') =
    after.0 ∙ sym (whole (decimal number')) in
    let same : take start new ≡ take start text =
    front_part start start end text new (decimal line ++ 32 ∷ decimal number') written (omega arith) (omega arith) (omega arith) in
    record {
      start_is = start_is;
      end_is = omega (arith, after.1);
      short = front.short;
      written = written ∙ ap (λ (p : List ℕ). p ++ (decimal line ++ 32 ∷ decimal number')) (sym same);
    }

-- .. or stays
pub number_counts_or_stays : (b : Bool) (line number number' now start end : ℕ) (text new : List ℕ) → IsFront line number start end text
    → length text ≡ 96 → number' < 2 ^ 64 → OnTrue b (number + 1 ≡ number') → OnTrue b (now ≡ number')
    → OnTrue b (get_or text (end - 1) 0 ≢ 57 → new ≡ set text (end - 1) (get_or text (end - 1) 0 + 1))
    → OnTrue b (get_or text (end - 1) 0 ≡ 57 → (10 ≤ number) × (get_or text (end - 1 - 1) 0 ≢ 57)
    × (new ≡ set (set text (end - 1) 48) (end - 1 - 1) (get_or text (end - 1 - 1) 0 + 1)))
    → OnFalse b ((now ≡ number) × (new ≡ text))
    → IsFront line now start end new
number_counts_or_stays true line number number' now start end text new front room fits next is up over still =
    rw is (number_counts line number number' start end text new front room fits next up over)
number_counts_or_stays false line number number' now start end text new front room fits next is up over still =
    rw (still.0, still.1) front

-- another line in front of the number
pub line_written : (line line' number start end r : ℕ) (text new : List ℕ) → IsFront line number start end text
    → length text ≡ 96 → length new ≡ 96 → r + length (decimal line') ≡ 20
    → drop r new ≡ decimal line' ++ drop 20 text → IsFront line' number r end new
line_written line line' number start end r text new front room room' place after =
    let start_is = front.start_is in
    let end_is = front.end_is in
    let front_long : length (take start text) ≡ start = length-take-le start text (omega arith) in
    let line_end : length (take start text ++ decimal line) ≡ 20 = omega (arith, length-append (take start text) (decimal line)) in
    let more : ℕ = end - 20 in
    let sum : 20 + more ≡ end = omega arith in
    let sum' : length (decimal line') + more ≡ end - r = omega arith in
    let all : r + (end - r) ≡ end = omega arith in
    let rest : take more (drop 20 text) ≡ 32 ∷ decimal number =
    sym (drop-take 20 more text) ∙ ap (λ (n : ℕ). drop 20 (take n text)) sum ∙ ap (drop 20) front.written
    ∙ ap (drop 20) (sym (append_assoc (take start text) (decimal line) (32 ∷ decimal number)))
    ∙ drop_at (take start text ++ decimal line) (32 ∷ decimal number) 20 line_end in
    record {
      start_is = place;
      end_is = end_is;
      short = front.short;
      written = sym (take-append-drop r (take end new))
          ∙ ap (λ (t : List ℕ). t ++ drop r (take end new)) (take-take r end new (omega arith))
          ∙ ap (λ (t : List ℕ). take r new ++ t)
          (ap (λ (n : ℕ). drop r (take n new)) (sym all) ∙ drop-take r (end - r) new ∙ ap (take (end - r)) after
          ∙ ap (λ (n : ℕ). take n (decimal line' ++ drop 20 text)) (sym sum')
          ∙ take-append-add (decimal line') (drop 20 text) more ∙ ap (λ (t : List ℕ). decimal line' ++ t) rest);
    }

-- another number after the line
pub number_written : (line number number' start end end' : ℕ) (text new : List ℕ) → IsFront line number start end text
    → length text ≡ 96 → end' ≡ 21 + length (decimal number') → end' ≤ 41
    → take end' new ≡ take 21 text ++ decimal number' → IsFront line number' start end' new
number_written line number number' start end end' text new front room place few after =
    let start_is = front.start_is in
    let end_is = front.end_is in
    let pre : List ℕ = take start text ++ (decimal line ++ 32 ∷ []) in
    let before : length pre ≡ 21 = length_before line number start end text front room in
    let kept : take 21 text ≡ pre =
    sym (take-take 21 end text (omega arith)) ∙ ap (take 21) (front.written ∙ apart (take start text) (decimal line) (decimal number))
    ∙ take_at pre (decimal number) 21 before in
    let same : take start new ≡ take start text =
    sym (take-take start end' new (omega arith)) ∙ ap (take start) after
    ∙ take-append-le start (take 21 text) (decimal number') (omega (arith, length-take-le 21 text (omega arith)))
    ∙ take-take start 21 text (omega arith) in
    record {
      start_is = start_is;
      end_is = place;
      short = few;
      written = after ∙ ap (λ (t : List ℕ). t ++ decimal number') kept
          ∙ sym (apart (take start text) (decimal line) (decimal number'))
          ∙ ap (λ (p : List ℕ). p ++ (decimal line ++ 32 ∷ decimal number')) (sym same);
    }

-- the digits of the line before their place
pub front_line : (line number start end : ℕ) (text : List ℕ) → IsFront line number start end text → length text ≡ 96
    → drop start (take 20 text) ≡ decimal line
front_line line number start end text front room =
    let start_is = front.start_is in
    let end_is = front.end_is in
    let front_long : length (take start text) ≡ start = length-take-le start text (omega arith) in
    let line_end : length (take start text ++ decimal line) ≡ 20 = omega (arith, length-append (take start text) (decimal line)) in
    ap (drop start)
    (sym (take-take 20 end text (omega arith))
    ∙ ap (take 20) (front.written ∙ sym (append_assoc (take start text) (decimal line) (32 ∷ decimal number)))
    ∙ take_at (take start text ++ decimal line) (32 ∷ decimal number) 20 line_end)
    ∙ drop_at (take start text) (decimal line) start front_long

-- what follows a front makes a line of it
pub line_after : (line number start end at : ℕ) (text new words : List ℕ) → IsFront line number start end text
    → length text ≡ 96 → take at new ≡ take end text ++ words → end ≤ at
    → take (at - start) (drop start new) ≡ decimal line ++ (32 ∷ (decimal number ++ words))
line_after line number start end at text new words front room after more =
    let start_is = front.start_is in
    let end_is = front.end_is in
    let front_long : length (take start text) ≡ start = length-take-le start text (omega arith) in
    let all : start + (at - start) ≡ at = omega arith in
    sym (drop-take start (at - start) new) ∙ ap (λ (n : ℕ). drop start (take n new)) all
    ∙ ap (drop start) (after ∙ ap (λ (t : List ℕ). t ++ words) front.written
    ∙ append_assoc (take start text) (decimal line ++ 32 ∷ decimal number) words)
    ∙ drop_at (take start text) ((decimal line ++ 32 ∷ decimal number) ++ words) start front_long
    ∙ append_assoc (decimal line) (32 ∷ decimal number) words

-- what follows is its value
pub line_printed : (line number start end at : ℕ) (text new : List ℕ) (value : Value) → IsFront line number start end text
    → length text ≡ 96 → take at new ≡ take end text ++ spaced (value_words value) → end ≤ at
    → take (at - start) (drop start new) ≡ value_text line number value
unfolding value_text
line_printed line number start end at text new value front room after more =
    line_after line number start end at text new (spaced (value_words value)) front room after more

-- and the front stays
pub before_words : (end at : ℕ) (text new words : List ℕ) → take at new ≡ take end text ++ words → end ≤ at → end ≤ length text
    → take end new ≡ take end text
before_words end at text new words after more within =
    sym (take-take end at new more) ∙ ap (take end) after
    ∙ take_at (take end text) words end (length-take-le end text within)

-- what is written after what stays
pub written_after : (new old w : List ℕ) (r m : ℕ) → length w ≡ m → take r new ≡ take r old → drop r new ≡ w ++ drop (r + m) old
    → take (r + m) new ≡ take r old ++ w
written_after new old w r m long same after =
    sym (take-append-drop r (take (r + m) new))
    ∙ ap (λ (t : List ℕ). t ++ drop r (take (r + m) new)) (take-take r (r + m) new (omega arith) ∙ same)
    ∙ ap (λ (t : List ℕ). take r old ++ t) (drop-take r m new ∙ ap (take m) after ∙ take_at w (drop (r + m) old) m long)

-- the digits up to the middle of a buffer, which are copied with what makes them 20 bytes
pub digits_put : (text digits rest : List ℕ) (s at : ℕ) → s ≤ 20 → length digits ≡ 40 → at ≤ length text
    → take (at + (20 - s)) (take at text ++ (take 20 (drop s digits) ++ rest)) ≡ take at text ++ take (20 - s) (drop s digits)
digits_put text digits rest s at few long room =
    let count : ℕ = 20 - s in
    let before : length (take at text) ≡ at = length-take-le at text room in
    let sum : at + count ≡ length (take at text) + count = omega (arith, before) in
    let copied : length (take 20 (drop s digits)) ≡ 20 = length-take-le 20 (drop s digits) (omega (arith, length-drop s digits)) in
    ap (λ (n : ℕ). take n (take at text ++ (take 20 (drop s digits) ++ rest))) sum
    ∙ take-append-add (take at text) (take 20 (drop s digits) ++ rest) count
    ∙ ap (λ (t : List ℕ). take at text ++ t)
    (take-append-le count (take 20 (drop s digits)) rest (omega (arith, copied)) ∙ take-take count 20 (drop s digits) (omega arith))

-- the number that was written in front of the middle
pub digits_before : (number digits rest : List ℕ) (s : ℕ) → drop s digits ≡ number ++ rest → s + length number ≡ 20
    → take (20 - s) (drop s digits) ≡ number
digits_before number digits rest s is place =
    let count : length number ≡ 20 - s = omega arith in
    ap (take (20 - s)) is ∙ take_at number rest (20 - s) count

-- words before a place and words after it make a line
pub joined_at : (text new w words : List ℕ) (start place end : ℕ) → drop start (take place text) ≡ w
    → take end new ≡ take place text ++ words → start ≤ place → place ≤ end → place ≤ length text
    → take (end - start) (drop start new) ≡ w ++ words
joined_at text new w words start place end is after before more room =
    let all : start + (end - start) ≡ end = omega arith in
    let long : length (take place text) ≡ place = length-take-le place text room in
    let within : start ≤ length (take place text) = omega arith in
    sym (drop-take start (end - start) new) ∙ ap (λ (n : ℕ). drop start (take n new)) all
    ∙ ap (drop start) after ∙ drop-append-le start (take place text) words within ∙ ap (λ (t : List ℕ). t ++ words) is

-- what is before a place by what was written in front of it
pub up_to : (new w rest : List ℕ) (start place : ℕ) → drop start new ≡ w ++ rest → start + length w ≡ place
    → drop start (take place new) ≡ w
up_to new w rest start place is at =
    ap (λ (n : ℕ). drop start (take n new)) (sym at) ∙ drop-take start (length w) new ∙ ap (take (length w)) is
    ∙ take_at w rest (length w) refl

-- a front stays where what is after it changes
pub front_stays : (line number start end : ℕ) (text new : List ℕ) → IsFront line number start end text
    → take end new ≡ take end text → IsFront line number start end new
front_stays line number start end text new front same =
    let start_is = front.start_is in
    let end_is = front.end_is in
    let le : start ≤ end = omega arith in
    record {
      start_is = start_is;
      end_is = end_is;
      short = front.short;
      written = same ∙ front.written
          ∙ ap (λ (p : List ℕ). p ++ (decimal line ++ 32 ∷ decimal number))
          (sym (take-take start end text le) ∙ ap (take start) (sym same) ∙ take-take start end new le);
    }

-- a word after a word
pub chain : (p w v x y : List ℕ) → x ≡ p ++ w → y ≡ x ++ v → y ≡ p ++ (w ++ v)
chain p w v x y e f = f ∙ ap (λ (t : List ℕ). t ++ v) e ∙ append_assoc p w v

-- how many bytes of a buffer lie between two places
pub length_between : (text : List ℕ) (start end : ℕ) → end ≤ length text → length (take (end - start) (drop start text)) ≡ end - start
length_between text start end within =
    length-take-le (end - start) (drop start text) (omega (arith, length-drop start text))

-- the words of a clock reading's line
pub clock_is : (line : ℕ) (reply : ClockReply)
    → decimal line ++ (codes " clock " ++ (reading_text reply ++ 10 ∷ [])) ≡ clock_text line reply
unfolding clock_text
clock_is line ClockOff = refl
clock_is line (ClockOn reading clock) =
    ap (λ (t : List ℕ). decimal line ++ (codes " clock " ++ t)) (append_assoc (decimal reading) (32 ∷ decimal clock) (10 ∷ []))
