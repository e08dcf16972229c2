-- Laws of a progress, whatever answers the lines.
use Rattle.std.proofs.Math.Seq.{take-add}
use Rattle.std.proofs.lemmas.List.{take-append-le, length-take-le}
use Rattle.std.specs.Str.{bytes_eq}
use Rattle.std.proofs.Common.{
  ◌≡◌,
  ◌≢◌,
  ℕ,
  ◌+◌,
  ◌≤◌,
  Bool,
  true,
  false,
  cond,
  eqb,
  ltb,
  codes,
  take,
  drop,
  ◌-◌,
  List,
  [],
  ◌∷◌,
  ◌++◌,
  length,
  Option,
  Some,
  None,
  inl,
  inr,
  refl,
  sym,
  ap,
  ◌∙◌,
  arith,
  subst,
  append_assoc,
  append-nil,
  length-append,
}
use Rattle.std.proofs.lemmas.Bool.{ne_eqb, lt-ltb, le-ltb, cases_lt}
use Rattle.trace_loop.specs.Progress.{
  limit_of,
  Closing,
  Answer,
  Goes,
  Ends,
  Progress,
  standing,
  told,
  answered,
  checked,
  heard,
  after_bytes,
  closed,
  ran,
  finished,
}
use Rattle.trace_loop.specs.Cut.{HasNoEnd}

-- a text begins with another
abbrev pub Starts : List ℕ → List ℕ → Type 0
Starts front text = (more : List ℕ) × (text ≡ front ++ more)

-- the least limit
pub limit_least : (text : List ℕ) → 128 ≤ limit_of text
unfolding limit_of
limit_least text = least (bytes_eq (take 6 text) (codes "state "))
  where
    least : (b : Bool) → 128 ≤ cond b 200000 128
    least true = omega arith
    least false = omega arith

-- the limit of a line is fixed by its beginning
pub limit_fixed : (front more : List ℕ) → 6 ≤ length front → limit_of (front ++ more) ≡ limit_of front
unfolding limit_of
limit_fixed front more long = ap (λ (l : List ℕ). cond (bytes_eq l (codes "state ")) 200000 128) (take-append-le 6 front more long)

-- so a line within the limit of more of it is within its own
pub limit_front : (front more : List ℕ) → length front ≤ limit_of (front ++ more) → length front ≤ limit_of front
limit_front front more short = elim (cases_lt (length front) 6) [
  | inl small ↦ omega (arith, small, limit_least front)
  | inr long ↦ omega (arith, short, limit_fixed front more long)
]

-- and more of a line has no lower limit, where the line is within its own
pub limit_grows : (front more : List ℕ) → length front ≤ limit_of front → length front ≤ limit_of (front ++ more)
limit_grows front more short = elim (cases_lt (length front) 6) [
  | inl small ↦ omega (arith, small, limit_least (front ++ more))
  | inr long ↦ omega (arith, short, limit_fixed front more long)
]

-- the limit up to a place after the start
pub limit_part : (text rest : List ℕ) (m n : ℕ) → m ≤ n → m ≤ length rest → 6 ≤ length text + m → limit_of (text ++ take n rest)
    ≡ limit_of (text ++ take m rest)
limit_part text rest m n more within long =
    let parts : take m rest ++ take (n - m) (drop m rest) ≡ take n rest = sym (take-add m (n - m) rest) ∙ ap (λ (k : ℕ). take k rest) (omega arith) in
    let len : length (take m rest) ≡ m = length-take-le m rest within in
    ap (λ (l : List ℕ). limit_of (text ++ l)) (sym parts) ∙ ap limit_of (sym (append_assoc text (take m rest) (take (n - m) (drop m rest))))
    ∙ limit_fixed (text ++ take m rest) (take (n - m) (drop m rest)) (omega (arith, length-append text (take m rest), len))

module _ (A E : Type 0) (answer : ℕ → A → List ℕ → Answer A E) (closing : ℕ → A → Closing E) where
  -- bytes, and bytes after them
  pub after-++ : (xs ys : List ℕ) (s : Progress A E) → after_bytes answer (xs ++ ys) s ≡ after_bytes answer ys (after_bytes answer xs s)
  after-++ [] ys s = refl
  after-++ (x ∷ xs) ys s = after-++ xs ys (heard answer s.end x s)

  -- an ended trace stays as it is
  pub after-ended : (bs : List ℕ) (s : Progress A E) (status : E) → s.end ≡ Some status → after_bytes answer bs s ≡ s
  after-ended [] s status e = refl
  after-ended (b ∷ bs) s status e =
      let same : heard answer s.end b s ≡ s = ap (λ (o : Option E). heard answer o b s) e in
      ap (after_bytes answer bs) same ∙ after-ended bs s status e

  -- a byte, by whether it is a line's end
  pub heard-by : (b : ℕ) (s : Progress A E) (t : Bool) → s.end ≡ None → eqb b 10 ≡ t → heard answer s.end b s
      ≡ cond t (answered answer s) (checked answer (record s { text = s.text ++ b ∷ [] }))
  heard-by b s t e is = ap (λ (o : Option E). heard answer o b s) e
      ∙ ap (λ (c : Bool). cond c (answered answer s) (checked answer (record s { text = s.text ++ b ∷ [] }))) is

  -- another byte, by whether it is over the line's limit
  heard-other : (b : ℕ) (s : Progress A E) (t : Bool) → s.end ≡ None → b ≢ 10 → ltb (limit_of (s.text ++ b ∷ [])) (length (s.text ++ b ∷ [])) ≡ t
      → heard answer s.end b s ≡ cond t (answered answer (record s { text = s.text ++ b ∷ [] })) (record s { text = s.text ++ b ∷ [] })
  heard-other b s t e other is = heard-by b s false e (ne_eqb b 10 other)
      ∙ ap (λ (c : Bool). cond c (answered answer (record s { text = s.text ++ b ∷ [] })) (record s { text = s.text ++ b ∷ [] })) is

  -- a byte of a line
  heard-byte : (b : ℕ) (s : Progress A E) → s.end ≡ None → b ≢ 10 → length (s.text ++ b ∷ []) ≤ limit_of (s.text ++ b ∷ []) → heard answer s.end b s
      ≡ record s { text = s.text ++ b ∷ [] }
  heard-byte b s e other short = heard-other b s false e other (le-ltb (limit_of (s.text ++ b ∷ [])) (length (s.text ++ b ∷ [])) short)

  -- bytes of a line
  pub after-bytes : (bs : List ℕ) (s : Progress A E) → s.end ≡ None → HasNoEnd bs → length (s.text ++ bs) ≤ limit_of (s.text ++ bs) → after_bytes answer bs s
      ≡ record s { text = s.text ++ bs }
  after-bytes [] s e none short = ap (λ (l : List ℕ). record s { text = l }) (sym (append-nil s.text))
  after-bytes (b ∷ bs) s e none short =
      let parts : (s.text ++ b ∷ []) ++ bs ≡ s.text ++ b ∷ bs = append_assoc s.text (b ∷ []) bs in
      let whole : length ((s.text ++ b ∷ []) ++ bs) ≤ limit_of ((s.text ++ b ∷ []) ++ bs) = subst (λ (l : List ℕ). length l ≤ limit_of l) (sym parts) short in
      ap (after_bytes answer bs) (heard-byte b s e none.0 (limit_front (s.text ++ b ∷ []) bs (omega (arith, whole, length-append (s.text ++ b ∷ []) bs))))
      ∙ after-bytes bs (record s { text = s.text ++ b ∷ [] }) e none.1 whole
      ∙ ap (λ (l : List ℕ). record s { text = l }) parts

  -- a line, and its end
  pub after-line : (bs : List ℕ) (s : Progress A E) → s.end ≡ None → HasNoEnd bs → length (s.text ++ bs) ≤ limit_of (s.text ++ bs)
      → after_bytes answer (bs ++ 10 ∷ []) s ≡ answered answer (record s { text = s.text ++ bs })
  after-line bs s e none short =
      after-++ bs (10 ∷ []) s ∙ ap (after_bytes answer (10 ∷ [])) (after-bytes bs s e none short)
      ∙ ap (λ (o : Option E). heard answer o 10 (record s { text = s.text ++ bs })) e

  -- a line that is one byte too long
  pub after-excess : (bs : List ℕ) (s : Progress A E) → s.end ≡ None → HasNoEnd bs → length s.text ≤ limit_of s.text → length (s.text ++ bs)
      ≡ limit_of (s.text ++ bs) + 1 → after_bytes answer bs s ≡ answered answer (record s { text = s.text ++ bs })
  after-excess [] s e none short long = absurd
      (let same : s.text ++ [] ≡ s.text = append-nil s.text in omega (arith, short, long, ap length same, ap limit_of same))
  after-excess (b ∷ []) s e none short long =
      heard-other b s true e none.0 (lt-ltb (limit_of (s.text ++ b ∷ [])) (length (s.text ++ b ∷ [])) (omega (arith, long)))
  after-excess (b ∷ c ∷ bs) s e none short long =
      let parts : (s.text ++ b ∷ []) ++ c ∷ bs ≡ s.text ++ b ∷ c ∷ bs = append_assoc s.text (b ∷ []) (c ∷ bs) in
      let whole : length ((s.text ++ b ∷ []) ++ c ∷ bs)
      ≡ limit_of ((s.text ++ b ∷ []) ++ c ∷ bs) + 1 = subst (λ (l : List ℕ). length l ≡ limit_of l + 1) (sym parts) long in
      let within : length (s.text ++ b ∷ []) ≤ limit_of (s.text ++ b ∷ []) = limit_front (s.text ++ b ∷ []) (c ∷ bs)
      (omega (arith, whole, length-append (s.text ++ b ∷ []) (c ∷ bs))) in
      ap (after_bytes answer (c ∷ bs)) (heard-byte b s e none.0 within)
      ∙ after-excess (c ∷ bs) (record s { text = s.text ++ b ∷ [] }) e none.1 within whole
      ∙ ap (λ (l : List ℕ). answered answer (record s { text = l })) parts

  -- what was printed stays
  starts-refl : (text : List ℕ) → Starts text text
  starts-refl text = ([], sym (append-nil text))

  starts-trans : (a b c : List ℕ) → Starts a b → Starts b c → Starts a c
  starts-trans a b c p q = (p.0 ++ q.0, q.1 ∙ ap (λ (l : List ℕ). l ++ q.0) p.1 ∙ append_assoc a p.0 q.0)

  told-starts : (x : Answer A E) (s : Progress A E) → Starts s.printed (told x s).printed
  told-starts (Goes block a) s = (block, refl)
  told-starts (Ends r) s = (r.text, refl)

  either-starts : (t : Bool) (front : List ℕ) (x y : Progress A E) → Starts front x.printed → Starts front y.printed → Starts front (cond t x y).printed
  either-starts true front x y p q = p
  either-starts false front x y p q = q

  heard-starts : (o : Option E) (b : ℕ) (s : Progress A E) → Starts s.printed (heard answer o b s).printed
  heard-starts (Some status) b s = starts-refl s.printed
  heard-starts None b s =
      let t : Progress A E = record s { text = s.text ++ b ∷ [] } in
      either-starts (eqb b 10) s.printed (answered answer s) (checked answer t) (told-starts (answer s.line s.state s.text) s)
      (either-starts (ltb (limit_of t.text) (length t.text)) s.printed (answered answer t) t (told-starts (answer t.line t.state t.text) t)
      (starts-refl s.printed))

  pub after-starts : (bs : List ℕ) (s : Progress A E) → Starts s.printed (after_bytes answer bs s).printed
  after-starts [] s = starts-refl s.printed
  after-starts (b ∷ bs) s =
      let t : Progress A E = heard answer s.end b s in
      starts-trans s.printed t.printed (after_bytes answer bs t).printed (heard-starts s.end b s) (after-starts bs t)

  ran-starts : (o : Option E) (s : Progress A E) → Starts s.printed (ran closing o s).text
  ran-starts None s = ((closing s.line s.state).text, refl)
  ran-starts (Some status) s = starts-refl s.printed

  closed-starts : (s : Progress A E) → Starts s.printed (closed answer s).printed
  closed-starts s = either-starts (eqb (length s.text) 0) s.printed s (heard answer s.end 10 s) (starts-refl s.printed) (heard-starts s.end 10 s)

  pub finished-starts : (s : Progress A E) → Starts s.printed (finished answer closing s).text
  finished-starts s =
      let t : Progress A E = closed answer s in
      starts-trans s.printed t.printed (ran closing t.end t).text (closed-starts s) (ran-starts t.end t)

  -- what is printed after some bytes is at the front of what is printed for the whole
  pub replay-starts : (xs ys : List ℕ) (s : Progress A E) → Starts (after_bytes answer xs s).printed
      (finished answer closing (after_bytes answer (xs ++ ys) s)).text
  replay-starts xs ys s =
      let t : Progress A E = after_bytes answer xs s in
      subst (λ (u : Progress A E). Starts t.printed (finished answer closing u).text) (sym (after-++ xs ys s))
      (starts-trans t.printed (after_bytes answer ys t).printed (finished answer closing (after_bytes answer ys t)).text (after-starts ys t)
      (finished-starts (after_bytes answer ys t)))

  -- a line that has bytes is closed by its end
  pub closed-some : (b : ℕ) (bs : List ℕ) (s : Progress A E) → s.text ≡ b ∷ bs → closed answer s ≡ heard answer s.end 10 s
  closed-some b bs s e = ap (λ (l : List ℕ). cond (eqb (length l) 0) s (heard answer s.end 10 s)) e
      ∙ ap (λ (t : Bool). cond t s (heard answer s.end 10 s)) (ne_eqb (length (b ∷ bs)) 0 (λ none. omega (arith, none)))

  -- a trace that has ended is closed
  closed-ended : (s : Progress A E) (status : E) → s.end ≡ Some status → closed answer s ≡ s
  closed-ended s status e = ap (λ (o : Option E). cond (eqb (length s.text) 0) s (heard answer o 10 s)) e ∙ same (eqb (length s.text) 0)
    where
      same : (t : Bool) → cond t s s ≡ s
      same true = refl
      same false = refl

  -- a trace that ended after some bytes has ended so
  pub replay-ended : (xs ys : List ℕ) (s : Progress A E) (status : E) → (after_bytes answer xs s).end ≡ Some status
      → finished answer closing (after_bytes answer (xs ++ ys) s) ≡ record { text = (after_bytes answer xs s).printed; end = status }
  replay-ended xs ys s status e =
      let t : Progress A E = after_bytes answer xs s in
      ap (finished answer closing) (after-++ xs ys s ∙ after-ended ys t status e)
      ∙ ap (λ (u : Progress A E). ran closing u.end u) (closed-ended t status e)
      ∙ ap (λ (o : Option E). ran closing o t) e

  -- what is printed at the end of an input, after what was printed before
  ran-after : (p : List ℕ) (o : Option E) (s : Progress A E) → ran closing o (record s { printed = p ++ s.printed })
      ≡ record { text = p ++ (ran closing o s).text; end = (ran closing o s).end }
  ran-after p None s = ap (λ (l : List ℕ). record { text = l; end = (closing s.line s.state).end }) (append_assoc p s.printed (closing s.line s.state).text)
  ran-after p (Some status) s = refl

  told-after : (p : List ℕ) (x : Answer A E) (s : Progress A E) → told x (record s { printed = p ++ s.printed })
      ≡ (let t = told x s in record t { printed = p ++ t.printed })
  told-after p (Goes block a) s = ap (λ (l : List ℕ). record { line = s.line + 1; text = []; state = a; printed = l; end = None })
      (append_assoc p s.printed block)
  told-after p (Ends r) s = ap (λ (l : List ℕ). record s { printed = l; end = Some r.end }) (append_assoc p s.printed r.text)

  closed-after : (p : List ℕ) (line : ℕ) (text : List ℕ) (state : A) → closed answer (standing line text state (p ++ []))
      ≡ (let t = closed answer (standing line text state []) in record t { printed = p ++ t.printed })
  closed-after p line [] state = refl
  closed-after p line (b ∷ bs) state =
      closed-some b bs (standing line (b ∷ bs) state (p ++ [])) refl
      ∙ told-after p (answer line state (b ∷ bs)) (standing line (b ∷ bs) state [])
      ∙ ap (λ (t : Progress A E). record t { printed = p ++ t.printed }) (sym (closed-some b bs (standing line (b ∷ bs) state []) refl))

  pub finished-after : (p : List ℕ) (line : ℕ) (text : List ℕ) (state : A) → finished answer closing (standing line text state p)
      ≡ record { text = p ++ (finished answer closing (standing line text state [])).text; end = (finished answer closing (standing line text state [])).end }
  finished-after p line text state =
      let t : Progress A E = closed answer (standing line text state []) in
      ap (λ (l : List ℕ). finished answer closing (standing line text state l)) (sym (append-nil p))
      ∙ ap (λ (u : Progress A E). ran closing u.end u) (closed-after p line text state)
      ∙ ran-after p t.end t
