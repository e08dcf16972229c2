-- What a run has written when it ends, from what it wrote before and what its last step wrote.
use Rattle.std.proofs.Common.{
  ◌≡◌,
  ℕ,
  ◌+◌,
  ◌-◌,
  ◌<◌,
  ◌≤◌,
  true,
  false,
  List,
  [],
  ◌∷◌,
  ◌++◌,
  length,
  take,
  Option,
  Some,
  None,
  Result,
  Ok,
  Err,
  is_err,
  OnErr,
  refl,
  sym,
  ap,
  ◌∙◌,
  inl,
  inr,
  ◌⊎◌,
  arith,
  subst,
  append_assoc,
  append-nil,
  length-append,
}
use Rattle.std.specs.Io.KnownBytes.{Consumes, IsAtEnd}
use Rattle.board_io.specs.Ends.{Grows, Input, Output, Held}
use Rattle.board_io.proofs.Bytes.{Grows-trans}
use Rattle.std.proofs.lemmas.List.{take_all, take-append-le}
use Rattle.board_io.specs.Faults.{Rose}
use Rattle.trace_loop.specs.Text.{source_fault_text, memory_fault_text}
use Rattle.trace_loop.specs.Answered.{printed, end_of, state_after}
use Rattle.trace_loop.specs.Progress.{
  limit_of,
  Closing,
  Answer,
  Goes,
  Ends,
  Progress,
  opened,
  standing,
  told,
  answered,
  after_bytes,
  finished,
}
use Rattle.trace_loop.specs.Cut.{Cut, IsLine, IsWhole}
use Rattle.trace_loop.specs.Outcome.{Begins, Run, run_over, IsText, IsSourceFault, IsMemoryFault, Outcome, IsPutAll, Said}
use Rattle.trace_loop.specs.private.Going.{IsAsked, Stands}
use Rattle.trace_loop.specs.declared.ended.Ended.{Ended}
use Rattle.trace_loop.specs.declared.ended.Ended.TheVariants as statuses
use Rattle.trace_loop.proofs.Progresses.{after-++, after-bytes, after-line, after-excess, replay-starts, replay-ended, finished-after}

-- a count that rose in one part of a call rose in the call
pub Rose-within : (a b c d : ℕ) → a ≤ b → c ≤ d → Rose b c → Rose a d
Rose-within a b c d before after rose = omega arith

-- a text that was put whole
pub record IsWholePut (before after : Output) (text : List ℕ) : Type 0 where
  pub all : Grows before.contents after.contents text
  pub well : after.faults ≡ before.faults
  pub quiet : after.done ≡ before.done

pub put_whole : {T E : Type 0} (r : Result T E) (before after : Output) (text : List ℕ) → is_err r ≡ false → IsPutAll before after text r
    → IsWholePut before after text
put_whole (Ok x) before after text fine put = record { all = put.all; well = put.well; quiet = put.quiet }
put_whole (Err e) before after text fine put = cc

-- a result that is an error has what an `Err` has
pub on_err_from_is_err : {T E : Type 0} → (r : Result T E) (A : Type 0) → is_err r ≡ true → OnErr r A → A
on_err_from_is_err {T} {E} (Ok x) A failed h = cc
on_err_from_is_err {T} {E} (Err e) A failed h = h

-- a text that was written whole, and another after it
pub said-after : {E : Type 0} (status result : Ended E) (c0 c1 c2 : Held) (first second : List ℕ) (f0 f1 f2 : ℕ) → f0 ≤ f1 → Grows c0 c1 first
    → Said status result c1 c2 second (Rose f1 f2) → Said status result c0 c2 (first ++ second) (Rose f0 f2)
said-after status result c0 c1 c2 first second f0 f1 f2 more before (inl said) = inl (said.0, Grows-trans c0 c1 c2 first second before said.1)
said-after status result c0 c1 c2 first second f0 f1 f2 more before (inr cut) = inr (
  cut.0,
  Rose-within f0 f1 f2 f2 more (omega arith) cut.1,
  (
    first ++ cut.2.0,
    (cut.2.1.0, ap (λ (l : List ℕ). first ++ l) cut.2.1.1 ∙ sym (append_assoc first cut.2.0 cut.2.1.0)),
    Grows-trans c0 c1 c2 first cut.2.0 before cut.2.2,
  ),
)

-- what a source gave was at the front of what it had left
pub consumed : (a b : Option (List ℕ)) (rest piece : List ℕ) → a ≡ Some rest → Consumes a b piece → (more : List ℕ) × (b ≡ Some more) × (rest ≡ piece ++ more)
consumed None b rest piece is took = cc
consumed (Some xs) None rest piece is took = absurd took
consumed (Some xs) (Some ys) rest piece is took = let same : xs ≡ rest = cc in (ys, refl, sym same ∙ took)

-- a source that gave nothing has nothing left
pub at_end : (a b : Option (List ℕ)) (rest piece : List ℕ) → a ≡ Some rest → length piece ≡ 0 → Consumes a b piece → IsAtEnd b → rest ≡ []
at_end a b rest [] is none took end =
    let h = consumed a b rest [] is took in
    let empty : h.0 ≡ [] = subst IsAtEnd h.1 end in
    h.2 ∙ empty
at_end a b rest (x ∷ xs) is none took end = absurd (omega arith)

-- a line that is one byte too long has a byte more than one that isn't
pub excess_some : (text bytes line : List ℕ) → line ≡ text ++ bytes → length text ≤ limit_of text → length line ≡ limit_of line + 1 → 0 < length bytes
excess_some text [] line is short long = let same : line ≡ text = is ∙ append-nil text in absurd (omega (arith, short, long, ap length same, ap limit_of same))
excess_some text (b ∷ bs) line is short long = omega arith

-- a line takes a byte at least
pub line_shorter : (old new : Cut) → IsLine old new → length new.left + 1 ≤ length old.left
line_shorter old new l = by_end l.end
  where
    len : length new.line ≡ length old.text + length l.bytes
    len = ap length l.line ∙ length-append old.text l.bytes

    by_end : ((length new.line ≤ limit_of new.line) × (old.left ≡ l.bytes ++ 10 ∷ new.left)) ⊎
        ((length new.line ≡ limit_of new.line + 1) × (old.left ≡ l.bytes ++ new.left)) → length new.left + 1 ≤ length old.left
    by_end (inl h) = omega (arith, ap length h.1, length-append l.bytes (10 ∷ new.left))
    by_end (inr h) = omega (arith, ap length h.1, length-append l.bytes new.left, excess_some old.text l.bytes new.line l.line l.short h.0)

-- the front of a list
front : (xs ys : List ℕ) (n : ℕ) → length xs ≡ n → take n (xs ++ ys) ≡ xs
front xs ys n is = take-append-le n xs ys (omega arith) ∙ take_all n xs (omega arith)

module _ (A E : Type 0) (answer : ℕ → A → List ℕ → Answer A E) (closing : ℕ → A → Closing E) (a : A) where
  -- a line that was cut off is answered
  line_heard : (bytes : List ℕ) (line : ℕ) (state : A) (before : List ℕ) (old new : Cut) → after_bytes answer bytes (opened a)
      ≡ standing line old.text state before → IsLine old new
      → (more : List ℕ) × (old.left ≡ more ++ new.left) ×
      (after_bytes answer (bytes ++ more) (opened a) ≡ answered answer (standing line new.line state before))
  line_heard bytes line state before old new there l = by_end l.end
    where
      s : Progress A E
      s = standing line old.text state before

      by_end : ((length new.line ≤ limit_of new.line) × (old.left ≡ l.bytes ++ 10 ∷ new.left)) ⊎
          ((length new.line ≡ limit_of new.line + 1) × (old.left ≡ l.bytes ++ new.left))
          → (more : List ℕ) × (old.left ≡ more ++ new.left) ×
          (after_bytes answer (bytes ++ more) (opened a) ≡ answered answer (standing line new.line state before))
      by_end (inl h) = (
        l.bytes ++ 10 ∷ [],
        h.1 ∙ sym (append_assoc l.bytes (10 ∷ []) new.left),
        after-++ A E answer closing bytes (l.bytes ++ 10 ∷ []) (opened a) ∙ ap (after_bytes answer (l.bytes ++ 10 ∷ [])) there
            ∙ after-line A E answer closing l.bytes s refl l.in_line (subst (λ (t : List ℕ). length t ≤ limit_of t) l.line h.0)
            ∙ ap (λ (text : List ℕ). answered answer (standing line text state before)) (sym l.line),
      )
      by_end (inr h) = (
        l.bytes,
        h.1,
        after-++ A E answer closing bytes l.bytes (opened a) ∙ ap (after_bytes answer l.bytes) there
            ∙ after-excess A E answer closing l.bytes s refl l.in_line l.short (subst (λ (t : List ℕ). length t ≡ limit_of t + 1) l.line h.0)
            ∙ ap (λ (text : List ℕ). answered answer (standing line text state before)) (sym l.line),
      )

  told_goes : (x : Answer A E) (line : ℕ) (text : List ℕ) (state : A) (before : List ℕ) → None ≡ end_of x → told x (standing line text state before)
      ≡ standing (line + 1) [] (state_after x state) (before ++ printed x)
  told_goes (Goes block b) line text state before none = refl
  told_goes (Ends r) line text state before none = cc

  told_ends : (x : Answer A E) (line : ℕ) (text : List ℕ) (state : A) (before : List ℕ) (status : E) → Some status ≡ end_of x
      → ((told x (standing line text state before)).end ≡ Some status) × ((told x (standing line text state before)).printed ≡ before ++ printed x)
  told_ends (Goes block b) line text state before status is = cc
  told_ends (Ends r) line text state before status is = (sym is, refl)

  later : (input put : List ℕ) (before place more : ℕ) → place ≤ more → IsAsked A E answer a input put before place
      → IsAsked A E answer a input put before more
  later input put before place more on asked = record { least = omega (arith, asked.least); printed_ = asked.printed_; going = asked.going }

  -- a line is answered, and the trace goes on
  pub stands_line : (input rest put out grown : List ℕ) (given before line : ℕ) (state now : A) (old new : Cut)
      → Stands A E answer a input old.left rest put out given before (standing line old.text state (put ++ out)) → IsLine old new
      → None ≡ end_of (answer line state new.line) → grown ≡ out ++ printed (answer line state new.line) → now ≡ state_after (answer line state new.line) state
      → Stands A E answer a input new.left rest put grown given before (standing (line + 1) new.text now (put ++ grown))
  stands_line input rest put out grown given before line state now old new s l none shown is =
      let h = line_heard s.bytes line state (put ++ out) old new s.there l in
      let x : Answer A E = answer line state new.line in
      record {
        bytes = s.bytes ++ h.0;
        whole = s.whole ∙ ap (λ (left : List ℕ). (s.bytes ++ left) ++ rest) h.1 ∙ ap (λ (l : List ℕ). l ++ rest) (sym (append_assoc s.bytes h.0 new.left));
        count = omega (arith, s.count, length-append s.bytes h.0, ap length h.1, length-append h.0 new.left);
        there =
            h.2 ∙ told_goes x line new.line state (put ++ out) none
            ∙ ap (λ (text : List ℕ). standing (line + 1) text (state_after x state) ((put ++ out) ++ printed x)) (sym l.text)
            ∙ ap (λ (b : A). standing (line + 1) new.text b ((put ++ out) ++ printed x)) (sym is)
            ∙ ap (λ (p : List ℕ). standing (line + 1) new.text now p) (append_assoc put out (printed x) ∙ ap (λ (p : List ℕ). put ++ p) (sym shown));
        asked = λ some. later input put before (length s.bytes) (length (s.bytes ++ h.0)) (omega (arith, length-append s.bytes h.0))
            (s.asked (omega (arith, line_shorter old new l, s.count)));
      }

  -- a line is answered, and ends the trace
  pub ends_line : (input rest put out grown : List ℕ) (given before line : ℕ) (state : A) (status : E) (old new : Cut)
      → Stands A E answer a input old.left rest put out given before (standing line old.text state (put ++ out)) → IsLine old new
      → Some status ≡ end_of (answer line state new.line) → grown ≡ out ++ printed (answer line state new.line)
      → finished answer closing (after_bytes answer input (opened a)) ≡ record { text = put ++ grown; end = status }
  ends_line input rest put out grown given before line state status old new s l some shown =
      let h = line_heard s.bytes line state (put ++ out) old new s.there l in
      let x : Answer A E = answer line state new.line in
      let t = told_ends x line new.line state (put ++ out) status some in
      let parts : input ≡ (s.bytes ++ h.0) ++ (new.left ++ rest) =
      s.whole ∙ ap (λ (left : List ℕ). (s.bytes ++ left) ++ rest) h.1 ∙ ap (λ (l : List ℕ). l ++ rest) (sym (append_assoc s.bytes h.0 new.left))
      ∙ append_assoc (s.bytes ++ h.0) new.left rest in
      let end : (after_bytes answer (s.bytes ++ h.0) (opened a)).end ≡ Some status = ap (λ (u : Progress A E). u.end) h.2 ∙ t.0 in
      let text : (after_bytes answer (s.bytes ++ h.0) (opened a)).printed ≡ put ++ grown = ap (λ (u : Progress A E). u.printed) h.2 ∙ t.1
      ∙ append_assoc put out (printed x) ∙ ap (λ (p : List ℕ). put ++ p) (sym shown) in
      ap (λ (l : List ℕ). finished answer closing (after_bytes answer l (opened a))) parts
      ∙ replay-ended A E answer closing (s.bytes ++ h.0) (new.left ++ rest) (opened a) status end
      ∙ ap (λ (l : List ℕ). record { text = l; end = status }) text

  -- the bytes that were left are part of the line
  pub stands_whole : (input rest put out : List ℕ) (given before line : ℕ) (state : A) (old new : Cut)
      → Stands A E answer a input old.left rest put out given before (standing line old.text state (put ++ out)) → IsWhole old new
      → Stands A E answer a input [] rest put out given before (standing line new.text state (put ++ out))
  stands_whole input rest put out given before line state old new s l =
      let len : length new.text ≡ length old.text + length old.left = ap length l.text ∙ length-append old.text old.left in
      record {
        bytes = s.bytes ++ old.left;
        whole = s.whole ∙ ap (λ (l : List ℕ). l ++ rest) (sym (append-nil (s.bytes ++ old.left)));
        count = omega (arith, s.count, length-append s.bytes old.left);
        there =
            after-++ A E answer closing s.bytes old.left (opened a) ∙ ap (after_bytes answer old.left) s.there
            ∙ after-bytes A E answer closing old.left (standing line old.text state (put ++ out)) refl l.in_line
            (subst (λ (t : List ℕ). length t ≤ limit_of t) l.text l.short)
            ∙ ap (λ (text : List ℕ). standing line text state (put ++ out)) (sym l.text);
        asked = λ some. later input put before (length s.bytes) (length (s.bytes ++ old.left)) (omega (arith, length-append s.bytes old.left))
            (s.asked (omega arith));
      }

  -- what is to be put is put, and then the source is called
  pub stands_put : (input rest put out : List ℕ) (given before line : ℕ) (text : List ℕ) (state : A)
      → Stands A E answer a input [] rest put out given before (standing line text state (put ++ out))
      → (input ≡ take given input ++ rest) × (length (take given input) ≡ given) ×
      (after_bytes answer (take given input) (opened a) ≡ standing line text state (put ++ out))
  stands_put input rest put out given before line text state s =
      let bytes : input ≡ s.bytes ++ rest = s.whole ∙ ap (λ (l : List ℕ). l ++ rest) (append-nil s.bytes) in
      let len : length s.bytes ≡ given = omega (arith, s.count) in
      let same : take given input ≡ s.bytes = ap (take given) bytes ∙ front s.bytes rest given len in
      (bytes ∙ ap (λ (l : List ℕ). l ++ rest) (sym same), ap length same ∙ len, ap (λ (l : List ℕ). after_bytes answer l (opened a)) same ∙ s.there)

  -- all was put before the source is called: what is printed after the bytes given
  pub stands_asked : (input rest put out : List ℕ) (given before asked line : ℕ) (text : List ℕ) (state : A)
      → Stands A E answer a input [] rest put out given before (standing line text state (put ++ out)) → asked ≡ given
      → IsAsked A E answer a input (put ++ out) asked given
  stands_asked input rest put out given before asked line text state s is =
      let same : after_bytes answer (take asked input) (opened a) ≡ standing line text state (put ++ out) =
      ap (λ (n : ℕ). after_bytes answer (take n input) (opened a)) is ∙ (stands_put input rest put out given before line text state s).2 in
      record { least = omega (arith, is); printed_ = ap (λ (u : Progress A E). u.printed) same; going = ap (λ (u : Progress A E). u.end) same }

  -- a piece more was given
  pub stands_refill : (input rest more piece put out : List ℕ) (given before asked now line : ℕ) (text : List ℕ) (state : A) (line' : ℕ) (text' out' : List ℕ)
      → Stands A E answer a input [] rest put out given before (standing line text state (put ++ out)) → rest ≡ piece ++ more → asked ≡ given → now
      ≡ given + length piece → line' ≡ line → text' ≡ text → out' ≡ []
      → Stands A E answer a input piece more (put ++ out) out' now asked (standing line' text' state ((put ++ out) ++ out'))
  stands_refill input rest more piece put out given before asked now line text state line' text' out' s parts is count el et eo =
      let t = stands_put input rest put out given before line text state s in
      rw (el, et, eo) (record {
        bytes = take given input;
        whole = t.0 ∙ ap (λ (l : List ℕ). take given input ++ l) parts ∙ sym (append_assoc (take given input) piece more);
        count = omega (arith, t.1, count);
        there = t.2 ∙ ap (λ (p : List ℕ). standing line text state p) (sym (append-nil (put ++ out)));
        asked = λ some. later input (put ++ out) asked given (length (take given input)) (omega (arith, t.1))
            (stands_asked input rest put out given before asked line text state s is);
      })

  -- the input ended here
  pub stands_end : (input rest put out : List ℕ) (given before line : ℕ) (text : List ℕ) (state : A) (line' : ℕ) (text' : List ℕ)
      → Stands A E answer a input [] rest put out given before (standing line text state (put ++ out)) → rest ≡ [] → line' ≡ line → text' ≡ text
      → (let r = finished answer closing (standing line' text' state []) in finished answer closing (after_bytes answer input (opened a))
      ≡ record { text = (put ++ out) ++ r.text; end = r.end })
  stands_end input rest put out given before line text state line' text' s none el et =
      let t = stands_put input rest put out given before line text state s in
      let all : input ≡ take given input = t.0 ∙ ap (λ (l : List ℕ). take given input ++ l) none ∙ append-nil (take given input) in
      ap (λ (l : List ℕ). finished answer closing (after_bytes answer l (opened a))) all ∙ ap (finished answer closing) t.2
      ∙ ap (λ (n : ℕ). finished answer closing (standing n text state (put ++ out))) (sym el)
      ∙ ap (λ (l : List ℕ). finished answer closing (standing line' l state (put ++ out))) (sym et)
      ∙ finished-after A E answer closing (put ++ out) line' text' state

  -- the place of a run, as a number of bytes
  pub stands_at : (input left rest put out : List ℕ) (given before line : ℕ) (text : List ℕ) (state : A)
      → (s : Stands A E answer a input left rest put out given before (standing line text state (put ++ out)))
      → after_bytes answer (take (length s.bytes) input) (opened a) ≡ standing line text state (put ++ out)
  stands_at input left rest put out given before line text state s =
      ap (λ (l : List ℕ). after_bytes answer l (opened a))
      (ap (take (length s.bytes)) (s.whole ∙ append_assoc s.bytes left rest) ∙ front s.bytes (left ++ rest) (length s.bytes) refl) ∙ s.there

  -- what is printed after the bytes so far is at the front of what is printed for the whole
  pub stands_starts : (input left rest put out : List ℕ) (given before line : ℕ) (text : List ℕ) (state : A)
      → Stands A E answer a input left rest put out given before (standing line text state (put ++ out))
      → (more : List ℕ) × ((finished answer closing (after_bytes answer input (opened a))).text ≡ put ++ (out ++ more))
  stands_starts input left rest put out given before line text state s =
      let parts : input ≡ s.bytes ++ (left ++ rest) = s.whole ∙ append_assoc s.bytes left rest in
      let t = replay-starts A E answer closing s.bytes (left ++ rest) (opened a) in (
        t.0,
        ap (λ (l : List ℕ). (finished answer closing (after_bytes answer l (opened a))).text) parts ∙ t.1 ∙ ap (λ (u : Progress A E). u.printed ++ t.0) s.there
            ∙ append_assoc put out t.0,
      )

-- one of the three texts that may be put
abbrev pub IsShown : {A E : Type 0} → Run A E → List ℕ → Type 0
IsShown w text = IsText w text ⊎ (IsSourceFault w text ⊎ IsMemoryFault w text)

module _ (A E : Type 0) (w : Run A E) where
  -- a sink that failed has taken what was put before, and a prefix of the last text
  pub cut_off : (put last more text : List ℕ) (c0 c1 c2 : Held) → Grows c0 c1 put → Begins (w.at (w.end.before - w.start.given)).printed put
      → IsShown w text → text ≡ put ++ (last ++ more)
      → (cut : List ℕ) × Begins cut last × Grows c1 c2 cut → Outcome w statuses.SinkFault c0 c2
  cut_off put last more text c0 c1 c2 before held shown whole cut = (
    put ++ cut.0,
    (
      (held.0 ++ cut.0, ap (λ (l : List ℕ). l ++ cut.0) held.1 ∙ append_assoc (w.at (w.end.before - w.start.given)).printed held.0 cut.0),
      (
        text,
        shown,
        (
          cut.1.0 ++ more,
          whole ∙ ap (λ (l : List ℕ). put ++ (l ++ more)) cut.1.1 ∙ ap (λ (l : List ℕ). put ++ l) (append_assoc cut.0 cut.1.0 more)
              ∙ sym (append_assoc put cut.0 (cut.1.0 ++ more)),
        ),
      ),
    ),
    Grows-trans c0 c1 c2 put cut.0 before cut.2,
  )

  -- the last text was put, or the sink failed
  pub said_out : (status result : Ended E) (put last : List ℕ) (c0 c1 c2 : Held) (fault : Type 0) → Grows c0 c1 put
      → Begins (w.at (w.end.before - w.start.given)).printed put → IsShown w (put ++ last)
      → (Grows c0 c2 (put ++ last) → Outcome w status c0 c2) → Said status result c1 c2 last fault → Outcome w result c0 c2
  said_out status result put last c0 c1 c2 fault before held shown out (inl said) =
      subst (λ (s : Ended E). Outcome w s c0 c2) (sym said.0) (out (Grows-trans c0 c1 c2 put last before said.1))
  said_out status result put last c0 c1 c2 fault before held shown out (inr cut) =
      subst (λ (s : Ended E). Outcome w s c0 c2) (sym cut.0)
      (cut_off put last [] (put ++ last) c0 c1 c2 before held shown (ap (λ (l : List ℕ). put ++ l) (sym (append-nil last))) cut.2)

  pub ended_out : (end : E) (text : List ℕ) (c0 c2 : Held) → w.whole ≡ record { text = text; end = end } → w.end.faults ≡ w.start.faults
      → Grows c0 c2 text → Outcome w (statuses.By end) c0 c2
  ended_out end text c0 c2 is well shown = (sym (ap (λ (r : Closing E). r.end) is), (text, (sym (ap (λ (r : Closing E). r.text) is), well), shown))

module _ (A E : Type 0) (answer : ℕ → A → List ℕ → Answer A E) (closing : ℕ → A → Closing E) (a : A) (input : List ℕ) (start now : Input) where
  abbrev run_here : Run A E
  run_here = run_over answer closing a input start now

  abbrev given_before : ℕ
  given_before = now.before - start.given

  abbrev given_now : ℕ
  given_now = now.given - start.given

  held : (put : List ℕ) (place : ℕ) → IsAsked A E answer a input put given_before place
      → Begins (after_bytes answer (take given_before input) (opened a)).printed put
  held put place asked = ([], sym asked.printed_ ∙ sym (append-nil (after_bytes answer (take given_before input) (opened a)).printed))

  -- a line ended the trace
  pub out_ended : (end : E) (result : Ended E) (put last : List ℕ) (place : ℕ) (c0 c1 c2 : Held) (fault : Type 0)
      → finished answer closing (after_bytes answer input (opened a)) ≡ record { text = put ++ last; end = end } → now.faults ≡ start.faults
      → IsAsked A E answer a input put given_before place → Grows c0 c1 put
      → Said (statuses.By end) result c1 c2 last fault → Outcome run_here result c0 c2
  out_ended end result put last place c0 c1 c2 fault is well asked shown said =
      said_out A E run_here (statuses.By end) result put last c0 c1 c2 fault shown (held put place asked)
      (inl (sym (ap (λ (r : Closing E). r.text) is), well))
      (λ all. ended_out A E run_here end (put ++ last) c0 c2 is well all) said

  -- memory ran out after some lines
  pub out_memory : (result : Ended E) (put last text : List ℕ) (place : ℕ) (c0 c1 c2 : Held) (fault : Type 0)
      → (after_bytes answer (take place input) (opened a)).printed ≡ put ++ text
      → (after_bytes answer (take place input) (opened a)).end ≡ None → place ≤ given_now
      → last ≡ text ++ memory_fault_text → now.faults ≡ start.faults
      → IsAsked A E answer a input put given_before place → Grows c0 c1 put
      → Said statuses.NoMemory result c1 c2 last fault → Outcome run_here result c0 c2
  out_memory result put last text place c0 c1 c2 fault is going within parts well asked shown said =
      let memory : IsMemoryFault run_here (put ++ last) = (
        place,
        ap (λ (l : List ℕ). put ++ l) parts ∙ sym (append_assoc put text memory_fault_text) ∙ ap (λ (l : List ℕ). l ++ memory_fault_text) (sym is),
        asked.least,
        within,
        going,
        well,
      ) in
      said_out A E run_here statuses.NoMemory result put last c0 c1 c2 fault shown (held put place asked)
      (inr (inr memory)) (λ all. (put ++ last, memory, all)) said

  -- the source failed
  pub out_source : (result : Ended E) (put : List ℕ) (place : ℕ) (c0 c1 c2 : Held) (fault : Type 0)
      → (after_bytes answer (take given_now input) (opened a)).printed ≡ put → (after_bytes answer (take given_now input) (opened a)).end ≡ None
      → Rose start.faults now.faults → IsAsked A E answer a input put given_before place → Grows c0 c1 put
      → Said statuses.SourceFault result c1 c2 source_fault_text fault → Outcome run_here result c0 c2
  out_source result put place c0 c1 c2 fault is going rose asked shown said =
      let source : IsSourceFault run_here (put ++ source_fault_text) =
      (ap (λ (l : List ℕ). l ++ source_fault_text) (sym is), going, rose) in
      said_out A E run_here statuses.SourceFault result put source_fault_text c0 c1 c2 fault shown
      (held put place asked) (inr (inl source)) (λ all. (put ++ source_fault_text, source, all)) said

  -- the sink failed
  pub out_sink : (put last more : List ℕ) (place : ℕ) (c0 c1 c2 : Held) → (finished answer closing (after_bytes answer input (opened a))).text
      ≡ put ++ (last ++ more) → now.faults ≡ start.faults → IsAsked A E answer a input put given_before place → Grows c0 c1 put
      → (cut : List ℕ) × Begins cut last × Grows c1 c2 cut → Outcome run_here statuses.SinkFault c0 c2
  out_sink put last more place c0 c1 c2 is well asked shown cut =
      cut_off A E run_here put last more
      (finished answer closing (after_bytes answer input (opened a))).text c0 c1 c2 shown (held put place asked) (inl (refl, well)) is cut

-- what a status says of the faults
pub said-source : {E : Type 0} (status result : Ended E) (c1 c2 : Held) (text : List ℕ) (shown : Type 0) → (status ≡ statuses.SourceFault → ⊥)
    → Said status result c1 c2 text shown → result ≡ statuses.SourceFault → ⊥
said-source status result c1 c2 text shown other (inl said) is = other (sym said.0 ∙ is)
said-source status result c1 c2 text shown other (inr cut) is = let e : statuses.SinkFault ≡ statuses.SourceFault = sym cut.0 ∙ is in cc

pub said-sink : {E : Type 0} (status result : Ended E) (c1 c2 : Held) (text : List ℕ) (shown : Type 0) → (status ≡ statuses.SinkFault → ⊥)
    → Said status result c1 c2 text shown → result ≡ statuses.SinkFault → shown
said-sink status result c1 c2 text shown other (inl said) is = absurd (other (sym said.0 ∙ is))
said-sink status result c1 c2 text shown other (inr cut) is = cut.1
