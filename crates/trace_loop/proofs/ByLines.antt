-- The progress after an input is what its lines give one by one.
use Rattle.std.proofs.Common.{
  ◌≡◌,
  ◌≢◌,
  ℕ,
  ◌<◌,
  ◌≤◌,
  Bool,
  true,
  false,
  cond,
  eqb,
  ltb,
  List,
  [],
  ◌∷◌,
  ◌++◌,
  length,
  Option,
  Some,
  None,
  refl,
  sym,
  ap,
  ◌∙◌,
  arith,
  subst,
  append_assoc,
  append-nil,
  length-append,
}
use Rattle.std.specs.List.{slice_split, onto_first}
use Rattle.std.proofs.lemmas.Bool.{ne_eqb, eqb-true, eqb-false, ltb-true, ltb-false}
use Rattle.trace_loop.specs.Progress.{
  limit_of,
  Closing,
  Answer,
  Goes,
  Ends,
  Progress,
  opened,
  told,
  answered,
  heard,
  after_bytes,
  ran,
  finished,
}
use Rattle.trace_loop.specs.ByLines.{lines_of, without_empty_last, line_told, ran_lines, EndsLong}
use Rattle.trace_loop.specs.Cut.{HasNoEnd}
use Rattle.trace_loop.proofs.Progresses.{closed-some, heard-by, limit_least, replay-ended}

-- parts, cut by the end of a line
abbrev parts_of : List ℕ → List (List ℕ)
parts_of bytes = slice_split (λ b. eqb b 10) bytes

-- there is a first part
some_part : (bytes : List ℕ) → (part : List ℕ) × (parts : List (List ℕ)) × (parts_of bytes ≡ part ∷ parts)
some_part [] = ([], [], refl)
some_part (b ∷ bs) = by_end (eqb b 10) (some_part bs)
  where
    by_end : (e : Bool) → (part : List ℕ) × (parts : List (List ℕ)) × (parts_of bs ≡ part ∷ parts)
        → (part : List ℕ) × (parts : List (List ℕ)) × (cond e ([] ∷ parts_of bs) (onto_first b (parts_of bs)) ≡ part ∷ parts)
    by_end true h = ([], parts_of bs, refl)
    by_end false h = (b ∷ h.0, h.1, ap (onto_first b) h.2)

-- a line that ends is the first part
parts-line : (line rest : List ℕ) → HasNoEnd line → parts_of (line ++ 10 ∷ rest) ≡ line ∷ parts_of rest
parts-line [] rest none = refl
parts-line (b ∷ bs) rest none = rw (ne_eqb b 10 none.0) (ap (onto_first b) (parts-line bs rest none.1))

-- a part that another follows stays
kept_before : (part next : List ℕ) (parts : List (List ℕ)) → without_empty_last (part ∷ next ∷ parts) ≡ part ∷ without_empty_last (next ∷ parts)
kept_before [] next parts = refl
kept_before (b ∷ bs) next parts = refl

-- so it is the first line
lines-line : (line rest : List ℕ) → HasNoEnd line → lines_of (line ++ 10 ∷ rest) ≡ line ∷ lines_of rest
unfolding lines_of
lines-line line rest none =
    let some = some_part rest in
    ap without_empty_last (parts-line line rest none ∙ ap (λ (ps : List (List ℕ)). line ∷ ps) some.2)
    ∙ kept_before line some.0 some.1
    ∙ ap (λ (ps : List (List ℕ)). line ∷ without_empty_last ps) (sym some.2)

-- what has not ended is at the front of the first part
parts-front : (front rest : List ℕ) → HasNoEnd front → (part : List ℕ) × (parts : List (List ℕ)) × (parts_of (front ++ rest) ≡ (front ++ part) ∷ parts)
parts-front [] rest none = some_part rest
parts-front (b ∷ bs) rest none =
    let h = parts-front bs rest none.1 in
    (h.0, h.1, rw (ne_eqb b 10 none.0) (ap (onto_first b) h.2))

-- a part that isn't empty stays
first_kept : (b : ℕ) (bs : List ℕ) (parts : List (List ℕ)) → (lines : List (List ℕ)) × (without_empty_last ((b ∷ bs) ∷ parts) ≡ (b ∷ bs) ∷ lines)
first_kept b bs [] = ([], refl)
first_kept b bs (next ∷ parts) = (without_empty_last (next ∷ parts), refl)

-- so the first line is at least as long
lines-front : (front rest : List ℕ) → 0 < length front → HasNoEnd front
    → (line : List ℕ) × (lines : List (List ℕ)) × (lines_of (front ++ rest) ≡ line ∷ lines) × (length front ≤ length line) ×
    ((part : List ℕ) × (line ≡ front ++ part))
unfolding lines_of
lines-front [] rest some none = absurd (omega arith)
lines-front (b ∷ front) rest some none =
    let h = parts-front (b ∷ front) rest none in
    let kept = first_kept b (front ++ h.0) h.1 in
    (b ∷ (front ++ h.0), kept.0, ap without_empty_last h.2 ∙ kept.1, omega (arith, length-append front h.0), (h.0, refl))

-- what has not ended is the one part
parts-none : (bytes : List ℕ) → HasNoEnd bytes → parts_of bytes ≡ bytes ∷ []
parts-none [] none = refl
parts-none (b ∷ bs) none = rw (ne_eqb b 10 none.0) (ap (onto_first b) (parts-none bs none.1))

-- a line without its end is the last
lines-last : (line : List ℕ) → 0 < length line → HasNoEnd line → lines_of line ≡ line ∷ []
unfolding lines_of
lines-last [] some none = absurd (omega arith)
lines-last (b ∷ line) some none = ap without_empty_last (parts-none (b ∷ line) none)

-- a byte more that isn't the end
pub HasNoEnd-push : (line : List ℕ) (b : ℕ) → HasNoEnd line → b ≢ 10 → HasNoEnd (line ++ b ∷ [])
HasNoEnd-push [] b none other = (other, tt)
HasNoEnd-push (c ∷ cs) b none other = (none.0, HasNoEnd-push cs b none.1 other)

module _ (A E : Type 0) (answer : ℕ → A → List ℕ → Answer A E) (closing : ℕ → A → Closing E) (long_ends : EndsLong A E answer) where
  -- lines after the end of a trace change nothing
  lines-ended : (texts : List (List ℕ)) (s : Progress A E) (status : E) → s.end ≡ Some status → ran_lines answer closing texts s ≡ ran closing (Some status) s
  lines-ended [] s status e = ap (λ (o : Option E). ran closing o s) e
  lines-ended (text ∷ texts) s status e = ap (λ (o : Option E). ran_lines answer closing texts (line_told answer o text s)) e ∙ lines-ended texts s status e

  -- the first line of an input is told
  first_told : (line : List ℕ) (lines : List (List ℕ)) (input : List ℕ) (s : Progress A E) → s.end ≡ None → lines_of input ≡ line ∷ lines
      → ran_lines answer closing lines (answered answer (record s { text = line })) ≡ ran_lines answer closing (lines_of input) (record s { text = [] })
  first_told line lines input s going is =
      ap (λ (o : Option E). ran_lines answer closing lines (line_told answer o line (record s { text = [] }))) (sym going)
      ∙ ap (λ (ls : List (List ℕ)). ran_lines answer closing ls (record s { text = [] })) (sym is)

  -- what the input after a progress prints
  abbrev Agrees : List ℕ → Progress A E → Type 0
  Agrees bs s = finished answer closing (after_bytes answer bs s) ≡ ran_lines answer closing (lines_of (s.text ++ bs)) (record s { text = [] })

  last_line : (text : List ℕ) (s : Progress A E) → s.text ≡ text → s.end ≡ None → HasNoEnd text → finished answer closing s
      ≡ ran_lines answer closing (lines_of text) (record s { text = [] })
  unfolding lines_of
  last_line [] s is going none =
      ap (λ (l : List ℕ). (let t = cond (eqb (length l) 0) s (heard answer s.end 10 s) in ran closing t.end t)) is
      ∙ ap (λ (l : List ℕ). ran closing s.end (record s { text = l })) is
  last_line (b ∷ bs) s is going none =
      ap (λ (t : Progress A E). ran closing t.end t) (closed-some A E answer closing b bs s is)
      ∙ ap (λ (o : Option E). (let t = heard answer o 10 s in ran closing t.end t)) going
      ∙ ap (λ (l : List ℕ). (let t = answered answer (record s { text = l }) in ran closing t.end t)) is
      ∙ first_told (b ∷ bs) [] (b ∷ bs) s going (lines-last (b ∷ bs) (omega arith) none)

  -- a line that ends here
  line_end : (bs : List ℕ) (s : Progress A E) → s.end ≡ None → ((t : Progress A E) → t.end ≡ None → t.text ≡ [] → Agrees bs t)
      → finished answer closing (after_bytes answer bs (answered answer s)) ≡ ran_lines answer closing (lines_of bs) (answered answer s)
  line_end bs s going later = by_answer (answer s.line s.state s.text)
    where
      by_answer : (x : Answer A E) → finished answer closing (after_bytes answer bs (told x s)) ≡ ran_lines answer closing (lines_of bs) (told x s)
      by_answer (Goes block a) = later (told (Goes block a) s) refl refl
      by_answer (Ends r) = replay-ended A E answer closing [] bs (told (Ends r) s) r.end refl
          ∙ sym (lines-ended (lines_of bs) (told (Ends r) s) r.end refl)

  -- what ends a line that is too long
  abbrev excess : List ℕ → Progress A E → Closing E
  excess front s = long_ends.ending s.line s.state front

  -- a line that is too long
  too_long : (front bs : List ℕ) (s : Progress A E) → s.end ≡ None → HasNoEnd front → limit_of front < length front
      → ran closing (Some (excess front s).end) (told (Ends (excess front s)) s) ≡ ran_lines answer closing (lines_of (front ++ bs)) (record s { text = [] })
  too_long front bs s going none long =
      let h = lines-front front bs (omega (arith, limit_least front, long)) none in
      let t : Progress A E = record s { text = h.0 } in
      let first : answered answer t ≡ told (Ends (excess front s)) t =
      ap (λ (x : Answer A E). told x t) (ap (answer s.line s.state) h.4.1 ∙ long_ends.ends s.line s.state front h.4.0 long) in
      sym (lines-ended h.1 (told (Ends (excess front s)) t) (excess front s).end refl)
      ∙ ap (ran_lines answer closing h.1) (sym first)
      ∙ first_told h.0 h.1 (front ++ bs) s going h.2

  by_byte : (b : ℕ) (bs : List ℕ) (s : Progress A E) → s.end ≡ None → HasNoEnd s.text
      → ((t : Progress A E) → t.end ≡ None → HasNoEnd t.text → length t.text ≤ limit_of t.text → Agrees bs t) → Agrees (b ∷ bs) s
  by_byte b bs s going none later = by_end (eqb b 10) refl
    where
      grown : Progress A E
      grown = record s { text = s.text ++ b ∷ [] }

      bytes : (s.text ++ b ∷ []) ++ bs ≡ s.text ++ b ∷ bs
      bytes = append_assoc s.text (b ∷ []) bs

      by_over : (t : Bool) → ltb (limit_of grown.text) (length grown.text) ≡ t → b ≢ 10
          → finished answer closing (after_bytes answer bs (cond t (answered answer grown) grown))
          ≡ ran_lines answer closing (lines_of (s.text ++ b ∷ bs)) (record s { text = [] })
      by_over true over other =
          let long : limit_of grown.text < length grown.text = ltb-true (limit_of grown.text) (length grown.text) over in
          let answer_ : answer s.line s.state grown.text ≡ Ends (excess grown.text s) =
          ap (answer s.line s.state) (sym (append-nil grown.text)) ∙ long_ends.ends s.line s.state grown.text [] long in
          let ended_ : answered answer grown ≡ told (Ends (excess grown.text s)) grown = ap (λ (x : Answer A E). told x grown) answer_ in
          ap (λ (t : Progress A E). finished answer closing (after_bytes answer bs t)) ended_
          ∙ replay-ended A E answer closing [] bs (told (Ends (excess grown.text s)) grown) (excess grown.text s).end refl
          ∙ too_long grown.text bs s going (HasNoEnd-push s.text b none other) long
          ∙ ap (λ (l : List ℕ). ran_lines answer closing (lines_of l) (record s { text = [] })) bytes
      by_over false over other =
          later grown going (HasNoEnd-push s.text b none other) (ltb-false (limit_of grown.text) (length grown.text) over)
          ∙ ap (λ (l : List ℕ). ran_lines answer closing (lines_of l) (record s { text = [] })) bytes

      by_end : (t : Bool) → eqb b 10 ≡ t → Agrees (b ∷ bs) s
      by_end true is =
          ap (λ (t : Progress A E). finished answer closing (after_bytes answer bs t)) (heard-by A E answer closing b s true going is)
          ∙ line_end bs s going (λ t on empty. later t on (subst HasNoEnd (sym empty) tt) (omega (arith, ap length empty, limit_least t.text)))
          ∙ first_told s.text (lines_of bs) (s.text ++ 10 ∷ bs) s going (lines-line s.text bs none)
          ∙ ap (λ (c : ℕ). ran_lines answer closing (lines_of (s.text ++ c ∷ bs)) (record s { text = [] })) (sym (eqb-true b 10 is))
      by_end false is =
          ap (λ (t : Progress A E). finished answer closing (after_bytes answer bs t)) (heard-by A E answer closing b s false going is)
          ∙ by_over (ltb (limit_of grown.text) (length grown.text)) refl (eqb-false b 10 is)

  pub by_lines : (bs : List ℕ) (s : Progress A E) → s.end ≡ None → HasNoEnd s.text → length s.text ≤ limit_of s.text → Agrees bs s
  by_lines [] s going none short = last_line s.text s refl going none
      ∙ ap (λ (l : List ℕ). ran_lines answer closing (lines_of l) (record s { text = [] })) (sym (append-nil s.text))
  by_lines (b ∷ bs) s going none short = by_byte b bs s going none (by_lines bs)

-- what is printed for an input is what is printed for its lines
pub replay_by_lines : (A E : Type 0) (answer : ℕ → A → List ℕ → Answer A E) (closing : ℕ → A → Closing E) → EndsLong A E answer → (a : A) (input : List ℕ)
    → finished answer closing (after_bytes answer input (opened a)) ≡ ran_lines answer closing (lines_of input) (opened a)
replay_by_lines A E answer closing long_ends a input = by_lines A E answer closing long_ends input (opened a) refl tt (omega (arith, limit_least []))
