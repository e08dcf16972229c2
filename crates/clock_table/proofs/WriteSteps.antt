-- The steps of the pen's holder keep the rule.
use Rattle.std.proofs.Common.{◌≡◌, ℕ, suc, ◌+◌, ◌%◌, ◌^◌, ◌<◌, List, [], ◌∷◌, ◌++◌, get_or, set, refl, ap, sym, ◌∙◌, subst, arith}
use Rattle.std.proofs.Common.{length-set, get_or-set_same, get_or-set_other, true, true≢false, Option, Some, None}
use mathlib.Core.Option.{none, some}
use lib.ListN.{get_elem?}
use Rattle.atomic_table.specs.Table.{step, keeps, stepped, Allows}
use Rattle.pvclock_page.specs.declared.page.Page.{Page}
use Rattle.board_types.specs.declared.{parts.BoardParts.BoardParts, parts.TheConstants.LAST_VERSION}
use Rattle.board_history.specs.{Machine.Machine, Machine.page_at, History.board_after, History.version_after, declared.entry.Entry.Entry}
use Rattle.board_history.proofs.Laws.{is_of-pass}
use Rattle.clock_table.specs.declared.view.{View.View, Hand.Hand}
use Rattle.clock_table.specs.Words.{place, word_of, pages_for}
use Rattle.clock_table.specs.Steps.{told, Extends, no_fields, begun, with_put, put_in}
use Rattle.clock_table.specs.Calls.{IsPen, IsNext, IsPublishing, PublishesNone, IsBump, HasOpen, AllPut, MayEnter, MayClose}
use Rattle.clock_table.specs.private.{Rule.PageKept, Rule.WordsKept, Rule.Kept, Plays.Begun, Plays.PutIn, Plays.Finished}
use Rattle.clock_table.proofs.Keeps.{St, M, Later, later_same, misses_later, quiet_board, log_of, stay, enter, penned, quiet_rest}
use Rattle.clock_table.proofs.Pages.{later_version, later_field, front_else, page_same, page_cases, open_none, open_one, open_here, page_opened, page_put, page_closed}
use Rattle.clock_table.proofs.Entries.{Leaves, PagesStay, enter_leaves, bump_leaves, publish_leaves}

-- a word below the greatest is raised by 1
wraps : (n : ℕ) → n < 18446744073709551615 → n + 1 ≡ (n + 1) % 2 ^ 64
wraps n h = omega arith

module _ (opening : BoardParts) where
  -- the pages as the pen's holder has them
  held : (s : St) (r : Kept opening s) (id : ℕ) (v : View) (hand : Option Hand) → get_elem? s.views id ≡ some v → v.pen ≡ true → v.hand ≡ hand
      → (c : ℕ) → c < pages_for opening.cpus → PageKept s.words hand (page_at (board_after (log_of opening s r)) c) c
  held s r id v hand at has is c l = subst (λ (h : Option Hand). PageKept s.words h (page_at (board_after (log_of opening s r)) c) c)
      (sym ((r.each id v at).pen has).hand ∙ is) (r.words.pages c l)

  -- a step that adds no entry, on a word of a page
  on_page : (s : St) (r : Kept opening s) (c k x id : ℕ) (me : M) (hand : Option Hand) → get_elem? s.views id ≡ some me.0 → IsPen me.0
      → Later (pages_for opening.cpus) s.words (set s.words (place c k) x)
      → ((d : ℕ) → d < pages_for opening.cpus → PageKept (set s.words (place c k) x) hand (page_at (board_after (log_of opening s r)) d) d)
      → Kept opening (stepped s (place c k) x id me.1 (record me.0 { hand = hand; read = None }) keeps)
  on_page s r c k x id me hand at pen late pages =
      let log : List Entry = log_of opening s r in
      stay opening s r id me.0 at (set s.words (place c k) x) pen.number.0 hand hand None me.0.misses pen.number.1 pen.meet late (record {
        wide = length-set s.words (place c k) x ∙ r.words.wide;
        front = front_else s.words c k x log log r.words.front refl refl;
        pages = pages;
      }) (λ _. refl) (λ no. absurd (true≢false (sym pen.pen ∙ no))) tt
      (misses_later (pages_for opening.cpus) s.words (set s.words (place c k) x) me.0.misses late (r.each id me.0 at).misses)

  -- a page is opened
  pub begins : (slots c id : ℕ) (me : M) → c < pages_for opening.cpus → IsPen me.0 → me.0.hand ≡ None → version_after me.0.seen c < LAST_VERSION
      → Allows (Kept opening) slots id me (place c 0) (λ n. (n + 1) % 2 ^ 64) (Begun (step slots (place c 0) 1 0 none) me)
  begins slots c id me l pen shut room s r _ at small =
      let n : ℕ = word_of s.words c 0 in
      let log : List Entry = log_of opening s r in
      let kept = held s r id me.0 None at pen.pen shut in
      let page : ℕ → Page = λ d. page_at (board_after log) d in
      let wide = r.words.wide in
      let was = (kept c l).version in
      let seen : version_after log c ≡ version_after me.0.seen c =
      ap (λ (b : BoardParts). (page_at b c).version) (quiet_board me.0.seen log (penned opening s r id me.0 at pen.pen pen.meet)).1 in
      let o : Hand = record { cpu = c; put = no_fields } in
      let next = subst (λ (x : ℕ). Kept opening (stepped s (place c 0) x id me.1 (begun c me.0) keeps)) (wraps n (omega arith))
      (on_page s r c 0 (n + 1) id me (Some o) at pen (later_version (pages_for opening.cpus) s.words c (n + 1) (omega arith) (omega arith))
      (λ d m. page_cases s.words c 0 (n + 1) d None (Some o) page page (omega arith) (open_none c) (open_one o) (λ i ne. refl) (kept d m)
      (page_opened s.words c (page c) (omega arith) (kept c l)))) in
      (begun c me.0, keeps, tt, next, ((refl, refl, refl), λ d e. let same : c ≡ d = omega arith in ap (λ (x : ℕ). begun x me.0) same))

  -- a field is put
  pub puts : (slots c k x id : ℕ) (me : M) → c < pages_for opening.cpus → k < 4 → IsPen me.0 → HasOpen c me.0
      → Allows (Kept opening) slots id me (place c (suc k)) (λ _. x) (λ _. PutIn (step slots (place c (suc k)) x 0 none) me x)
  puts slots c k x id me l small pen open_page s r _ at _ =
      let o : Hand = record { cpu = c; put = open_page.0.put } in
      let is : me.0.hand ≡ Some o = open_page.1 ∙ ap (λ (n : ℕ). Some (record { cpu = n; put = open_page.0.put })) open_page.2 in
      let log : List Entry = log_of opening s r in
      let kept = held s r id me.0 (Some o) at pen.pen is in
      let page : ℕ → Page = λ d. page_at (board_after log) d in
      let wide = r.words.wide in
      let o' : Hand = record { cpu = c; put = set o.put k (Some x) } in
      let odd : word_of s.words c 0 % 2 ≡ 1 =
      let even = (r.history.steady.pages c).even in let was = (kept c l).version in let one = open_here c in omega arith in
      let new : with_put k x me.0.hand ≡ Some o' = ap (with_put k x) is in
      let next = subst (λ (z : Option Hand). Kept opening (stepped s (place c (suc k)) x id me.1 (record me.0 { hand = z; read = None }) keeps)) (sym new)
      (on_page s r c (suc k) x id me (Some o') at pen (later_field (pages_for opening.cpus) s.words c k x small odd)
      (λ d m. page_cases s.words c (suc k) x d (Some o) (Some o') page page (omega arith) (open_one o) (open_one o') (λ i ne. refl) (kept d m)
      (page_put s.words o k x (page c) (omega arith) small open_page.3 (kept c l)))) in
      (put_in k x me.0, keeps, tt, next, ((refl, refl, refl), λ d j jsmall e. let same : k ≡ j = omega arith in ap (λ (i : ℕ). put_in i x me.0) same))

  -- a step that adds an entry, after which nothing is open
  finished : (s : St) (r : Kept opening s) (i x id n : ℕ) (me : M) (e : Entry) (at : get_elem? s.views id ≡ some me.0) → IsPen me.0 → me.0.live ≡ true
      → IsNext e me.0 → Leaves (log_of opening s r) e n → Later (pages_for opening.cpus) s.words (set s.words i x)
      → WordsKept opening (set s.words i x) None (log_of opening s r ++ e ∷ [])
      → Kept opening (stepped s i x id me.1 (told me.0 (r.each id me.0 at).seen.begins.0 e) keeps)
      × Extends e me.0 (told me.0 (r.each id me.0 at).seen.begins.0 e)
  finished s r i x id n me e at pen live next leaves late words =
      let p : ℕ = pen.number.0 in
      let t = enter opening s r id me.0 at (set s.words i x) p e None None pen.number.1 pen.meet live (is_of-pass e p (next.number ∙ pen.number.1))
      leaves.may late words (λ _. refl) (λ no. absurd (true≢false (sym pen.pen ∙ no))) in
      (t.0, ((r.each id me.0 at).seen.begins.0, refl, quiet_rest opening s r id me.0 at pen.pen pen.meet, t.1))

  -- the same on the front word
  on_front : (s : St) (r : Kept opening s) (x id n : ℕ) (me : M) (e : Entry) (at : get_elem? s.views id ≡ some me.0) → MayEnter e me.0
      → me.0.live ≡ true → Leaves (log_of opening s r) e n → PagesStay (log_of opening s r) e → x ≡ get_or s.words 0 0 + n
      → Kept opening (stepped s 0 x id me.1 (told me.0 (r.each id me.0 at).seen.begins.0 e) keeps)
      × Extends e me.0 (told me.0 (r.each id me.0 at).seen.begins.0 e)
  on_front s r x id n me e at may live leaves pages more =
      let ws : List ℕ = set s.words 0 x in
      let same : (c k : ℕ) → word_of ws c k ≡ word_of s.words c k = λ c k. get_or-set_other s.words 0 (place c k) x 0 (λ z. omega arith) in
      let wide = r.words.wide in
      let f = r.words.front in
      finished s r 0 x id n me e at may.pen live may.next leaves (later_same (pages_for opening.cpus) s.words ws same) (record {
        wide = length-set s.words 0 x ∙ wide;
        front = record {
          front = get_or-set_same s.words 0 x 0 (omega arith) ∙ (let was = f.front in let count = leaves.count in omega arith);
          low = let count = leaves.count in let low = leaves.low in omega arith;
          clamp = get_or-set_other s.words 0 16 x 0 (λ z. omega arith) ∙ (f.clamp ∙ sym leaves.greatest);
        };
        pages = λ c l. page_same s.words ws None _ _ c (same c) (pages c) (held s r id me.0 None at may.pen.pen may.shut c l);
      })

  -- an access that publishes no page, by a load of the front word
  pub enters : (slots id : ℕ) (me : M) (e : Entry) → MayEnter e me.0 → me.0.live ≡ true → PublishesNone opening.cpus e
      → Allows (Kept opening) slots id me 0 (λ n. n) (Finished e (step slots 0 0 0 none) me)
  enters slots id me e may live is s r _ at small =
      let pen = may.pen in
      let log : List Entry = log_of opening s r in
      let cpus : opening.cpus ≡ (board_after log).cpus = ap (λ (m : Machine). m.cpus) (sym r.history.machine) in
      let leaves = enter_leaves me.0.seen log e (penned opening s r id me.0 at pen.pen pen.meet) (subst (λ (k : ℕ). PublishesNone k e) cpus is) may.next.legal
      r.words.front.low in
      let t = on_front s r (get_or s.words 0 0) id 0 me e at may live leaves.0 leaves.1 (omega arith) in
      (told me.0 (r.each id me.0 at).seen.begins.0 e, keeps, tt, t.0, (refl, t.1))

  -- a read under the lock, by an addition to the front word
  pub bumps : (slots id : ℕ) (me : M) (e : Entry) → MayEnter e me.0 → me.0.live ≡ true → IsBump me.0.seen e
      → Allows (Kept opening) slots id me 0 (λ n. (n + 1) % 2 ^ 64) (Finished e (step slots 0 1 0 none) me)
  bumps slots id me e may live is s r _ at small =
      let pen = may.pen in
      let n : ℕ = get_or s.words 0 0 in
      let w : View = told me.0 (r.each id me.0 at).seen.begins.0 e in
      let leaves = bump_leaves me.0.seen (log_of opening s r) e (penned opening s r id me.0 at pen.pen pen.meet) is may.next.legal in
      let t = on_front s r (n + 1) id 1 me e at may live leaves.0 leaves.1 refl in
      let no_wrap : n + 1 ≡ (n + 1) % 2 ^ 64 = wraps n (let was = r.words.front.front in let low = leaves.0.low in omega arith) in
      (w, keeps, tt, subst (λ (x : ℕ). Kept opening (stepped s 0 x id me.1 w keeps)) no_wrap t.0, (refl, t.1))

  -- the page is closed
  pub finishes : (slots c id : ℕ) (me : M) (e : Entry) → MayClose opening.cpus c e me.0 → me.0.live ≡ true
      → Allows (Kept opening) slots id me (place c 0) (λ n. (n + 1) % 2 ^ 64) (Finished e (step slots (place c 0) 1 0 none) me)
  finishes slots c id me e may live s r _ at small =
      let put = may.put in
      let pen = may.pen in
      let l : c < pages_for opening.cpus = let there = may.there in omega arith in
      let o : Hand = record { cpu = c; put = put.0.put } in
      let is : me.0.hand ≡ Some o = put.1 ∙ ap (λ (n : ℕ). Some (record { cpu = n; put = put.0.put })) put.2 in
      let n : ℕ = word_of s.words c 0 in
      let log : List Entry = log_of opening s r in
      let kept = held s r id me.0 (Some o) at pen.pen is in
      let page : ℕ → Page = λ d. page_at (board_after log) d in
      let page' : ℕ → Page = λ d. page_at (board_after (log ++ e ∷ [])) d in
      let wide = r.words.wide in
      let was = (kept c l).version in
      let one = open_here c in
      let most = (r.history.steady.pages c).most in
      let cpus : opening.cpus ≡ (board_after log).cpus = ap (λ (m : Machine). m.cpus) (sym r.history.machine) in
      let new = publish_leaves me.0.seen log e c (penned opening s r id me.0 at pen.pen pen.meet) (subst (λ (k : ℕ). IsPublishing k c e) cpus may.publishes)
      may.next.legal r.words.front.low r.history.steady in
      let t = finished s r (place c 0) (n + 1) id 0 me e at pen live may.next new.leaves
      (later_version (pages_for opening.cpus) s.words c (n + 1) (omega arith) (omega arith)) (record {
        wide = length-set s.words (place c 0) (n + 1) ∙ wide;
        front = front_else s.words c 0 (n + 1) log (log ++ e ∷ []) r.words.front (let count = new.leaves.count in omega arith) new.leaves.greatest;
        pages = λ d m. page_cases s.words c 0 (n + 1) d (Some o) None page page' (omega arith) (open_one o) (open_none c) new.others (kept d m)
            (page_closed s.words o (page c) (page' c) (omega arith) new.version (subst (AllPut o) (sym new.same) put.3) (kept c l));
      }) in
      let w : View = told me.0 (r.each id me.0 at).seen.begins.0 e in
      (w, keeps, tt, subst (λ (x : ℕ). Kept opening (stepped s (place c 0) x id me.1 w keeps)) (wraps n (omega arith)) t.0, (refl, t.1))
