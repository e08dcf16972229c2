-- The steps of a read, and the clamp, keep the rule.
use Rattle.std.proofs.Common.{◌≡◌, ◌≢◌, ℕ, suc, ◌+◌, ◌%◌, ◌<◌, ◌≤◌, eqb, leb, List, [], ◌∷◌, ◌++◌, length, get_or, set, refl, ap, sym, ◌∙◌, subst, arith, length-set}
use Rattle.std.proofs.Common.{get_or-set_same, get_or-set_other, Bool, true, false, true≢false, MatchBool, max, Option, Some, None, eq-eqb}
use Rattle.std.proofs.lemmas.{Bool.eqb-true, Bool.Decides.nat_tests}
use mathlib.Core.{List.IsPrefix, Option.none, Option.some}
use lib.ListN.{get_elem?}
use Rattle.atomic_table.specs.Table.{step, keeps, stepped, carried_after, Act, Valid, Allows}
use Rattle.pvclock_page.specs.{declared.page.Page.Page, Words.page_of}
use Rattle.board_types.specs.declared.parts.BoardParts.{BoardParts}
use Rattle.board_history.specs.{Machine.Machine, Machine.page_at, History.board_after, History.version_after, History.May}
use Rattle.board_history.specs.{History.entries_of, History.is_of, History.Reads, History.read_if, History.read_of}
use Rattle.board_history.specs.{private.Steady.IsSteadyPage, declared.entry.Entry.Entry}
use Rattle.board_history.specs.declared.entry.Entry.TheVariants.{Clamp}
use Rattle.board_history.proofs.Laws.{board_after-snoc, legal-version, read_of-number, read_of-leaves, read_of-may, ratio-by}
use Rattle.clock_table.specs.declared.view.{View.View, Read.Read, Miss.Miss}
use Rattle.clock_table.specs.Words.{place, word_of, pages_for}
use Rattle.clock_table.specs.Steps.{or_else, number_in, IsQuietEntry, weight, loud, heard, Hears, no_fields, missed, first_if, first_read, with_note}
use Rattle.clock_table.specs.Steps.{noted_in, note_at, noted_page, ReadEnds}
use Rattle.clock_table.specs.Calls.{IsPass, IsReading, AllNoted, MayEnd, MayRaise}
use Rattle.clock_table.specs.private.Rule.{is_open, PageKept, ReadKept, ReadingKept, MissesKept, Kept}
use Rattle.clock_table.specs.private.Plays.{Stays, FirstRead, FieldRead, SecondRead, Raised, Looked}
use Rattle.clock_table.proofs.Lists.{set_or, no_field}
use Rattle.clock_table.proofs.Pages.{page_same, page_shut}
use Rattle.clock_table.proofs.Keeps.{St, M, later_self, later_same, misses_snoc, loud-append, loud_quiet, log_of, loaded, stay, enter, mine_seen}
use Rattle.std.specs.List.{last_or}

-- a read of the page c, by its number
abbrev read_at : ℕ → Read → Read
read_at c x = record { cpu = c; first = x.first; noted = x.noted }

cpu_at : (c : ℕ) (x : Read) → x.cpu ≡ c → Some x ≡ Some (read_at c x)
cpu_at c x same = ap (λ (n : ℕ). Some (read_at n x)) same

-- a read without the lock is quiet
read_quiet : (cpus pass c h : ℕ) (page : Page) → IsQuietEntry (read_of cpus pass c h page false)
read_quiet cpus pass c h page = by (eqb c cpus)
  where
    by : (b : Bool) → IsQuietEntry (read_if b pass c h page false)
    by true = refl
    by false = refl

-- the page of an even word is not open
not_open : (b : Bool) (v first : ℕ) → first ≡ v + weight b → first % 2 ≡ 0 → v % 2 ≡ 0 → b ≡ false
not_open true v first e even steady = absurd (omega arith)
not_open false v first e even steady = refl

still : (b : Bool) (c n : ℕ) (me : M) → Stays me (first_if b c n me.0, me.1)
still true c n me = (refl, refl, refl)
still false c n me = (refl, refl, refl)

module _ (opening : BoardParts) where
  -- the word of a version is at least what was seen of it
  least : (s : St) (r : Kept opening s) (seen : List Entry) (c : ℕ) → c < pages_for opening.cpus → IsPrefix seen (log_of opening s r)
      → version_after seen c ≤ word_of s.words c 0
  least s r seen c l p = let a = legal-version seen (log_of opening s r) c p r.history.legal in let b = (r.words.pages c l).version in omega arith

  -- a load, after which the seat has seen no more
  glance : (s : St) (r : Kept opening s) (i id : ℕ) (me : M) (read : Option Read) (misses : List Miss) → get_elem? s.views id ≡ some me.0 → IsPass me.0
      → ReadingKept s.words (pages_for opening.cpus) me.0.seen read → MissesKept s.words (pages_for opening.cpus) misses
      → Kept opening (stepped s i (get_or s.words i 0) id me.1 (record me.0 { read = read; misses = misses }) keeps)
  glance s r i id me read misses at pass reading missed =
      loaded opening s r id me.0 at i (record me.0 { read = read; misses = misses }) (stay opening s r id me.0 at s.words pass.number.0 me.0.hand r.g.hand read misses pass.number.1 pass.meet
      (later_self (pages_for opening.cpus) s.words) r.words (λ has. ((r.each id me.0 at).pen has).hand) (λ _. refl) reading missed)

  -- a step that changes no word of a page, after which the seat has seen a quiet entry
  hears : (s : St) (r : Kept opening s) (ws : List ℕ) (id : ℕ) (me : M) (e : Entry) (at : get_elem? s.views id ≡ some me.0) → (pass : IsPass me.0) → me.0.live ≡ true
      → is_of pass.number.0 e ≡ true → IsQuietEntry e → May (log_of opening s r) e → length ws ≡ length s.words
      → ((c k : ℕ) → word_of ws c k ≡ word_of s.words c k) → get_or ws 0 0 ≡ get_or s.words 0 0
      → ((c : ℕ) → page_at (board_after (log_of opening s r)) c ≡ page_at (board_after (log_of opening s r ++ e ∷ [])) c)
      → get_or ws 16 0 ≡ (board_after (log_of opening s r ++ e ∷ [])).greatest
      → Kept opening record { words = ws; homes = s.homes; views = set s.views id (heard me.0 (r.each id me.0 at).seen.begins.0 e) }
      × Hears e me.0 (heard me.0 (r.each id me.0 at).seen.begins.0 e)
  hears s r ws id me e at pass lives own calm may wide same front page clamp =
      let log : List Entry = log_of opening s r in
      let f = r.words.front in
      let count : loud (log ++ e ∷ []) ≡ loud log = loud-append log (e ∷ []) ∙ (let z = loud_quiet (e ∷ []) (calm, tt) in omega arith) in
      let t = enter opening s r id me.0 at ws pass.number.0 e me.0.hand r.g.hand pass.number.1 pass.meet lives own may
      (later_same (pages_for opening.cpus) s.words ws same) (record {
        wide = wide ∙ r.words.wide;
        front = record { front = front ∙ (f.front ∙ sym count); low = let low = f.low in omega arith; clamp = clamp };
        pages = λ c l. page_same s.words ws r.g.hand _ _ c (same c) (page c) (r.words.pages c l);
      }) (λ has. ((r.each id me.0 at).pen has).hand) (λ _. (refl, calm)) in
      (t.0, ((r.each id me.0 at).seen.begins.0, refl, t.1))

  first_kept : (s : St) (r : Kept opening s) (c id : ℕ) (me : M) → c < pages_for opening.cpus → get_elem? s.views id ≡ some me.0 → IsPass me.0
      → (b : Bool) → eqb (word_of s.words c 0 % 2) 0 ≡ b
      → Kept opening (stepped s (place c 0) (word_of s.words c 0) id me.1 (first_if b c (word_of s.words c 0) me.0) keeps)
  first_kept s r c id me l at pass true is =
      let f = r.each id me.0 at in
      let n : ℕ = word_of s.words c 0 in
      glance s r (place c 0) id me (Some (record { cpu = c; first = n; noted = no_fields })) me.0.misses at pass (record {
        there = l;
        even = grind (arith, nat_tests);
        least = least s r me.0.seen c l f.seen.begins;
        grown = omega arith;
        same = λ _ k y small noted. absurd (cc (no_field k, noted));
      }) f.misses
  first_kept s r c id me l at pass false is =
      let n : ℕ = word_of s.words c 0 in
      let miss : Miss = record { page = c; first = n; second = n } in
      glance s r (place c 0) id me None (me.0.misses ++ miss ∷ []) at pass tt
      (misses_snoc s.words (pages_for opening.cpus) me.0.misses miss (r.each id me.0 at).misses l (omega arith))

  -- a version is loaded
  pub firsts : (slots c id : ℕ) (me : M) → c < pages_for opening.cpus → IsPass me.0
      → Allows (Kept opening) slots id me (place c 0) (λ n. n) (FirstRead (step slots (place c 0) 0 0 none) me)
  firsts slots c id me l pass s r _ at _ =
      let n : ℕ = word_of s.words c 0 in
      let kept = first_kept s r c id me l at pass (eqb (n % 2) 0) refl in
      let told : (d : ℕ) → place c 0 ≡ place d 0 → (first_read c n me.0 ≡ first_read d n me.0) × (version_after me.0.seen d ≤ n) =
      λ d e. let same : c ≡ d = omega arith in subst (λ (x : ℕ). (first_read c n me.0 ≡ first_read x n me.0) × (version_after me.0.seen x ≤ n)) same
      (refl, least s r me.0.seen c l (r.each id me.0 at).seen.begins) in
      (first_read c n me.0, keeps, tt, kept, (still (eqb (n % 2) 0) c n me, told))

  -- what is so of the read in which a seat is
  reading : (s : St) (r : Kept opening s) (id : ℕ) (me : M) (x : Read) → get_elem? s.views id ≡ some me.0 → me.0.read ≡ Some x
      → ReadKept s.words (pages_for opening.cpus) me.0.seen x
  reading s r id me x at is = subst (ReadingKept s.words (pages_for opening.cpus) me.0.seen) is (r.each id me.0 at).read

  -- a field is loaded
  pub fields : (slots c k id : ℕ) (me : M) → k < 4 → IsPass me.0 → IsReading c me.0
      → Allows (Kept opening) slots id me (place c (suc k)) (λ n. n) (FieldRead (step slots (place c (suc k)) 0 0 none) me)
  fields slots c k id me small pass at_page s r _ at _ =
      let x : Read = read_at c at_page.0 in
      let is : me.0.read ≡ Some x = at_page.1 ∙ cpu_at c at_page.0 at_page.2 in
      let old = reading s r id me x at is in
      let n : ℕ = word_of s.words c (suc k) in
      let y : Option Read = Some (record { cpu = c; first = x.first; noted = set x.noted k (Some n) }) in
      let new : y ≡ with_note k n me.0.read = ap (with_note k n) (sym is) in
      let kept = glance s r (place c (suc k)) id me (with_note k n me.0.read) me.0.misses at pass
      (subst (ReadingKept s.words (pages_for opening.cpus) me.0.seen) new (record {
        there = old.there;
        even = old.even;
        least = old.least;
        grown = old.grown;
        same = λ still j u jsmall noted. set_or x.noted k j n u (word_of s.words c (suc j) ≡ u) noted
            (λ here now. ap (λ (i : ℕ). word_of s.words c (suc i)) here ∙ now) (λ was. old.same still j u jsmall was);
      })) (r.each id me.0 at).misses in
      (noted_in k n me.0, keeps, tt, kept, ((refl, refl, refl), λ d j jsmall e. let same : k ≡ j = omega arith in ap (λ (i : ℕ). noted_in i n me.0) same))

  -- where the version is the one noted first, the noted page is the board's
  page_is : (s : St) (r : Kept opening s) (seen : List Entry) (x : Read) → ReadKept s.words (pages_for opening.cpus) seen x → AllNoted x
      → word_of s.words x.cpu 0 ≡ x.first → page_at (board_after (log_of opening s r)) x.cpu ≡ noted_page x
  page_is s r seen x old all same =
      let page : Page = page_at (board_after (log_of opening s r)) x.cpu in
      let steady : IsSteadyPage page = r.history.steady.pages x.cpu in
      let kept : PageKept s.words r.g.hand page x.cpu = r.words.pages x.cpu old.there in
      let shut : is_open r.g.hand x.cpu ≡ false = not_open (is_open r.g.hand x.cpu) page.version x.first (sym same ∙ kept.version) old.even steady.even in
      let noted : (k : ℕ) → k < 4 → word_of s.words x.cpu (suc k) ≡ note_at x k =
      λ k small. let one = all k small in old.same same k one.0 small one.1 ∙ sym (ap (λ (o : Option ℕ). or_else o 0) one.1) in
      page_shut s.words r.g.hand x.cpu page steady kept shut
      ∙ (λ i. page_of (same i ∷ noted 0 (omega arith) i ∷ noted 1 (omega arith) i ∷ noted 2 (omega arith) i ∷ noted 3 (omega arith) i ∷ []))

  second_kept : (s : St) (r : Kept opening s) (h id : ℕ) (me : M) (x : Read) → IsPass me.0 → me.0.live ≡ true → me.0.read ≡ Some x → AllNoted x
      → get_elem? s.views id ≡ some me.0 → (b : Bool) → eqb (word_of s.words x.cpu 0) x.first ≡ b
      → (w : View) × Kept opening (stepped s (place x.cpu 0) (word_of s.words x.cpu 0) id me.1 w keeps)
      × Stays me (w, me.1) × MatchBool b (Hears (read_of opening.cpus (number_in me.0) x.cpu h (noted_page x) false) me.0 w)
      ((w ≡ missed x.cpu x.first (word_of s.words x.cpu 0) me.0) × (x.first < word_of s.words x.cpu 0))
  second_kept s r h id me x pass lives is all at true same =
      let old = reading s r id me x at is in
      let now : word_of s.words x.cpu 0 ≡ x.first = eqb-true (word_of s.words x.cpu 0) x.first same in
      let log : List Entry = log_of opening s r in
      let n : ℕ = number_in me.0 in
      let number : n ≡ pass.number.0 = ap (λ (o : Option ℕ). or_else o 0) pass.number.1 in
      let e : Entry = read_of opening.cpus n x.cpu h (noted_page x) false in
      let may : May log e = read_of-may log opening.cpus n x.cpu h (noted_page x) false (ap (λ (m : Machine). m.cpus) r.history.machine)
      (let there = old.there in omega arith) (page_is s r me.0.seen x old all now) in
      let own : is_of pass.number.0 e ≡ true = read_of-number opening.cpus n x.cpu h pass.number.0 (noted_page x) false ∙ eq-eqb n pass.number.0 number in
      let leaves : board_after (log ++ e ∷ []) ≡ board_after log =
      board_after-snoc log e ∙ read_of-leaves (board_after log) opening.cpus n x.cpu h (noted_page x) false in
      let t = hears s r s.words id me e at pass lives own (read_quiet opening.cpus n x.cpu h (noted_page x)) may refl (λ c k. refl) refl
      (λ c. ap (λ (b : BoardParts). page_at b c) (sym leaves)) (r.words.front.clamp ∙ ap (λ (b : BoardParts). b.greatest) (sym leaves)) in
      let w : View = heard me.0 (r.each id me.0 at).seen.begins.0 e in
      (w, loaded opening s r id me.0 at (place x.cpu 0) w t.0, (refl, refl, refl), t.1)
  second_kept s r h id me x pass lives is all at false differ =
      let old = reading s r id me x at is in
      let grown = old.grown in
      let n : ℕ = word_of s.words x.cpu 0 in
      let miss : Miss = record { page = x.cpu; first = x.first; second = n } in
      let other : n ≢ x.first = λ e. true≢false (sym (eq-eqb n x.first e) ∙ differ) in (
        missed x.cpu x.first n me.0,
        glance s r (place x.cpu 0) id me None (me.0.misses ++ miss ∷ []) at pass tt
            (misses_snoc s.words (pages_for opening.cpus) me.0.misses miss (r.each id me.0 at).misses old.there (omega arith)),
        (refl, refl, refl),
        (refl, omega arith),
      )

  -- the version is loaded again
  pub seconds : (slots h c id cpus : ℕ) → opening.cpus ≡ cpus → (me : M) → MayEnd cpus c me.0 → me.0.live ≡ true
      → Allows (Kept opening) slots id me (place c 0) (λ n. n) (SecondRead cpus h (step slots (place c 0) 0 0 none) me)
  seconds slots h c id cpus same me may lives s r _ at _ =
      let noted = may.noted in
      let x : Read = read_at c noted.0 in
      let is : me.0.read ≡ Some x = noted.1 ∙ cpu_at c noted.0 noted.2 in
      let t = second_kept s r h id me x may.pass lives is noted.3 at (eqb (word_of s.words c 0) x.first) refl in
      let ends : (y : Read) → me.0.read ≡ Some y → ReadEnds cpus h y (word_of s.words c 0) me.0 t.0 =
      λ y yis. let same_y : x ≡ y = cc (is, yis) in
      subst (λ (z : ℕ × Read). ReadEnds z.0 h z.1 (word_of s.words c 0) me.0 t.0) (λ i. (same i, same_y i)) t.3 in
      (t.0, keeps, tt, t.1, (t.2, ends))

  -- the clamp word is raised
  pub raises : (slots id cpu k : ℕ) (me : M) → MayRaise opening cpu k me.0 → me.0.live ≡ true
      → Allows (Kept opening) slots id me 16 (λ n. max n k) (Raised cpu (step slots 16 k 0 none) me)
  raises slots id cpu k me may_raise lives s r _ at _ =
      let pass = may_raise.pass in
      let p : ℕ = pass.number.0 in
      let n : ℕ = get_or s.words 16 0 in
      let number : number_in me.0 ≡ p = ap (λ (o : Option ℕ). or_else o 0) pass.number.1 in
      let e : Entry = Clamp (number_in me.0) cpu k (max k n) in
      let log : List Entry = log_of opening s r in
      let own : entries_of (number_in me.0) me.0.seen ≡ entries_of (number_in me.0) log =
      sym (mine_seen opening s r id me.0 at (number_in me.0) (pass.number.1 ∙ ap Some (sym number)) pass.meet) in
      let may : May log e = (
        subst (λ (z : ℕ × List Entry). Reads z.0 (last_or None z.1) cpu k)
            (λ i. (ratio-by opening (board_after log) (sym r.history.machine) i, own i)) may_raise.reads,
        ap (λ (g : ℕ). max k g) r.words.front.clamp,
      ) in
      let greatest : max n k ≡ (board_after (log ++ e ∷ [])).greatest = sym (ap (λ (b : BoardParts). b.greatest) (board_after-snoc log e) ∙ omega arith) in
      let wide = r.words.wide in
      let t = hears s r (set s.words 16 (max n k)) id me e at pass lives (eq-eqb (number_in me.0) p number) tt may (length-set s.words 16 (max n k))
      (λ c j. get_or-set_other s.words 16 (place c j) (max n k) 0 (λ z. omega arith)) (get_or-set_other s.words 16 0 (max n k) 0 (λ z. omega arith))
      (λ c. ap (λ (b : BoardParts). page_at b c) (sym (board_after-snoc log e)))
      (get_or-set_same s.words 16 (max n k) 0 (omega arith) ∙ greatest) in
      (heard me.0 (r.each id me.0 at).seen.begins.0 e, keeps, tt, t.0, (refl, t.1))

  -- the clamp word is loaded: one that is as great is left as it is
  look_kept : (slots id cpu k : ℕ) (me : M) → MayRaise opening cpu k me.0 → me.0.live ≡ true
      → (s : St) → Kept opening s → length s.homes ≡ slots → get_elem? s.views id ≡ some me.0 → get_or s.words 16 0 < 18446744073709551616
      → (b : Bool) → leb k (get_or s.words 16 0) ≡ b
      → (w : View) × (a : Act (Unit {0})) × Valid s.homes me.1 a × Kept opening (stepped s 16 (get_or s.words 16 0) id me.1 w a)
      × (carried_after me.1 a ≡ me.1) × MatchBool b (Hears (Clamp (number_in me.0) cpu k (get_or s.words 16 0)) me.0 w) (w ≡ me.0)
  look_kept slots id cpu k me may lives s r homes at small true is =
      let t = raises slots id cpu k me may lives s r homes at small in
      let le : k ≤ get_or s.words 16 0 = grind (arith, nat_tests) in (
        t.0,
        t.1,
        t.2,
        subst (λ (z : ℕ). Kept opening (stepped s 16 z id me.1 t.0 t.1)) (omega arith) t.3,
        t.4.0,
        subst (λ (z : ℕ). Hears (Clamp (number_in me.0) cpu k z) me.0 t.0) (omega arith) t.4.1,
      )
  look_kept slots id cpu k me may lives s r homes at small false is =
      let f = r.each id me.0 at in
      (me.0, keeps, tt, glance s r 16 id me me.0.read me.0.misses at may.pass f.read f.misses, refl, refl)

  pub looks : (slots id cpu k : ℕ) (me : M) → MayRaise opening cpu k me.0 → me.0.live ≡ true
      → Allows (Kept opening) slots id me 16 (λ n. n) (Looked cpu k (step slots 16 0 0 none) me)
  looks slots id cpu k me may lives s r homes at small =
      let t = look_kept slots id cpu k me may lives s r homes at small (leb k (get_or s.words 16 0)) refl in
      let ends : Looked cpu k (step {S = Unit {0}} slots 16 0 0 none) me (get_or s.words 16 0) (t.0, carried_after me.1 t.1) = (t.4, t.5) in
      (t.0, t.1, t.2, t.3, ends)
