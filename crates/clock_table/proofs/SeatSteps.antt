-- Splits and meets of seats keep the rule.
use Rattle.std.proofs.Common.{◌≡◌, ◌≢◌, ◌⊎◌, ℕ, zero, suc, ◌+◌, ◌<◌, ◌≤◌, eqb, leb, List, [], ◌∷◌, ◌++◌, length, get_or, set, refl, ap, sym, ◌∙◌, subst, arith}
use Rattle.std.proofs.Common.{append_assoc, append-nil, Bool, true, false, ◌||◌, if◌then◌else◌, Option, Some, None}
use Rattle.std.proofs.Common.{eq-eqb, ne_eqb, inl, inr, ⊎_elim}
use Rattle.std.proofs.lemmas.{Bool.Decides.nat_tests, List.append_cancel_left}
use mathlib.Core.{List.IsPrefix, Logic.dite, Option.none}
use native.Mathlib.Decide.{ℕ_discrete}
use Rattle.atomic_table.{specs.Table.step, specs.Table.keeps, specs.Table.Allows, specs.Table.Splits, specs.Table.Joins, proofs.Lists.set_else}
use Rattle.board_types.specs.declared.parts.BoardParts.{BoardParts}
use Rattle.board_history.specs.{History.entries_of, declared.entry.Entry.Entry}
use Rattle.board_history.proofs.Laws.{entries_of-++}
use Rattle.clock_table.specs.Words.{pages_for}
use Rattle.clock_table.specs.declared.view.{View.View, Meet.Meet, Ended.Ended}
use Rattle.clock_table.specs.Steps.{named, GoesOnQuietly, weight, pass_left, pass_right, pen_left, pen_right, longer, ended_of, met, parted, MeetTold}
use Rattle.clock_table.specs.Steps.{here_of, penned_of, MeetKept, number_is, ended_with, claims}
use Rattle.clock_table.specs.private.Rule.{MissesKept, EndedKept, Ghost, log_in, PenKept, Fits, Kept}
use Rattle.clock_table.specs.private.Plays.{Named, Parted, spent}
use Rattle.clock_table.proofs.Lists.{prefix_self, prefix_trans, prefix_length, prefix_shorter, each_set, each_more}
use Rattle.clock_table.proofs.Keeps.{M, later_self, quiet_self, quiet_between, loud_between, log_of, adds_none, kept_next, loaded, penned, fits_other}

-- between two prefixes of a list
pub entries_between : (a b c : List Entry) (n : ℕ) → IsPrefix a b → IsPrefix b c → entries_of n c ≡ entries_of n a → entries_of n b ≡ entries_of n a
entries_between a b c n p q e =
    let two : entries_of n a ++ (entries_of n p.0 ++ entries_of n q.0) ≡ entries_of n a =
    sym (append_assoc (entries_of n a) (entries_of n p.0) (entries_of n q.0))
    ∙ (sym (ap (λ (x : List Entry). x ++ entries_of n q.0) (entries_of-++ n a p.0))
    ∙ (sym (entries_of-++ n (a ++ p.0) q.0) ∙ (ap (λ l. entries_of n (l ++ q.0)) p.1 ∙ (ap (entries_of n) q.1 ∙ e)))) in
    let both = append_cancel_left (entries_of n a) (entries_of n p.0 ++ entries_of n q.0) [] (two ∙ sym (append-nil (entries_of n a))) in
    let none : entries_of n p.0 ≡ [] = both_none (entries_of n p.0) (entries_of n q.0) both in
    sym (ap (entries_of n) p.1) ∙ (entries_of-++ n a p.0 ∙ (ap (λ l. entries_of n a ++ l) none ∙ append-nil (entries_of n a)))
  where
    both_none : (xs ys : List Entry) → xs ++ ys ≡ [] → xs ≡ []
    both_none [] ys e = refl
    both_none (x ∷ xs) ys e = absurd (cc e)

ended_append : (ws : List ℕ) (pages : ℕ) (log seen : List Entry) (xs ys : List Ended) → EndedKept ws pages log seen xs → EndedKept ws pages log seen ys
    → EndedKept ws pages log seen (xs ++ ys)
ended_append ws pages log seen [] ys a b = b
ended_append ws pages log seen (x ∷ xs) ys a b = (a.0, a.1, a.2, ended_append ws pages log seen xs ys a.3 b)

ended_wider : (ws : List ℕ) (pages : ℕ) (log seen seen' : List Entry) (xs : List Ended) → IsPrefix seen seen' → EndedKept ws pages log seen xs
    → EndedKept ws pages log seen' xs
ended_wider ws pages log seen seen' [] p a = tt
ended_wider ws pages log seen seen' (x ∷ xs) p a = (prefix_trans x.seen seen seen' a.0 p, a.1, a.2, ended_wider ws pages log seen seen' xs p a.3)

ended_count : (n : ℕ) (xs ys : List Ended) → ended_with n (xs ++ ys) ≡ ended_with n xs + ended_with n ys
ended_count n [] ys = omega arith
ended_count n (x ∷ xs) ys = let r = ended_count n xs ys in omega arith

count_of : (n : ℕ) (o : Option ℕ) (w : View) → ended_with n (ended_of o w) ≡ number_is n o
count_of n None w = refl
count_of n (Some m) w = omega arith

-- two prefixes of one list are prefixes of the longer, and so is either of them
longer_has : (xs ys log : List Entry) → IsPrefix xs log → IsPrefix ys log → IsPrefix xs (longer xs ys) × IsPrefix ys (longer xs ys) × IsPrefix (longer xs ys) log
longer_has xs ys log p q = cases (leb (length ys) (length xs)) refl
  where
    cases : (t : Bool) → leb (length ys) (length xs) ≡ t → IsPrefix xs (if t then xs else ys) × IsPrefix ys (if t then xs else ys) × IsPrefix (if t then xs else ys) log
    cases true e = (prefix_self xs, prefix_shorter ys xs log q p (grind (arith, nat_tests)), p)
    cases false e = (prefix_shorter xs ys log p q (grind (arith, nat_tests)), prefix_self ys, q)

module _ (opening : BoardParts) where
  -- the number of passes is named
  pub names : (slots id m : ℕ) (me : M) → me.0.pen ≡ true → me.0.limit ≡ None → me.0.made ≡ 0 → me.0.live ≡ true
      → Allows (Kept opening) slots id me 0 (λ n. n) (Named m (step slots 0 0 0 none) me)
  names slots id m me has unset none_made lives s r _ at _ =
      let f = r.each id me.0 at in
      let k = f.pen has in
      let w = named m me.0 in
      let g' : Ghost = record r.g { limit = Some m } in
      let none_left : r.g.limit ≡ None = sym (f.limit lives) ∙ unset in
      let zero_made : r.g.made ≡ 0 = sym k.made ∙ none_made in
      let kept = loaded opening s r id me.0 at 0 w (record {
        g = g';
        history = r.history;
        numbers = r.numbers;
        room = λ i e. omega arith;
        words = r.words;
        each = each_set s.views id w (Fits opening s.words g')
            (record { seen = f.seen; numbers = f.numbers; pen = f.pen; read = tt; misses = f.misses; ended = f.ended; limit = λ _. refl })
            (λ j u ne e. let o = r.each j u e in fits_other opening s.words s.words r.g g' j u o (later_self (pages_for opening.cpus) s.words)
            (prefix_self (log_of opening s r)) (λ n own below. (refl, own, below)) o.pen
            (λ live. absurd (ne (r.alone none_left j u e live ∙ sym k.holder))));
        alone = λ unset'. absurd (cc unset');
      }) in
      (w, keeps, tt, kept, (refl, refl))

  -- a pass is split off
  pub splits : (id m : ℕ) (v : View) → v.pen ≡ true → v.meet ≡ None → v.live ≡ true → v.limit ≡ Some m → v.made < m
      → Splits (Kept opening) id v (pass_left v) (pass_right v)
  splits id m v has alone lives lim room s r at =
      let f = r.each id v at in
      let k = f.pen has in
      let n : ℕ = length (set s.views id (pass_left v)) in
      let owner' : ℕ → ℕ = λ i. if eqb i r.g.made then n else r.g.owner i in
      let g' : Ghost = record r.g { owner = owner'; made = r.g.made + 1 } in
      let as_made : v.made ≡ r.g.made = k.made in
      let old : (i j : ℕ) → r.g.owner i ≡ j → i < r.g.made → (owner' i ≡ j) × (i < r.g.made + 1) =
      λ i j own lower. (ap (λ (b : Bool). if b then n else r.g.owner i) (ne_eqb i r.g.made (λ e. omega arith)) ∙ own, omega arith) in
      let lim' : r.g.limit ≡ Some m = sym (f.limit lives) ∙ lim in
      record {
        g = g';
        history = r.history;
        numbers = λ i le. r.numbers i (omega arith);
        room = λ i e. let same_limit : m ≡ i = cc (lim', e) in omega arith;
        words = r.words;
        each = each_more s.views id (pass_left v) (pass_right v) (Fits opening s.words g')
            (record {
              seen = f.seen;
              numbers = record { claimed = λ i c. let o = f.numbers.claimed i c in old i id o.0 o.1; once = f.numbers.once };
              pen = λ _. record { holder = k.holder; hand = k.hand; made = ap (λ (i : ℕ). i + 1) as_made; quiet = k.quiet };
              read = tt;
              misses = f.misses;
              ended = f.ended;
              limit = f.limit;
            })
            (λ j u ne e. let o = r.each j u e in fits_other opening s.words s.words r.g g' j u o (later_self (pages_for opening.cpus) s.words)
            (prefix_self (log_of opening s r)) (λ i own below. let w = old i j own below in (refl, w.0, w.1))
            (λ yes. absurd (ne ((o.pen yes).holder ∙ sym k.holder))) o.limit)
            (record {
              seen = record {
                begins = f.seen.begins;
                mine = λ i is. let e : i ≡ r.g.made = (cc is) ∙ as_made in let none = r.numbers i (omega arith) in
                    none ∙ sym (entries_between [] v.seen (log_of opening s r) i (v.seen, refl) f.seen.begins none);
                meet = tt;
                opened = λ _. f.seen.opened lives;
              };
              numbers = record {
                claimed = λ i c. let e : i ≡ r.g.made = new_claim i v.made c ∙ as_made in
                    (ap (λ (b : Bool). if b then n else r.g.owner i) (eq-eqb i r.g.made e), omega arith);
                once = λ i. at_most (eqb v.made i);
              };
              pen = λ no. absurd (cc no);
              read = tt;
              misses = tt;
              ended = tt;
              limit = λ _. f.limit lives;
            });
        alone = λ unset. let no : None ≡ Some m = sym unset ∙ lim' in absurd (cc no);
      }
    where
      at_most : (b : Bool) → weight b + 0 ≤ 1
      at_most true = omega arith
      at_most false = omega arith

      new_claim : (i made : ℕ) → 0 < weight (eqb made i) + 0 → i ≡ made
      new_claim i made c = dite (ℕ_discrete made i) (λ e. sym e) (λ ne. let z : weight (eqb made i) ≡ 0 = ap weight (ne_eqb made i ne) in absurd (omega arith))

  -- the pen is split off
  pub splits_pen : (id m : ℕ) (v : View) → v.pen ≡ true → v.meet ≡ None → v.hand ≡ None → v.live ≡ true → v.limit ≡ Some m
      → Splits (Kept opening) id v (pen_left v) (pen_right v)
  splits_pen id m v has alone shut lives lim s r at =
      let f = r.each id v at in
      let k = f.pen has in
      let g' : Ghost = record r.g { holder = length (set s.views id (pen_left v)) } in
      record {
        g = g';
        history = r.history;
        numbers = r.numbers;
        room = r.room;
        words = r.words;
        each = each_more s.views id (pen_left v) (pen_right v) (Fits opening s.words g')
            (record { seen = f.seen; numbers = f.numbers; pen = λ no. absurd (cc no); read = tt; misses = f.misses; ended = f.ended; limit = f.limit })
            (λ j u ne e. let o = r.each j u e in fits_other opening s.words s.words r.g g' j u o (later_self (pages_for opening.cpus) s.words)
            (prefix_self (log_of opening s r)) (λ n own below. (refl, own, below)) (λ yes. absurd (ne ((o.pen yes).holder ∙ sym k.holder))) o.limit)
            (record {
              seen = record { begins = f.seen.begins; mine = λ n is. absurd (cc is); meet = tt; opened = λ _. f.seen.opened lives };
              numbers = record { claimed = λ n c. absurd (omega arith); once = λ n. omega arith };
              pen = λ _. record { holder = refl; hand = sym shut ∙ k.hand; made = k.made; quiet = penned opening s r id v at has alone };
              read = tt;
              misses = tt;
              ended = tt;
              limit = λ _. f.limit lives;
            });
        alone = λ unset. let no : None ≡ Some m = sym unset ∙ (sym (f.limit lives) ∙ lim) in absurd (cc no);
      }

  -- a meet ends
  pub parts : (slots id : ℕ) (me : M) → Allows (Kept opening) slots id me 0 (λ n. n) (Parted (step slots 0 0 0 none) me)
  parts slots id me s r _ at _ =
      let v = me.0 in
      let f = r.each id v at in
      let w = parted v in
      let log : List Entry = log_of opening s r in
      let meets = meet_parts v.meet v.seen f.seen.meet in
      let same_mine : (n : ℕ) → v.number ≡ Some n → entries_of n v.seen ≡ entries_of n (here_of v.meet v.seen) =
      λ n is. entries_between (here_of v.meet v.seen) v.seen log n meets.0 f.seen.begins (f.seen.mine n is) in
      let pens : v.pen ≡ true → GoesOnQuietly (penned_of v.meet v.seen) v.seen × GoesOnQuietly v.seen log =
      λ has. quiet_between (penned_of v.meet v.seen) v.seen log meets.1 f.seen.begins (f.pen has).quiet in
      let kept = loaded opening s r id v at 0 w
      (kept_next opening s r id v at s.words w r.g.later r.g.hand refl (adds_none opening s r id v at) (later_self (pages_for opening.cpus) s.words)
      r.words (λ _. (refl, quiet_self log)) (record {
        seen = record { begins = f.seen.begins; mine = λ n is. f.seen.mine n is ∙ sym (same_mine n is); meet = tt; opened = f.seen.opened };
        numbers = f.numbers;
        pen = λ is. let k = f.pen is in record { holder = k.holder; hand = k.hand; made = k.made; quiet = (pens is).1 };
        read = tt;
        misses = f.misses;
        ended = f.ended;
        limit = f.limit;
      })) in
      let told : MeetTold v (get_or s.words 0 0) = record {
        meet = f.seen.meet;
        pen = λ has. (pens has).0;
        mine = same_mine;
        front = λ has. r.words.front.front ∙ loud_between v.seen log (pens has).1;
        once = f.numbers.once;
        below = λ n has c. let same = (f.pen has).made in let b = (f.numbers.claimed n c).1 in omega arith;
      } in
      (w, keeps, tt, kept, (refl, refl, told))
    where
      meet_parts : (m : Option Meet) (seen : List Entry) → MeetKept m seen → IsPrefix (here_of m seen) seen × IsPrefix (penned_of m seen) seen
      meet_parts None seen k = (prefix_self seen, prefix_self seen)
      meet_parts (Some m) seen k = (k.0, k.2)

  -- the pen of two seats that meet
  met_pen : (g : Ghost) (i j : ℕ) (a b : Bool) (v w : View) → a || b ≡ true → (a ≡ true → PenKept opening g i v) → (b ≡ true → PenKept opening g j w)
      → v.hand ≡ None → w.hand ≡ None → v.meet ≡ None → w.meet ≡ None
      → (None ≡ g.hand) × ((if a then v.made else w.made) ≡ g.made) × GoesOnQuietly (if a then v.seen else w.seen) (log_in opening g)
      × ((i ≡ g.holder) ⊎ (j ≡ g.holder))
  met_pen g i j true b v w one p q v_shut w_shut v_alone w_alone = let k = p refl in
      (sym v_shut ∙ k.hand, k.made, subst (λ m. GoesOnQuietly (penned_of m v.seen) (log_in opening g)) v_alone k.quiet, inl k.holder)
  met_pen g i j false b v w one p q v_shut w_shut v_alone w_alone = let k = q one in
      (sym w_shut ∙ k.hand, k.made, subst (λ m. GoesOnQuietly (penned_of m w.seen) (log_in opening g)) w_alone k.quiet, inr k.holder)

  -- a seat joins another
  pub joins : (id other : ℕ) (v w : View) → v.pen || w.pen ≡ true → v.hand ≡ None → w.hand ≡ None → v.meet ≡ None → w.meet ≡ None → v.live ≡ true
      → w.live ≡ true → Joins (Kept opening) id v other w (met v w) spent
  joins id other v w one_pen v_shut w_shut v_alone w_alone v_lives w_lives s r at apart there' =
      let u = met v w in
      let log : List Entry = log_of opening s r in
      let f = r.each id v at in
      let h = r.each other w (sym (set_else s.views id other u apart) ∙ there') in
      let owner' : ℕ → ℕ = λ k. if eqb (r.g.owner k) other then id else r.g.owner k in
      let g' : Ghost = record r.g { holder = id; owner = owner' } in
      let from_other : (k : ℕ) → r.g.owner k ≡ other → owner' k ≡ id = λ k e. ap (λ (b : Bool). if b then id else r.g.owner k) (eq-eqb (r.g.owner k) other e) in
      let stays : (k j : ℕ) → j ≢ other → r.g.owner k ≡ j → owner' k ≡ j =
      λ k j ne e. ap (λ (b : Bool). if b then id else r.g.owner k) (ne_eqb (r.g.owner k) other (λ q. ne (sym e ∙ q))) ∙ e in
      let long = longer_has v.seen w.seen log f.seen.begins h.seen.begins in
      let sum : (n : ℕ) → claims n u ≡ claims n v + claims n w = λ n. count_join n v w in
      let pen = met_pen r.g id other v.pen w.pen v w one_pen f.pen h.pen v_shut w_shut v_alone w_alone in
      let last : (k : ℕ) → k ≢ id → k ≢ other → k ≡ r.g.holder → ⊥ =
      λ k ne no is. ⊎_elim (λ (q : id ≡ r.g.holder). ne (is ∙ sym q)) (λ (q : other ≡ r.g.holder). no (is ∙ sym q)) pen.3 in
      record {
        g = g';
        history = r.history;
        numbers = r.numbers;
        room = r.room;
        words = r.words;
        each = each_set (set s.views id u) other spent (Fits opening s.words g')
            (record {
              seen = record { begins = (log, refl); mine = λ k is. absurd (cc is); meet = tt; opened = λ no. absurd (cc no) };
              numbers = record { claimed = λ k c. absurd (omega arith); once = λ k. omega arith };
              pen = λ no. absurd (cc no);
              read = tt;
              misses = tt;
              ended = tt;
              limit = λ no. absurd (cc no);
            })
            (λ j y ne e. each_set s.views id u (λ k x. k ≢ other → Fits opening s.words g' k x)
            (λ _. record {
              seen = record {
                begins = long.2;
                mine = λ k is. f.seen.mine k is ∙ ap (λ m. entries_of k (here_of m v.seen)) v_alone;
                meet = (long.0, long.1, pick v.pen v.seen w.seen u.seen long.0 long.1);
                opened = λ _. let le = prefix_length v.seen u.seen long.0 in let one = f.seen.opened v_lives in omega arith;
              };
              numbers = record {
                claimed = λ k c. one_of (claims k v) (claims k w) ((owner' k ≡ id) × (k < r.g.made)) (subst (λ (m : ℕ). 0 < m) (sum k) c)
                    (λ a. let o = f.numbers.claimed k a in (stays k id (λ q. apart (sym q)) o.0, o.1))
                    (λ b. let o = h.numbers.claimed k b in (from_other k o.0, o.1));
                once = λ k. subst (λ (m : ℕ). m ≤ 1) (sym (sum k)) (never_both (claims k v) (claims k w) (f.numbers.once k) (h.numbers.once k)
                    (λ a b. apart (sym (h.numbers.claimed k b).0 ∙ (f.numbers.claimed k a).0)));
              };
              pen = λ _. record { holder = refl; hand = pen.0; made = pen.1; quiet = pen.2 };
              read = tt;
              misses = f.misses;
              ended = ended_append s.words (pages_for opening.cpus) log u.seen v.ended (w.ended ++ ended_of w.number w)
                  (ended_wider s.words (pages_for opening.cpus) log v.seen u.seen v.ended long.0 f.ended)
                  (ended_append s.words (pages_for opening.cpus) log u.seen w.ended (ended_of w.number w)
                  (ended_wider s.words (pages_for opening.cpus) log w.seen u.seen w.ended long.1 h.ended)
                  (ended_new s.words log w u.seen w.number (λ k is. h.seen.mine k is ∙ ap (λ m. entries_of k (here_of m w.seen)) w_alone) long.1 h.misses));
              limit = f.limit;
            })
            (λ k x ne' was no. let o = r.each k x was in
            fits_other opening s.words s.words r.g g' k x o (later_self (pages_for opening.cpus) s.words) (prefix_self log)
            (λ i own below. (refl, stays i k no own, below)) (λ yes. absurd (last k ne' no (o.pen yes).holder)) o.limit) j y e ne);
        alone = λ unset. each_set (set s.views id u) other spent (λ j y. y.live ≡ true → j ≡ id) (λ no. absurd (cc no))
            (λ j y ne e. each_set s.views id u (λ k x. k ≢ other → x.live ≡ true → k ≡ id) (λ _ _. refl)
            (λ k x ne' was no lives. absurd (last k ne' no (r.alone unset k x was lives))) j y e ne);
      }
    where
      pick : (b : Bool) (xs ys zs : List Entry) → IsPrefix xs zs → IsPrefix ys zs → IsPrefix (if b then xs else ys) zs
      pick true xs ys zs p q = p
      pick false xs ys zs p q = q

      one_of : (a b : ℕ) (F : Type 0) → 0 < a + b → (0 < a → F) → (0 < b → F) → F
      one_of zero b F c l r = r (omega arith)
      one_of (suc a) b F c l r = l (omega arith)

      never_both : (a b : ℕ) → a ≤ 1 → b ≤ 1 → (0 < a → 0 < b → ⊥) → a + b ≤ 1
      never_both zero b p q apart = omega arith
      never_both (suc a) zero p q apart = omega arith
      never_both (suc a) (suc b) p q apart = absurd (apart (omega arith) (omega arith))

      count_join : (n : ℕ) (v w : View) → claims n (met v w) ≡ claims n v + claims n w
      count_join n v w = let a = ended_count n v.ended (w.ended ++ ended_of w.number w) in let b = ended_count n w.ended (ended_of w.number w) in let c =
          count_of n w.number w in omega arith

      ended_new : (ws : List ℕ) (log : List Entry) (w : View) (seen : List Entry) (o : Option ℕ)
          → ((k : ℕ) → o ≡ Some k → entries_of k log ≡ entries_of k w.seen) → IsPrefix w.seen seen → MissesKept ws (pages_for opening.cpus) w.misses
          → EndedKept ws (pages_for opening.cpus) log seen (ended_of o w)
      ended_new ws log w seen None mine p m = tt
      ended_new ws log w seen (Some k) mine p m = (p, mine k refl, m, tt)
