-- What a step has to show for the rule to be kept.
use Rattle.std.proofs.Common.{◌≡◌, ◌≢◌, ℕ, suc, ◌+◌, ◌%◌, ◌<◌, ◌≤◌, eqb, List, [], ◌∷◌, ◌++◌, get_or, set, refl, ap, sym, ◌∙◌, subst, arith}
use Rattle.std.proofs.Common.{append_assoc, append-nil, Bool, true, false, Option, Some, None, eq-eqb}
use Rattle.std.proofs.lemmas.List.{append_cancel_left}
use mathlib.Core.{List.IsPrefix, Option.some}
use lib.{ListN.get_elem?, Seq.set-get_or}
use Rattle.atomic_table.specs.Table.{State, Me}
use Rattle.board_types.specs.declared.parts.BoardParts.{BoardParts}
use Rattle.board_core.specs.Pages.{with_greatest}
use Rattle.board_history.specs.{Machine.machine_of, Machine.no_board, History.board_after, History.May, History.IsLegal}
use Rattle.board_history.specs.{History.entries_of, History.is_of, private.Steady.IsSteady, declared.entry.Entry.Entry}
use Rattle.board_history.specs.declared.entry.Entry.TheVariants.{Opened, Board, PageRead, HvRead, Clamp}
use Rattle.board_history.proofs.Laws.{board_after-snoc, LegalFrom-snoc, steady-entry, machine-entry, entries_of-++, entries_of-else}
use Rattle.clock_table.specs.declared.view.{View.View, Read.Read, Hand.Hand, Miss.Miss, Meet.Meet, Ended.Ended}
use Rattle.clock_table.specs.Words.{word_of, pages_for}
use Rattle.clock_table.specs.Steps.{IsQuietEntry, IsQuiet, GoesOnQuietly, weight, loud, Learnt, here_of, penned_of, MeetKept, number_is, ended_with, claims}
use Rattle.clock_table.specs.private.Rule.{ReadingKept, MissesKept, EndedKept, Ghost, log_in, PenKept, HistoryKept, WordsKept, Fits, Kept}
use Rattle.clock_table.proofs.Lists.{prefix_self, prefix_trans, prefix_length, each_set}
use Rattle.std.specs.List.{fold}
use Rattle.std.proofs.lemmas.List.Sums.{fold-append}
use Rattle.board_history.specs.History.{after_entry}

abbrev pub St : Type 0
St = State (Unit {0}) View

abbrev pub M : Type 0
M = Me (Unit {0}) View

-- versions rise, and the fields of a page whose even version stays are as they were
pub record Later (pages : ℕ) (ws ws' : List ℕ) : Type 0 where
  pub up : (c : ℕ) → c < pages → word_of ws c 0 ≤ word_of ws' c 0
  pub still : (c : ℕ) → c < pages → word_of ws' c 0 ≡ word_of ws c 0 → word_of ws c 0 % 2 ≡ 0 → (k : ℕ) → k < 4 → word_of ws' c (suc k) ≡ word_of ws c (suc k)

-- words that differ in no word of a page
pub later_same : (pages : ℕ) (ws ws' : List ℕ) → ((c k : ℕ) → word_of ws' c k ≡ word_of ws c k) → Later pages ws ws'
later_same pages ws ws' same = record { up = λ c l. let e = same c 0 in omega arith; still = λ c l e v k m. same c (suc k) }

pub later_self : (pages : ℕ) (ws : List ℕ) → Later pages ws ws
later_self pages ws = later_same pages ws ws (λ c k. refl)

read_later : (pages : ℕ) (ws ws' : List ℕ) (seen : List Entry) (o : Option Read) → Later pages ws ws' → ReadingKept ws pages seen o → ReadingKept ws' pages seen o
read_later pages ws ws' seen None l k = tt
read_later pages ws ws' seen (Some r) l k =
    let up = l.up r.cpu k.there in
    let grown = k.grown in
    record {
      there = k.there;
      even = k.even;
      least = k.least;
      grown = omega arith;
      same = λ is j x small noted.
          let now : word_of ws r.cpu 0 ≡ r.first = omega arith in
          let even : word_of ws r.cpu 0 % 2 ≡ 0 = ap (λ (n : ℕ). n % 2) now ∙ k.even in
          l.still r.cpu k.there (is ∙ sym now) even j small ∙ k.same now j x small noted;
    }

pub misses_later : (pages : ℕ) (ws ws' : List ℕ) (xs : List Miss) → Later pages ws ws' → MissesKept ws pages xs → MissesKept ws' pages xs
misses_later pages ws ws' [] l m = tt
misses_later pages ws ws' (x ∷ xs) l m = let up = l.up x.page m.0 in let was = m.1 in (m.0, omega arith, misses_later pages ws ws' xs l m.2)

pub misses_snoc : (ws : List ℕ) (pages : ℕ) (xs : List Miss) (x : Miss) → MissesKept ws pages xs → x.page < pages → x.second ≤ word_of ws x.page 0
    → MissesKept ws pages (xs ++ x ∷ [])
misses_snoc ws pages [] x m l h = (l, h, tt)
misses_snoc ws pages (y ∷ ys) x m l h = (m.0, m.1, misses_snoc ws pages ys x m.2 l h)

-- an entry of another number is added
pub entry_else : (log : List Entry) (e : Entry) (p n : ℕ) → is_of p e ≡ true → n ≢ p → entries_of n (log ++ e ∷ []) ≡ entries_of n log
entry_else log e p n is ne = entries_of-++ n log (e ∷ []) ∙ (ap (λ l. entries_of n log ++ l) (entries_of-else e p n is ne) ∙ append-nil (entries_of n log))

ended_later : (pages : ℕ) (ws ws' : List ℕ) (log log' seen seen' : List Entry) (xs : List Ended) → Later pages ws ws' → IsPrefix seen seen'
    → ((n : ℕ) → 0 < ended_with n xs → entries_of n log' ≡ entries_of n log) → EndedKept ws pages log seen xs → EndedKept ws' pages log' seen' xs
ended_later pages ws ws' log log' seen seen' [] l p own k = tt
ended_later pages ws ws' log log' seen seen' (x ∷ xs) l p own k =
    let here : weight (eqb x.number x.number) ≡ 1 = ap weight (eq-eqb x.number x.number refl) in (
      prefix_trans x.seen seen seen' k.0 p,
      own x.number (omega arith) ∙ k.1,
      misses_later pages ws ws' x.misses l k.2,
      ended_later pages ws ws' log log' seen seen' xs l p (λ n m. own n (omega arith)) k.3,
    )

pub quiet_more : (xs ys : List Entry) → IsQuiet xs → IsQuiet ys → IsQuiet (xs ++ ys)
quiet_more [] ys p q = q
quiet_more (x ∷ xs) ys p q = (p.0, quiet_more xs ys p.1 q)

quiet_both : (xs ys : List Entry) → IsQuiet (xs ++ ys) → IsQuiet xs × IsQuiet ys
quiet_both [] ys q = (tt, q)
quiet_both (x ∷ xs) ys q = let r = quiet_both xs ys q.1 in ((q.0, r.0), r.1)

pub quiet_self : (xs : List Entry) → GoesOnQuietly xs xs
quiet_self xs = ([], append-nil xs, tt)

quiet_trans : (a b c : List Entry) → GoesOnQuietly a b → GoesOnQuietly b c → GoesOnQuietly a c
quiet_trans a b c p q = (p.0 ++ q.0, sym (append_assoc a p.0 q.0) ∙ (ap (λ l. l ++ q.0) p.1 ∙ q.1), quiet_more p.0 q.0 p.2 q.2)

pub quiet_between : (a b c : List Entry) → IsPrefix a b → IsPrefix b c → GoesOnQuietly a c → GoesOnQuietly a b × GoesOnQuietly b c
quiet_between a b c p q g =
    let same : p.0 ++ q.0 ≡ g.0 = append_cancel_left a (p.0 ++ q.0) g.0 (sym (append_assoc a p.0 q.0) ∙ (ap (λ l. l ++ q.0) p.1 ∙ (q.1 ∙ sym g.1))) in
    let both = quiet_both p.0 q.0 (subst IsQuiet (sym same) g.2) in
    ((p.0, p.1, both.0), (q.0, q.1, both.1))

-- quiet entries change nothing of the board but `greatest`
pub quiet_beside : (b : BoardParts) (es : List Entry) → IsQuiet es → (g : ℕ) × (fold after_entry b es ≡ with_greatest b g)
quiet_beside b [] q = (b.greatest, refl)
quiet_beside b (Opened s ∷ es) q = absurd q.0
quiet_beside b (Board pass cpu h access reply ∷ es) q = absurd q.0
quiet_beside b (PageRead pass cpu h page locked ∷ es) q = quiet_beside b es q.1
quiet_beside b (HvRead pass h page locked ∷ es) q = quiet_beside b es q.1
quiet_beside b (Clamp pass cpu reading clock ∷ es) q = let r = quiet_beside (with_greatest b clock) es q.1 in (r.0, r.1)

-- the board after a history that went on quietly
pub quiet_board : (xs ys : List Entry) → GoesOnQuietly xs ys → (g : ℕ) × (board_after ys ≡ with_greatest (board_after xs) g)
quiet_board xs ys q = let r = quiet_beside (board_after xs) q.0 q.2 in (r.0, ap board_after (sym q.1) ∙ (fold-append after_entry no_board xs q.0 ∙ r.1))

pub loud-append : (xs ys : List Entry) → loud (xs ++ ys) ≡ loud xs + loud ys
loud-append [] ys = omega arith
loud-append (x ∷ xs) ys = let r = loud-append xs ys in omega arith

pub loud_quiet : (es : List Entry) → IsQuiet es → loud es ≡ 0
loud_quiet [] q = refl
loud_quiet (Opened s ∷ es) q = absurd q.0
loud_quiet (Board pass cpu h access reply ∷ es) q = absurd q.0
loud_quiet (PageRead pass cpu h page locked ∷ es) q = let r = loud_quiet es q.1 in let z : weight locked ≡ 0 = ap weight q.0 in omega arith
loud_quiet (HvRead pass h page locked ∷ es) q = let r = loud_quiet es q.1 in let z : weight locked ≡ 0 = ap weight q.0 in omega arith
loud_quiet (Clamp pass cpu reading clock ∷ es) q = let r = loud_quiet es q.1 in omega arith

pub loud_between : (b c : List Entry) → GoesOnQuietly b c → loud c ≡ loud b
loud_between b c g = ap loud (sym g.1) ∙ (loud-append b g.0 ∙ (let z = loud_quiet g.0 g.2 in omega arith))

not_true : (b : Bool) → (b ≡ true → ⊥) → b ≡ false
not_true true f = absurd (f refl)
not_true false f = refl

-- the number of a view is claimed by it
number_claimed : (v : View) (p : ℕ) → v.number ≡ Some p → 0 < claims p v
number_claimed v p is = let e : number_is p v.number ≡ 1 = ap (number_is p) is ∙ ap weight (eq-eqb p p refl) in omega arith

module _ (opening : BoardParts) where
  abbrev pub log_of : (s : St) → Kept opening s → List Entry
  log_of s r = log_in opening r.g

  -- what a step of the seat id makes of the history
  pub record Adds (g : Ghost) (id : ℕ) (later : List Entry) : Type 0 where
    pub history : HistoryKept opening later
    pub begins : IsPrefix (log_in opening g) (Opened opening ∷ later)
    pub own : (n : ℕ) → g.owner n ≢ id → entries_of n (Opened opening ∷ later) ≡ entries_of n (log_in opening g)
    pub numbers : (n : ℕ) → g.made ≤ n → entries_of n (Opened opening ∷ later) ≡ []

  -- a seat that doesn't step
  pub fits_other : (ws ws' : List ℕ) (g g' : Ghost) (j : ℕ) (u : View) → Fits opening ws g j u → Later (pages_for opening.cpus) ws ws'
      → IsPrefix (log_in opening g) (log_in opening g')
      → ((n : ℕ) → g.owner n ≡ j → n < g.made
      → (entries_of n (log_in opening g') ≡ entries_of n (log_in opening g)) × (g'.owner n ≡ j) × (n < g'.made))
      → (u.pen ≡ true → PenKept opening g' j u) → (u.live ≡ true → u.limit ≡ g'.limit) → Fits opening ws' g' j u
  fits_other ws ws' g g' j u f late begins own pen limit =
      let stays : (n : ℕ) → 0 < claims n u → entries_of n (log_in opening g') ≡ entries_of n (log_in opening g) =
      λ n c. let k = f.numbers.claimed n c in (own n k.0 k.1).0 in
      record {
        seen = record {
          begins = prefix_trans u.seen (log_in opening g) (log_in opening g') f.seen.begins begins;
          mine = λ n is. stays n (number_claimed u n is) ∙ f.seen.mine n is;
          meet = f.seen.meet;
          opened = f.seen.opened;
        };
        numbers = record { claimed = λ n c. let k = f.numbers.claimed n c in let o = own n k.0 k.1 in (o.1, o.2); once = f.numbers.once };
        pen = pen;
        read = read_later (pages_for opening.cpus) ws ws' u.seen u.read late f.read;
        misses = misses_later (pages_for opening.cpus) ws ws' u.misses late f.misses;
        ended = ended_later (pages_for opening.cpus) ws ws' (log_in opening g) (log_in opening g') u.seen u.seen u.ended late (prefix_self u.seen)
            (λ n c. stays n (omega arith)) f.ended;
        limit = limit;
      }

-- a step of the seat id, whose view is v
module _ (opening : BoardParts) (s : St) (r : Kept opening s) (id : ℕ) (v : View) (at : get_elem? s.views id ≡ some v) where
  -- the table afterwards
  abbrev pub after : List ℕ → View → St
  after ws w = record { words = ws; homes = s.homes; views = set s.views id w }

  -- and after a load
  pub loaded : (i : ℕ) (w : View) → Kept opening (after s.words w) → Kept opening (after (set s.words i (get_or s.words i 0)) w)
  loaded i w = subst (λ (ws : List ℕ). Kept opening (after ws w)) (sym (set-get_or s.words i 0))

  pub adds_none : Adds opening r.g id r.g.later
  adds_none = record { history = r.history; begins = prefix_self (log_in opening r.g); own = λ n ne. refl; numbers = r.numbers }

  adds_one : (p : ℕ) (e : Entry) → v.number ≡ Some p → is_of p e ≡ true → May (log_in opening r.g) e → Adds opening r.g id (r.g.later ++ e ∷ [])
  adds_one p e num is may =
      let log : List Entry = log_in opening r.g in
      let mine = (r.each id v at).numbers.claimed p (number_claimed v p num) in
      record {
        history = record {
          legal = LegalFrom-snoc (Opened opening ∷ []) r.g.later e r.history.legal may;
          steady = subst IsSteady (sym (board_after-snoc log e)) (steady-entry log e r.history.steady may);
          machine = ap machine_of (board_after-snoc log e) ∙ (machine-entry log e may ∙ r.history.machine);
        };
        begins = (e ∷ [], refl);
        own = λ n ne. entry_else log e p n is (λ (q : n ≡ p). ne (ap r.g.owner q ∙ mine.0));
        numbers = λ n le. let below = mine.1 in entry_else log e p n is (λ (q : n ≡ p). omega arith) ∙ r.numbers n le;
      }

  -- a step leaves the holder of the pen and all numbers, and is quiet unless its seat has the pen
  pub kept_next : (ws : List ℕ) (w : View) (later : List Entry) (hand : Option Hand) → w.live ≡ v.live → Adds opening r.g id later
      → Later (pages_for opening.cpus) s.words ws → WordsKept opening ws hand (Opened opening ∷ later)
      → (v.pen ≡ false → (hand ≡ r.g.hand) × GoesOnQuietly (log_in opening r.g) (Opened opening ∷ later))
      → Fits opening ws (record r.g { later = later; hand = hand }) id w → Kept opening (after ws w)
  kept_next ws w later hand lives adds late words calm mine =
      let log : List Entry = log_in opening r.g in
      let g' : Ghost = record r.g { later = later; hand = hand } in
      record {
        g = g';
        history = adds.history;
        numbers = adds.numbers;
        room = r.room;
        words = words;
        each = each_set s.views id w (Fits opening ws g') mine (λ j u ne e. let f = r.each j u e in
            fits_other opening s.words ws r.g g' j u f late adds.begins (λ n own below. (adds.own n (λ q. ne (sym own ∙ q)), own, below))
            (λ has. let k = f.pen has in let c = calm (not_true v.pen (λ own. ne (k.holder ∙ sym ((r.each id v at).pen own).holder))) in record {
              holder = k.holder;
              hand = k.hand ∙ sym c.0;
              made = k.made;
              quiet = quiet_trans (penned_of u.meet u.seen) log (Opened opening ∷ later) k.quiet c.1;
            }) f.limit);
        alone = λ none. each_set s.views id w (λ j u. u.live ≡ true → j ≡ r.g.holder) (λ is. r.alone none id v at (sym lives ∙ is))
            (λ j u ne e. r.alone none j u e);
      }

  -- what the holder of the pen has seen
  pub penned : v.pen ≡ true → v.meet ≡ None → GoesOnQuietly v.seen (log_in opening r.g)
  penned has alone = subst (λ m. GoesOnQuietly (penned_of m v.seen) (log_in opening r.g)) alone ((r.each id v at).pen has).quiet

  -- the seat's own entries are all in what it has seen
  pub mine_seen : (p : ℕ) → v.number ≡ Some p → v.meet ≡ None → entries_of p (log_in opening r.g) ≡ entries_of p v.seen
  mine_seen p num alone = (r.each id v at).seen.mine p num ∙ ap (λ m. entries_of p (here_of m v.seen)) alone

  -- a step of a pass
  moved : (ws : List ℕ) (p : ℕ) (later seen : List Entry) (hand left : Option Hand) (read : Option Read) (misses : List Miss)
      → v.number ≡ Some p → v.meet ≡ None → Adds opening r.g id later
      → ((n : ℕ) → n ≢ p → entries_of n (Opened opening ∷ later) ≡ entries_of n (log_in opening r.g))
      → IsPrefix v.seen seen → IsPrefix seen (Opened opening ∷ later) → entries_of p (Opened opening ∷ later) ≡ entries_of p seen
      → Later (pages_for opening.cpus) s.words ws → WordsKept opening ws left (Opened opening ∷ later)
      → (v.pen ≡ true → (hand ≡ left) × GoesOnQuietly seen (Opened opening ∷ later))
      → (v.pen ≡ false → (left ≡ r.g.hand) × GoesOnQuietly (log_in opening r.g) (Opened opening ∷ later))
      → ReadingKept ws (pages_for opening.cpus) seen read → MissesKept ws (pages_for opening.cpus) misses
      → Kept opening (after ws (record v { seen = seen; hand = hand; read = read; misses = misses }))
  moved ws p later seen hand left read misses num alone adds only goes begins mine late words pens calm reading missed =
      let f = r.each id v at in
      let log : List Entry = Opened opening ∷ later in
      kept_next ws (record v { seen = seen; hand = hand; read = read; misses = misses }) later left refl adds late words calm (record {
        seen = record {
          begins = begins;
          mine = λ n is. let q : p ≡ n = cc (is, num) in
              subst (λ (z : ℕ × Option Meet). entries_of z.0 log ≡ entries_of z.0 (here_of z.1 seen)) (λ k. (q k, sym alone k)) mine;
          meet = subst (λ m. MeetKept m seen) (sym alone) tt;
          opened = λ is. let was = f.seen.opened is in let le = prefix_length v.seen seen goes in omega arith;
        };
        numbers = f.numbers;
        pen = λ is. let k = f.pen is in let q = pens is in
            record { holder = k.holder; hand = q.0; made = k.made; quiet = subst (λ m. GoesOnQuietly (penned_of m seen) log) (sym alone) q.1 };
        read = reading;
        misses = missed;
        ended = ended_later (pages_for opening.cpus) s.words ws (log_in opening r.g) log v.seen seen v.ended late goes
            (λ n c. only n (λ (q : n ≡ p). let one = f.numbers.once n in
            let here : number_is n v.number ≡ 1 = ap (number_is n) num ∙ ap weight (eq-eqb p n (sym q)) in omega arith)) f.ended;
        limit = f.limit;
      })

  -- a step that adds no entry
  pub stay : (ws : List ℕ) (p : ℕ) (hand left : Option Hand) (read : Option Read) (misses : List Miss) → v.number ≡ Some p → v.meet ≡ None
      → Later (pages_for opening.cpus) s.words ws → WordsKept opening ws left (log_in opening r.g)
      → (v.pen ≡ true → hand ≡ left) → (v.pen ≡ false → left ≡ r.g.hand)
      → ReadingKept ws (pages_for opening.cpus) v.seen read → MissesKept ws (pages_for opening.cpus) misses
      → Kept opening (after ws (record v { hand = hand; read = read; misses = misses }))
  stay ws p hand left read misses num alone late words pens calm reading missed =
      moved ws p r.g.later v.seen hand left read misses num alone adds_none (λ n ne. refl) (prefix_self v.seen) (r.each id v at).seen.begins
      (mine_seen p num alone) late words (λ has. (pens has, penned has alone)) (λ no. (calm no, quiet_self (log_in opening r.g))) reading missed

  -- what lies between what the seat has seen and the end of the history: where the seat has the pen it is quiet
  abbrev pub between : List Entry
  between = (r.each id v at).seen.begins.0

  pub quiet_rest : v.pen ≡ true → v.meet ≡ None → IsQuiet between
  quiet_rest has alone =
      let q = penned has alone in
      subst IsQuiet (append_cancel_left v.seen q.0 between (q.1 ∙ sym (r.each id v at).seen.begins.1)) q.2

  -- a step that adds an entry: the seat has then seen all, and what the history shows it
  pub enter : (ws : List ℕ) (p : ℕ) (e : Entry) (hand left : Option Hand) → v.number ≡ Some p → v.meet ≡ None → v.live ≡ true → is_of p e ≡ true
      → May (log_in opening r.g) e → Later (pages_for opening.cpus) s.words ws → WordsKept opening ws left (log_in opening r.g ++ e ∷ [])
      → (v.pen ≡ true → hand ≡ left) → (v.pen ≡ false → (left ≡ r.g.hand) × IsQuietEntry e)
      → Kept opening (after ws (record v { seen = (v.seen ++ between) ++ e ∷ []; hand = hand; read = None }))
      × Learnt v between ((v.seen ++ between) ++ e ∷ [])
  enter ws p e hand left num alone lives is may late words pens calm =
      let f = r.each id v at in
      let log : List Entry = log_in opening r.g in
      let seen : List Entry = (v.seen ++ between) ++ e ∷ [] in
      let adds = adds_one p e num is may in
      let whole : seen ≡ log ++ e ∷ [] = ap (λ l. l ++ e ∷ []) f.seen.begins.1 in (
        moved ws p (r.g.later ++ e ∷ []) seen hand left None v.misses num alone adds (λ n ne. entry_else log e p n is ne)
            (between ++ e ∷ [], sym (append_assoc v.seen between (e ∷ []))) ([], append-nil seen ∙ whole) (ap (entries_of p) (sym whole)) late words
            (λ has. (pens has, ([], append-nil seen ∙ whole, tt))) (λ no. let c = calm no in (c.0, (e ∷ [], refl, (c.1, tt)))) tt
            (misses_later (pages_for opening.cpus) s.words ws v.misses late f.misses),
        record {
          legal = subst IsLegal (sym whole) adds.history.legal;
          own = λ q num'. append_cancel_left (entries_of q v.seen) (entries_of q between) []
              (sym (entries_of-++ q v.seen between) ∙ (ap (entries_of q) f.seen.begins.1 ∙ (mine_seen q num' alone ∙ sym (append-nil (entries_of q v.seen)))));
          below = λ m n lim le. let room = r.room m (sym (f.limit lives) ∙ lim) in ap (entries_of n) whole ∙ adds.numbers n (omega arith);
        },
      )
