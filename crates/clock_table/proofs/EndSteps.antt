-- The opening meets the rule, and the end gives the whole history.
use Rattle.std.proofs.Common.{◌≡◌, ℕ, zero, suc, ◌+◌, ◌*◌, ◌^◌, ◌<◌, ◌≤◌, eqb, List, [], ◌∷◌, ◌++◌, length, get_or, refl, ap, sym, ◌∙◌, subst, arith}
use Rattle.std.proofs.Common.{append-nil, Bool, true, false, true≢false, if◌then◌else◌, Some, None, eq-eqb, ne_eqb, replicate, FitsSigned, IsTrue}
use mathlib.Core.{List.IsPrefix, Logic.dite, Option.some, Option.some-injective, Option.some-ne-none}
use native.Mathlib.Decide.{ℕ_discrete, dec_le}
use lib.ListN.{get_elem?}
use Rattle.atomic_table.specs.Table.{Final, Seen, opening as opening_of}
use Rattle.board_types.specs.declared.{parts.BoardParts.BoardParts, parts.ProcessorParts.ProcessorParts}
use Rattle.board_core.specs.{Tsc.processor_at, Tsc.no_processor, Conditions.IsJoined, Conditions.IsProcessor, Conditions.flags_valid, Pages.page_in}
use Rattle.board_history.specs.{Machine.page_at, History.board_after, History.May, History.LegalFrom, History.IsLegal, History.entries_of}
use Rattle.board_history.specs.{History.is_of, private.Steady.IsSteady, private.Steady.IsSteadyPage, declared.entry.Entry.Entry}
use Rattle.board_history.proofs.{Pages.at-hv, Pages.at-page, Pages.hv-steady, Laws.IsLegal-rest, Laws.entries_of-++, Pages.shift_for-fits, Pages.mul_for-fits}
use Rattle.board_history.specs.declared.entry.Entry.TheVariants.{Opened, Board, PageRead, HvRead, Clamp}
use Rattle.std.proofs.lemmas.{List.append_cancel_left, Bool.Decides.nat_tests}
use Rattle.std.specs.Int.{w8}
use Rattle.board_core.proofs.Joined.{most-cpus}
use Rattle.clock_table.specs.declared.view.{View.View, Miss.Miss, Ended.Ended}
use Rattle.clock_table.specs.Words.{pages_for}
use Rattle.clock_table.specs.Steps.{first_view, weight, number_is, ended_with}
use Rattle.clock_table.specs.Ends.{no_page, IsWhole, MissesTold, EndedTold}
use Rattle.clock_table.specs.private.{Rule.is_open, Rule.MissesKept, Rule.EndedKept, Rule.Ghost, Rule.Fits, Rule.Kept, Laid.IsLaidBelow, Laid.Closing}
use Rattle.clock_table.proofs.Keeps.{St, log_of}
use Rattle.clock_table.proofs.Pages.{page_shut}
use Rattle.clock_table.proofs.SeatSteps.{entries_between}

pub opens : (s : BoardParts) (words : List ℕ) → IsSteady s → IsLaidBelow (5 * pages_for s.cpus) s words → Kept s (opening_of words [] (first_view s))
opens s words steady laid = record {
  g = g;
  history = record { legal = tt; steady = steady; machine = refl };
  numbers = λ n le. refl;
  room = λ m e. omega arith;
  words = record {
    wide = laid.wide;
    front = record { front = laid.front; low = omega arith; clamp = laid.clamp };
    pages = λ c l. record {
      version = let v = laid.word c 0 (omega arith) (omega arith) in omega arith;
      field = λ k small. laid.word c (suc k) (omega arith) (omega arith);
    };
  };
  each = one;
  alone = λ _ by v e lives. alone by v e;
}
  where
    g : Ghost
    g = record { later = []; holder = 0; hand = None; owner = λ n. 0; made = 0; limit = None }

    one : (by : ℕ) (v : View) → get_elem? (first_view s ∷ []) by ≡ some v → Fits s words g by v
    one zero v e = subst (Fits s words g 0) (some-injective _ _ e) (record {
      seen = record { begins = ([], refl); mine = λ n is. absurd (cc is); meet = tt; opened = λ _. omega arith };
      numbers = record { claimed = λ n c. absurd (omega arith); once = λ n. omega arith };
      pen = λ _. record { holder = refl; hand = refl; made = refl; quiet = ([], refl, tt) };
      read = tt;
      misses = tt;
      ended = tt;
      limit = λ _. refl;
    })
    one (suc by) v e = absurd (some-ne-none v (sym e))

    alone : (by : ℕ) (v : View) → get_elem? (first_view s ∷ []) by ≡ some v → by ≡ 0
    alone zero v e = refl
    alone (suc by) v e = absurd (some-ne-none v (sym e))

-- how many passes with numbers below m have ended
abbrev total : ℕ → List Ended → ℕ
total zero xs = 0
total (suc m) xs = ended_with m xs + total m xs

total-none : (m : ℕ) → total m [] ≡ 0
total-none zero = refl
total-none (suc m) = let r = total-none m in omega arith

total-above : (m : ℕ) (x : Ended) (xs : List Ended) → m ≤ x.number → total m (x ∷ xs) ≡ total m xs
total-above zero x xs h = refl
total-above (suc m) x xs h =
    let z : weight (eqb x.number m) ≡ 0 = ap weight (ne_eqb x.number m (λ e. omega arith)) in let r = total-above m x xs (omega arith) in omega arith

total-below : (m : ℕ) (x : Ended) (xs : List Ended) → x.number < m → total m (x ∷ xs) ≡ total m xs + 1
total-below zero x xs h = absurd (omega arith)
total-below (suc m) x xs h = dite (ℕ_discrete x.number m)
    (λ e. let one : weight (eqb x.number m) ≡ 1 = ap weight (eq-eqb x.number m e) in let r = total-above m x xs (omega arith) in omega arith)
    (λ ne. let z : weight (eqb x.number m) ≡ 0 = ap weight (ne_eqb x.number m ne) in let r = total-below m x xs (omega arith) in omega arith)

total-all : (m : ℕ) (xs : List Ended) → ((n : ℕ) → 0 < ended_with n xs → n < m) → total m xs ≡ length xs
total-all m [] all = total-none m
total-all m (x ∷ xs) all =
    let here : weight (eqb x.number x.number) ≡ 1 = ap weight (eq-eqb x.number x.number refl) in
    let one = total-below m x xs (all x.number (omega arith)) in
    let r = total-all m xs (λ n c. all n (omega arith)) in
    omega arith

total-most : (m : ℕ) (xs : List Ended) → ((n : ℕ) → ended_with n xs ≤ 1) → total m xs ≤ m
total-most zero xs once = omega arith
total-most (suc m) xs once = let r = total-most m xs once in let o = once m in omega arith

total-less : (m n : ℕ) (xs : List Ended) → ((n : ℕ) → ended_with n xs ≤ 1) → ended_with n xs ≡ 0 → n < m → total m xs + 1 ≤ m
total-less zero n xs once gone less = absurd (omega arith)
total-less (suc m) n xs once gone less = dite (ℕ_discrete n m)
    (λ e. let g : ended_with m xs ≡ 0 = ap (λ (k : ℕ). ended_with k xs) (sym e) ∙ gone in let r = total-most m xs once in omega arith)
    (λ ne. let o = once m in let r = total-less m n xs once gone (omega arith) in omega arith)

-- no more passes have ended than there are numbers
pub ended_most : (m : ℕ) (xs : List Ended) → ((n : ℕ) → ended_with n xs ≤ 1) → ((n : ℕ) → 0 < ended_with n xs → n < m) → length xs ≤ m
ended_most m xs once all = let a = total-all m xs all in let b = total-most m xs once in omega arith

-- where as many passes have ended as there are numbers, each number is among them
everyone : (m n : ℕ) (xs : List Ended) → ((n : ℕ) → ended_with n xs ≤ 1) → ((n : ℕ) → 0 < ended_with n xs → n < m) → length xs ≡ m → n < m → 0 < ended_with n xs
everyone m n xs once all len less = elim (dec_le 1 (ended_with n xs)) [
  | yes h ↦ h
  | no h ↦ absurd (let a = total-less m n xs once (omega arith) less in let b = total-all m xs all in omega arith)
]

ended_seen : (ws : List ℕ) (cpus : ℕ) (log seen : List Entry) (xs : List Ended) (n : ℕ) → EndedKept ws cpus log seen xs → IsPrefix seen log
    → 0 < ended_with n xs → entries_of n seen ≡ entries_of n log
ended_seen ws cpus log seen [] n k p c = absurd (omega arith)
ended_seen ws cpus log seen (x ∷ xs) n k p c = dite (ℕ_discrete x.number n)
    (λ e. let mine : entries_of n log ≡ entries_of n x.seen = subst (λ (i : ℕ). entries_of i log ≡ entries_of i x.seen) e k.1 in
    entries_between x.seen seen log n k.0 p mine ∙ sym mine)
    (λ ne. let z : weight (eqb x.number n) ≡ 0 = ap weight (ne_eqb x.number n ne) in ended_seen ws cpus log seen xs n k.3 p (omega arith))

-- each entry but the first has a pass
has_pass : (before : List Entry) (e : Entry) → May before e → (p : ℕ) × (is_of p e ≡ true)
has_pass before (Opened s) may = absurd may
has_pass before (Board pass cpu h access reply) may = (pass, eq-eqb pass pass refl)
has_pass before (PageRead pass cpu h page locked) may = (pass, eq-eqb pass pass refl)
has_pass before (HvRead pass h page locked) may = (pass, eq-eqb pass pass refl)
has_pass before (Clamp pass cpu reading clock) may = (pass, eq-eqb pass pass refl)

no_entry_left : (before rest : List Entry) → LegalFrom before rest → ((n : ℕ) → entries_of n rest ≡ []) → rest ≡ []
no_entry_left before [] legal none_of = refl
no_entry_left before (e ∷ es) legal none_of = let p = has_pass before e legal.0 in absurd (filled (is_of p.0 e) e (entries_of p.0 es) p.1 (none_of p.0))
  where
    filled : (b : Bool) (x : Entry) (xs : List Entry) → b ≡ true → (if b then (x ∷ xs) else xs) ≡ [] → ⊥
    filled true x xs is none = cc none
    filled false x xs is none = absurd (true≢false (sym is))

module _ (opening : BoardParts) where
  -- the seat that all passes have joined has seen all
  whole : (s : St) (r : Kept opening s) (id m : ℕ) (v : View) → get_elem? s.views id ≡ some v → IsWhole m v → v.live ≡ true → v.limit ≡ Some m
      → v.seen ≡ log_of opening s r
  whole s r id m v at w lives lim =
      let f = r.each id v at in
      let log : List Entry = log_of opening s r in
      let rest : List Entry = f.seen.begins.0 in
      let made : r.g.made ≡ m = sym (f.pen w.pen).made ∙ w.made in
      let none_live : (n : ℕ) → number_is n v.number ≡ 0 = λ n. ap (number_is n) w.number in
      let once : (n : ℕ) → ended_with n v.ended ≤ 1 = λ n. let o = f.numbers.once n in omega arith in
      let all : (n : ℕ) → 0 < ended_with n v.ended → n < m = λ n c. let b = (f.numbers.claimed n (omega arith)).1 in omega arith in
      let same : (n : ℕ) → entries_of n v.seen ≡ entries_of n log = λ n. elim (dec_le m n) [
        | yes h ↦ (let e = r.numbers n (omega arith) in entries_between [] v.seen log n (v.seen, refl) f.seen.begins e ∙ sym e)
        | no h ↦ ended_seen s.words (pages_for opening.cpus) log v.seen v.ended n f.ended f.seen.begins (everyone m n v.ended once all w.all (omega arith))
      ] in
      let rest_none : (n : ℕ) → entries_of n rest ≡ [] = λ n. append_cancel_left (entries_of n v.seen) (entries_of n rest) []
      (sym (entries_of-++ n v.seen rest) ∙ (ap (entries_of n) f.seen.begins.1 ∙ (sym (same n) ∙ sym (append-nil (entries_of n v.seen))))) in
      let gone : rest ≡ [] = legal_rest v.seen rest (subst IsLegal (sym f.seen.begins.1) r.history.legal) (f.seen.opened lives) rest_none in
      sym (append-nil v.seen) ∙ (ap (λ l. v.seen ++ l) (sym gone) ∙ f.seen.begins.1)
    where
      legal_rest : (seen rest : List Entry) → IsLegal (seen ++ rest) → 0 < length seen → ((n : ℕ) → entries_of n rest ≡ []) → rest ≡ []
      legal_rest [] rest legal some_seen empty = absurd (omega arith)
      legal_rest (x ∷ xs) rest legal some_seen empty = no_entry_left (x ∷ xs) rest (IsLegal-rest xs rest x legal) empty

  told_misses : (s : St) (r : Kept opening s) (xs : List Miss) → r.g.hand ≡ None → MissesKept s.words (pages_for opening.cpus) xs
      → MissesTold (log_of opening s r) xs
  told_misses s r [] shut k = tt
  told_misses s r (x ∷ xs) shut k =
      let p = (r.words.pages x.page k.0).version in
      let z : weight (is_open r.g.hand x.page) ≡ 0 = ap (λ h. weight (is_open h x.page)) shut in
      let m = k.1 in
      (omega arith, told_misses s r xs shut k.2)

  told_ended : (s : St) (r : Kept opening s) (xs : List Ended) → r.g.hand ≡ None
      → EndedKept s.words (pages_for opening.cpus) (log_of opening s r) (log_of opening s r) xs → EndedTold (log_of opening s r) xs
  told_ended s r [] shut k = tt
  told_ended s r (x ∷ xs) shut k = (k.0, k.1, told_misses s r x.misses shut k.2, told_ended s r xs shut k.3)

  -- what the words hold at the end
  pub closes : (id m : ℕ) (v : View) (ws : List ℕ) (xs : List (Unit {0})) → IsWhole m v → v.live ≡ true → v.limit ≡ Some m
      → Final (Seen (Kept opening) id v) ws xs → Closing opening v ws
  closes id m v ws xs w lives lim final =
      let s = final.0 in
      let r = final.1.0 in
      let f = r.each id v final.1.1 in
      let log : List Entry = log_of opening s r in
      let same = whole s r id m v final.1.1 w lives lim in
      let k = f.pen w.pen in
      let shut : r.g.hand ≡ None = sym k.hand ∙ w.hand in
      subst (λ (z : List Entry × List ℕ). Closing opening (record v { seen = z.0 }) z.1) (λ i. (sym same i, final.2 i)) (record {
        legal = r.history.legal;
        opened = (r.g.later, refl);
        front = r.words.front.front;
        greatest = r.words.front.clamp;
        page = λ c l. sym (page_shut s.words r.g.hand c (page_at (board_after log) c) (r.history.steady.pages c) (r.words.pages c l)
            (ap (λ h. is_open h c) shut));
        ended = told_ended s r v.ended shut (subst (λ l. EndedKept s.words (pages_for opening.cpus) log l v.ended) same f.ended);
        numbers = λ n l. let made : v.made ≡ r.g.made = k.made in r.numbers n (omega arith);
      })

-- the board of a state is steady
pub steady_of : (b : BoardParts) → IsJoined b → length b.processors ≡ 64 → IsSteady b
steady_of b joined long = record { places = most_cpus; rate = joined.rates.guest; pages = at; count = joined.accesses }
  where
    most_cpus : b.cpus ≤ length b.processors
    most_cpus = let m = most-cpus b.format b.cpus b.hpet.timers joined.format in omega arith

    few_flags : (flags : ℕ) → IsTrue (flags_valid flags) → flags < 2 ^ 8
    few_flags flags is = grind (arith, nat_tests)

    page : (p : ProcessorParts) → IsProcessor b.guest_khz p → IsSteadyPage (page_in p)
    page p is = elim (dec_le 1 p.version) [
      | yes later ↦ record {
        even = is.version.even;
        most = is.version.most;
        mul = (let e = is.mul (omega arith) in let m = mul_for-fits b.guest_khz joined.rates.guest in omega arith);
        shift = subst (FitsSigned w8) (sym (is.shift (omega arith))) (shift_for-fits (b.guest_khz * 1000));
        flags = few_flags p.flags (is.flags (omega arith));
      }
      | no never ↦ (
          let none : p ≡ no_processor = is.unpublished (omega arith) in
          subst (λ (q : ProcessorParts). IsSteadyPage (page_in q)) (sym none)
          (record { even = refl; most = omega arith; mul = omega arith; shift = record { sfits = omega arith }; flags = omega arith })
          )
    ]

    at : (c : ℕ) → IsSteadyPage (page_at b c)
    at c = elim (ℕ_discrete c b.cpus) [
      | yes last ↦ subst IsSteadyPage (sym (at-hv b c last)) (hv-steady b.hv joined.hv.version.most joined.hv.version.even)
      | no other ↦ subst IsSteadyPage (sym (at-page b c other)) (page (processor_at b c) (joined.processors.each c))
    ]

pub at_word : (ws : List ℕ) (i j x : ℕ) → i ≡ j → get_elem? ws i ≡ some x → x ≡ get_or ws j 0
at_word ws i j x same e = subst (λ (k : ℕ). x ≡ get_or ws k 0) same (found ws i x e)
  where
    found : (ws : List ℕ) (i x : ℕ) → get_elem? ws i ≡ some x → x ≡ get_or ws i 0
    found [] i x e = absurd (some-ne-none x (sym e))
    found (y ∷ ys) zero x e = sym (some-injective y x e)
    found (y ∷ ys) (suc i) x e = found ys i x e

-- no page is in a place that wasn't written
pub no_page-everywhere : (n k : ℕ) → get_or (replicate n no_page) k no_page ≡ no_page
no_page-everywhere zero k = refl
no_page-everywhere (suc n) zero = refl
no_page-everywhere (suc n) (suc k) = no_page-everywhere n k
