-- The words of the pages, and one write among them.
use Rattle.std.proofs.Common.{◌≡◌, ◌≢◌, ◌⊎◌, ℕ, suc, ◌+◌, ◌%◌, ◌<◌, ◌≤◌, eqb, List, [], ◌∷◌, length, get_or, set, refl, ap, sym, ◌∙◌, subst, arith}
use Rattle.std.proofs.Common.{get_or-set_same, get_or-set_other, Bool, false, if◌then◌else◌, Option, Some, None, eq-eqb, ne_eqb, inl, inr}
use mathlib.Core.Logic.{dite}
use native.Mathlib.Decide.{ℕ_discrete}
use Rattle.pvclock_page.specs.{declared.page.Page.Page, Words.page_of}
use Rattle.pvclock_page.proofs.Fields.{page_of-words_of}
use Rattle.board_history.specs.{private.Steady.IsSteadyPage, declared.entry.Entry.Entry, History.board_after}
use Rattle.clock_table.specs.declared.view.Hand.{Hand}
use Rattle.clock_table.specs.Words.{place, word_of, field_at}
use Rattle.clock_table.specs.Steps.{or_else, weight, loud, no_fields}
use Rattle.clock_table.specs.Calls.{AllPut}
use Rattle.clock_table.specs.private.{Rule.is_open, Rule.put_at, Rule.stored, Rule.PageKept, Rule.FrontKept, Laid.words_at}
use Rattle.clock_table.proofs.Lists.{no_field}
use Rattle.clock_table.proofs.Keeps.{Later}

-- the words other than the one that is written
word_else : (ws : List ℕ) (c k x d j : ℕ) → k < 5 → j < 5 → (d ≢ c) ⊎ (j ≢ k) → word_of (set ws (place c k) x) d j ≡ word_of ws d j
word_else ws c k x d j a b apart = get_or-set_other ws (place c k) (place d j) x 0 (places apart)
  where
    places : (d ≢ c) ⊎ (j ≢ k) → place d j ≢ place c k
    places (inl ne) e = ne (omega arith)
    places (inr ne) e = ne (omega arith)

pub later_version : (pages : ℕ) (ws : List ℕ) (c x : ℕ) → place c 0 < length ws → word_of ws c 0 < x → Later pages ws (set ws (place c 0) x)
later_version pages ws c x room more = record {
  up = λ d m. dite (ℕ_discrete d c)
      (λ e. subst (λ (n : ℕ). word_of ws n 0 ≤ word_of (set ws (place c 0) x) n 0) (sym e) (let here = get_or-set_same ws (place c 0) x 0 room in omega arith))
      (λ ne. let same = word_else ws c 0 x d 0 (omega arith) (omega arith) (inl ne) in omega arith);
  still = λ d m same even k small. word_else ws c 0 x d (suc k) (omega arith) (omega arith) (inr (λ z. omega arith));
}

pub later_field : (pages : ℕ) (ws : List ℕ) (c k x : ℕ) → k < 4 → word_of ws c 0 % 2 ≡ 1 → Later pages ws (set ws (place c (suc k)) x)
later_field pages ws c k x small odd = record {
  up = λ d m. let same = word_else ws c (suc k) x d 0 (omega arith) (omega arith) (inr (λ z. omega arith)) in omega arith;
  still = λ d m same even j jsmall. word_else ws c (suc k) x d (suc j) (omega arith) (omega arith)
      (inl (λ e. let was : word_of ws d 0 % 2 ≡ 1 = ap (λ (n : ℕ). word_of ws n 0 % 2) e ∙ odd in omega arith));
}

-- a word of a page is not a front word
pub front_else : (ws : List ℕ) (c k x : ℕ) (log log' : List Entry) → FrontKept ws log → loud log' ≡ loud log
    → (board_after log').greatest ≡ (board_after log).greatest → FrontKept (set ws (place c k) x) log'
front_else ws c k x log log' f count greatest = record {
  front = get_or-set_other ws (place c k) 0 x 0 (λ z. omega arith) ∙ (f.front ∙ sym count);
  low = let low = f.low in omega arith;
  clamp = get_or-set_other ws (place c k) 16 x 0 (λ z. omega arith) ∙ (f.clamp ∙ sym greatest);
}

-- a page whose words stay
pub page_same : (ws ws' : List ℕ) (hand : Option Hand) (p q : Page) (c : ℕ) → ((k : ℕ) → word_of ws' c k ≡ word_of ws c k) → p ≡ q → PageKept ws hand p c
    → PageKept ws' hand q c
page_same ws ws' hand p q c same e k =
    subst (λ (x : Page). PageKept ws' hand x c) e (record { version = same 0 ∙ k.version; field = λ j small. same (suc j) ∙ k.field j small })

-- the fields of a page that isn't open, and of one that is
stored_shut : (hand : Option Hand) (d k : ℕ) (p : Page) → is_open hand d ≡ false → stored hand d p k ≡ field_at p k
stored_shut hand d k p shut = ap (λ (b : Bool). if b then or_else (put_at hand k) (field_at p k) else field_at p k) shut

stored_open : (o : Hand) (k : ℕ) (p : Page) → stored (Some o) o.cpu p k ≡ or_else (get_or o.put k None) (field_at p k)
stored_open o k p = ap (λ (b : Bool). if b then or_else (get_or o.put k None) (field_at p k) else field_at p k) (eq-eqb o.cpu o.cpu refl)

-- the page of words that aren't open
pub page_shut : (ws : List ℕ) (hand : Option Hand) (c : ℕ) (p : Page) → IsSteadyPage p → PageKept ws hand p c → is_open hand c ≡ false
    → p ≡ page_of (words_at ws c)
page_shut ws hand c p steady kept shut =
    let version : p.version ≡ word_of ws c 0 = let v = kept.version in omega (arith, ap weight shut) in
    let field : (k : ℕ) → k < 4 → field_at p k ≡ word_of ws c (suc k) = λ k small. sym (kept.field k small ∙ stored_shut hand c k p shut) in
    sym (page_of-words_of p steady.mul steady.shift steady.flags)
    ∙ (λ i. page_of (version i ∷ field 0 (omega arith) i ∷ field 1 (omega arith) i ∷ field 2 (omega arith) i ∷ field 3 (omega arith) i ∷ []))

pub open_here : (c : ℕ) → weight (eqb c c) ≡ 1
open_here c = ap weight (eq-eqb c c refl)

-- only the page c is open, or none
abbrev pub OpenAt : ℕ → Option Hand → Type 0
OpenAt c hand = (d : ℕ) → d ≢ c → is_open hand d ≡ false

pub open_none : (c : ℕ) → OpenAt c None
open_none c d ne = refl

pub open_one : (o : Hand) → OpenAt o.cpu (Some o)
open_one o d ne = ne_eqb o.cpu d (λ e. ne (sym e))

-- where a word of the page c is written, the words of each page are right if those of c are
pub page_cases : (ws : List ℕ) (c k x d : ℕ) (hand hand' : Option Hand) (page page' : ℕ → Page) → k < 5 → OpenAt c hand → OpenAt c hand'
    → ((i : ℕ) → i ≢ c → page i ≡ page' i) → PageKept ws hand (page d) d → PageKept (set ws (place c k) x) hand' (page' c) c
    → PageKept (set ws (place c k) x) hand' (page' d) d
page_cases ws c k x d hand hand' page page' small before after same kept here = dite (ℕ_discrete d c)
    (λ e. subst (λ (i : ℕ). PageKept (set ws (place c k) x) hand' (page' i) i) (sym e) here)
    (λ ne. let a = before d ne in let b = after d ne in
    subst (λ (q : Page). PageKept (set ws (place c k) x) hand' q d) (same d ne) (record {
      version = word_else ws c k x d 0 small (omega arith) (inl ne) ∙ (kept.version ∙ ap (λ (t : Bool). (page d).version + weight t) (a ∙ sym b));
      field = λ j js. word_else ws c k x d (suc j) small (omega arith) (inl ne)
          ∙ (kept.field j js ∙ (stored_shut hand d j (page d) a ∙ sym (stored_shut hand' d j (page d) b)));
    }))

-- the page is opened, a field is put, the page is closed
pub page_opened : (ws : List ℕ) (c : ℕ) (p : Page) → place c 0 < length ws → PageKept ws None p c
    → PageKept (set ws (place c 0) (word_of ws c 0 + 1)) (Some (record { cpu = c; put = no_fields })) p c
page_opened ws c p room kept =
    let o : Hand = record { cpu = c; put = no_fields } in
    record {
      version = get_or-set_same ws (place c 0) (word_of ws c 0 + 1) 0 room ∙ (let was = kept.version in let one = open_here c in omega arith);
      field = λ j small. word_else ws c 0 (word_of ws c 0 + 1) c (suc j) (omega arith) (omega arith) (inr (λ z. omega arith))
          ∙ (kept.field j small ∙ sym (stored_open o j p ∙ ap (λ (z : Option ℕ). or_else z (field_at p j)) (no_field j)));
    }

pub page_put : (ws : List ℕ) (o : Hand) (k x : ℕ) (p : Page) → place o.cpu 4 < length ws → k < 4 → length o.put ≡ 4 → PageKept ws (Some o) p o.cpu
    → PageKept (set ws (place o.cpu (suc k)) x) (Some (record { cpu = o.cpu; put = set o.put k (Some x) })) p o.cpu
page_put ws o k x p room small four kept =
    let o' : Hand = record { cpu = o.cpu; put = set o.put k (Some x) } in
    record {
      version = word_else ws o.cpu (suc k) x o.cpu 0 (omega arith) (omega arith) (inr (λ z. omega arith)) ∙ kept.version;
      field = λ j js. dite (ℕ_discrete j k)
          (λ e. subst (λ (i : ℕ). word_of (set ws (place o.cpu (suc k)) x) o.cpu (suc i) ≡ stored (Some o') o.cpu p i) (sym e)
          (get_or-set_same ws (place o.cpu (suc k)) x 0 (omega arith)
          ∙ sym (stored_open o' k p ∙ ap (λ (z : Option ℕ). or_else z (field_at p k)) (get_or-set_same o.put k (Some x) None (omega arith)))))
          (λ ne. word_else ws o.cpu (suc k) x o.cpu (suc j) (omega arith) (omega arith) (inr (λ z. ne (omega arith)))
          ∙ (kept.field j js ∙ (stored_open o j p
          ∙ sym (stored_open o' j p ∙ ap (λ (z : Option ℕ). or_else z (field_at p j)) (get_or-set_other o.put k j (Some x) None ne)))));
    }

pub page_closed : (ws : List ℕ) (o : Hand) (p q : Page) → place o.cpu 0 < length ws → q.version ≡ p.version + 2 → AllPut o q → PageKept ws (Some o) p o.cpu
    → PageKept (set ws (place o.cpu 0) (word_of ws o.cpu 0 + 1)) None q o.cpu
page_closed ws o p q room more all kept = record {
  version = get_or-set_same ws (place o.cpu 0) (word_of ws o.cpu 0 + 1) 0 room ∙ (let was = kept.version in let one = open_here o.cpu in omega arith);
  field = λ j small. word_else ws o.cpu 0 (word_of ws o.cpu 0 + 1) o.cpu (suc j) (omega arith) (omega arith) (inr (λ z. omega arith))
      ∙ (kept.field j small ∙ (stored_open o j p ∙ ap (λ (z : Option ℕ). or_else z (field_at p j)) (all j small)));
}
