-- The steps of a worker, and of those that gather.
use Rattle.std.proofs.Common.{
  ◌≡◌,
  ◌≢◌,
  ℕ,
  zero,
  suc,
  ◌+◌,
  ◌<◌,
  eqb,
  List,
  [],
  ◌∷◌,
  ◌++◌,
  length,
  get_or,
  take,
  drop,
  set,
  ◌≤◌,
  refl,
  sym,
  ap,
  ◌∙◌,
  subst,
  arith,
  All,
  Err,
  length-append,
  append_assoc,
  append-nil,
  Option,
  Some,
  None,
  Bool,
  if◌then◌else◌,
  eq-eqb,
  ne_eqb,
}
use Rattle.std.specs.Prelude.{slice_get, IfSome}
use Rattle.std.proofs.Math.ListN.{get_or-append}
use Rattle.std.proofs.Math.Seq.{take-suc, drop-cons, get_or-append_seam}
use Rattle.std.proofs.lemmas.List.{length-take-le, take-append-drop, take_more_set}
use Rattle.std.proofs.lemmas.Option.{slice_get-get_or, get_or_from_slice_get, slice_get_within}
use native.Mathlib.Decide.{ℕ_discrete}
use Rattle.trace_blocks.specs.declared.deliveries.Deliveries.{Deliveries}
use Rattle.board_types.specs.declared.parts.BoardParts.{BoardParts}
use Rattle.board_history.specs.declared.entry.Entry.{Entry}
use Rattle.board_history.specs.declared.entry.Entry.TheVariants.{Opened}
use Rattle.clock_table.specs.declared.view.Miss.{Miss}
use Rattle.shared_board.specs.declared.known.PassKnown.{PassKnown}
use Rattle.shared_board.specs.Passes.{mine, Unanswered}
use Rattle.shared_board.specs.Stops.{newcomers}
use Rattle.trace_blocks.specs.declared.records.Answer.{Answer}
use Rattle.trace_blocks.specs.declared.records.Record.{Record}
use Rattle.trace_blocks.specs.Blocks.{block_of}
use Rattle.race_phase.specs.Calls.{IsFitting, records_of, CallMade, AllMade, AllTried, HasMiss, IsTryOf, IsTried, locked_page}
use Rattle.race_phase.specs.declared.batch.Place.{Place}
use Rattle.race_phase.specs.private.Told.{answer_with}
use Rattle.race_phase.specs.private.Workers.{
  IsMade,
  IsTrouble,
  HasStopped,
  HasWorked,
  AllWorked,
  place_text,
  places_text,
  AllAnswered,
  HasHalted,
  HasPrinted,
  AllButLast,
  HasGoneOn,
  HasTried,
}
use Rattle.std.proofs.lemmas.List.Elements.{filter-append, All-nil, All-cons}
use mathlib.Core.List.{IsPrefix}
use Rattle.clock_table.specs.Ends.{MissesTold}
use Rattle.clock_table.proofs.Lists.{prefix_trans}
use Rattle.board_history.specs.History.{entries_of, version_after}

-- the records of a processor in two lists, one after the other
pub records_of-append : (n : ℕ) (xs ys : List Record) → records_of n (xs ++ ys) ≡ records_of n xs ++ records_of n ys
records_of-append n xs ys = filter-append (λ (r : Record). eqb r.cpu n) xs ys

pub records_take : (n : ℕ) (xs ys : List Record) (x : Record) → x.cpu ≡ n → records_of n (xs ++ x ∷ ys) ≡ records_of n xs ++ x ∷ records_of n ys
records_take n xs ys x e = records_of-append n xs (x ∷ ys)
    ∙ ap (λ (b : Bool). records_of n xs ++ (if b then (x ∷ records_of n ys) else records_of n ys)) (eq-eqb x.cpu n e)

pub records_skip : (n : ℕ) (xs : List Record) (x : Record) → x.cpu ≢ n → records_of n (xs ++ x ∷ []) ≡ records_of n xs
records_skip n xs x e = records_of-append n xs (x ∷ [])
    ∙ (ap (λ (b : Bool). records_of n xs ++ (if b then (x ∷ []) else [])) (ne_eqb x.cpu n e) ∙ append-nil (records_of n xs))

pub take_next : (rs : List Record) (i : ℕ) (d : Record) → i < length rs → take (i + 1) rs ≡ take i rs ++ get_or rs i d ∷ []
take_next rs i d l = let e : i + 1 ≡ suc i = omega arith in ap (λ (k : ℕ). take k rs) e ∙ take-suc rs i d l

-- the misses of calls one after another
tried-++ : (c n : ℕ) (h made es fs : List Entry) (ms ns : List Miss) → AllTried c n h made es ms → AllTried c n h (made ++ es) fs ns
    → AllTried c n h made (es ++ fs) (ms ++ ns)
tried-++ c n h made [] fs ms ns a b =
    subst (λ (z : List Entry × List Miss). AllTried c n h z.0 fs z.1) (λ i. (append-nil made i, sym (ap (λ (l : List Miss). l ++ ns) a) i)) b
tried-++ c n h made (e ∷ es) fs ms ns a b = (
  a.0,
  a.1 ++ ns,
  ap (λ (l : List Miss). l ++ ns) a.2 ∙ append_assoc a.0 a.1 ns,
  a.3,
  tried-++ c n h (made ++ e ∷ []) es fs a.1 ns a.4
      (subst (λ (l : List Entry). AllTried c n h l fs ns) (sym (append_assoc made (e ∷ []) es)) b),
)

-- they are misses in a longer history, too
miss_more : (n : ℕ) (h more made : List Entry) (o : Option ℕ) (ms : List Miss) → IsPrefix h more → HasMiss n h made o ms → HasMiss n more made o ms
miss_more n h more made None ms longer x = x
miss_more n h more made (Some k) ms longer x =
    let t : IsTryOf n h made k x.0 = x.2 in
    (x.0, x.1, record { page = t.page; update = t.update; seen = t.seen; begins = prefix_trans t.seen h more t.begins longer; mine = t.mine; least = t.least })

tried_more : (c n : ℕ) (h more made es : List Entry) (ms : List Miss) → IsPrefix h more → AllTried c n h made es ms → AllTried c n more made es ms
tried_more c n h more made [] ms longer a = a
tried_more c n h more made (e ∷ es) ms longer a =
    (a.0, a.1, a.2, miss_more n h more made (locked_page c e) a.0 longer a.3, tried_more c n h more (made ++ e ∷ []) es a.1 longer a.4)

-- the misses of a pass, whose versions came
abbrev HasCome : List Entry → Miss → Type 0
HasCome h m = m.second ≤ version_after h m.page

all_came : (h : List Entry) (ms : List Miss) → MissesTold h ms → All (HasCome h) ms
all_came h [] came = All-nil (HasCome h)
all_came h (m ∷ ms) came = All-cons (HasCome h) m ms came.0 (all_came h ms came.1)

pub tried_told : (c n : ℕ) (h : List Entry) (p : PassKnown) → p.number ≡ n → IsPrefix p.seen h → entries_of n h ≡ mine p → MissesTold h p.misses
    → HasTried c p → IsTried c h n
tried_told c n h p is begins same told tried = (
  p.misses,
  subst (λ (z : ℕ × List Entry). AllTried c z.0 h [] z.1 p.misses) (λ i. (is i, sym same i)) (tried_more c p.number p.seen h [] (mine p) p.misses begins tried),
  all_came h p.misses told,
)

-- a record that was answered
tried_made : (s : BoardParts) (r : Record) (a : Answer) (p q : PassKnown) → IsMade s r a p q → HasTried s.cpus p → HasTried s.cpus q
tried_made s r a p q m t =
    subst (λ (z : ℕ × List Entry × List Miss). AllTried s.cpus z.0 q.seen [] z.1 z.2) (λ i. (sym m.2.number i, sym m.2.mine i, sym m.5 i))
    (tried-++ s.cpus p.number q.seen [] (mine p) m.0 p.misses m.3
    (tried_more s.cpus p.number p.seen q.seen [] (mine p) p.misses m.2.more t)
    (tried_more s.cpus p.number p.seen q.seen (mine p) m.0 m.3 m.2.more m.4))

-- the passes of a new board
pub newcomers_length : (s : BoardParts) (n : ℕ) → length (newcomers s n) ≡ n
newcomers_length s zero = refl
newcomers_length s (suc n) =
    let e = length-append (newcomers s n) (record { number = n; seen = Opened s ∷ []; misses = [] } ∷ []) in
    let k = newcomers_length s n in omega arith

pub newcomer : (s : BoardParts) (n i : ℕ) (d x : PassKnown) → i < n → x ≡ get_or (newcomers s n) i d
    → (x.number ≡ i) × (mine x ≡ []) × (x.misses ≡ [])
newcomer s zero i d x l is = absurd (omega arith)
newcomer s (suc n) i d x l is =
    let new : PassKnown = record { number = n; seen = Opened s ∷ []; misses = [] } in
    let len = newcomers_length s n in
    elim (ℕ_discrete i n) [
      | yes same ↦
          let at : get_or (newcomers s (suc n)) i d ≡ new =
          ap (λ (k : ℕ). get_or (newcomers s (suc n)) k d) (same ∙ sym len) ∙ get_or-append_seam (newcomers s n) new [] d in
          let e : x ≡ new = is ∙ at in
          (ap (λ p. p.number) e ∙ sym same, ap mine e, ap (λ p. p.misses) e)
      | no apart ↦
          let before : i < n = omega arith in
          let inside : i < length (newcomers s n) = omega arith in
          newcomer s n i d x before (is ∙ get_or-append (newcomers s n) (new ∷ []) d i inside)
    ]

module _ (s : BoardParts) (ds : Deliveries) where
  -- one record more
  pub made-snoc : (n : ℕ) (rs : List Record) (out : List ℕ) (es : List Entry) (r : Record) (a : Answer) (more : List Entry) → AllMade s ds n rs out es
      → CallMade s n r.cpu r.h r.call a more → AllMade s ds n (rs ++ r ∷ []) (out ++ block_of ds r.line a) (es ++ more)
  made-snoc n [] out es r a more all m = (
    a,
    [],
    more,
    [],
    ap (λ l. l ++ block_of ds r.line a) all.0 ∙ sym (append-nil (block_of ds r.line a)),
    ap (λ l. l ++ more) all.1 ∙ sym (append-nil more),
    m,
    (refl, refl),
  )
  made-snoc n (q ∷ rs) out es r a more all m = (
    all.0,
    all.1 ++ block_of ds r.line a,
    all.2,
    all.3 ++ more,
    ap (λ l. l ++ block_of ds r.line a) all.4 ∙ append_assoc (block_of ds q.line all.0) all.1 (block_of ds r.line a),
    ap (λ l. l ++ more) all.5 ∙ append_assoc all.2 all.3 more,
    all.6,
    made-snoc n rs all.1 all.3 r a more all.7 m,
  )

  -- one worker more
  pub worked-snoc : (rs : List Record) (n : ℕ) (ps : List PassKnown) (out : List ℕ) (p : PassKnown) (zs : List ℕ)
      → AllWorked s ds rs n ps out → HasWorked s ds rs (n + length ps) p zs → AllWorked s ds rs n (ps ++ p ∷ []) (out ++ zs)
  worked-snoc rs n [] out p zs all w =
      let at : n + 0 ≡ n = omega arith in
      (zs, [], ap (λ l. l ++ zs) all ∙ sym (append-nil zs), subst (λ (k : ℕ). HasWorked s ds rs k p zs) at w, refl)
  worked-snoc rs n (q ∷ ps) out p zs all w =
      let at : n + length (q ∷ ps) ≡ suc n + length ps = omega arith in (
        all.0,
        all.1 ++ zs,
        ap (λ l. l ++ zs) all.2 ∙ append_assoc all.0 all.1 zs,
        all.3,
        worked-snoc rs (suc n) ps all.1 p zs all.4 (subst (λ (k : ℕ). HasWorked s ds rs k p zs) at w),
      )

-- the blocks of records, one more at a time
pub places_text-snoc : (ds : Deliveries) (rs : List Record) (ts : List Place) (r : Record) (t : Place) → length ts ≡ length rs
    → places_text ds (rs ++ r ∷ []) (ts ++ t ∷ []) ≡ places_text ds rs ts ++ place_text ds r t
places_text-snoc ds [] [] r t same = append-nil (place_text ds r t)
places_text-snoc ds [] (u ∷ ts) r t same = absurd (omega arith)
places_text-snoc ds (x ∷ rs) [] r t same = absurd (omega arith)
places_text-snoc ds (x ∷ rs) (u ∷ ts) r t same =
    let long : length ts ≡ length rs = omega arith in
    ap (λ (l : List ℕ). place_text ds x u ++ l) (places_text-snoc ds rs ts r t long)
    ∙ sym (append_assoc (place_text ds x u) (places_text ds rs ts) (place_text ds r t))

pub places_text-take : (ds : Deliveries) (rs : List Record) (ts : List Place) (i : ℕ) (d : Record) (e : Place) → i < length rs → i < length ts
    → places_text ds (take (i + 1) rs) (take (i + 1) ts) ≡ places_text ds (take i rs) (take i ts) ++ place_text ds (get_or rs i d) (get_or ts i e)
places_text-take ds rs ts i d e l m =
    let next : i + 1 ≡ suc i = omega arith in
    let a : length (take i rs) ≡ i = length-take-le i rs (omega arith) in
    let b : length (take i ts) ≡ i = length-take-le i ts (omega arith) in
    let more : places_text ds (take (suc i) rs) (take (suc i) ts)
    ≡ places_text ds (take i rs ++ get_or rs i d ∷ []) (take i ts ++ get_or ts i e ∷ []) =
    λ k. places_text ds (take-suc rs i d l k) (take-suc ts i e m k) in
    ap (λ (k : ℕ). places_text ds (take k rs) (take k ts)) next
    ∙ (more ∙ places_text-snoc ds (take i rs) (take i ts) (get_or rs i d) (get_or ts i e) (b ∙ sym a))

pub blocks_more : (ds : Deliveries) (rs : List Record) (ts : List Place) (i : ℕ) (d : Record) (e : Place) (out xs ys : List ℕ) → i < length rs → i < length ts
    → xs ≡ out ++ places_text ds (take i rs) (take i ts)
    → ys ≡ xs ++ place_text ds (get_or rs i d) (get_or ts i e)
    → ys ≡ out ++ places_text ds (take (i + 1) rs) (take (i + 1) ts)
blocks_more ds rs ts i d e out xs ys l m before is =
    let b : List ℕ = place_text ds (get_or rs i d) (get_or ts i e) in
    is ∙ ap (λ (z : List ℕ). z ++ b) before ∙ append_assoc out (places_text ds (take i rs) (take i ts)) b
    ∙ ap (λ (z : List ℕ). out ++ z) (sym (places_text-take ds rs ts i d e l m))

-- one record more in its place
pub answered_more : (s : BoardParts) (rs : List Record) (ts : List Place) (r : Record) (t : Place) (p q z : PassKnown) → AllAnswered s rs ts p q
    → IsMade s r (answer_with t.told t.reply) q z → AllAnswered s (rs ++ r ∷ []) (ts ++ t ∷ []) p z
answered_more s rs ts r t p q z all m = record {
  number = m.2.number ∙ all.number;
  long = let a = length-append rs (r ∷ []) in let b = length-append ts (t ∷ []) in let e = all.long in omega arith;
  made = λ ds done out x.
      let a : Answer = answer_with t.told t.reply in
      let by : CallMade s p.number r.cpu r.h r.call a m.0 = subst (λ (k : ℕ). CallMade s k r.cpu r.h r.call a m.0) all.number m.1 in
      let step = made-snoc s ds p.number (done ++ rs) (out ++ places_text ds rs ts) (mine q) r a m.0 (all.made ds done out x) by in
      let text : (out ++ places_text ds rs ts) ++ block_of ds r.line a ≡ out ++ places_text ds (rs ++ r ∷ []) (ts ++ t ∷ []) =
      append_assoc out (places_text ds rs ts) (block_of ds r.line a)
      ∙ ap (λ (l : List ℕ). out ++ l) (sym (places_text-snoc ds rs ts r t all.long)) in
      let moved = subst (λ (y : List Record × List ℕ). AllMade s ds p.number y.0 y.1 (mine q ++ m.0)) (λ i. (append_assoc done rs (r ∷ []) i, text i)) step in
      subst (λ (es : List Entry). AllMade s ds p.number (done ++ (rs ++ r ∷ [])) (out ++ places_text ds (rs ++ r ∷ []) (ts ++ t ∷ [])) es) (sym m.2.mine) moved;
  tried = λ x. tried_made s r (answer_with t.told t.reply) q z m (all.tried x);
}

pub batch_step : (s : BoardParts) (rs : List Record) (ts us : List Place) (i : ℕ) (d : Record) (t : Place) (p q z : PassKnown) → i < length rs
    → i < length ts
    → us ≡ set ts i t → AllAnswered s (take i rs) (take i ts) p q → IsMade s (get_or rs i d) (answer_with t.told t.reply) q z
    → AllAnswered s (take (i + 1) rs) (take (i + 1) us) p z
batch_step s rs ts us i d t p q z l m is all made =
    let e : take (i + 1) us ≡ take i ts ++ t ∷ [] = ap (take (i + 1)) is ∙ take_more_set ts i t m in
    subst (λ (y : List Record × List Place). AllAnswered s y.0 y.1 p z) (λ k. (sym (take_next rs i d l) k, sym e k))
    (answered_more s (take i rs) (take i ts) (get_or rs i d) t p q z all made)

-- a record of a batch that is not answered
halted_at : (s : BoardParts) (rs : List Record) (i : ℕ) (d : Record) (ts : List Place) (p q z : PassKnown) → i < length rs
    → All (IsFitting s.cpus s.format) rs
    → AllAnswered s (take i rs) ts p q → Unanswered q z → IsTrouble s (get_or rs i d) z → HasHalted s rs p z
halted_at s rs i d ts p q z l fit all u met =
    let r : Record = get_or rs i d in
    let split : rs ≡ take i rs ++ r ∷ drop (suc i) rs = sym (take-append-drop i rs) ∙ ap (λ ys. take i rs ++ ys) (drop-cons rs i d l) in record {
      number = u.number ∙ all.number;
      met = λ ds done out x. record {
        done = done ++ take i rs;
        next = r;
        rest = drop (suc i) rs;
        text = out ++ places_text ds (take i rs) ts;
        whole = ap (λ ys. done ++ ys) split ∙ sym (append_assoc done (take i rs) (r ∷ drop (suc i) rs));
        made = subst (AllMade s ds p.number (done ++ take i rs) (out ++ places_text ds (take i rs) ts)) (sym u.mine) (all.made ds done out x);
        met = met;
        fits = fit i d l;
        legal = u.legal;
      };
    }

-- so a run of records from a place on ends there
pub stopped_at : {E : Type 0} (f : E) (s : BoardParts) (rs : List Record) (i from : ℕ) (d : Record) (old new ts : List Place) (p q z : PassKnown)
    → i < length rs → All (IsFitting s.cpus s.format) rs → length new ≡ length old
    → ((o : PassKnown) → AllAnswered s (take from rs) (take from old) o p → AllAnswered s (take i rs) ts o q)
    → Unanswered q z × IsTrouble s (get_or rs i d) z → HasGoneOn s rs old new from (Err f) p z
stopped_at f s rs i from d old new ts p q z l fit places all u = record {
  places = places;
  ok = tt;
  legal = tt;
  err = λ o x. halted_at s rs i d ts o q z l fit (all o x) u.0 u.1;
}

-- the processor of a record
pub cpu_there : (rs : List Record) (i k : ℕ) (d : Record) → i < length rs → IfSome (slice_get rs i) (λ r. k ≡ r.cpu) → k ≡ (get_or rs i d).cpu
cpu_there rs i k d l is = subst (λ (o : Option Record). IfSome o (λ r. k ≡ r.cpu)) (slice_get-get_or rs i d l) is

-- and of one that was read, by a number that it was compared with
pub record_cpu : (rs : List Record) (i k n m : ℕ) (r : Record) → slice_get rs i ≡ Some r → IfSome (slice_get rs i) (λ x. k ≡ x.cpu) → m ≡ k → m ≡ n → r.cpu ≡ n
record_cpu rs i k n m r is cpu same here =
    sym (subst (λ (o : Option Record). IfSome o (λ x. k ≡ x.cpu)) is cpu) ∙ sym same ∙ here

-- a record that was read fits
pub read_fits : (cpus format : ℕ) (rs : List Record) (i : ℕ) (r : Record) → slice_get rs i ≡ Some r → All (IsFitting cpus format) rs → IsFitting cpus format r
read_fits cpus format rs i r is fit =
    subst (IsFitting cpus format) (get_or_from_slice_get rs i r r is) (fit i r (slice_get_within rs i r is))

module _ (s : BoardParts) (ds : Deliveries) (n : ℕ) where
  -- those that wait are answered
  pub waits_made : (rs ws : List Record) (xs : List ℕ) (ts : List Place) (p q : PassKnown) → p.number ≡ n → AllButLast s ds n rs ws xs p
      → AllAnswered s ws ts p q → AllMade s ds n rs (xs ++ places_text ds ws ts) (mine q)
  waits_made rs ws xs ts p q is all a =
      let from = subst (λ (k : ℕ). AllMade s ds k all.done xs (mine p)) (sym is) all.made in
      let made = subst (λ (k : ℕ). AllMade s ds k (all.done ++ ws) (xs ++ places_text ds ws ts) (mine q)) is (a.made ds all.done xs from) in
      subst (λ (ys : List Record). AllMade s ds n ys (xs ++ places_text ds ws ts) (mine q)) (sym all.whole) made

  pub waits_answered : (rs ws : List Record) (xs : List ℕ) (ts : List Place) (p q : PassKnown) → p.number ≡ n → AllButLast s ds n rs ws xs p
      → AllAnswered s ws ts p q → AllButLast s ds n rs [] (xs ++ places_text ds ws ts) q
  waits_answered rs ws xs ts p q is all a = record {
    done = rs;
    whole = sym (append-nil rs);
    made = waits_made rs ws xs ts p q is all a;
    tried = a.tried all.tried;
  }

  pub waits_printed : (rs ws : List Record) (xs ys : List ℕ) (p q : PassKnown) → p.number ≡ n → AllButLast s ds n rs ws xs p
      → HasPrinted s ds ws xs ys p q → AllButLast s ds n rs [] ys q
  waits_printed rs ws xs ys p q is all a = subst (λ (zs : List ℕ). AllButLast s ds n rs [] zs q) (sym a.1) (waits_answered rs ws xs a.0 p q is all a.2)

  -- a pass that has stopped has stopped among more records, too
  pub stopped_more : (rs more : List Record) (p : PassKnown) → HasStopped s ds n rs p → HasStopped s ds n (rs ++ more) p
  stopped_more rs more p t = record {
    done = t.done;
    next = t.next;
    rest = t.rest ++ more;
    text = t.text;
    whole = ap (λ ys. ys ++ more) t.whole ∙ append_assoc t.done (t.next ∷ t.rest) more;
    made = t.made;
    met = t.met;
    fits = t.fits;
    legal = t.legal;
  }

  -- one of those that wait is not answered
  pub waits_stopped : (rs ws more : List Record) (xs : List ℕ) (p q : PassKnown) → p.number ≡ n → AllButLast s ds n rs ws xs p → HasHalted s ws p q
      → HasStopped s ds n (rs ++ more) q
  waits_stopped rs ws more xs p q is all h =
      let from = subst (λ (k : ℕ). AllMade s ds k all.done xs (mine p)) (sym is) all.made in
      stopped_more rs more q (subst (λ (z : ℕ × List Record). HasStopped s ds z.0 z.1 q) (λ i. (is i, sym all.whole i)) (h.met ds all.done xs from))
