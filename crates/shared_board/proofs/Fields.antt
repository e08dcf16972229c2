-- The fields of a page, put and noted one by one.
use Rattle.std.proofs.Common.{
  ◌≡◌,
  ℕ,
  zero,
  suc,
  ◌%◌,
  ◌<◌,
  ◌≤◌,
  List,
  [],
  ◌∷◌,
  refl,
  sym,
  ap,
  ◌∙◌,
  subst,
  arith,
  Option,
  Some,
  None,
  Bool,
  true,
  false,
  slice_index_or,
  get_or,
  eqb,
  eq-eqb,
  MatchBool,
}
use Rattle.pvclock_page.specs.declared.page.Page.{Page}
use Rattle.pvclock_page.specs.Words.{page_of, words_of}
use Rattle.board_history.specs.declared.entry.Entry.{Entry}
use Rattle.board_history.specs.History.{read_of}
use Rattle.clock_table.specs.declared.view.View.{View}
use Rattle.clock_table.specs.declared.view.Read.{Read}
use Rattle.clock_table.specs.Words.{field_at}
use Rattle.clock_table.specs.Steps.{begun, put_in, first_read, first_if, noted_in, no_fields, number_in, missed, Extends, Hears, ReadEnds}
use Rattle.clock_table.specs.Calls.{HasOpen, HasPut, IsReading, IsPass, HasNoted, MayEnd}

-- the view with four fields put, of which n are
abbrev pub put_all : ℕ → ℕ → ℕ → ℕ → ℕ → View → View
put_all c x y z w v = put_in 3 w (put_in 2 z (put_in 1 y (put_in 0 x (begun c v))))

pub open_1 : (c : ℕ) (v : View) → HasOpen c (begun c v)
open_1 c v = (record { cpu = c; put = no_fields }, refl, refl, refl)

pub open_2 : (c x : ℕ) (v : View) → HasOpen c (put_in 0 x (begun c v))
open_2 c x v = (record { cpu = c; put = Some x ∷ None ∷ None ∷ None ∷ [] }, refl, refl, refl)

pub open_3 : (c x y : ℕ) (v : View) → HasOpen c (put_in 1 y (put_in 0 x (begun c v)))
open_3 c x y v = (record { cpu = c; put = Some x ∷ Some y ∷ None ∷ None ∷ [] }, refl, refl, refl)

pub open_4 : (c x y z : ℕ) (v : View) → HasOpen c (put_in 2 z (put_in 1 y (put_in 0 x (begun c v))))
open_4 c x y z v = (record { cpu = c; put = Some x ∷ Some y ∷ Some z ∷ None ∷ [] }, refl, refl, refl)

-- what holds of each of four fields
below_four : (P : ℕ → Type 0) → P 0 → P 1 → P 2 → P 3 → (k : ℕ) → k < 4 → P k
below_four P a b c d zero h = a
below_four P a b c d (suc zero) h = b
below_four P a b c d (suc (suc zero)) h = c
below_four P a b c d (suc (suc (suc zero))) h = d
below_four P a b c d (suc (suc (suc (suc k)))) h = absurd (omega arith)

pub all_put : (c : ℕ) (p : Page) (v : View) → HasPut c p (put_all c (field_at p 0) (field_at p 1) (field_at p 2) (field_at p 3) v)
all_put c p v = (
  record { cpu = c; put = Some (field_at p 0) ∷ Some (field_at p 1) ∷ Some (field_at p 2) ∷ Some (field_at p 3) ∷ [] },
  refl,
  refl,
  below_four (λ k. slice_index_or (Some (field_at p 0) ∷ Some (field_at p 1) ∷ Some (field_at p 2) ∷ Some (field_at p 3) ∷ []) k None ≡ Some (field_at p k))
      refl refl refl refl,
)

-- the view after the four puts of a page's words
pub put_four : (c : ℕ) (ws : List ℕ) (p : Page) (v v0 v1 v2 v3 v4 : View) → v0 ≡ begun c v → v1 ≡ put_in 0 (get_or ws 1 0) v0 → v2 ≡ put_in 1 (get_or ws 2 0) v1
    → v3 ≡ put_in 2 (get_or ws 3 0) v2 → v4 ≡ put_in 3 (get_or ws 4 0) v3 → ws ≡ words_of p
    → v4 ≡ put_all c (field_at p 0) (field_at p 1) (field_at p 2) (field_at p 3) v
put_four c ws p v v0 v1 v2 v3 v4 a b d e f is =
    (f ∙ ap (put_in 3 (get_or ws 4 0)) (e ∙ ap (put_in 2 (get_or ws 3 0)) (d ∙ ap (put_in 1 (get_or ws 2 0)) (b ∙ ap (put_in 0 (get_or ws 1 0)) a))))
    ∙ ap (λ (l : List ℕ). put_all c (get_or l 1 0) (get_or l 2 0) (get_or l 3 0) (get_or l 4 0) v) is

-- what is told of the view with the fields put is told of the one before
pub extends_from : (c x y z w : ℕ) (e : Entry) (v u : View) → Extends e (put_all c x y z w v) u → Extends e v u
extends_from c x y z w e v u t = (t.0, t.1, t.2, record { legal = t.3.legal; own = t.3.own; below = t.3.below })

-- a read of c that an even version n begins, with its fields noted one by one
abbrev pub noted : ℕ → ℕ → List (Option ℕ) → View → View
noted c n fields v = record v { read = Some (record { cpu = c; first = n; noted = fields }) }

abbrev pub all_four : ℕ → ℕ → ℕ → ℕ → List (Option ℕ)
all_four x y z w = Some x ∷ Some y ∷ Some z ∷ Some w ∷ []

pub even_read : (c n : ℕ) (v u : View) → n % 2 ≡ 0 → u ≡ first_read c n v → u ≡ noted c n no_fields v
even_read c n v u even is = is ∙ ap (λ (b : Bool). first_if b c n v) (eq-eqb (n % 2) 0 even)

pub is_reading : (c n : ℕ) (fields : List (Option ℕ)) (v u : View) → u ≡ noted c n fields v → IsReading c u
is_reading c n fields v u is = (record { cpu = c; first = n; noted = fields }, ap (λ w. w.read) is, refl)

has_noted : (c n x y z w : ℕ) (v u : View) → u ≡ noted c n (all_four x y z w) v → HasNoted c u
has_noted c n x y z w v u is = (
  record { cpu = c; first = n; noted = all_four x y z w },
  ap (λ t. t.read) is,
  refl,
  below_four (λ k. (i : ℕ) × (slice_index_or (all_four x y z w) k None ≡ Some i)) (x, refl) (y, refl) (z, refl) (w, refl),
)

-- a read of which all fields were noted may end
pub may_end : (cpus c n x y z w : ℕ) (v u : View) → u ≡ noted c n (all_four x y z w) v → c ≤ cpus → IsPass v → MayEnd cpus c u
may_end cpus c n x y z w v u is there pass = record {
  there = there;
  pass = subst IsPass (sym is) (record { number = pass.number; meet = pass.meet });
  noted = has_noted c n x y z w v u is;
}

-- how a read ends, told of the view before it
abbrev pub Ends : ℕ → Bool → ℕ → ℕ → ℕ → ℕ → Page → View → View → Type 0
Ends cpus b c h n m page v u = MatchBool b (Hears (read_of cpus (number_in v) c h page false) v u) ((u ≡ missed c n m v) × (n < m))

pub read_ends : (cpus c h n x y z w m : ℕ) (v t u : View) → t ≡ noted c n (all_four x y z w) v
    → ((r : Read) → t.read ≡ Some r → ReadEnds cpus h r m t u) → Ends cpus (eqb m n) c h n m (page_of (n ∷ x ∷ y ∷ z ∷ w ∷ [])) v u
read_ends cpus c h n x y z w m v t u is told =
    let r : Read = record { cpu = c; first = n; noted = all_four x y z w } in
    cases (eqb m n) (subst (λ (s : View). ReadEnds cpus h r m s u) is (told r (ap (λ s. s.read) is)))
  where
    cases : (b : Bool) → Ends cpus b c h n m (page_of (n ∷ x ∷ y ∷ z ∷ w ∷ [])) (noted c n (all_four x y z w) v) u
        → Ends cpus b c h n m (page_of (n ∷ x ∷ y ∷ z ∷ w ∷ [])) v u
    cases true e = (e.0, e.1, record { legal = e.2.legal; own = e.2.own; below = e.2.below })
    cases false e = e

-- the fields noted one after another
pub noted_1 : (c n x : ℕ) (v v0 v1 : View) → n % 2 ≡ 0 → v0 ≡ first_read c n v → v1 ≡ noted_in 0 x v0 → v1 ≡ noted c n (Some x ∷ None ∷ None ∷ None ∷ []) v
noted_1 c n x v v0 v1 even a b = b ∙ ap (noted_in 0 x) (even_read c n v v0 even a)

pub noted_2 : (c n x y : ℕ) (v v0 v1 v2 : View) → n % 2 ≡ 0 → v0 ≡ first_read c n v → v1 ≡ noted_in 0 x v0 → v2 ≡ noted_in 1 y v1
    → v2 ≡ noted c n (Some x ∷ Some y ∷ None ∷ None ∷ []) v
noted_2 c n x y v v0 v1 v2 even a b d = d ∙ ap (noted_in 1 y) (noted_1 c n x v v0 v1 even a b)

pub noted_3 : (c n x y z : ℕ) (v v0 v1 v2 v3 : View) → n % 2 ≡ 0 → v0 ≡ first_read c n v → v1 ≡ noted_in 0 x v0 → v2 ≡ noted_in 1 y v1
    → v3 ≡ noted_in 2 z v2 → v3 ≡ noted c n (Some x ∷ Some y ∷ Some z ∷ None ∷ []) v
noted_3 c n x y z v v0 v1 v2 v3 even a b d e = e ∙ ap (noted_in 2 z) (noted_2 c n x y v v0 v1 v2 even a b d)

pub noted_4 : (c n x y z w : ℕ) (v v0 v1 v2 v3 v4 : View) → n % 2 ≡ 0 → v0 ≡ first_read c n v → v1 ≡ noted_in 0 x v0 → v2 ≡ noted_in 1 y v1
    → v3 ≡ noted_in 2 z v2 → v4 ≡ noted_in 3 w v3 → v4 ≡ noted c n (all_four x y z w) v
noted_4 c n x y z w v v0 v1 v2 v3 v4 even a b d e f = f ∙ ap (noted_in 3 w) (noted_3 c n x y z v v0 v1 v2 v3 even a b d e)
