-- What a move is refused, and the versions after it.
use Rattle.std.proofs.Common.{◌≡◌, ℕ, zero, suc, ◌+◌, ◌<◌, ◌≤◌, leb, cond, Bool, true, List, get_or, refl, sym, ap, ◌∙◌, subst, arith, inl, inr, Option, Some, None, add-one}
use Rattle.std.proofs.lemmas.Bool.{cases_lt, le-leb, lt-leb}
use Rattle.std.proofs.lemmas.List.{get_or-set_other}
use Rattle.clk_units.specs.declared.ranges.TheConstants.{RANGE_NS}
use Rattle.board_types.specs.declared.parts.TheConstants.{LAST_VERSION}
use Rattle.board_meters.specs.declared.meters.Meters.{Meters}
use Rattle.board_meters.specs.declared.meters.MoveFault.{MoveFault}
use Rattle.board_meters.specs.declared.meters.MoveFault.TheVariants.{OutOfRange}
use Rattle.board_meters.specs.Meters.{or_spent, spent_in, gap_end, move_fault_in, raised_at, raised_below}

-- the first page at its last version, page by page
or_spent-none : (f : Option MoveFault) (cpu v : ℕ) → or_spent f cpu v ≡ None → (f ≡ None) × (v < LAST_VERSION)
or_spent-none (Some f) cpu v e = cc
or_spent-none None cpu v e = elim (cases_lt v LAST_VERSION) [
  | inl less ↦ (refl, less)
  | inr more ↦ let t : leb LAST_VERSION v ≡ true = le-leb LAST_VERSION v more in cc
]

pub spent_in-zero : (vs : List ℕ) → spent_in vs 0 ≡ None
unfolding spent_in
spent_in-zero vs = refl

pub spent_in-more : (vs : List ℕ) (n : ℕ) → spent_in vs n ≡ None → or_spent None n (get_or vs n 0) ≡ None → spent_in vs (n + 1) ≡ None
unfolding spent_in
spent_in-more vs n none fresh = rw add-one (ap (λ (f : Option MoveFault). or_spent f n (get_or vs n 0)) none ∙ fresh)

pub spent_in-is : (vs : List ℕ) (n m : ℕ) (fault : MoveFault) → spent_in vs n ≡ None → n < m → or_spent None n (get_or vs n 0) ≡ Some fault
    → spent_in vs m ≡ Some fault
unfolding spent_in
spent_in-is vs n zero fault none less here = absurd (omega arith)
spent_in-is vs n (suc j) fault none less here = elim (cases_lt n j) [
  | inl below ↦ ap (λ (f : Option MoveFault). or_spent f j (get_or vs j 0)) (spent_in-is vs n j fault none below here)
  | inr above ↦
      let same : n ≡ j = omega arith in
      let first : spent_in vs (suc n) ≡ Some fault = ap (λ (f : Option MoveFault). or_spent f n (get_or vs n 0)) none ∙ here in
      subst (λ (i : ℕ). spent_in vs (suc i) ≡ Some fault) same first
]

pub spent_in-none : (vs : List ℕ) (n : ℕ) → spent_in vs n ≡ None → (k : ℕ) → k < n → get_or vs k 0 < LAST_VERSION
unfolding spent_in
spent_in-none vs zero e k less = absurd (omega arith)
spent_in-none vs (suc n) e k less =
    let parts : (spent_in vs n ≡ None) × (get_or vs n 0 < LAST_VERSION) = or_spent-none (spent_in vs n) n (get_or vs n 0) e in
    elim (cases_lt k n) [
      | inl below ↦ spent_in-none vs n parts.0 k below
      | inr above ↦ let same : n ≡ k = omega arith in subst (λ (j : ℕ). get_or vs j 0 < LAST_VERSION) same parts.1
    ]

-- pages from n on stay while those below n are raised
raised_below-later : (n : ℕ) (vs : List ℕ) (k : ℕ) → n ≤ k → get_or (raised_below n vs) k 0 ≡ get_or vs k 0
unfolding raised_below
raised_below-later zero vs k le = refl
raised_below-later (suc n) vs k le =
    let other : k ≡ n → ⊥ = λ (e : k ≡ n). omega arith in
    get_or-set_other (raised_below n vs) n k (get_or (raised_below n vs) n 0 + 2) 0 other ∙ raised_below-later n vs k (omega arith)

pub raised_below-zero : (vs : List ℕ) → raised_below 0 vs ≡ vs
unfolding raised_below
raised_below-zero vs = refl

pub raised_below-fresh : (n m : ℕ) (vs ws : List ℕ) → ws ≡ raised_below n vs → spent_in vs m ≡ None → n < m → get_or ws n 0 < LAST_VERSION
raised_below-fresh n m vs ws is none less =
    let same : get_or ws n 0 ≡ get_or vs n 0 = ap (λ (us : List ℕ). get_or us n 0) is ∙ raised_below-later n vs n (omega arith) in
    let fresh = spent_in-none vs m none n less in omega arith

pub raised_below-more : (n : ℕ) (vs ws : List ℕ) → ws ≡ raised_below n vs → raised_at (Some n) ws ≡ raised_below (n + 1) vs
unfolding raised_below
raised_below-more n vs ws is = rw add-one (ap (raised_at (Some n)) is)

-- what no refusal of a move means
pub move_fault-none : (gap : ℕ) (m : Meters) → move_fault_in gap m ≡ None
    → (gap_end gap m < RANGE_NS) × (spent_in m.versions m.cpus ≡ None) × (m.hv_version < LAST_VERSION)
unfolding move_fault_in
move_fault-none gap m e =
    let pages : Option MoveFault = or_spent (spent_in m.versions m.cpus) m.cpus m.hv_version in
    elim (cases_lt (gap_end gap m) RANGE_NS) [
      | inl less ↦
          let none : pages ≡ None = sym (ap (λ (t : Bool). cond t (Some (OutOfRange (gap_end gap m))) pages) (lt-leb RANGE_NS (gap_end gap m) less)) ∙ e in
          let both = or_spent-none (spent_in m.versions m.cpus) m.cpus m.hv_version none in (less, both.0, both.1)
      | inr more ↦ let t : leb RANGE_NS (gap_end gap m) ≡ true = le-leb RANGE_NS (gap_end gap m) more in
          let some : Some (OutOfRange (gap_end gap m)) ≡ None = sym (ap (λ (t : Bool). cond t (Some (OutOfRange (gap_end gap m))) pages) t) ∙ e in cc
    ]
