-- Why an access is refused.
use Rattle.std.proofs.Common.{◌≡◌, ◌⊎◌, ℕ, ◌≤◌, leb, List, get_or, refl, arith, Bool, true, false, cond, Option, None, Some, IsSome, option_map, inl, inr}
use Rattle.std.specs.Option.{option_or}
use Rattle.std.proofs.lemmas.Bool.{leb-true}
use Rattle.host_counter.specs.declared.TimeFault.{TimeFault}
use Rattle.board_types.specs.declared.access.Access.{Access}
use Rattle.board_types.specs.declared.parts.TheConstants.{LAST_VERSION, MOST_ACCESSES}
use Rattle.board_types.specs.declared.reply.Refusal.{Refusal}
use Rattle.board_types.specs.declared.reply.Refusal.TheVariants.{NoTime, VersionsSpent, Spent}
use Rattle.host_counter.specs.Time.{time_fault}
use Rattle.board_meters.specs.Published.{published_by}
use Rattle.board_meters.specs.Published.{publishes_wall}
use Rattle.board_meters.specs.Published.{publishes_hv}
use Rattle.board_meters.specs.declared.meters.Meters.{Meters}
use Rattle.board_meters.specs.Meters.{version_in, raised_in, spent_version, refusal_in}
use Rattle.board_history.specs.Counts.{IsAtLastVersion}

-- one of two causes
this_or_rest : (b : Bool) (x f : Refusal) (rest : Option Refusal) → cond b (Some x) rest ≡ Some f → (b ≡ true) ⊎ (rest ≡ Some f)
this_or_rest true x f rest e = inl refl
this_or_rest false x f rest e = inr e

version_or_rest : (v : Option ℕ) (f : Refusal) (rest : Option Refusal) → spent_version v rest ≡ Some f
    → ((n : ℕ) × (v ≡ Some n) × (LAST_VERSION ≤ n)) ⊎ (rest ≡ Some f)
version_or_rest None f rest e = inr e
version_or_rest (Some n) f rest e = elim (this_or_rest (leb LAST_VERSION n) (VersionsSpent n) f rest e) [
  | inl is ↦ inl (n, refl, leb-true LAST_VERSION n is)
  | inr more ↦ inr more
]

version_of : (o : Option ℕ) (vs : List ℕ) (n : ℕ) → version_in o vs ≡ Some n
    → (k : ℕ) × (o ≡ Some k) × (get_or vs k 0 ≡ n)
version_of None vs n e = absurd (cc e)
version_of (Some k) vs n e = (k, refl, cc e)

raised_at : (m : Meters) (cpu n : ℕ) (a : Access) → raised_in m cpu a ≡ Some n → LAST_VERSION ≤ n → IsAtLastVersion m cpu a
raised_at m cpu n a is last = by (publishes_wall a) refl is
  where
    by_hv : (v : Bool) → publishes_hv a ≡ v → cond v (Some m.hv_version) (version_in (published_by cpu a) m.versions) ≡ Some n
        → IsAtLastVersion m cpu a
    by_hv true v e = inr (inr (v, (let same : m.hv_version ≡ n = cc e in omega arith)))
    by_hv false v e = let t = version_of (published_by cpu a) m.versions n e in
        inr (inl (t.0, t.1, (let same = t.2 in omega arith)))

    by : (w : Bool) → publishes_wall a ≡ w
        → cond w (Some m.wall_version) (cond (publishes_hv a) (Some m.hv_version) (version_in (published_by cpu a) m.versions)) ≡ Some n
        → IsAtLastVersion m cpu a
    by true w e = inl (w, (let same : m.wall_version ≡ n = cc e in omega arith))
    by false w e = by_hv (publishes_hv a) refl e

time_or_rest : (o : Option TimeFault) (f : Refusal) (rest : Option Refusal) → option_or (option_map NoTime o) rest ≡ Some f
    → IsSome o ⊎ (rest ≡ Some f)
time_or_rest None f rest is = inr is
time_or_rest (Some fault) f rest is = inl refl

-- the causes of a refusal: the time, a version, the number of accesses
pub refused_why : (m : Meters) (cpu h : ℕ) (a : Access) (f : Refusal) → refusal_in m cpu h a ≡ Some f
    → IsSome (time_fault m.anchor h) ⊎ (IsAtLastVersion m cpu a ⊎ (MOST_ACCESSES ≤ m.accesses))
unfolding refusal_in
refused_why m cpu h a f is = elim (time_or_rest (time_fault m.anchor h) f _ is) [
  | inl untimed ↦ inl untimed
  | inr more ↦ elim (version_or_rest (raised_in m cpu a) f _ more) [
    | inl last ↦ inr (inl (raised_at m cpu last.0 a last.1 last.2))
    | inr spent ↦ elim (this_or_rest (leb MOST_ACCESSES m.accesses) (Spent m.accesses) f None spent) [
      | inl all ↦ inr (inr (leb-true MOST_ACCESSES m.accesses all))
      | inr none ↦ absurd (cc none)
    ]
  ]
]
