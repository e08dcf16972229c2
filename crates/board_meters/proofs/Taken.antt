-- What no refusal means.
use Rattle.std.proofs.Common.{◌≡◌, ℕ, ◌<◌, ◌≤◌, get_or, Bool, true, false, cond, leb, Option, None, Some, option_map, IfSome, IsTrue, max, refl}
use Rattle.std.proofs.Common.{ap, subst, sym, ◌∙◌, inl, inr}
use Rattle.std.specs.Option.{option_or}
use Rattle.std.proofs.lemmas.Bool.{cases_lt, le-leb, false≢true}
use Rattle.host_counter.specs.declared.TimeFault.{TimeFault}
use Rattle.board_types.specs.Legal.{is_legal}
use Rattle.board_types.specs.declared.access.Access.{Access}
use Rattle.board_types.specs.declared.parts.TheConstants.{LAST_VERSION, MOST_ACCESSES}
use Rattle.board_types.specs.declared.reply.Refusal.{Refusal}
use Rattle.board_types.specs.declared.reply.Refusal.TheVariants.{NoTime, VersionsSpent, Spent}
use Rattle.board_meters.specs.declared.meters.Meters.{Meters}
use Rattle.host_counter.specs.Time.{HasTime, time_fault}
use Rattle.board_meters.specs.Published.{published_by, publishes_wall, publishes_hv}
use Rattle.board_meters.specs.Meters.{version_in, raised_in, spent_version, refusal_in}
use Rattle.host_counter.proofs.Times.{time_of-no_fault}
use Rattle.board_meters.proofs.Times.{greater_time}
use Rattle.board_meters.proofs.Publishing.{page_place, page-not_wall, page-not_hv, hv-or-wall}

not_this : (b : Bool) (x : Refusal) (rest : Option Refusal) → cond b (Some x) rest ≡ None → (b ≡ false) × (rest ≡ None)
not_this true x rest e = cc
not_this false x rest e = (refl, e)

not_late : (o : Option TimeFault) (rest : Option Refusal) → option_or (option_map NoTime o) rest ≡ None → (o ≡ None) × (rest ≡ None)
not_late None rest e = (refl, e)
not_late (Some f) rest e = cc

not_spent : (v : Option ℕ) (r : Option Refusal) → spent_version v r ≡ None → IfSome v (λ n. n < LAST_VERSION) × (r ≡ None)
not_spent None r e = (tt, e)
not_spent (Some n) r e = elim (cases_lt n LAST_VERSION) [
  | inl less ↦ (less, (not_this (leb LAST_VERSION n) (VersionsSpent n) r e).1)
  | inr more ↦ absurd (false≢true (sym (not_this (leb LAST_VERSION n) (VersionsSpent n) r e).0 ∙ le-leb LAST_VERSION n more))
]

-- a version that is raised, by what is published
module _ (m : Meters) (cpu : ℕ) (a : Access) (fresh : IfSome (raised_in m cpu a) (λ n. n < LAST_VERSION)) where
  pub raised_wall : publishes_wall a ≡ true → m.wall_version < LAST_VERSION
  raised_wall is =
      subst (λ (v : Option ℕ). IfSome v (λ n. n < LAST_VERSION))
      (ap (λ (w : Bool). cond w (Some m.wall_version) (cond (publishes_hv a) (Some m.hv_version) (version_in (published_by cpu a) m.versions))) is) fresh

  pub raised_hv : publishes_hv a ≡ true → m.hv_version < LAST_VERSION
  raised_hv is =
      subst (λ (v : Option ℕ). IfSome v (λ n. n < LAST_VERSION))
      (ap (λ (w : Bool). cond w (Some m.wall_version) (cond (publishes_hv a) (Some m.hv_version) (version_in (published_by cpu a) m.versions)))
      (hv-or-wall a is) ∙ ap (λ (w : Bool). cond w (Some m.hv_version) (version_in (published_by cpu a) m.versions)) is) fresh

  pub raised_page : (k : ℕ) → published_by cpu a ≡ Some k → get_or m.versions k 0 < LAST_VERSION
  raised_page k some =
      subst (λ (v : Option ℕ). IfSome v (λ n. n < LAST_VERSION))
      (ap (λ (w : Bool). cond w (Some m.wall_version) (cond (publishes_hv a) (Some m.hv_version) (version_in (published_by cpu a) m.versions)))
      (page-not_wall cpu k a some) ∙ ap (λ (w : Bool). cond w (Some m.hv_version) (version_in (published_by cpu a) m.versions)) (page-not_hv cpu k a some)
      ∙ ap (λ (p : Option ℕ). version_in p m.versions) some) fresh

module _ (m : Meters) (cpu h : ℕ) (a : Access) (none : refusal_in m cpu h a ≡ None) where
  last : Option Refusal
  last = cond (leb MOST_ACCESSES m.accesses) (Some (Spent m.accesses)) None

  first : (time_fault m.anchor h ≡ None) × (spent_version (raised_in m cpu a) last ≡ None)
  unfolding refusal_in last
  first = not_late (time_fault m.anchor h) _ none

  second : IfSome (raised_in m cpu a) (λ n. n < LAST_VERSION) × (last ≡ None)
  second = not_spent (raised_in m cpu a) last first.1

  pub taken_time : HasTime m.anchor h
  taken_time = time_of-no_fault m.anchor h first.0

  pub taken_version : IfSome (raised_in m cpu a) (λ n. n < LAST_VERSION)
  taken_version = second.0

  pub taken_accesses : m.accesses < MOST_ACCESSES
  unfolding last
  taken_accesses = elim (cases_lt m.accesses MOST_ACCESSES) [
    | inl less ↦ less
    | inr more ↦ absurd (false≢true (sym (not_this (leb MOST_ACCESSES m.accesses) (Spent m.accesses) None second.1).0 ∙ le-leb MOST_ACCESSES m.accesses more))
  ]

  pub taken_wall : publishes_wall a ≡ true → m.wall_version < LAST_VERSION
  taken_wall = raised_wall m cpu a taken_version

  pub taken_hv : publishes_hv a ≡ true → m.hv_version < LAST_VERSION
  taken_hv = raised_hv m cpu a taken_version

  -- the page that it publishes is there, and not at its last version
  pub taken_page : cpu < m.cpus → IsTrue (is_legal m.cpus m.format a) → m.cpus ≤ 64
      → IfSome (published_by cpu a) (λ k. (k < 64) × (get_or m.versions k 0 < LAST_VERSION))
  taken_page inside legal most = by (published_by cpu a) refl (page_place m.cpus m.format cpu a most inside legal)
    where
      by : (o : Option ℕ) → published_by cpu a ≡ o → IfSome o (λ k. k < 64) → IfSome o (λ k. (k < 64) × (get_or m.versions k 0 < LAST_VERSION))
      by None e l = tt
      by (Some k) e l = (l, raised_page m cpu a taken_version k e)

  -- the greatest count has a time
  pub taken_host : HasTime m.anchor m.host → HasTime m.anchor (max m.host h)
  taken_host before = greater_time m.anchor m.host h before taken_time
