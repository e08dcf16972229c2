-- What the meters of a board refuse, and what they are after an access and after a move.
use Rattle.std.specs.Prelude.{
  ℕ,
  zero,
  suc,
  ◌+◌,
  ◌≤◌,
  max,
  nat_le,
  List,
  slice_index_or,
  slice_set,
  Option,
  Some,
  None,
  if◌then◌else◌,
}
use Rattle.std.specs.Option.{option_or, option_map}
use Rattle.clk_units.specs.Ranges.{IsKhz}
use Rattle.clk_units.specs.declared.ranges.TheConstants.{RANGE_NS}
use Rattle.host_counter.specs.Time.{time_at}
use Rattle.board_types.specs.declared.access.Access.{Access}
use Rattle.board_types.specs.declared.parts.TheConstants.{LAST_VERSION, MOST_ACCESSES}
use Rattle.board_types.specs.declared.setup.TheConstants.{HV_FORMAT}
use Rattle.board_types.specs.declared.reply.Refusal.{Refusal}
use Rattle.board_types.specs.declared.reply.Refusal.TheVariants.{NoTime, VersionsSpent, Spent}
use Rattle.board_meters.specs.declared.meters.Meters.{Meters}
use Rattle.board_meters.specs.declared.meters.MoveFault.{MoveFault}
use Rattle.board_meters.specs.declared.meters.MoveFault.TheVariants.{
  OutOfRange as GapOutOfRange,
  VersionsSpent as PageSpent,
}
use Rattle.host_counter.specs.Time.{HasTime, time_fault}
use Rattle.board_meters.specs.Published.{
  published_by,
  publishes_wall,
  publishes_hv,
  wall_version_after,
  hv_version_after,
}

-- what is true of the meters of every board
pub record IsMetered (m : Meters) : Type 0 where
  pub rate : IsKhz m.anchor.khz
  pub time : HasTime m.anchor m.host
  pub few : m.cpus ≤ 64

-- the version of a page, if there is one
abbrev pub version_in : Option ℕ → List ℕ → Option ℕ
version_in None vs = None
version_in (Some k) vs = Some (slice_index_or vs k 0)

-- the version that an access would raise: that of the wall clock's words, of the reference page, or
-- of a page
abbrev pub raised_in : Meters → ℕ → Access → Option ℕ
raised_in m cpu a =
    if publishes_wall a then Some m.wall_version
    else (if publishes_hv a then Some m.hv_version else version_in (published_by cpu a) m.versions)

-- versions are spent where that is the last one; else the next cause counts
abbrev pub spent_version : Option ℕ → Option Refusal → Option Refusal
spent_version None next = next
spent_version (Some version) next =
    if nat_le LAST_VERSION version then Some (VersionsSpent version) else next

-- the accesses are spent
abbrev pub spent_accesses : ℕ → Option Refusal
spent_accesses n = if nat_le MOST_ACCESSES n then Some (Spent n) else None

-- why an access at count h is refused, the causes in this order: the count has no time; a version is
-- spent; the accesses are spent
unfoldable pub refusal_in : Meters → ℕ → ℕ → Access → Option Refusal
refusal_in m cpu h a =
    option_or (option_map NoTime (time_fault m.anchor h))
    (spent_version (raised_in m cpu a)
    (spent_accesses m.accesses))

-- the versions with that of a page raised, if there is one
abbrev pub raised_at : Option ℕ → List ℕ → List ℕ
raised_at None vs = vs
raised_at (Some k) vs = slice_set vs k (slice_index_or vs k 0 + 2)

-- the meters after an access of processor cpu at count h
abbrev pub counted : ℕ → ℕ → Access → Meters → Meters
counted cpu h a m = record m {
  host = max m.host h;
  accesses = m.accesses + 1;
  wall_version = wall_version_after a m.wall_version;
  hv_version = hv_version_after a m.hv_version;
  versions = raised_at (published_by cpu a) m.versions;
}

-- an earlier fault, or else that of a page whose version is the last one
abbrev pub or_spent : Option MoveFault → ℕ → ℕ → Option MoveFault
or_spent (Some fault) cpu version = Some fault
or_spent None cpu version =
    if nat_le LAST_VERSION version then Some (PageSpent cpu version) else None

-- the fault of the first processor below n whose page has the last version
unfoldable pub spent_in : List ℕ → ℕ → Option MoveFault
spent_in vs zero = None
spent_in vs (suc n) = or_spent (spent_in vs n) n (slice_index_or vs n 0)

-- the time after a gap of nanoseconds
abbrev pub gap_end : ℕ → Meters → ℕ
gap_end gap m = time_at m.anchor m.host + gap

-- why a move is refused, the causes in this order: the new time is `RANGE_NS` or more; a page's
-- version is the last one. The reference page comes after those of the processors, as page `cpus`
unfoldable pub move_fault_in : ℕ → Meters → Option MoveFault
move_fault_in gap m =
    if nat_le RANGE_NS (gap_end gap m) then Some (GapOutOfRange (gap_end gap m))
    else or_spent (spent_in m.versions m.cpus) m.cpus m.hv_version

-- the pages of all processors below n are published
unfoldable pub raised_below : ℕ → List ℕ → List ℕ
raised_below zero vs = vs
raised_below (suc n) vs = raised_at (Some n) (raised_below n vs)

-- the version of the reference page after a move, if the format has one
abbrev pub hv_version_moved : ℕ → ℕ → ℕ
hv_version_moved format version = if nat_le HV_FORMAT format then version + 2 else version

-- the meters after a move: the board runs over the gap, and each page is published
abbrev pub moved_in : ℕ → ℕ → ℕ → Meters → Meters
moved_in khz start gap m = record m {
  anchor = record { khz = khz; start = start; base_ns = gap_end gap m };
  host = start;
  hv_version = hv_version_moved m.format m.hv_version;
  versions = raised_below m.cpus m.versions;
}
