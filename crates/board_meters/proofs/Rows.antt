-- Rows on the definitions: each rule at one small case, so that a weaker rule is seen.
use Rattle.std.proofs.Common.{◌≡◌, ◌-◌, ◌+◌, ◌^◌, [], ◌∷◌, map, Some, None, refl}
use Rattle.host_counter.specs.Time.{time_at}
use Rattle.host_counter.specs.declared.TimeFault.TheVariants.{BeforeStart, OutOfRange}
use Rattle.board_types.specs.declared.access.Access.TheVariants.{Step, Refresh, MsrWrite}
use Rattle.board_types.specs.declared.reply.Refusal.TheVariants.{NoTime, VersionsSpent, Spent}
use Rattle.board_meters.specs.declared.meters.Meters.{Meters}
use Rattle.board_meters.specs.declared.meters.MoveFault.TheVariants.{OutOfRange as GapOutOfRange, VersionsSpent as PageSpent}
use Rattle.board_meters.specs.Meters.{refusal_in, counted, spent_in, move_fault_in, raised_below, moved_in}

-- two processors, the first with its page at its last version, and no access left
abbrev full : Meters
full = record {
  format = 4;
  cpus = 2;
  anchor = record { khz = 1000000; start = 100; base_ns = 5000 };
  host = 200;
  accesses = 2 ^ 62;
  wall_version = 4294967292;
  hv_version = 4294967294;
  versions = 4294967294 ∷ 6 ∷ [];
}

-- a count before the anchor's comes first, then a time past the range, then a version, and then the accesses
order : map (λ h. refusal_in full 0 h (Refresh 0)) (99 ∷ (100 + 2 ^ 59 - 5000) ∷ 200 ∷ [])
    ≡ Some (NoTime (BeforeStart 100)) ∷ Some (NoTime (OutOfRange (2 ^ 59))) ∷ Some (VersionsSpent 4294967294) ∷ []
unfolding refusal_in time_at
order = refl

-- an access is refused for what it publishes alone: another page, the reference page, the wall clock's words, nothing
published : map (λ a. refusal_in (record full { accesses = 2 ^ 62 - 1 }) 1 200 a)
    (Refresh 0 ∷ Refresh 1 ∷ MsrWrite 0x40000021 0 ∷ MsrWrite 0x4b564d00 0 ∷ Step ∷ [])
    ≡ Some (VersionsSpent 4294967294) ∷ None ∷ Some (VersionsSpent 4294967294) ∷ None ∷ None ∷ []
unfolding refusal_in time_at
published = refl

spent : refusal_in full 1 200 Step ≡ Some (Spent (2 ^ 62))
unfolding refusal_in time_at
spent = refl

-- an access that counts: the greater host's count, and the version that it raises
counts : counted 1 150 (Refresh 1) full ≡ record full { accesses = 2 ^ 62 + 1; versions = 4294967294 ∷ 8 ∷ [] }
counts = refl

-- a move: its range first, then the first page at its last version, and the reference page after those of the processors
moves : map (λ gap. move_fault_in gap full) (2 ^ 59 ∷ 0 ∷ []) ≡ Some (GapOutOfRange (2 ^ 59 + 5100)) ∷ Some (PageSpent 0 4294967294) ∷ []
unfolding move_fault_in spent_in time_at
moves = refl

reference : move_fault_in 0 (record full { versions = 2 ∷ 6 ∷ [] }) ≡ Some (PageSpent 2 4294967294)
unfolding move_fault_in spent_in time_at
reference = refl

-- after it each page has its next version
moved : moved_in 3000000 500 1000 (record full { versions = 2 ∷ 6 ∷ 9 ∷ []; hv_version = 4 })
    ≡ record full { anchor = record { khz = 3000000; start = 500; base_ns = 6100 }; host = 500; versions = 4 ∷ 8 ∷ 9 ∷ []; hv_version = 6 }
unfolding raised_below time_at
moved = refl
