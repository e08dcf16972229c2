-- Small rows that pin the definitions.
use Rattle.std.proofs.Common.{◌≡◌, [], ◌∷◌, Some, None, map, replicate, refl}
use Rattle.reply_text.specs.declared.ends.Reason.TheVariants.{CounterFell}
use Rattle.reply_text.specs.declared.ends.Refused.TheVariants.{Invalid}
use Rattle.trace_replay.specs.Deliveries.{deliveries_of}
use Rattle.trace_replay.specs.Status.{number_of, verdict_status}
use Rattle.trace_replay.specs.declared.status.Verdict.TheVariants.{Stopped}
use Rattle.trace_replay.specs.declared.status.Status.TheVariants.{
  BadRecord,
  OutOfRange,
  Spent,
  VersionsSpent,
}

-- no route, no delivery: and one route delivers all lines
no_route : deliveries_of 2 (replicate 6 None) ≡ record { cpus = 2; lines = replicate 6 None }
unfolding deliveries_of
no_route = refl

one_route : (deliveries_of 2 (None ∷ Some (record { cpu = 1; vector = 0x40 }) ∷ None ∷ None ∷ None ∷ None ∷ [])).lines
    ≡ Some (record { cpu = 0; vector = 0x30 }) ∷ Some (record { cpu = 1; vector = 0x40 }) ∷ Some (record { cpu = 0; vector = 0x44 })
    ∷ Some (record { cpu = 0; vector = 0x45 })
    ∷ Some (record { cpu = 0; vector = 0x46 }) ∷ Some (record { cpu = 0; vector = 0x47 }) ∷ []
unfolding deliveries_of
one_route = refl

-- statuses
numbers : map number_of (OutOfRange 3 0 ∷ Spent 3 0 ∷ VersionsSpent 3 0 ∷ []) ≡ 7 ∷ 8 ∷ 9 ∷ []
numbers = refl

a_counter_fell : verdict_status (Stopped 4 (Invalid (CounterFell 10))) ≡ BadRecord 4 (CounterFell 10)
a_counter_fell = refl
