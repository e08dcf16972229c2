-- A worker through the parts of a phase.
use Rattle.std.proofs.Common.{◌≡◌, ℕ, ◌+◌, ◌*◌, ◌<◌, ◌≤◌, ◌^◌, List, [], ◌∷◌, ◌++◌, All, length, length-append, sym, ap, subst, arith, Some, None}
use Rattle.std.proofs.lemmas.List.Elements.{All-append}
use Rattle.board_types.specs.declared.parts.BoardParts.{BoardParts}
use Rattle.trace_blocks.specs.declared.deliveries.Deliveries.{Deliveries}
use Rattle.trace_blocks.specs.declared.ends.End.{End}
use Rattle.race_phase.specs.declared.piece.Part.{Part}
use Rattle.trace_blocks.specs.declared.records.Record.{Record}
use Rattle.race_phase.specs.declared.working.Working.{Working}
use Rattle.race_phase.specs.Calls.{IsFitting}
use Rattle.race_phase.specs.Parts.{IsPart, phases_in, open_in}
use Rattle.race_phase.specs.private.Feed.{HasRun}
use Rattle.race_phase.specs.private.Working.{IsReady, IsWorking}
use Rattle.race_phase.proofs.Parts.{is_phase, part_waits}
use Rattle.race_phase.proofs.Steps.{worked_end}

-- these parts are as many, and no phase ends in them; the pass n has answered its records in them but those that wait, or
-- it has stopped
pub record HasTaken {N : Type 0} (s : BoardParts) (ds : Deliveries) (n k : ℕ) (ts : List Part) (w : Working N) : Type 0 where
  pub ready : IsReady s w
  pub few : w.answered + length w.waiting.items ≤ k * 2048
  pub left : phases_in [] ts ≡ []
  pub fits : All (IsFitting s.cpus s.format) (open_in [] ts)
  pub short : length (open_in [] ts) ≤ k * 2048
  pub worked : IsWorking s ds n (open_in [] ts) w

-- .. and takes one part more
module _ {N : Type 0} (s : BoardParts) (ds : Deliveries) (n k : ℕ) (ts : List Part) (w : Working N) (before : HasTaken s ds n k ts w)
    (p : Part) (part : IsPart s.cpus s.format p) (z : Working N)
    (done : (m : ℕ) (rs : List Record) → IsWorking s ds m rs w → IsWorking s ds m (rs ++ p.records) z) where
  -- that doesn't end the phase
  pub taken_more : p.end ≡ None → IsReady s z
      → z.answered + length z.waiting.items ≤ w.answered + length w.waiting.items + length p.records
      → HasTaken s ds n (k + 1) (ts ++ p ∷ []) z
  taken_more none ready few =
      let waits = part_waits ts p before.left none in
      let rs : List Record = open_in [] ts in
      let long = length-append rs p.records in
      let all = ap (λ (xs : List Record). length xs) waits.1 in
      let most = part.few in
      let old = before.few in
      let short = before.short in record {
        ready = ready;
        few = omega (arith, few, most, old);
        left = waits.0;
        fits = subst (λ (xs : List Record). All (IsFitting s.cpus s.format) xs) (sym waits.1)
            (All-append (IsFitting s.cpus s.format) rs p.records before.fits part.records);
        short = omega (arith, long, all, most, short);
        worked = subst (λ (xs : List Record). IsWorking s ds n xs z) (sym waits.1) (done n rs before.worked);
      }

  -- and the last one
  pub taken_last : (e : End) → p.end ≡ Some e → k < 2 ^ 20 → z.waiting.items ≡ [] → HasRun s ds (ts ++ p ∷ []) e n z.pass z.text.items
  taken_last e is most none =
      let rs : List Record = open_in [] ts in
      let short : length rs ≤ 2 ^ 61 = let k = before.short in omega (arith, most, k) in (
        record { records = rs ++ p.records; end = e },
        is_phase s ts p e before.left before.fits part short is,
        worked_end s ds n (rs ++ p.records) z none (done n rs before.worked),
      )
