-- What is known of the parts of a check stays known of them.
use Rattle.std.proofs.Common.{◌≡◌, ℕ, List, [], ◌∷◌, ◌++◌, Option, Some, IfSome, refl, sym, ap, subst, ◌∙◌}
use Rattle.board_types.specs.declared.access.Access.TheVariants.{Step}
use Rattle.board_types.specs.declared.parts.BoardParts.{BoardParts}
use Rattle.board_core.specs.Pages.{after_clock}
use Rattle.board_core.proofs.Laws.{after_access-cpus, after_access-format, meters_of-access}
use Rattle.board_meters.specs.declared.meters.Meters.{Meters}
use Rattle.board_core.specs.Refusals.{meters_of}
use Rattle.race_phase.specs.Order.{after_call, after_record}
use Rattle.race_phase.proofs.Same.{meters_of-next}
use Rattle.trace_runner.proofs.Sounds.{meters-clock}
use Rattle.race_phase.specs.Parts.{WriterParts, emptied}
use Rattle.trace_blocks.specs.Ends.{next_board, next_meters}
use Rattle.trace_blocks.specs.declared.deliveries.Deliveries.{Deliveries}
use Rattle.race_phase.specs.declared.opening.Opening.{Opening}
use Rattle.trace_blocks.specs.declared.ends.End.{End}
use Rattle.trace_blocks.specs.declared.ends.End.TheVariants.{Finish, Save, Move}
use Rattle.race_phase.specs.declared.phases.Phase.{Phase}
use Rattle.trace_blocks.specs.declared.records.Record.{Record}
use Rattle.trace_records.specs.declared.Call.{Call}
use Rattle.trace_records.specs.declared.Call.TheVariants.{Act, ReadPage, ReadClock, ReadHv}
use Rattle.trace_runner.specs.Replayed.{board_after_phases, records_after, replayed}
use Rattle.trace_runner.specs.private.Counted.{IsCounted}
use Rattle.trace_replay.proofs.ReadyNext.{moved-cpus, moved-format}
use Rattle.trace_runner.proofs.Replayed.{replayed-record, replayed-end}

-- each record and each end leaves a board of the same size
abbrev AsLarge : BoardParts → BoardParts → Type 0
AsLarge b b' = (b'.cpus ≡ b.cpus) × (b'.format ≡ b.format)

as_large : (b c d : BoardParts) → AsLarge b c → AsLarge c d → AsLarge b d
as_large b c d x y = (y.0 ∙ x.0, y.1 ∙ x.1)

call_size : (b : BoardParts) (r : Record) (call : Call) → AsLarge b (board_after_phases b r.cpu r.h call)
unfolding after_clock
call_size b r (Act a) = (after_access-cpus b r.cpu r.h a, after_access-format b r.cpu r.h a)
call_size b r (ReadPage page) = (refl, refl)
call_size b r (ReadClock page) = (refl, refl)
call_size b r ReadHv = (refl, refl)

end_size : (b : BoardParts) (end : End) → AsLarge b (next_board end b)
end_size b Finish = (refl, refl)
end_size b (Save line cpu h) = (after_access-cpus b cpu h Step, after_access-format b cpu h Step)
end_size b (Move line cpu h host) = (
  moved-cpus host.khz host.start host.gap _ ∙ after_access-cpus b cpu h Step,
  moved-format host.khz host.start host.gap _ ∙ after_access-format b cpu h Step,
)

records_size : (b : BoardParts) (rs : List Record) → AsLarge b (records_after b rs)
records_size b [] = (refl, refl)
records_size b (r ∷ rs) =
    let c : BoardParts = board_after_phases b r.cpu r.h r.call in
    as_large b c (records_after c rs) (call_size b r r.call) (records_size c rs)

replayed_size : (b : BoardParts) (vs : List Phase) (rs : List Record) → AsLarge b (replayed b vs rs)
replayed_size b [] rs = records_size b rs
replayed_size b (v ∷ vs) rs =
    let c : BoardParts = records_after b v.records in
    let d : BoardParts = next_board v.end c in
    as_large b c (replayed d vs rs) (records_size b v.records) (as_large c d (replayed d vs rs) (end_size c v.end) (replayed_size d vs rs))

-- the meters of a board have its size, and those after a call are counted
meters_size : (m : Meters) (c : BoardParts) → m ≡ meters_of c → (m.cpus ≡ c.cpus) × (m.format ≡ c.format)
unfolding meters_of
meters_size m c is = (ap (λ (n : Meters). n.cpus) is, ap (λ (n : Meters). n.format) is)

meters_of-call : (b : BoardParts) (cpu h : ℕ) (call : Call) → meters_of (board_after_phases b cpu h call) ≡ after_call (meters_of b) cpu h call
meters_of-call b cpu h (Act a) = meters_of-access b cpu h a
meters_of-call b cpu h (ReadPage page) = refl
meters_of-call b cpu h (ReadClock page) = meters-clock b page h
meters_of-call b cpu h ReadHv = refl

module _ (b : BoardParts) (ds : Deliveries) where
  abbrev opening_of : BoardParts → Option Opening
  opening_of c = Some (record { state = c; deliveries = ds })

  abbrev Begins : Option (Option Opening) → Type 0
  Begins opened = IfSome opened (λ o. o ≡ opening_of b)

  -- so the writer's records are to fit boards of the size of the opening
  pub counted_size : {w : WriterParts} {m : Meters} → IsCounted b ds w m → (w.cpus ≡ b.cpus) × (w.format ≡ b.format)
  counted_size {w} x =
      let c : BoardParts = replayed b w.phases w.last in
      let same : AsLarge b c = replayed_size b w.phases w.last in
      let size = meters_size _ c x.meters in (x.cpus ∙ size.0 ∙ same.0, x.format ∙ size.1 ∙ same.1)

  -- another state of the writer, and its meters
  recounted : {w : WriterParts} {m : Meters} → IsCounted b ds w m → (w' : WriterParts) (u : Meters) → w'.cpus ≡ w.cpus → w'.format ≡ w.format
      → Begins w'.opened → u ≡ meters_of (replayed b w'.phases w'.last) → IsCounted b ds w' u
  recounted x w' u cpus format opened meters =
      let size = counted_size x in
      let c : BoardParts = replayed b w'.phases w'.last in
      let same : AsLarge b c = replayed_size b w'.phases w'.last in
      let now = meters_size u c meters in
      record {
        meters = meters;
        cpus = cpus ∙ size.0 ∙ sym (now.0 ∙ same.0);
        format = format ∙ size.1 ∙ sym (now.1 ∙ same.1);
        opened = opened;
      }

  -- a record more
  pub counted_record : {w : WriterParts} {m u : Meters} (r : Record) → IsCounted b ds w m → u ≡ after_record m r
      → IsCounted b ds (record w { last = w.last ++ r ∷ [] }) u
  counted_record {w} {m} {u} r x is =
      recounted x (record w { last = w.last ++ r ∷ [] }) u refl refl x.opened
      (is ∙ ap (λ (n : Meters). after_record n r) x.meters ∙ sym (meters_of-call (replayed b w.phases w.last) r.cpu r.h r.call)
      ∙ ap meters_of (sym (replayed-record b w.phases w.last r)))

  -- or an end
  pub counted_end : {w : WriterParts} {m u : Meters} (end : End) → IsCounted b ds w m → u ≡ next_meters end m
      → IsCounted b ds (record w { phases = w.phases ++ record { records = w.last; end = end } ∷ []; last = [] }) u
  counted_end {w} {m} {u} end x is =
      let v : Phase = record { records = w.last; end = end } in
      recounted x (record w { phases = w.phases ++ v ∷ []; last = [] }) u refl refl x.opened
      (is ∙ ap (next_meters end) x.meters ∙ sym (meters_of-next end (replayed b w.phases w.last)) ∙ ap meters_of (sym (replayed-end b w.phases v)))

  -- or none any more
  pub counted_emptied : {w : WriterParts} {m u : Meters} → IsCounted b ds w m → u ≡ meters_of b → IsCounted b ds (emptied w) u
  counted_emptied {w} {m} {u} x is = recounted x (emptied w) u refl refl tt is

  -- the opening that was put is that of the check
  pub opened_by : {w : WriterParts} {m : Meters} → IsCounted b ds w m → (o : Option Opening) → w.opened ≡ Some o → (b' : BoardParts) → b' ≡ b
      → o ≡ Some (record { state = b'; deliveries = ds })
  opened_by x o is b' same =
      subst Begins is x.opened ∙ ap (λ (c : BoardParts). opening_of c) (sym same)
