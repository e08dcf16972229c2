-- The board of a replay, one record or one phase more, and the check that keeps it.
use Rattle.std.proofs.Common.{◌≡◌, ℕ, ◌+◌, List, [], ◌∷◌, ◌++◌, refl, ap, ◌∙◌}
use Rattle.board_types.specs.declared.parts.BoardParts.{BoardParts}
use Rattle.trace_records.specs.declared.Record.{Record as Written}
use Rattle.trace_blocks.specs.Ends.{next_board}
use Rattle.trace_blocks.specs.declared.ends.End.{End}
use Rattle.trace_records.specs.declared.Call.{Call}
use Rattle.trace_records.specs.declared.Job.TheVariants.{Ask}
use Rattle.trace_blocks.specs.declared.records.Record.{Record}
use Rattle.trace_runner.specs.Check.{ended_by, kept, with_end}
use Rattle.trace_runner.specs.Checking.{Checking}
use Rattle.trace_runner.specs.Replayed.{board_after_phases, records_after, replayed, on_board}
use Rattle.race_phase.specs.declared.phases.Phase.{Phase}

-- one record more
records_after-snoc : (b : BoardParts) (rs : List Record) (r : Record) → records_after b (rs ++ r ∷ []) ≡ board_after_phases (records_after b rs) r.cpu r.h r.call
records_after-snoc b [] r = refl
records_after-snoc b (x ∷ xs) r = records_after-snoc (board_after_phases b x.cpu x.h x.call) xs r

pub replayed-record : (b : BoardParts) (vs : List Phase) (rs : List Record) (r : Record)
    → replayed b vs (rs ++ r ∷ []) ≡ board_after_phases (replayed b vs rs) r.cpu r.h r.call
replayed-record b [] rs r = records_after-snoc b rs r
replayed-record b (v ∷ vs) rs r = replayed-record (next_board v.end (records_after b v.records)) vs rs r

-- a phase that ends
pub replayed-end : (b : BoardParts) (vs : List Phase) (v : Phase) → replayed b (vs ++ v ∷ []) [] ≡ next_board v.end (replayed b vs v.records)
replayed-end b [] v = refl
replayed-end b (x ∷ xs) v = replayed-end (next_board x.end (records_after b x.records)) xs v

-- a check that keeps one record more
pub pushed : {s now : Checking} → s ≡ now → (line : ℕ) (rec : Written) (call : Call) (b : BoardParts) (rs : List Record)
    → b ≡ board_after_phases s.replay.board rec.cpu rec.h call → rs ≡ s.last ++ record { line = line; cpu = rec.cpu; h = rec.h; call = call } ∷ []
    → record s { replay = record s.replay { board = b }; last = rs; taken = s.taken + 1 }
    ≡ kept line rec (Ask call) (on_board (board_after_phases now.replay.board rec.cpu rec.h call) now)
pushed {s} is line rec call b rs e f =
    (λ i. record s { replay = record s.replay { board = e i }; last = f i; taken = s.taken + 1 })
    ∙ ap (λ (t : Checking). kept line rec (Ask call) (on_board (board_after_phases t.replay.board rec.cpu rec.h call) t)) is

-- or ends its phase
pub ended : {s now : Checking} → s ≡ now → (end : End) (b : BoardParts) (vs : List Phase) (rs : List Record) → b ≡ next_board end s.replay.board
    → vs ≡ ended_by end s → rs ≡ []
    → record s { replay = record s.replay { board = b }; phases = vs; last = rs; taken = s.taken + 1 }
    ≡ with_end end (on_board (next_board end now.replay.board) now)
ended {s} is end b vs rs e f g =
    (λ i. record s { replay = record s.replay { board = e i }; phases = f i; last = g i; taken = s.taken + 1 })
    ∙ ap (λ (t : Checking). with_end end (on_board (next_board end t.replay.board) t)) is
