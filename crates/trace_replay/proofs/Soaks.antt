-- Lemmas on soaks.
use Rattle.std.proofs.Common.{◌≡◌, ℕ, List, [], ◌++◌, length, take, drop, Some, None, inl, inr, refl, ap, subst, ◌∙◌}
use Rattle.std.proofs.Math.Seq.{take-append_seam, drop-append_seam}
use Rattle.board_io.specs.Ends.{Grows, Held}
use Rattle.board_io.specs.Faults.{Rose}
use Rattle.board_core.specs.Time.{now_of}
use Rattle.reply_text.specs.Soak.{soak_text}
use Rattle.trace_loop.specs.Text.{memory_fault_text}
use Rattle.trace_loop.specs.Progress.{Answer, Goes, Ends, Progress, told, answered, after_bytes}
use Rattle.trace_loop.specs.Answered.{printed, end_of}
use Rattle.trace_loop.specs.Outcome.{Begins, Run, Outcome}
use Rattle.trace_loop.specs.declared.ended.Ended.{Ended}
use Rattle.trace_loop.specs.declared.ended.Ended.TheVariants.{
  By,
  SourceFault as FailsSource,
  SinkFault as FailsSink,
  NoMemory as WantsMemory,
}
use Rattle.trace_replay.specs.Replay.{answer_of}
use Rattle.trace_replay.specs.Soak.{sum_or, soaked, soak_answer, Soaked}
use Rattle.trace_replay.specs.Status.{verdict_status, status_of}
use Rattle.trace_replay.specs.declared.replay.Replay.{Replay}
use Rattle.trace_replay.specs.declared.soak.Soak.{Soak}
use Rattle.trace_replay.specs.declared.status.Verdict.{Verdict}
use Rattle.trace_replay.proofs.Stays.{stays}

-- a line that ends the trace
pub soaked-ends : (a : Answer Replay Verdict) (s : Soak) (v : Verdict) → end_of a ≡ Some v
    → (let sum = soak_text s.records s.edges (now_of s.replay.board) s.replay.board.greatest in
    soaked a s ≡ Ends (record { text = sum_or (printed a) v sum; end = v }))
soaked-ends (Goes block r) s v e = cc
soaked-ends (Ends closing) s v e = cc

-- a text in the place of what is after another
pub in_place : (front old new : List ℕ) (whole : ℕ) (f : List ℕ → List ℕ) → whole ≡ length front
    → new ≡ take whole (front ++ old) ++ f (drop whole (front ++ old))
    → new ≡ front ++ f old
in_place front old new whole f is_whole is_new = rw (is_new, is_whole, take-append_seam front old, drop-append_seam front old) refl

-- nothing is printed before the trace has ended
abbrev pub IsQuiet : Progress Soak Verdict → Type 0
IsQuiet s = s.end ≡ None → s.printed ≡ []

quiet-told : (a : Answer Replay Verdict) (k : Soak) (s : Progress Soak Verdict) → s.printed ≡ [] → IsQuiet (told (soaked a k) s)
quiet-told (Goes block r) k s e = λ _. rw e refl
quiet-told (Ends closing) k s e = λ none. cc

quiet-answered : (s : Progress Soak Verdict) → s.end ≡ None → IsQuiet s → IsQuiet (answered soak_answer s)
unfolding soak_answer
quiet-answered s none quiet = quiet-told (answer_of s.line s.state.replay s.text) s.state s (quiet none)

-- whatever comes
pub quiet-after : (bytes : List ℕ) (s : Progress Soak Verdict) → IsQuiet s → IsQuiet (after_bytes soak_answer bytes s)
quiet-after bytes s quiet = stays soak_answer IsQuiet quiet-answered (λ b p none same. same) bytes s quiet

-- what a run has left that printed nothing before its end, over a source that has no fault
pub soaked_is : (w : Run Soak Verdict) (e : Ended Verdict) (old new : Held) (shown : Type 0)
    → ((k : ℕ) → IsQuiet (w.at k))
    → (Rose w.start.faults w.end.faults → ⊥)
    → (e ≡ FailsSink → shown)
    → Outcome w e old new
    → Soaked w.whole (status_of e) old new shown
soaked_is w (By v) old new shown quiet calm failed o =
    inl (inl (ap verdict_status o.0, subst (λ (t : List ℕ). Grows old new t) o.1.1.0 o.1.2))
soaked_is w FailsSource old new shown quiet calm failed o = absurd (calm o.1.2)
soaked_is w WantsMemory old new shown quiet calm failed o =
    inr (inl (refl, subst (λ (t : List ℕ). Grows old new t) (o.1.1 ∙ ap (λ (l : List ℕ). l ++ memory_fault_text) (quiet o.1.0 o.1.4)) o.2))
soaked_is w FailsSink old new shown quiet calm failed o = elim o.1.1.1 [
  | inl whole ↦ inl (inr (refl, failed refl, (o.0, subst (λ (t : List ℕ). Begins o.0 t) whole.0 o.1.1.2, o.2)))
  | inr fault ↦ elim fault [
    | inl source ↦ absurd (calm source.2)
    | inr memory ↦ inr (inr (
      refl,
      failed refl,
      (
        o.0,
        subst (λ (t : List ℕ). Begins o.0 t) (memory.1 ∙ ap (λ (l : List ℕ). l ++ memory_fault_text) (quiet memory.0 memory.4)) o.1.1.2,
        o.2,
      ),
    ))
  ]
]
