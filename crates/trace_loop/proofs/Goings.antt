-- A run over lines goes on, or is over, by what its last step did.
use Rattle.std.proofs.Common.{◌≡◌, ◌≢◌, ℕ, ◌+◌, ◌-◌, ◌<◌, ◌≤◌, false, List, [], ◌++◌, length, take}
use Rattle.std.proofs.Common.{Some, None, refl, sym, ap, ◌∙◌, inl, inr, ◌⊎◌, arith, subst, append-nil, append_assoc, drop}
use Rattle.std.proofs.Math.Seq.{drop-append_seam}
use Rattle.std.specs.Io.KnownBytes.{Consumes}
use Rattle.board_io.specs.Ends.{Grows, Input, Gave, given_in, Held}
use Rattle.std.proofs.KnownBytes.{Consumes-trans}
use Rattle.board_io.proofs.Bytes.{Grows-trans}
use Rattle.board_io.specs.Faults.{Rose}
use Rattle.trace_loop.specs.Text.{source_fault_text, memory_fault_text}
use Rattle.trace_loop.specs.Answered.{printed, end_of, state_after}
use Rattle.trace_loop.specs.Progress.{Closing, Answer, Progress, standing, opened, after_bytes, finished}
use Rattle.trace_loop.specs.Cut.{Cut, IsLine, IsWhole}
use Rattle.trace_loop.specs.Outcome.{Begins, run_over, Outcome, Said}
use Rattle.trace_loop.specs.private.Going.{BothEnds, source_of, IsAsked, Stands, IsGoing, IsOver}
use Rattle.trace_loop.specs.declared.ended.Ended.{Ended}
use Rattle.trace_loop.specs.declared.ended.Ended.TheVariants as statuses
use Rattle.trace_loop.specs.declared.feed.Feed.{Feed}
use Rattle.trace_loop.proofs.Outcomes.{
  stands_line,
  ends_line,
  stands_whole,
  stands_put,
  stands_at,
  stands_starts,
  stands_asked,
  stands_refill,
  stands_end,
  line_shorter,
  out_ended,
  out_memory,
  out_source,
  out_sink,
  consumed,
  said-source,
  said-sink,
}

-- what was given is what was added to what was read
given_is : (start now : Input) (bytes : List ℕ) → now.read ≡ start.read ++ bytes → given_in start now ≡ bytes
given_is start now bytes e = ap (drop (length start.read)) e ∙ drop-append_seam start.read bytes

module _ (A E : Type 0) (answer : ℕ → A → List ℕ → Answer A E) (closing : ℕ → A → Closing E) (a : A) (start : BothEnds) where
  -- a line was answered
  pub goes_line : (state now : A) (feed feed' : Feed) (ends : BothEnds) → IsGoing A E answer a start state feed ends → IsLine feed.lines feed'.lines
      → None ≡ end_of (answer (feed.lines.number + 1) state feed'.lines.line)
      → feed'.out.items ≡ feed.out.items ++ printed (answer (feed.lines.number + 1) state feed'.lines.line)
      → now ≡ state_after (answer (feed.lines.number + 1) state feed'.lines.line) state
      → IsGoing A E answer a start now feed' ends
  goes_line state now feed feed' ends k l none shown is = record {
    bytes = k.bytes;
    read = k.read;
    ends = k.ends;
    known = k.known;
    put = k.put;
    puts = k.puts;
    place = λ rest.
        subst (λ (n : ℕ). Stands A E answer a (k.bytes ++ rest) feed'.lines.left rest k.put feed'.out.items (ends.given - start.given) (ends.before - start.given)
        (standing (n + 1) feed'.lines.text now (k.put ++ feed'.out.items))) (sym l.number)
        (stands_line A E answer closing a (k.bytes ++ rest) rest k.put feed.out.items feed'.out.items _ _ (feed.lines.number + 1) state now feed.lines
        feed'.lines (k.place rest) l none shown is);
    lines = omega (arith, l.number, line_shorter feed.lines feed'.lines l, k.lines);
    more = k.more;
    quiet = k.quiet;
    source_faults = k.source_faults;
    sink_faults = k.sink_faults;
  }

  module _ (state : A) (feed : Feed) (ends : BothEnds) (k : IsGoing A E answer a start state feed ends) where
    from_start : given_in (source_of start) (source_of ends) ≡ k.bytes
    from_start = given_is (source_of start) (source_of ends) k.bytes k.read

    -- the place in an input that the source may have had
    abbrev at : (input : List ℕ) → Gave (source_of start) (source_of ends) input → (rest : List ℕ) × Stands A E answer a input feed.lines.left rest k.put
        feed.out.items (ends.given - start.given) (ends.before - start.given)
        (standing (feed.lines.number + 1) feed.lines.text state (k.put ++ feed.out.items))
    at input e = (
      e.0,
      subst (λ (l : List ℕ). Stands A E answer a l feed.lines.left e.0 k.put feed.out.items (ends.given - start.given) (ends.before - start.given)
          (standing (feed.lines.number + 1) feed.lines.text state (k.put ++ feed.out.items))) (sym (e.1 ∙ ap (λ (l : List ℕ). l ++ e.0) from_start))
          (k.place e.0),
    )

    -- an input that was known before is one of these
    abbrev known_here : (input : List ℕ) → start.remaining ≡ Some input → Gave (source_of start) (source_of ends) input
    known_here input e =
        let h = consumed start.remaining ends.remaining input k.bytes e k.known in
        (h.0, h.2 ∙ ap (λ (l : List ℕ). l ++ h.0) (sym from_start), inl k.ends)

    -- a run is over before the source is called once more
    over_here : (result : Ended E) (c : Held) (f : ℕ) → 0 < (ends.given - start.given) + length feed.out.items
        → ((input : List ℕ) (e : Gave (source_of start) (source_of ends) input)
        → (let m = at input e in IsAsked A E answer a input k.put (ends.before - start.given) (length m.1.bytes))
        → Outcome (run_over answer closing a input (source_of start) (source_of ends)) result start.contents c)
        → (result ≡ statuses.SourceFault → ⊥) → (result ≡ statuses.SinkFault → Rose ends.sink_faults f)
        → (result ≢ statuses.SinkFault → f ≡ ends.sink_faults) → IsOver A E answer closing a start (record ends { contents = c; sink_faults = f }) result
    over_here result c f some outcome source rose kept = record {
      gives = record { grows = (k.bytes, k.read); known = known_here };
      outcome = λ input e. outcome input e ((at input e).1.asked some);
      stopped = λ input e. ((at input e).1.asked some).going;
      once = λ done late. (k.quiet done late).1;
      well = λ x y. k.source_faults;
      source_fault = λ is. absurd (source is);
      sink_fault = λ is. subst (λ (n : ℕ). Rose n f) k.sink_faults (rose is);
      sink_well = λ other. kept other ∙ k.sink_faults;
    }

    -- a line ended the trace
    pub over_line : (new : Cut) (out : List ℕ) (end : E) (result : Ended E) (c : Held) (f : ℕ) → IsLine feed.lines new
        → Some end ≡ end_of (answer (feed.lines.number + 1) state new.line) → out ≡ feed.out.items ++ printed (answer (feed.lines.number + 1) state new.line)
        → Said (statuses.By end) result ends.contents c out (Rose ends.sink_faults f) → (result ≢ statuses.SinkFault → f ≡ ends.sink_faults)
        → IsOver A E answer closing a start (record ends { contents = c; sink_faults = f }) result
    over_line new out end result c f l some shown said kept =
        over_here result c f (omega (arith, line_shorter feed.lines new l, k.lines))
        (λ input e asked.
        let m = at input e in
        out_ended A E answer closing a input (source_of start) (source_of ends) end result k.put out _ start.contents ends.contents c _
        (ends_line A E answer closing a input m.0 k.put feed.out.items out _ _ (feed.lines.number + 1) state end feed.lines new m.1 l some shown)
        k.source_faults asked k.puts said)
        (said-source (statuses.By end) result ends.contents c out (Rose ends.sink_faults f) (λ is. cc) said)
        (said-sink (statuses.By end) result ends.contents c out (Rose ends.sink_faults f) (λ is. cc) said) kept

    -- memory ran out after the lines that were answered
    pub over_memory : (last : List ℕ) (result : Ended E) (c : Held) (f : ℕ) → 0 < ends.given - start.given
        → last ≡ feed.out.items ++ memory_fault_text
        → Said statuses.NoMemory result ends.contents c last (Rose ends.sink_faults f) → (result ≢ statuses.SinkFault → f ≡ ends.sink_faults)
        → IsOver A E answer closing a start (record ends { contents = c; sink_faults = f }) result
    over_memory last result c f some is said kept =
        over_here result c f (omega (arith, some))
        (λ input e asked.
        let m = at input e in
        let at = stands_at A E answer closing a input feed.lines.left m.0 k.put feed.out.items _ _ (feed.lines.number + 1) feed.lines.text state m.1 in
        out_memory A E answer closing a input (source_of start) (source_of ends) result k.put last feed.out.items
        (length m.1.bytes) start.contents ends.contents c _
        (ap (λ (u : Progress A E). u.printed) at) (ap (λ (u : Progress A E). u.end) at) (omega (arith, m.1.count)) is k.source_faults asked k.puts said)
        (said-source statuses.NoMemory result ends.contents c last (Rose ends.sink_faults f) (λ is. cc) said)
        (said-sink statuses.NoMemory result ends.contents c last (Rose ends.sink_faults f) (λ is. cc) said) kept

    -- the sink failed as all was put
    pub over_sink : (c : Held) (f : ℕ) → 0 < length feed.out.items
        → (cut : List ℕ) × Begins cut feed.out.items × Grows ends.contents c cut → Rose ends.sink_faults f
        → IsOver A E answer closing a start (record ends { contents = c; sink_faults = f }) statuses.SinkFault
    over_sink c f some cut rose =
        over_here statuses.SinkFault c f (omega (arith, some))
        (λ input e asked.
        let m = at input e in
        let starts = stands_starts A E answer closing a input feed.lines.left m.0 k.put feed.out.items _ _ (feed.lines.number + 1) feed.lines.text state m.1 in
        out_sink A E answer closing a input (source_of start) (source_of ends) k.put feed.out.items starts.0 _ start.contents
        ends.contents c starts.1 k.source_faults asked k.puts cut)
        (λ is. cc) (λ is. rose) (λ other. absurd (other refl))

    -- all was put, and then the source was called
    module _ (new : Cut) (now : BothEnds) (c : Held) (f : ℕ) (l : IsWhole feed.lines new) (all : Grows ends.contents c feed.out.items)
        (sink : f ≡ ends.sink_faults) (called : now.before ≡ ends.given) (piece : List ℕ) (more : now.read ≡ ends.read ++ piece) where
      read : now.read ≡ start.read ++ (k.bytes ++ piece)
      read = more ∙ ap (λ (l : List ℕ). l ++ piece) k.read ∙ append_assoc start.read k.bytes piece

      till_now : given_in (source_of start) (source_of now) ≡ k.bytes ++ piece
      till_now = given_is (source_of start) (source_of now) (k.bytes ++ piece) read

      -- an input that the source may have had by what it gave in all, by what it gave before that call
      abbrev before_call : (input : List ℕ) → Gave (source_of start) (source_of now) input → Gave (source_of start) (source_of ends) input
      before_call input e = (
        piece ++ e.0,
        e.1 ∙ ap (λ (l : List ℕ). l ++ e.0) till_now ∙ append_assoc k.bytes piece e.0 ∙ ap (λ (l : List ℕ). l ++ (piece ++ e.0)) (sym from_start),
        inl k.ends,
      )

      -- and the other way round, if the call gave nothing
      after_call : (input : List ℕ) → piece ≡ [] → (e : Gave (source_of start) (source_of ends) input) → (now.ends ≡ start.ends) ⊎ (e.0 ≡ [])
          → Gave (source_of start) (source_of now) input
      after_call input empty e met = (
        e.0,
        e.1 ∙ ap (λ (l : List ℕ). l ++ e.0) (from_start ∙ sym (append-nil k.bytes) ∙ ap (λ (l : List ℕ). k.bytes ++ l) (sym empty) ∙ sym till_now),
        met,
      )

      stands : (input : List ℕ) (e : Gave (source_of start) (source_of now) input) → Stands A E answer a input [] (piece ++ e.0) k.put feed.out.items
          (ends.given - start.given) (ends.before - start.given) (standing (feed.lines.number + 1) new.text state (k.put ++ feed.out.items))
      stands input e =
          let m = at input (before_call input e) in
          stands_whole A E answer closing a input m.0 k.put feed.out.items _ _ (feed.lines.number + 1) state feed.lines new m.1 l

      shown : Grows start.contents c (k.put ++ feed.out.items)
      shown = Grows-trans start.contents ends.contents c k.put feed.out.items k.puts all

      asked : now.before - start.given ≡ ends.given - start.given
      asked = ap (λ (n : ℕ). n - start.given) called

      is_asked : (input : List ℕ) (e : Gave (source_of start) (source_of now) input) → IsAsked A E answer a input (k.put ++ feed.out.items)
          (now.before - start.given) (ends.given - start.given)
      is_asked input e =
          let m = at input (before_call input e) in
          stands_asked A E answer closing a input m.0 k.put feed.out.items _ _ _ (feed.lines.number + 1) new.text state (stands input e) asked

      there : (input : List ℕ) (e : Gave (source_of start) (source_of now) input) → after_bytes answer (take (ends.given - start.given) input) (opened a)
          ≡ standing (feed.lines.number + 1) new.text state (k.put ++ feed.out.items)
      there input e =
          let m = at input (before_call input e) in
          (stands_put A E answer closing a input m.0 k.put feed.out.items _ _ (feed.lines.number + 1) new.text state (stands input e)).2

      over_called : (result : Ended E) → ((input : List ℕ) → start.remaining ≡ Some input → Gave (source_of start) (source_of now) input)
          → ((input : List ℕ) → Gave (source_of start) (source_of now) input
          → Outcome (run_over answer closing a input (source_of start) (source_of now)) result start.contents now.contents)
          → (ends.done ≡ false → ends.late ≡ false → now.late ≡ false)
          → (result ≢ statuses.SourceFault → result ≢ statuses.SinkFault → now.faults ≡ start.faults)
          → (result ≡ statuses.SourceFault → Rose start.faults now.faults)
          → (result ≡ statuses.SinkFault → Rose f now.sink_faults) → (result ≢ statuses.SinkFault → now.sink_faults ≡ f)
          → IsOver A E answer closing a start now result
      over_called result known outcome quiet well source rose kept = record {
        gives = record { grows = (k.bytes ++ piece, read); known = known };
        outcome = outcome;
        stopped = λ input e. (is_asked input e).going;
        once = λ done late. let q = k.quiet done late in quiet q.0 q.1;
        well = well;
        source_fault = source;
        sink_fault = λ is. subst (λ (n : ℕ). Rose n now.sink_faults) (sink ∙ k.sink_faults) (rose is);
        sink_well = λ other. kept other ∙ sink ∙ k.sink_faults;
      }

      -- a piece more was given
      pub goes_refill : (feed' : Feed) → now.contents ≡ c → now.sink_faults ≡ f → now.faults ≡ ends.faults
          → now.given ≡ ends.given + length feed'.lines.left → feed'.lines.number ≡ new.number → feed'.lines.text ≡ new.text → feed'.out.items ≡ []
          → feed'.lines.left ≡ piece → now.ends ≡ ends.ends → Consumes ends.remaining now.remaining piece
          → (ends.done ≡ false → ends.late ≡ false → (now.done ≡ false) × (now.late ≡ false))
          → IsGoing A E answer a start state feed' now
      goes_refill feed' is_c is_f well given number text empty is_piece same took quiet = record {
        bytes = k.bytes ++ piece;
        read = read;
        ends = same ∙ k.ends;
        known = Consumes-trans start.remaining ends.remaining now.remaining k.bytes piece k.known took;
        put = k.put ++ feed.out.items;
        puts = subst (λ (o : Held). Grows start.contents o (k.put ++ feed.out.items)) (sym is_c) shown;
        place = λ rest.
            let input : List ℕ = (k.bytes ++ piece) ++ rest in
            let e : Gave (source_of start) (source_of now) input = (rest, ap (λ (l : List ℕ). l ++ rest) (sym till_now), inl (same ∙ k.ends)) in
            stands_refill A E answer closing a input (piece ++ rest) rest feed'.lines.left k.put feed.out.items _ _ _ _ (feed.lines.number + 1) new.text state
            (feed'.lines.number + 1) feed'.lines.text feed'.out.items (stands input e) (ap (λ (l : List ℕ). l ++ rest) (sym is_piece)) asked
            (omega (arith, given, k.more)) (ap (λ (n : ℕ). n + 1) (number ∙ l.number)) text empty;
        lines = omega (arith, number, l.number, k.lines, k.more, given);
        more = omega (arith, k.more, given);
        quiet = λ done late. let q = k.quiet done late in quiet q.0 q.1;
        source_faults = well ∙ k.source_faults;
        sink_faults = is_f ∙ sink ∙ k.sink_faults;
      }

      -- the input ended
      pub over_end : (number : ℕ) (text : List ℕ) (result : Ended E) → now.faults ≡ ends.faults → ends.given ≤ now.given → number ≡ new.number
          → text ≡ new.text → piece ≡ [] → now.ends ≡ ends.ends + 1 → ((rest : List ℕ) → ends.remaining ≡ Some rest → rest ≡ []) → (ends.done ≡ false → ends.late ≡ false → now.late ≡ false)
          → (let r = finished answer closing (standing (number + 1) text state []) in Said (statuses.By r.end) result c now.contents r.text
          (Rose f now.sink_faults) ⊎ Said statuses.NoMemory result c now.contents memory_fault_text (Rose f now.sink_faults))
          → (result ≢ statuses.SinkFault → now.sink_faults ≡ f) → IsOver A E answer closing a start now result
      over_end number text result well given el et empty met none quiet said kept =
          let r : Closing E = finished answer closing (standing (number + 1) text state []) in
          let faults : now.faults ≡ start.faults = well ∙ k.source_faults in
          let known : (input : List ℕ) → start.remaining ≡ Some input → Gave (source_of start) (source_of now) input = λ input e.
          let h = consumed start.remaining ends.remaining input k.bytes e k.known in
          after_call input empty (known_here input e) (inr (none h.0 h.1)) in
          let nothing : (input : List ℕ) (e : Gave (source_of start) (source_of now) input) → piece ++ e.0 ≡ [] = λ input e.
          elim e.2 [
            | inl same ↦ absurd (let here : now.ends ≡ start.ends = same in omega (arith, here, met, k.ends))
            | inr last ↦ ap (λ (l : List ℕ). l ++ e.0) empty ∙ last
          ] in
          elim said [
            | inl whole ↦ over_called result known
                (λ input e.
                let m = at input (before_call input e) in
                out_ended A E answer closing a input (source_of start) (source_of now) r.end result _ r.text
                (ends.given - start.given) start.contents c now.contents _
                (stands_end A E answer closing a input m.0 k.put feed.out.items _ _ (feed.lines.number + 1) new.text state (number + 1) text (stands input e)
                (nothing input e) (ap (λ (n : ℕ). n + 1) (el ∙ l.number)) et) faults (is_asked input e) shown whole)
                quiet (λ x y. faults)
                (λ is. absurd (said-source (statuses.By r.end) result c now.contents r.text (Rose f now.sink_faults) (λ is'. cc) whole is))
                (said-sink (statuses.By r.end) result c now.contents r.text (Rose f now.sink_faults) (λ is. cc) whole) kept
            | inr front ↦ over_called result known
                (λ input e. out_memory A E answer closing a input (source_of start) (source_of now) result _ memory_fault_text
                [] (ends.given - start.given) start.contents c now.contents _
                (ap (λ (u : Progress A E). u.printed) (there input e) ∙ sym (append-nil (k.put ++ feed.out.items)))
                (ap (λ (u : Progress A E). u.end) (there input e)) (omega (arith, given)) refl faults (is_asked input e) shown front)
                quiet (λ x y. faults)
                (λ is. absurd (said-source statuses.NoMemory result c now.contents memory_fault_text (Rose f now.sink_faults) (λ is'. cc) front is))
                (said-sink statuses.NoMemory result c now.contents memory_fault_text (Rose f now.sink_faults) (λ is. cc) front) kept
          ]

      -- the source failed
      pub over_source : (result : Ended E) → Rose ends.faults now.faults → now.given ≡ ends.given → piece ≡ [] → now.ends ≡ ends.ends → (ends.done ≡ false → ends.late ≡ false → now.late ≡ false)
          → Said statuses.SourceFault result c now.contents source_fault_text (Rose f now.sink_faults)
          → (result ≢ statuses.SinkFault → now.sink_faults ≡ f) → IsOver A E answer closing a start now result
      over_source result failed given empty same quiet said kept =
          let rose : Rose start.faults now.faults = subst (λ (n : ℕ). Rose n now.faults) k.source_faults failed in
          over_called result (λ input e. after_call input empty (known_here input e) (inl (same ∙ k.ends)))
          (λ input e.
          let at = ap (λ (n : ℕ). after_bytes answer (take (n - start.given) input) (opened a)) given ∙ there input e in
          out_source A E answer closing a input (source_of start) (source_of now) result _ (ends.given - start.given) start.contents c now.contents _
          (ap (λ (u : Progress A E). u.printed) at) (ap (λ (u : Progress A E). u.end) at) rose (is_asked input e) shown said)
          quiet (λ source sink'. absurd (elim said [ inl whole ↦ source whole.0 | inr cut ↦ sink' cut.0 ])) (λ is. rose)
          (said-sink statuses.SourceFault result c now.contents source_fault_text (Rose f now.sink_faults) (λ is. cc) said) kept
