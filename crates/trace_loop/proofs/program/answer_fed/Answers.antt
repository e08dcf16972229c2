use Rattle.std.proofs.Common.{◌≡◌, ℕ, ◌+◌, ◌<◌, List, [], ◌++◌, Bool, false, ◌||◌, if◌then◌else◌, Ok, eqb, length, refl, sym, ap, ◌∙◌, subst, arith, append-nil}
use Rattle.std.proofs.lemmas.List.{nil_from_length}
use Rattle.std.proofs.lemmas.Bool.{ne_eqb}
use Rattle.board_io.specs.Ends.{Grows}
use Rattle.clk_units.specs.declared.NoMemory.{NoMemory}
use Rattle.board_io.specs.Faults.{Rose}
use Rattle.trace_loop.specs.Text.{source_fault_text, memory_fault_text}
use Rattle.trace_loop.specs.Progress.{Answer}
use Rattle.trace_loop.specs.Answered.{IsAnswered}
use Rattle.trace_loop.specs.Cut.{IsLine, IsWhole}
use Rattle.trace_loop.specs.Outcome.{Begins, Said}
use Rattle.trace_loop.specs.declared.ended.Ended.TheVariants as statuses
use Rattle.trace_loop.proofs.Outcomes.{line_shorter, at_end, IsWholePut, put_whole, on_err_from_is_err}
use Rattle.trace_loop.proofs.Goings.{goes_line, goes_refill, over_line, over_memory, over_sink, over_end, over_source}
use Rattle.trace_loop.proofs.program.answer_fed.Given as given
use Rattle.trace_loop.proofs.program.answer_fed.Goals as goal
use Rattle.trace_loop.proofs.program.answer_fed.Goals.{In-Ok, After-refill}

-- a line was cut off, and this is its answer
cut_off : (g : given.Over) (c : In-Ok g) → IsLine c.lines.feed.lines c.advance.new.self
cut_off g c = c.in-Ok-true.ensures.line c.in-Ok-true.field-0-test

heard : (g : given.Over) (c : In-Ok g) → IsAnswered {F = NoMemory} (g.T.Answerer.answer (c.lines.feed.lines.number + 1)
    c.lines.answerer c.advance.new.self.line)
    c.lines.answerer c.answer_line.new.answerer c.lines.feed.out.items c.answer_line.new.out.items c.answer_line.new.end (Ok c.in-Ok.field-0)
heard g c = subst (λ (x : Answer g.row.T.Denot g.row.E.Denot). IsAnswered {F = NoMemory} x c.lines.answerer c.answer_line.new.answerer c.lines.feed.out.items
    c.answer_line.new.out.items c.answer_line.new.end (Ok c.in-Ok.field-0))
    (λ i. g.T.Answerer.answer ((c.number.ensures ∙ (cut_off g c).number) i) c.lines.answerer (c.line.ensures i)) c.in-Ok.ensures.answered

pub lines-preserved-in-None : goal.lines-preserved-in-None
lines-preserved-in-None g c =
    let at = (goal.at.lines-preserved-in-None g c).In-Ok in
    let l = cut_off g at in
    let x = heard g at in
    let fed = c.lines.invariant.fed in
    record {
      may = subst (λ (n : ℕ). g.T.Answerer.may (n + 1) c.answer_line.new.answerer) c.number.ensures (c.in-Ok.ensures.may c.in-None.is);
      fed = (omega (arith, l.number, line_shorter _ _ l, fed.0), omega (arith, l.number, line_shorter _ _ l, fed.1));
      going = goes_line g.row.T.Denot g.row.E.Denot g.T.Answerer.answer g.T.Answerer.closing _ _ c.lines.answerer c.answer_line.new.answerer c.lines.feed
          (record { lines = c.advance.new.self; out = c.answer_line.new.out }) _ c.lines.invariant.going l
          (sym c.in-None.is ∙ x.ends) x.printed (x.state c.in-None.is);
      quiet = c.lines.invariant.quiet;
      once = c.lines.invariant.once;
    }

pub returns-in-Some-clause-over : goal.returns-in-Some-clause-over
returns-in-Some-clause-over g c =
    let at = (goal.at.returns-in-Some-clause-over g c).In-Ok in
    let x = heard g at in
    let old = g.K.Sink.output c.lines.sink in
    let said = g.K.Sink.output c.say.new.sink in
    over_line g.row.T.Denot g.row.E.Denot g.T.Answerer.answer g.T.Answerer.closing _ _ c.lines.answerer c.lines.feed _ c.lines.invariant.going
    c.advance.new.self c.answer_line.new.out.items c.in-Some.end c.say.result said.contents said.faults (cut_off g at)
    (sym c.in-Some.is ∙ x.ends) x.printed
    (subst (λ (t : List ℕ). Said (statuses.By c.in-Some.end) c.say.result old.contents said.contents t (Rose old.faults said.faults))
    c.deref.ensures.value c.say.ensures.said) c.say.ensures.sink.well

pub returns-in-Err-answer_line-clause-over : goal.returns-in-Err-answer_line-clause-over
unfolding memory_fault_text
returns-in-Err-answer_line-clause-over g c =
    let said = g.K.Sink.output c.want_memory.new.sink in
    let l : IsLine c.lines.feed.lines c.advance.new.self = c.in-Ok-true.ensures.line c.in-Ok-true.field-0-test in
    let k = c.lines.invariant.going in
    over_memory g.row.T.Denot g.row.E.Denot g.T.Answerer.answer g.T.Answerer.closing _ _ c.lines.answerer c.lines.feed _ k
    (c.deref-in-Err-answer_line.result.now ++ memory_fault_text) c.want_memory.result said.contents said.faults
    (omega (arith, line_shorter _ _ l, k.lines))
    (ap (λ (t : List ℕ). t ++ memory_fault_text) (c.deref-in-Err-answer_line.ensures.value ∙ c.in-Err-answer_line.ensures.kept)) c.want_memory.ensures.said
    c.want_memory.ensures.sink.well

pub returns-in-Err-clause-over : goal.returns-in-Err-clause-over
unfolding memory_fault_text
returns-in-Err-clause-over g c =
    let said = g.K.Sink.output c.want_memory-in-Err.new.sink in
    let k = c.lines.invariant.going in
    over_memory g.row.T.Denot g.row.E.Denot g.T.Answerer.answer g.T.Answerer.closing _ _ c.lines.answerer c.lines.feed _ k
    (c.deref-in-Err.result.now ++ memory_fault_text) c.want_memory-in-Err.result said.contents said.faults (omega (arith, c.in-Err.ensures.err, k.lines))
    (ap (λ (t : List ℕ). t ++ memory_fault_text) c.deref-in-Err.ensures.value) c.want_memory-in-Err.ensures.said
    c.want_memory-in-Err.ensures.sink.well

pub returns-then-is_err-clause-over : goal.returns-then-is_err-clause-over
returns-then-is_err-clause-over g c =
    let old = g.K.Sink.output c.lines.sink in
    let put = g.K.Sink.output c.put_all.new.sink in
    let told = on_err_from_is_err c.put_all.result in
    let out = c.deref-in-Ok-false.result.now in
    let is : out ≡ c.lines.feed.out.items = c.deref-in-Ok-false.ensures.value in
    let failed = sym c.if-is_err.ensures.value in
    let some = told (0 < length out) failed c.put_all.ensures.some in
    over_sink g.row.T.Denot g.row.E.Denot g.T.Answerer.answer g.T.Answerer.closing _ _ c.lines.answerer c.lines.feed _ c.lines.invariant.going
    put.contents put.faults (omega (arith, some, ap length is))
    (subst (λ (t : List ℕ). (cut : List ℕ) × Begins cut t × Grows old.contents put.contents cut) is
    (told ((cut : List ℕ) × Begins cut out × Grows old.contents put.contents cut) failed c.put_all.ensures.put.cut))
    (told (Rose old.faults put.faults) failed c.put_all.ensures.put.failed)

-- no line was cut off, and all was put
whole : (g : given.Over) (c : After-refill g) → IsWhole c.lines.feed.lines c.advance.new.self
whole g c = c.in-Ok-false.ensures.whole c.in-Ok-false.field-0-test

all_put : (g : given.Over) (c : After-refill g) → IsWholePut (g.K.Sink.output c.lines.sink) (g.K.Sink.output c.put_all.new.sink) c.lines.feed.out.items
all_put g c =
    let old = g.K.Sink.output c.lines.sink in
    let put = g.K.Sink.output c.put_all.new.sink in
    subst (IsWholePut old put) c.deref-in-Ok-false.ensures.value
    (put_whole c.put_all.result old put c.deref-in-Ok-false.result.now (sym c.if-is_err.ensures.value) c.put_all.ensures.put)

late : (g : given.Over) (c : After-refill g) → (g.S.Source.input c.lines.source).done ≡ false → (g.S.Source.input c.lines.source).late ≡ false
    → (g.S.Source.input c.refill.new.source).late ≡ false
late g c done yet = c.refill.ensures.late ∙ ap (λ (b : Bool). b || (g.S.Source.input c.lines.source).done) yet ∙ done

pub returns-in-Ok-eq0-clause-over : goal.returns-in-Ok-eq0-clause-over
returns-in-Ok-eq0-clause-over g c =
    let at = (goal.at.returns-in-Ok-eq0-clause-over g c).After-refill in
    let put = all_put g at in
    let nothing : c.in-Ok-eq0.field-0 ≡ 0 = c.in-Ok-eq0.field-0-test in
    over_end g.row.T.Denot g.row.E.Denot g.T.Answerer.answer g.T.Answerer.closing _ _ c.lines.answerer c.lines.feed _ c.lines.invariant.going
    c.advance.new.self _ _ _ (whole g at) put.all put.well c.refill.ensures.before c.refill.new.self.left c.in-Ok-eq0.ensures.read c.refill.new.self.number c.refill.new.self.text c.end_input.result
    c.in-Ok-eq0.ensures.well (omega (arith, c.in-Ok-eq0.ensures.given)) c.refill.ensures.number c.refill.ensures.text
    (nil_from_length c.refill.new.self.left (c.in-Ok-eq0.ensures.count ∙ nothing))
    (c.in-Ok-eq0.ensures.ends ∙ ap (λ (n : ℕ). if eqb n 0 then (g.S.Source.input c.lines.source).ends + 1 else (g.S.Source.input c.lines.source).ends) nothing)
    (λ rest is. at_end (g.S.Source.input c.lines.source).remaining (g.S.Source.input c.refill.new.source).remaining rest c.refill.new.self.left is
    (c.in-Ok-eq0.ensures.count ∙ nothing) c.in-Ok-eq0.ensures.bytes (c.in-Ok-eq0.ensures.end nothing))
    (late g at) c.end_input.ensures.said c.end_input.ensures.sink.well

pub lines-preserved : goal.lines-preserved
lines-preserved g c =
    let at = (goal.at.lines-preserved g c).After-refill in
    let l = whole g at in
    let put = all_put g at in
    let some : eqb c.in-Ok-refill.field-0 0 ≡ false = ne_eqb c.in-Ok-refill.field-0 0 c.in-Ok-refill.field-0-test.1 in
    let fed = c.lines.invariant.fed in
    record {
      may = subst (λ (n : ℕ). g.T.Answerer.may (n + 1) c.lines.answerer) (sym (c.refill.ensures.number ∙ l.number)) c.lines.invariant.may;
      fed = (
        omega (arith, c.refill.ensures.number, l.number, fed.0, c.in-Ok-refill.ensures.given, c.in-Ok-refill.ensures.count),
        omega (arith, c.refill.ensures.number, l.number, fed.0, c.in-Ok-refill.ensures.given, c.in-Ok-refill.ensures.count, c.in-Ok-refill.ensures.limit),
      );
      going = goes_refill g.row.T.Denot g.row.E.Denot g.T.Answerer.answer g.T.Answerer.closing _ _ c.lines.answerer c.lines.feed _ c.lines.invariant.going
          c.advance.new.self _ _ _ l put.all put.well c.refill.ensures.before c.refill.new.self.left c.in-Ok-refill.ensures.read (record { lines = c.refill.new.self; out = c.clear.new.self }) refl refl
          c.in-Ok-refill.ensures.well (omega (arith, c.in-Ok-refill.ensures.given, c.in-Ok-refill.ensures.count)) c.refill.ensures.number
          c.refill.ensures.text c.clear.ensures.items
          refl
          (c.in-Ok-refill.ensures.ends ∙ ap (λ (b : Bool). if b then (g.S.Source.input c.lines.source).ends + 1 else (g.S.Source.input c.lines.source).ends) some)
          c.in-Ok-refill.ensures.bytes
          (λ done yet. (c.in-Ok-refill.ensures.done ∙ ap (λ (b : Bool). b || eqb c.in-Ok-refill.field-0 0) done ∙ some, late g at done yet));
      quiet = put.quiet ∙ c.lines.invariant.quiet;
      once = λ done yet. c.put_all.ensures.put.once (c.lines.invariant.quiet ∙ done) (c.lines.invariant.once done yet);
    }

pub returns-in-Err-refill-clause-over : goal.returns-in-Err-refill-clause-over
unfolding source_fault_text
returns-in-Err-refill-clause-over g c =
    let at = (goal.at.returns-in-Err-refill-clause-over g c).After-refill in
    let put = all_put g at in
    over_source g.row.T.Denot g.row.E.Denot g.T.Answerer.answer g.T.Answerer.closing _ _ c.lines.answerer c.lines.feed _ c.lines.invariant.going
    c.advance.new.self _ _ _ (whole g at) put.all put.well c.refill.ensures.before []
    (c.in-Err-refill.ensures.kept ∙ sym (append-nil (g.S.Source.input c.lines.source).read)) c.say-in-Err-refill.result c.in-Err-refill.ensures.failed
    c.in-Err-refill.ensures.given refl c.in-Err-refill.ensures.ends (late g at) c.say-in-Err-refill.ensures.said c.say-in-Err-refill.ensures.sink.well
