use Rattle.std.proofs.Common.{arith, ◌≡◌, ◌∙◌, ◌∷◌, [], ◌++◌, ◌+◌, ◌<◌, ◌≤◌, ℕ, ap, sym, subst, refl, List, All, length, length-append, take, get_or, append_assoc}
use Rattle.std.proofs.lemmas.List.Elements.{All-push}
use Rattle.std.proofs.lemmas.Option.{get_or_from_slice_get, slice_get_within}
use Rattle.trace_blocks.specs.declared.records.Record.{Record}
use Rattle.trace_records.specs.declared.Call.TheVariants.{ReadPage}
use Rattle.race_phase.specs.Calls.{IsFitting}
use Rattle.race_phase.specs.private.Working.{IsReady, IsWorking}
use Rattle.race_phase.proofs.Steps.{step_halted, step_skip, step_waits}
use Rattle.race_phase.proofs.Workers.{cpu_there, record_cpu, read_fits, take_next}
use Rattle.race_phase.proofs.working.Working.take.Goals as goal
use Rattle.race_phase.proofs.working.Working.take.Goals.{
  then-self-via-then-self,
  then-self-via-else-self+then-from-cpu,
  then-len-at_once+in_ok-answer,
  else-len-at_once,
}

-- one record more of a list, behind others
more_of : (rs xs : List Record) (i : ℕ) (d : Record) → i < length xs → rs ++ take (i + 1) xs ≡ (rs ++ take i xs) ++ get_or xs i d ∷ []
more_of rs xs i d l = ap (λ (ys : List Record). rs ++ ys) (take_next xs i d l) ∙ sym (append_assoc rs (take i xs) (get_or xs i d ∷ []))

pub loop-place-preserved-then-self : goal.loop-place-preserved-then-self
loop-place-preserved-then-self g c =
    let s = g.N.Name.state in
    let ds = c.args.worker.now.deliveries.now in
    let xs = c.args.records.now in
    let i = c.loop-place.place in
    let inv = c.loop-place.invariant in
    let z = c.loop-place.self in
    let d : Record = record { line = 0; cpu = 0; h = 0; call = ReadPage 0 } in
    let below = subst (λ (k : ℕ). i < k) c.len-place-end.ensures c.loop-place-test.true in record {
      ready = inv.ready;
      most = inv.most;
      few = (let f = inv.few in omega arith);
      done = λ n rs x.
          let before = inv.done n rs x in
          subst (λ (ys : List Record). IsWorking s ds n ys z) (sym (more_of rs xs i d below))
          (elim c.then-self.branch [
            | then-self-via-then-self w ↦ step_halted s ds n (rs ++ take i xs) (get_or xs i d) z w.if-self.true before
            | then-self-via-else-self+then-from-cpu w ↦
                let there = cpu_there xs i w.cpu.result d below w.cpu.ensures in
                step_skip s ds n (rs ++ take i xs) (get_or xs i d) z
                (λ same. w.if-from-cpu.true (w.from.ensures ∙ there ∙ same ∙ sym (c.number-cpu.ensures.number ∙ x.number))) before
          ]);
    }

pub answer-requires-clause-fitting : goal.answer-requires-clause-fitting
answer-requires-clause-fitting g c =
    let s = g.N.Name.state in
    let xs = c.args.records.now in
    subst (λ (l : List Record). All (IsFitting s.cpus s.format) l) (sym c.in-Ok.ensures.items)
    (All-push (IsFitting s.cpus s.format) c.loop-place.self.waiting.items _ c.loop-place.invariant.ready.fitting
    (read_fits s.cpus s.format xs c.loop-place.place c.record.result c.record.ensures c.requires.fitting))

pub loop-place-preserved : goal.loop-place-preserved
loop-place-preserved g c =
    let s = g.N.Name.state in
    let ds = c.args.worker.now.deliveries.now in
    let xs = c.args.records.now in
    let i = c.loop-place.place in
    let inv = c.loop-place.invariant in
    let old = c.loop-place.self in
    let r : Record = c.record.result in
    let below = slice_get_within xs i r c.record.ensures in
    let is : get_or xs i r ≡ r = get_or_from_slice_get xs i r r c.record.ensures in
    let items = c.in-Ok.ensures.items in
    let long : length c.push.new.self.items ≡ length old.waiting.items + 1 =
    ap (λ (v : List Record). length v) items ∙ length-append old.waiting.items (_ ∷ []) in
    let pushed = record old { waiting = c.push.new.self } in
    let waits : (n : ℕ) (rs : List Record) → IsWorking s ds n rs c.args.self.now → IsWorking s ds n (rs ++ take (i + 1) xs) pushed =
    λ n rs x.
    let before = inv.done n rs x in
    let here : r.cpu ≡ n = record_cpu xs i c.cpu.result n c.from.result r c.record.ensures c.cpu.ensures c.from.ensures
    (c.if-from-cpu.false ∙ c.number-cpu.ensures.number ∙ x.number) in
    let step = step_waits s ds n (rs ++ take i xs) r old pushed here c.if-self.false refl refl refl items before in
    subst (λ (ys : List Record). IsWorking s ds n ys pushed)
    (sym (more_of rs xs i r below ∙ ap (λ (y : Record). (rs ++ take i xs) ++ y ∷ []) is)) step in
    elim c.if-len-at_once.branch [
      | then-len-at_once+in_ok-answer w ↦
          let e = w.in_ok-answer.ensures in record {
            ready = subst (λ z. IsReady s z) (sym w.self-is) e.ready;
            most = subst (λ (k : ℕ). k ≤ 16) (sym w.at_once-is) w.next-at_once-then-len-at_once.ensures.most;
            few =
                (let f = inv.few in let h = e.few in let a = ap (λ z. z.answered) w.self-is in
                let b = ap (λ z. length z.waiting.items) w.self-is in let none = ap (λ (v : List Record). length v) e.none in omega arith);
            done = λ n rs x. subst (λ z. IsWorking s ds n (rs ++ take (i + 1) xs) z) (sym w.self-is) (e.done n (rs ++ take (i + 1) xs) (waits n rs x));
          }
      | else-len-at_once w ↦ record {
        ready = subst (λ z. IsReady s z) (sym w.self-is) (record {
          places = inv.ready.places;
          few =
              (let same = c.len.ensures ∙ c.push.new.self.ok.0 in
              let less : length c.push.new.self.items < c.loop-place.at_once =
              subst (λ (k : ℕ). k < c.loop-place.at_once) same w.if-len-at_once.false in
              let most = inv.most in omega (arith, less, most));
          fitting =
              subst (λ (l : List Record). All (IsFitting s.cpus s.format) l) (sym items)
              (All-push (IsFitting s.cpus s.format) old.waiting.items _ inv.ready.fitting
              (read_fits s.cpus s.format xs i r c.record.ensures c.requires.fitting));
          legal = inv.ready.legal;
        });
        most = subst (λ (k : ℕ). k ≤ 16) (sym w.at_once-is) inv.most;
        few =
            (let f = inv.few in let a = ap (λ z. z.answered) w.self-is in
            let b = ap (λ z. length z.waiting.items) w.self-is in omega arith);
        done = λ n rs x. subst (λ z. IsWorking s ds n (rs ++ take (i + 1) xs) z) (sym w.self-is) (waits n rs x);
      }
    ]
