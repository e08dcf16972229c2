-- The steps of a worker through the records of a phase.
use Rattle.std.proofs.Common.{
  ◌≡◌,
  ◌≢◌,
  ℕ,
  List,
  [],
  ◌∷◌,
  ◌++◌,
  refl,
  sym,
  ap,
  ◌∙◌,
  subst,
  append_assoc,
  append-nil,
  Bool,
  true,
  false,
  inl,
  inr,
  ◌⊎◌,
}
use Rattle.trace_blocks.specs.declared.deliveries.Deliveries.{Deliveries}
use Rattle.board_types.specs.declared.parts.BoardParts.{BoardParts}
use Rattle.shared_board.specs.declared.known.PassKnown.{PassKnown}
use Rattle.shared_board.specs.Passes.{mine}
use Rattle.trace_blocks.specs.declared.records.Record.{Record}
use Rattle.race_phase.specs.declared.working.Working.{Working}
use Rattle.race_phase.specs.Calls.{records_of, AllMade}
use Rattle.race_phase.specs.private.Workers.{AllButLast, HasTried, HasHalted, HasPrinted, HasStopped, HasWorked}
use Rattle.race_phase.specs.private.Working.{IsWorking}
use Rattle.race_phase.proofs.Workers.{records_of-append, records_skip, records_take, stopped_more, waits_printed, waits_stopped}

module _ (s : BoardParts) (ds : Deliveries) (n : ℕ) where
  -- room for more text
  pub step_room : {N : Type 0} (rs : List Record) (w z : Working N) → z ≡ record w { text = z.text } → z.text.items ≡ w.text.items
      → IsWorking s ds n rs w → IsWorking s ds n rs z
  step_room rs w z is text x = subst (IsWorking s ds n rs) (sym is) (record {
    number = x.number;
    going = λ e. subst (λ (ys : List ℕ). AllButLast s ds n (records_of n rs) w.waiting.items ys w.pass) (sym text) (x.going e);
    stopped = x.stopped;
  })

  module _ {N : Type 0} (rs : List Record) (r : Record) where
    -- a record of another processor
    pub step_skip : (w : Working N) → r.cpu ≢ n → IsWorking s ds n rs w → IsWorking s ds n (rs ++ r ∷ []) w
    step_skip w other x =
        let same : records_of n rs ≡ records_of n (rs ++ r ∷ []) = sym (records_skip n rs r other) in record {
          number = x.number;
          going = λ e. subst (λ (ys : List Record). AllButLast s ds n ys w.waiting.items w.text.items w.pass) same (x.going e);
          stopped = λ e. subst (λ (ys : List Record). HasStopped s ds n ys w.pass) same (x.stopped e);
        }

    -- a record that is passed over
    pub step_halted : (w : Working N) → w.halted ≡ true → IsWorking s ds n rs w → IsWorking s ds n (rs ++ r ∷ []) w
    step_halted w halted x = record {
      number = x.number;
      going = λ e. absurd (cc (sym halted ∙ e));
      stopped = λ e. subst (λ (ys : List Record). HasStopped s ds n ys w.pass) (sym (records_of-append n rs (r ∷ [])))
          (stopped_more s ds n (records_of n rs) (records_of n (r ∷ [])) w.pass (x.stopped e));
    }

    -- a record that waits
    pub step_waits : (w z : Working N) → r.cpu ≡ n → w.halted ≡ false → z.halted ≡ w.halted → z.pass ≡ w.pass → z.text.items ≡ w.text.items
        → z.waiting.items ≡ w.waiting.items ++ r ∷ [] → IsWorking s ds n rs w → IsWorking s ds n (rs ++ r ∷ []) z
    step_waits w z here going halted pass text waits x =
        let all = x.going going in
        let same : records_of n (rs ++ r ∷ []) ≡ records_of n rs ++ r ∷ [] = records_take n rs [] r here in
        let more : AllButLast s ds n (records_of n (rs ++ r ∷ [])) (w.waiting.items ++ r ∷ []) w.text.items w.pass = record {
          done = all.done;
          whole = same ∙ ap (λ ys. ys ++ r ∷ []) all.whole ∙ append_assoc all.done w.waiting.items (r ∷ []);
          made = all.made;
          tried = all.tried;
        } in record {
          number = ap (λ (p : PassKnown). p.number) pass ∙ x.number;
          going = λ e. subst (λ (y : List Record × List ℕ × PassKnown). AllButLast s ds n (records_of n (rs ++ r ∷ [])) y.0 y.1 y.2)
              (λ i. (sym waits i, sym text i, sym pass i)) more;
          stopped = λ e. absurd (cc (sym going ∙ sym halted ∙ e));
        }

  module _ {N : Type 0} (rs : List Record) (w z : Working N) (x : IsWorking s ds n rs w) where
    -- the records that wait are answered
    pub step_printed : w.halted ≡ false → z.halted ≡ w.halted → z.waiting.items ≡ []
        → HasPrinted s ds w.waiting.items w.text.items z.text.items w.pass z.pass → IsWorking s ds n rs z
    step_printed going halted none printed = record {
      number = printed.2.number ∙ x.number;
      going = λ e. subst (λ (ws : List Record). AllButLast s ds n (records_of n rs) ws z.text.items z.pass) (sym none)
          (waits_printed s ds n (records_of n rs) w.waiting.items w.text.items z.text.items w.pass z.pass x.number (x.going going) printed);
      stopped = λ e. absurd (cc (sym going ∙ sym halted ∙ e));
    }

    -- one of them isn't
    pub step_stopped : w.halted ≡ false → z.halted ≡ true → HasHalted s w.waiting.items w.pass z.pass → IsWorking s ds n rs z
    step_stopped going halted met = record {
      number = met.number ∙ x.number;
      going = λ e. absurd (cc (sym halted ∙ e));
      stopped = λ e. subst (λ (ys : List Record). HasStopped s ds n ys z.pass) (append-nil (records_of n rs))
          (waits_stopped s ds n (records_of n rs) w.waiting.items [] w.text.items w.pass z.pass x.number (x.going going) met);
    }

    -- nothing is done where it has stopped
    pub step_same : w.halted ≡ true → z.halted ≡ w.halted → z.pass ≡ w.pass → IsWorking s ds n rs z
    step_same stopped halted pass = record {
      number = ap (λ (p : PassKnown). p.number) pass ∙ x.number;
      going = λ e. absurd (cc (sym stopped ∙ sym halted ∙ e));
      stopped = λ e. subst (HasStopped s ds n (records_of n rs)) (sym pass) (x.stopped stopped);
    }

  -- no record waits at the end
  pub worked_end : {N : Type 0} (rs : List Record) (w : Working N) → w.waiting.items ≡ [] → IsWorking s ds n rs w
      → HasWorked s ds rs n w.pass w.text.items
  worked_end rs w none x = (x.number, by_halted w.halted refl)
    where
      by_halted : (b : Bool) → w.halted ≡ b
          → (AllMade s ds n (records_of n rs) w.text.items (mine w.pass) × HasTried s.cpus w.pass)
          ⊎ HasStopped s ds n (records_of n rs) w.pass
      by_halted false e =
          let all = x.going e in
          let whole : records_of n rs ≡ all.done = all.whole ∙ ap (λ ws. all.done ++ ws) none ∙ append-nil all.done in
          inl (subst (λ (ys : List Record). AllMade s ds n ys w.text.items (mine w.pass)) (sym whole) all.made, all.tried)
      by_halted true e = inr (x.stopped e)
