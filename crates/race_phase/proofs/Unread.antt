-- Reads of pages that were not answered.
use Rattle.std.proofs.Common.{◌≡◌, ◌∙◌, ℕ, [], sym, ap, refl, subst, Option, IsSome, inl, inr, append-nil}
use Rattle.host_counter.specs.declared.TimeFault.{TimeFault}
use Rattle.board_types.specs.declared.parts.BoardParts.{BoardParts}
use Rattle.board_history.specs.History.{IsLegal}
use Rattle.shared_board.specs.declared.known.PassKnown.{PassKnown}
use Rattle.shared_board.specs.declared.fault.LockedFault.{LockedFault}
use Rattle.shared_board.specs.declared.fault.LockedFault.TheVariants.{NoTime, Spent}
use Rattle.shared_board.specs.Passes.{mine, Unanswered}
use Rattle.shared_board.specs.Faults.{IsReadFault}
use Rattle.race_phase.specs.private.Workers.{IsUnread}

unanswered_same : (p q : PassKnown) → IsLegal p.seen → q ≡ p → Unanswered p q
unanswered_same p q legal same = record {
  number = ap (λ (x : PassKnown). x.number) same;
  more = ([], append-nil p.seen ∙ sym (ap (λ (x : PassKnown). x.seen) same));
  legal = subst (λ (x : PassKnown). IsLegal x.seen) (sym same) legal;
  mine = ap mine same;
}

pub unread : (s : BoardParts) (cpu h : ℕ) (f : LockedFault) (p q : PassKnown) → IsLegal p.seen → IsReadFault s.anchor cpu h f p q
    → Unanswered p q × IsUnread s h q.seen
unread s cpu h (NoTime fault) p q legal e = (unanswered_same p q legal e.1, inl (subst (λ (o : Option TimeFault). IsSome o) (sym e.0) refl))
unread s cpu h (Spent front) p q legal e = (e.1, inr e.3.reads)
