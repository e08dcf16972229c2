-- A phase with what ends it.
use Rattle.std.proofs.Common.{◌≡◌, ℕ, ◌<◌, List, [], ◌∷◌, ◌++◌, refl, sym, ap, ◌∙◌, subst, append-nil, None, option_map}
use Rattle.trace_blocks.specs.Refusals.{save_refusal, refused_move}
use Rattle.trace_blocks.specs.declared.deliveries.Deliveries.{Deliveries}
use Rattle.board_types.specs.declared.access.Access.TheVariants.{Step}
use Rattle.board_types.specs.declared.parts.BoardParts.{BoardParts}
use Rattle.board_core.specs.Access.{reply_of}
use Rattle.board_core.specs.Refusals.{meters_of, refusal_of}
use Rattle.board_meters.specs.Meters.{counted, move_fault_in}
use Rattle.board_history.specs.History.{board_after, May, LegalFrom, IsLegal, Opens}
use Rattle.board_history.specs.declared.entry.Entry.{Entry}
use Rattle.board_history.proofs.Laws.{LegalFrom-snoc}
use Rattle.trace_blocks.specs.declared.ends.End.{End}
use Rattle.trace_blocks.specs.declared.ends.End.TheVariants.{Finish, Save, Move}
use Rattle.race_phase.specs.declared.phases.Phase.{Phase}
use Rattle.race_phase.specs.private.Ran.{PhaseTold}
use Rattle.race_phase.specs.Phases.{end_entries, PhaseEnded}
use Rattle.trace_blocks.specs.Ends.{IsEnd, end_refusal, end_text, next_board}
use Rattle.race_phase.proofs.Taken.{or_none, access_none}
use Rattle.board_history.specs.declared.entry.Entry.TheVariants.{Opened, Board}

legal_more : (s : BoardParts) (h : List Entry) (e : Entry) → IsLegal h → Opens s h → May h e → IsLegal (h ++ e ∷ [])
legal_more s h e legal opens may =
    let later = opens.0 in
    let l : LegalFrom (Opened s ∷ []) later = subst IsLegal opens.1 legal in
    subst (λ (z : List Entry). IsLegal (z ++ e ∷ [])) (sym opens.1)
    (LegalFrom-snoc (Opened s ∷ []) later e l (subst (λ (z : List Entry). May z e) opens.1 may))

step_more : (s : BoardParts) (h : List Entry) (cpu hh : ℕ) → IsLegal h → Opens s h → cpu < (board_after h).cpus → refusal_of (board_after h) cpu hh Step ≡ None
    → IsLegal (h ++ Board cpu cpu hh Step (reply_of (board_after h) cpu hh Step) ∷ [])
step_more s h cpu hh legal opens inside taken =
    legal_more s h (Board cpu cpu hh Step (reply_of (board_after h) cpu hh Step)) legal opens (record { cpu_below = inside; legal = refl; taken = taken; reply = refl })

end_legal : (s : BoardParts) (h : List Entry) (e : End) → IsLegal h → Opens s h → IsEnd (board_after h).cpus e → end_refusal (meters_of (board_after h)) e ≡ None
    → IsLegal (h ++ end_entries e (board_after h))
end_legal s h Finish legal opens fits free = subst IsLegal (sym (append-nil h)) legal
end_legal s h (Save line cpu hh) legal opens fits free =
    step_more s h cpu hh legal opens fits (access_none (refusal_of (board_after h) cpu hh Step) free)
end_legal s h (Move line cpu hh host) legal opens fits free =
    let m = meters_of (board_after h) in
    let both = or_none (save_refusal m cpu hh) (option_map refused_move (move_fault_in host.gap (counted cpu hh Step m))) free in
    step_more s h cpu hh legal opens fits.0 (access_none (refusal_of (board_after h) cpu hh Step) both.0)

pub phase_ended : (s : BoardParts) (ds : Deliveries) (v : Phase) (mid next : BoardParts) (block out : List ℕ)
    → PhaseTold s ds v.records mid block
    → IsEnd mid.cpus v.end → end_refusal (meters_of mid) v.end ≡ None → next ≡ next_board v.end mid → out ≡ block ++ end_text ds v.end mid → PhaseEnded s ds v next out
phase_ended s ds v mid next block out t fits free is says = record {
  h = t.h;
  block = block;
  legal = end_legal s t.h v.end t.legal t.opens (subst (λ (b : BoardParts). IsEnd b.cpus v.end) t.leaves fits)
      (subst (λ (b : BoardParts). end_refusal (meters_of b) v.end ≡ None) t.leaves free);
  opens = t.opens;
  none_else = t.none_else;
  shown = t.shown;
  leaves = is ∙ ap (next_board v.end) t.leaves;
  text = says ∙ ap (λ (b : BoardParts). block ++ end_text ds v.end b) t.leaves;
}
