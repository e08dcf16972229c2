-- The phases that parts make, one part or many more.
use Rattle.std.proofs.Common.{◌≡◌, ◌++◌, ◌∷◌, [], ◌≤◌, ◌^◌, All, List, length, length-append, refl, ap, arith, sym, subst, ◌∙◌, append_assoc, append-nil, Option, Some, None}
use Rattle.std.specs.Prelude.{IfSome}
use Rattle.std.proofs.lemmas.List.Elements.{All-append}
use Rattle.board_types.specs.declared.parts.BoardParts.{BoardParts}
use Rattle.trace_blocks.specs.declared.ends.End.{End}
use Rattle.race_phase.specs.declared.phases.Phase.{Phase}
use Rattle.race_phase.specs.declared.piece.Part.{Part}
use Rattle.trace_blocks.specs.declared.records.Record.{Record}
use Rattle.race_phase.specs.Calls.{IsFitting}
use Rattle.race_phase.specs.Parts.{IsPart, phase_by, left_open, phases_in, open_in}
use Rattle.trace_blocks.specs.Ends.{IsEnd}
use Rattle.race_phase.specs.private.Feed.{ArePhase}

pub phases_in-append : (rs : List Record) (ps qs : List Part) → phases_in rs (ps ++ qs) ≡ phases_in rs ps ++ phases_in (open_in rs ps) qs
phases_in-append rs [] qs = refl
phases_in-append rs (p ∷ ps) qs =
    let first : List Phase = phase_by p.end (rs ++ p.records) in
    let left : List Record = left_open p.end (rs ++ p.records) in
    ap (λ (vs : List Phase). first ++ vs) (phases_in-append left ps qs) ∙ sym (append_assoc first (phases_in left ps) (phases_in (open_in left ps) qs))

pub open_in-append : (rs : List Record) (ps qs : List Part) → open_in rs (ps ++ qs) ≡ open_in (open_in rs ps) qs
open_in-append rs [] qs = refl
open_in-append rs (p ∷ ps) qs = open_in-append (left_open p.end (rs ++ p.records)) ps qs

-- one part more
pub phases_in-snoc : (ps : List Part) (p : Part)
    → phases_in [] (ps ++ p ∷ []) ≡ phases_in [] ps ++ phase_by p.end (open_in [] ps ++ p.records)
phases_in-snoc ps p =
    phases_in-append [] ps (p ∷ [])
    ∙ ap (λ (vs : List Phase). phases_in [] ps ++ vs) (append-nil (phase_by p.end (open_in [] ps ++ p.records)))

pub open_in-snoc : (ps : List Part) (p : Part) → open_in [] (ps ++ p ∷ []) ≡ left_open p.end (open_in [] ps ++ p.records)
open_in-snoc ps p = open_in-append [] ps (p ∷ [])

-- one part more behind those that wait to be put
pub put-snoc : (put parts : List Part) (p : Part)
    → (phases_in [] (put ++ (parts ++ p ∷ [])) ≡ phases_in [] (put ++ parts) ++ phase_by p.end (open_in [] (put ++ parts) ++ p.records))
    × (open_in [] (put ++ (parts ++ p ∷ [])) ≡ left_open p.end (open_in [] (put ++ parts) ++ p.records))
put-snoc put parts p =
    let e : put ++ (parts ++ p ∷ []) ≡ (put ++ parts) ++ p ∷ [] = sym (append_assoc put parts (p ∷ [])) in (
      ap (phases_in []) e ∙ phases_in-snoc (put ++ parts) p,
      ap (open_in []) e ∙ open_in-snoc (put ++ parts) p,
    )

-- a part that doesn't end its phase
module _ (ps : List Part) (p : Part) (none : phases_in [] ps ≡ []) where
  pub part_waits : p.end ≡ None
      → (phases_in [] (ps ++ p ∷ []) ≡ []) × (open_in [] (ps ++ p ∷ []) ≡ open_in [] ps ++ p.records)
  part_waits is =
      let rs : List Record = open_in [] ps ++ p.records in (
        phases_in-snoc ps p ∙ (λ i. none i ++ phase_by (is i) rs),
        open_in-snoc ps p ∙ ap (λ (e : Option End). left_open e rs) is,
      )

  -- and one that does
  pub part_ends : (e : End) → p.end ≡ Some e
      → (phases_in [] (ps ++ p ∷ []) ≡ record { records = open_in [] ps ++ p.records; end = e } ∷ []) × (open_in [] (ps ++ p ∷ []) ≡ [])
  part_ends e is =
      let rs : List Record = open_in [] ps ++ p.records in (
        phases_in-snoc ps p ∙ (λ i. none i ++ phase_by (is i) rs),
        open_in-snoc ps p ∙ ap (λ (e : Option End). left_open e rs) is,
      )

-- so these parts are a phase
pub is_phase : (s : BoardParts) (ps : List Part) (p : Part) (e : End) → phases_in [] ps ≡ [] → All (IsFitting s.cpus s.format) (open_in [] ps)
    → IsPart s.cpus s.format p → length (open_in [] ps) ≤ 2 ^ 61 → p.end ≡ Some e
    → ArePhase s (ps ++ p ∷ []) e (record { records = open_in [] ps ++ p.records; end = e })
is_phase s ps p e none fits part short is =
    let ends = part_ends ps p none e is in record {
      one = ends.0;
      none_left = ends.1;
      fits = record {
        records = All-append (IsFitting s.cpus s.format) (open_in [] ps) p.records fits part.records;
        few = (let l = length-append (open_in [] ps) p.records in let f = part.few in omega arith);
        end = subst (λ (o : Option End). IfSome o (IsEnd s.cpus)) is part.end;
      };
      ends = refl;
    }

-- parts are one phase alone
pub same_phase : (s : BoardParts) (ps qs : List Part) (d e : End) (v w : Phase) → ps ≡ qs → ArePhase s ps d v → ArePhase s qs e w → v ≡ w
same_phase s ps qs d e v w same a b =
    let both : v ∷ [] ≡ w ∷ [] = sym a.one ∙ ap (phases_in []) same ∙ b.one in cc
