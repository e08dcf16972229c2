use Rattle.std.proofs.Common.{◌≡◌, ℕ, List, ◌++◌, ◌∷◌, [], refl, sym, ap, ◌∙◌}
use Rattle.std.specs.List.{flat_map}
use Rattle.std.specs.Vec.{vec_items}
use Rattle.std.proofs.lemmas.Result.{on_ok_weaker, on_err_weaker}
use Rattle.std.proofs.lemmas.List.{flat_map_more}
use Rattle.race_phase.proofs.Pieces.{flat_map-last, flat_map-same, grown, kept}
use Rattle.race_phase.proofs.text.Text.append.Goals as goal
use Rattle.race_phase.proofs.text.Text.append.Goals.{In_default, in_default-via-in-Some+else-max-le-SHORT, in_default-via-in-None-1}

pub returns-in-Some-clause-ok : goal.returns-in-Some-clause-ok
returns-in-Some-clause-ok c =
    let v = c.self.inside.pieces in
    let last = c.in-Some.last.now in
    let more : List ℕ = c.args.more.items in
    let new = c.extend_from_slice.new.self in
    on_ok_weaker c.map_err.result
    (λ e. flat_map-last vec_items v.items v.len new last more v.ok.0 (c.in-Some.ensures.variant.0 refl)
    (e ∙ ap (λ l. last.items ++ l) c.deref.ensures.value ∙ ap (λ z. vec_items z ++ more) c.in-Some.ensures.value) ∙ ap (λ l. l ++ more) c.self.view_is)
    (grown c.extend_from_slice.result c.map_err.result last.items new.items (last.items ++ c.deref.result.now)
    c.map_err.ensures.variant c.extend_from_slice.ensures.items)

pub returns-in-Some-clause-err : goal.returns-in-Some-clause-err
returns-in-Some-clause-err c =
    let v = c.self.inside.pieces in
    let last = c.in-Some.last.now in
    let new = c.extend_from_slice.new.self in
    on_err_weaker c.map_err.result
    (λ e. flat_map-same vec_items v.items v.len new last v.ok.0 (c.in-Some.ensures.variant.0 refl) (e ∙ ap vec_items c.in-Some.ensures.value) ∙ c.self.view_is)
    (kept c.extend_from_slice.result c.map_err.result last.items new.items (last.items ++ c.deref.result.now)
    c.map_err.ensures.variant c.extend_from_slice.ensures.items)

-- the last piece, if there is one, is as it was
same : (c : In_default) → flat_map vec_items c.in_default.self-inside.pieces.items ≡ c.args.self.now
same c = elim c.in_default.branch [
  | in_default-via-in-Some+else-max-le-SHORT w ↦
      let v = c.self.inside.pieces in
      let last = w.in-Some.last.now in
      ap (λ z. flat_map vec_items z.pieces.items) w.self-inside-is
      ∙ flat_map-same vec_items v.items v.len last last v.ok.0 (w.in-Some.ensures.variant.0 refl) (ap vec_items w.in-Some.ensures.value) ∙ c.self.view_is
  | in_default-via-in-None-1 w ↦ ap (λ z. flat_map vec_items z.pieces.items) w.self-inside-is ∙ c.self.view_is
]

pub returns-in_default-clause-ok : goal.returns-in_default-clause-ok
returns-in_default-clause-ok c =
    let ps = c.in_default.self-inside.pieces.items in
    let more = c.args.more in
    on_ok_weaker c.map_err-in_default.result
    (λ e. ap (flat_map vec_items) e ∙ sym (flat_map_more vec_items [] ps more)
    ∙ ap (λ l. l ++ more.items) (same (goal.at.returns-in_default-clause-ok c).In_default))
    (grown c.push.result c.map_err-in_default.result ps c.push.new.self.items (ps ++ more ∷ []) c.map_err-in_default.ensures.variant c.push.ensures.items)

pub returns-in_default-clause-err : goal.returns-in_default-clause-err
returns-in_default-clause-err c =
    let ps = c.in_default.self-inside.pieces.items in
    on_err_weaker c.map_err-in_default.result (λ e. ap (flat_map vec_items) e ∙ same (goal.at.returns-in_default-clause-err c).In_default)
    (kept c.push.result c.map_err-in_default.result ps c.push.new.self.items (ps ++ c.args.more ∷ []) c.map_err-in_default.ensures.variant c.push.ensures.items)
