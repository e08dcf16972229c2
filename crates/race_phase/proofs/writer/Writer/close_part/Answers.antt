use Rattle.std.proofs.Common.{◌≡◌, ℕ, ◌++◌, ◌∷◌, [], ◌∙◌, List, All, subst, sym, ap, arith, append-nil}
use Rattle.std.specs.Prelude.{IfSome}
use Rattle.std.proofs.lemmas.List.Elements.{All-nil, All-push}
use Rattle.race_phase.specs.declared.phases.Phase.{Phase}
use Rattle.race_phase.specs.declared.piece.Part.{Part}
use Rattle.trace_blocks.specs.declared.records.Record.{Record}
use Rattle.race_phase.specs.Calls.{IsFitting}
use Rattle.race_phase.specs.Parts.{IsPart, WriterParts, phase_by, left_open, phases_in, open_in}
use Rattle.trace_blocks.specs.Ends.{IsEnd}
use Rattle.race_phase.proofs.Parts.{put-snoc}
use Rattle.race_phase.proofs.writer.Writer.close_part.Goals as goal

pub invariant_of-self-2 : goal.invariant_of-self-2
invariant_of-self-2 g c =
    let w = c.self.inside in
    let end = c.args.end in
    let p : Part = record { records = c.replace-records.result; end = end } in
    let cpus : w.cpus ≡ c.args.self.now.cpus = ap (λ (v : WriterParts). v.cpus) c.self.view_is in
    let none : c.replace-records.new.dest ≡ [] = c.replace-records.ensures.after ∙ c.new-none.ensures in
    let part : IsPart w.cpus w.format p = record {
      records = subst (λ (rs : List Record). All (IsFitting w.cpus w.format) rs) (sym c.replace-records.ensures.value) c.self.invariant.1;
      few = (let len = c.len.ensures in let most = c.if-len-gt-PART_LEN.false in omega arith);
      end = subst (λ (k : ℕ). IfSome end (IsEnd k)) (sym cpus) c.requires;
    } in (
      subst (λ (ps : List Part). All (IsPart w.cpus w.format) ps) (sym c.in-Ok.ensures.items)
          (All-push (IsPart w.cpus w.format) w.parts.items p c.self.invariant.0 part),
      subst (λ (rs : List Record). All (IsFitting w.cpus w.format) rs) (sym none) (All-nil (IsFitting w.cpus w.format)),
    )

pub returns-clause-ok : goal.returns-clause-ok
returns-clause-ok g c =
    let w = c.self.inside in
    let end = c.args.end in
    let p : Part = record { records = c.replace-records.result; end = end } in
    let put = w.put.items in
    let parts = w.parts.items in
    let items = c.in-Ok.ensures.items in
    let value = c.replace-records.ensures.value in
    let none : c.replace-records.new.dest ≡ [] = c.replace-records.ensures.after ∙ c.new-none.ensures in
    let more = put-snoc put parts p in
    let before : List Record = open_in [] (put ++ parts) in
    let phases : phases_in [] (put ++ c.push.new.self.items) ≡ phases_in [] (put ++ parts) ++ phase_by end (before ++ w.waiting) =
    ap (λ (ps : List Part). phases_in [] (put ++ ps)) items ∙ more.0
    ∙ ap (λ (rs : List Record). phases_in [] (put ++ parts) ++ phase_by end (before ++ rs)) value in
    let last : open_in [] (put ++ c.push.new.self.items) ++ c.replace-records.new.dest ≡ left_open end (before ++ w.waiting) =
    (λ i. open_in [] (put ++ items i) ++ none i) ∙ append-nil (open_in [] (put ++ (parts ++ p ∷ []))) ∙ more.1
    ∙ ap (λ (rs : List Record). left_open end (before ++ rs)) value in
    let new : List Phase → List Record → WriterParts =
    λ (vs : List Phase) (rs : List Record). record { cpus = w.cpus; format = w.format; opened = w.opened; phases = vs; last = rs } in
    subst (λ (v : WriterParts). new (phases_in [] (put ++ c.push.new.self.items)) (open_in [] (put ++ c.push.new.self.items) ++ c.replace-records.new.dest)
    ≡ record { cpus = v.cpus; format = v.format; opened = v.opened; phases = v.phases ++ phase_by end v.last; last = left_open end v.last })
    c.self.view_is (λ i. new (phases i) (last i))
