use Rattle.std.proofs.Common.{◌≡◌, ◌+◌, ◌++◌, List, false, Option, Some, None, drop, sym, ap, ◌∙◌}
use Rattle.std.specs.Option.{is_some}
use Rattle.irq_edges.specs.declared.edges.Edge.{Edge}
use Rattle.irq_edges.specs.Lines.{line_numbers}
use Rattle.irq_edges.specs.private.Rises.{edges_within, listed}
use Rattle.irq_edges.proofs.Sole.{edges_within-drop}
use Rattle.irq_edges.proofs.rises.sole_edge.Goals as goal
use Rattle.irq_edges.proofs.rises.sole_edge.Goals.{in-Some+else-is_some, in_default}

-- with no edge before, those that are left are all
first-taken : (sole : Option Edge) (rest all : List Edge) → is_some sole ≡ false → listed sole ++ rest ≡ all → rest ≡ all
first-taken None rest all h e = e
first-taken (Some x) rest all h e = cc

pub loop-place-preserved : goal.loop-place-preserved
loop-place-preserved c =
    let from = c.args.from in
    let to = c.args.to in
    let us = c.args.times.now in
    let place = c.loop-place.place in
    let rest : List Edge = edges_within from to (drop (place + 1) line_numbers) (drop (place + 1) us) in
    let step : edges_within from to (drop place line_numbers) (drop place us) ≡ listed c.edge_within.result ++ rest =
    edges_within-drop from to line_numbers us place None c.loop-place-test.true c.told-times ∙ ap (λ (es : List Edge). es ++ rest) (sym c.edge_within.ensures) in
    let all : listed c.loop-place.sole ++ (listed c.edge_within.result ++ rest) ≡ edges_within from to line_numbers us =
    ap (λ (es : List Edge). listed c.loop-place.sole ++ es) (sym step) ∙ c.loop-place.invariant in
    elim c.match-edge_within.branch [
      | in-Some+else-is_some w ↦
          let taken : listed c.edge_within.result ++ rest ≡ edges_within from to line_numbers us =
          first-taken c.loop-place.sole _ _ (sym w.is_some.ensures ∙ w.if-is_some.false) all in
          let one : listed (Some w.in-Some.edge) ++ rest ≡ edges_within from to line_numbers us = rw w.in-Some.is at taken in
          rw w.sole-is one
      | in_default w ↦
          let none : listed c.loop-place.sole ++ (listed None ++ rest) ≡ edges_within from to line_numbers us = rw w.in_default.is at all in
          rw w.sole-is none
    ]
