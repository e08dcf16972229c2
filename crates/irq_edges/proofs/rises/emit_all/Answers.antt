use Rattle.std.proofs.Common.{◌≡◌, ◌-◌, ◌++◌, Some, None, sym, ap, ◌∙◌, length, arith, append_assoc, length-append}
use Rattle.std.proofs.lemmas.List.{append-nil}
use Rattle.irq_edges.specs.Lines.{line_numbers, changes}
use Rattle.irq_edges.specs.Rises.{levels_at, IsNextRise}
use Rattle.irq_edges.proofs.UpFrom.{length-changes, down_at-le}
use Rattle.irq_edges.proofs.RisesOf.{rises_of-zero, rises_of-on, rises_of-end}
use Rattle.irq_edges.proofs.Rising.{changes-rising}
use Rattle.irq_edges.proofs.rises.emit_all.Goals as goal

pub loop-next-init : goal.loop-next-init
loop-next-init c =
    let none : c.args.from - c.args.from ≡ 0 = omega arith in
    record {
      forward = omega arith;
      inside = c.requires.forward;
      next = c.next_rise-next.ensures;
      edges = rw (none, rises_of-zero line_numbers c.args.times.now c.args.from) (sym (append-nil c.args.into.now));
      room = omega (arith, down_at-le c.args.from c.args.times.now);
    }

pub append_rises-next-requires : goal.append_rises-next-requires
append_rises-next-requires c =
    let next : IsNextRise c.args.times.now c.loop-next.at c.args.to (Some c.in-Some.rise) = rw c.in-Some.is at c.loop-next.invariant.next in
    omega (
      arith,
      next.0,
      c.loop-next.invariant.room,
      c.requires.room,
      ap length (changes-rising c.loop-next.at c.in-Some.rise line_numbers c.args.times.now next.0 next.3),
      length-changes c.in-Some.rise c.loop-next.at c.in-Some.rise line_numbers c.args.times.now (omega (arith, next.0)),
    )

pub loop-next-preserved : goal.loop-next-preserved
loop-next-preserved c =
    let next : IsNextRise c.args.times.now c.loop-next.at c.args.to (Some c.in-Some.rise) = rw c.in-Some.is at c.loop-next.invariant.next in
    let more : c.append_rises-next.new.into ≡ c.loop-next.into ++ changes c.in-Some.rise line_numbers (levels_at c.loop-next.at c.args.times.now)
    (levels_at c.in-Some.rise c.args.times.now) =
    c.append_rises-next.ensures.edges ∙ ap (λ es. c.loop-next.into ++ es)
    (sym (changes-rising c.loop-next.at c.in-Some.rise line_numbers c.args.times.now next.0 next.3)) in
    record {
      forward = omega (arith, next.0, c.loop-next.invariant.forward);
      inside = next.1;
      next = c.append_rises-next.ensures.next;
      edges =
          rw (
            more,
            c.loop-next.invariant.edges,
            rises_of-on line_numbers c.args.times.now c.args.from c.loop-next.at c.args.to c.in-Some.rise c.loop-next.invariant.forward next,
          )
          (append_assoc c.args.into.now _ _);
      room =
          rw (more, length-append)
          (omega (
            arith,
            c.loop-next.invariant.room,
            length-changes c.in-Some.rise c.loop-next.at c.in-Some.rise line_numbers c.args.times.now (omega (arith, next.0)),
          ));
    }

pub returns-clause-appended : goal.returns-clause-appended
returns-clause-appended c =
    let none : IsNextRise c.args.times.now c.loop-next.at c.args.to None = rw c.in_default.is at c.loop-next.invariant.next in
    c.loop-next.invariant.edges
    ∙ ap (λ es. c.args.into.now ++ es)
    (sym (rises_of-end line_numbers c.args.times.now c.args.from c.loop-next.at c.args.to c.loop-next.invariant.forward c.loop-next.invariant.inside none))
