use Rattle.std.proofs.Common.{rules, get_or, ap, sym, ◌∙◌, arith}
use Rattle.std.proofs.lemmas.Grind.{common_steps}
use Rattle.std.proofs.lemmas.List.{get_or_default}
use Rattle.tick_policy.specs.declared.parts.TickParts.{TickParts}
use Rattle.board_devices.specs.Places.{no_line}
use Rattle.board_devices.specs.private.Stretch.{moves}
use Rattle.board_devices.proofs.Idle.{end-still}
use Rattle.board_devices.proofs.stretch.run_at.Goals as goal

pub returns-then-is_up : goal.returns-then-is_up
returns-then-is_up c =
    let l : TickParts = get_or c.args.lines.now c.args.k no_line in
    record {
      places = search rules;
      here = sym (end-still c.args.span.point c.args.span.to c.args.ticks l
          (ap (moves c.args.span.point c.args.span.to c.args.ticks)
          (sym (get_or_default c.args.lines.now c.args.k c.index-lines-k.result no_line (omega (arith, c.told-lines))))
          ∙ sym c.moves.ensures.value ∙ c.if-moves.false));
      others = search rules;
      up = grind (arith, common_steps);
    }

pub returns-else-is_up : goal.returns-else-is_up
returns-else-is_up c =
    let l : TickParts = get_or c.args.lines.now c.args.k no_line in
    record {
      places = search rules;
      here = sym (end-still c.args.span.point c.args.span.to c.args.ticks l
          (ap (moves c.args.span.point c.args.span.to c.args.ticks)
          (sym (get_or_default c.args.lines.now c.args.k c.index-lines-k.result no_line (omega (arith, c.told-lines))))
          ∙ sym c.moves.ensures.value ∙ c.if-moves.false));
      others = search rules;
      up = grind (arith, common_steps);
    }
