use Rattle.std.proofs.Common.{◌≡◌, ◌&&◌, false, leb, ap, sym, get_or, ◌∙◌, ◌+◌, arith}
use Rattle.std.proofs.lemmas.List.{get_or_default}
use Rattle.hpet_registers.specs.declared.hpet.TheConstants.{HPET_HZ}
use Rattle.hpet_registers.specs.Outputs.{has_ticks}
use Rattle.tick_policy.specs.declared.parts.TickParts.{TickParts}
use Rattle.tick_policy.specs.Line.{is_waiting}
use Rattle.board_devices.specs.Places.{no_line}
use Rattle.board_devices.proofs.Idle.{rest-end, rest-output}
use Rattle.board_devices.proofs.stretch.run_timer.Goals as goal

-- the timer's line
line_is : (c : goal.Then-rests) → get_or c.args.lines.now (c.args.k + 2) c.index-lines-k.result ≡ get_or c.args.lines.now (c.args.k + 2) no_line
line_is c = get_or_default c.args.lines.now (c.args.k + 2) c.index-lines-k.result no_line (omega (arith, c.told-lines, c.requires.place))

idle : (c : goal.Then-rests) → (leb c.args.span.point c.args.span.to && is_waiting (get_or c.args.lines.now (c.args.k + 2) no_line)) ≡ false
idle c = ap (λ (l : TickParts). leb c.args.span.point c.args.span.to && is_waiting l) (sym (line_is c)) ∙ c.rests.ensures.still c.if-rests.true

pub returns-then-rests-clause-here : goal.returns-then-rests-clause-here
returns-then-rests-clause-here c = sym
    (rest-end c.args.span.point c.args.span.to HPET_HZ c.args.span.from (has_ticks c.args.k c.args.h.now) c.args.matches
    (get_or c.args.lines.now (c.args.k + 2) no_line) (c.rests.ensures.count c.if-rests.true) (c.rests.ensures.first c.if-rests.true) (idle c))

pub returns-then-rests-clause-output : goal.returns-then-rests-clause-output
returns-then-rests-clause-output c = sym
    (rest-output c.args.span c.args.k c.args.h.now c.args.was_set c.args.matches (get_or c.args.lines.now (c.args.k + 2) no_line)
    (c.rests.ensures.first c.if-rests.true)
    (ap (λ (l : TickParts). l.up) (sym (line_is c)) ∙ c.rests.ensures.down c.if-rests.true)
    (c.rests.ensures.clear c.if-rests.true) (idle c))
