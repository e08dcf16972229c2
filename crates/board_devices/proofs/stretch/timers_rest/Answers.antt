use Rattle.std.proofs.Common.{◌≡◌, ℕ, ◌+◌, false, leb, ◌&&◌, None, get_or, subst, below_more, arith}
use Rattle.std.proofs.lemmas.List.{get_or_default}
use Rattle.clk_units.specs.Bits.{bit}
use Rattle.hpet_comparator.specs.declared.stretch.Matches.{Matches}
use Rattle.hpet_registers.specs.declared.hpet.TheConstants.{HPET_HZ}
use Rattle.hpet_registers.specs.Outputs.{has_ticks}
use Rattle.hpet_registers.specs.Stretch.{timer_matches}
use Rattle.tick_policy.specs.declared.parts.TickParts.{TickParts}
use Rattle.tick_policy.specs.Line.{is_waiting}
use Rattle.board_devices.specs.Places.{no_line}
use Rattle.board_devices.proofs.Idle.{rest-end, rest-output, no_bit}
use Rattle.board_devices.proofs.stretch.timers_rest.Goals as goal

pub loop-k-preserved : goal.loop-k-preserved
loop-k-preserved c =
    let k : ℕ = c.loop-k.k in
    let line : TickParts = get_or c.args.lines.now (k + 2) no_line in
    let m : Matches = timer_matches c.args.matches.now k in
    let line_is : get_or c.args.lines.now (k + 2) c.index-lines-k.result ≡ line =
    get_or_default c.args.lines.now (k + 2) c.index-lines-k.result no_line (omega arith) in
    let never : m.first ≡ None = c.rests.ensures.first c.if-not-rests.false in
    let idle : (leb c.args.span.point c.args.span.to && is_waiting line) ≡ false =
    subst (λ (l : TickParts). (leb c.args.span.point c.args.span.to && is_waiting l) ≡ false) line_is (c.rests.ensures.still c.if-not-rests.false) in
    let up : line.up ≡ false = subst (λ (l : TickParts). l.up ≡ false) line_is (c.rests.ensures.down c.if-not-rests.false) in
    record {
      still = below_more _ _ c.loop-k.invariant.still
          (rest-end c.args.span.point c.args.span.to HPET_HZ c.args.span.from (has_ticks k c.args.h.now) m line
          (c.rests.ensures.count c.if-not-rests.false) never idle);
      down = below_more _ _ c.loop-k.invariant.down
          (rest-output c.args.span k c.args.h.now (bit k c.args.status) m line never up (no_bit k c.args.status (omega arith)) idle);
    }
