use Rattle.std.proofs.Common.{◌≡◌, ℕ, ◌+◌, ◌-◌, false, [], sym, subst, arith}
use Rattle.hpet_bursts.specs.Messages.{message_at}
use Rattle.board_types.specs.declared.parts.BoardParts.{BoardParts}
use Rattle.board_devices.specs.Run.{run}
use Rattle.host_counter.specs.Time.{time_at}
use Rattle.board_core.specs.Quiet.{IsQuiet}
use Rattle.board_core.specs.Time.{devices_in, now_of}
use Rattle.board_core.specs.View.{board_parts_of}
use Rattle.board_core.proofs.Joins.{IsQuiet-to}
use Rattle.board_core.proofs.board.BoardState.quiet_before.Goals as goal

pub returns-in-Ok-clause-quiet : goal.returns-in-Ok-clause-quiet
returns-in-Ok-clause-quiet c some =
    let b : BoardParts = board_parts_of c.self.inside in
    let now : c.self.inside.time_ns ≡ now_of b = c.self.invariant.time in
    let time : c.in-Ok.ns ≡ time_at b.anchor c.last_count-last.result = c.in-Ok.ensures.ok.value in
    let last : c.last_count-last.result + 1 - 1 ≡ c.last_count-last.result = omega arith in
    subst (λ (h : ℕ). IsQuiet c.args.self.now h) (sym last)
    (subst (λ (x : BoardParts). IsQuiet x c.last_count-last.result) c.self.view_is
    (IsQuiet-to b c.last_count-last.result c.silent_to-quiet.result c.still_to-still.result
    (record { started = c.in-Ok.ensures.ok.started; range = omega (arith, time, c.in-Ok.ensures.ok.in_range) })
    (omega (arith, time, c.if-ns-quiet.true))
    (omega (arith, now, c.silent_to-quiet.ensures.order)) c.silent_to-quiet.ensures.most
    (subst (λ (t : ℕ). (run t (c.still_to-still.result - t) (devices_in b)).edges ≡ []) now c.still_to-still.ensures.still)
    (λ k n small less. subst (λ (t : ℕ). message_at k t n b.hpet ≡ false) now (c.silent_to-quiet.ensures.silent k n small (omega (arith, now, less))))
    (c.is_armed.ensures.idle.0 c.if-is_armed.false)))
