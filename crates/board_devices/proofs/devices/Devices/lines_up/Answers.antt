use Rattle.std.proofs.Common.{◌≡◌, ℕ, suc, ◌+◌, ap, sym, ◌∙◌, Option, arith}
use Rattle.board_devices.specs.declared.parts.DeviceParts.{DeviceParts}
use Rattle.board_devices.specs.private.Stretch.{slot_of, with_rise, slots_from}
use Rattle.board_devices.specs.private.Ahead.{timer_up, front_up}
use Rattle.board_devices.proofs.devices.Devices.lines_up.Goals as goal
use Rattle.board_devices.proofs.devices.Devices.lines_up.Goals.{in-Some, in_default}

-- the lines with one timer more
times : (c : goal.Joined-output) → c.match-output.times
    ≡ slots_from (suc c.loop-k.k) c.args.self.now.hpet (timer_up c.args.span c.args.self.now) (front_up c.args.span c.args.self.now)
times c =
    let k : ℕ = c.loop-k.k in
    let d : DeviceParts = c.args.self.now in
    let before : c.loop-k.times ≡ slots_from k d.hpet (timer_up c.args.span d) (front_up c.args.span d) = c.loop-k.invariant in
    elim c.match-output.branch [
      | in-Some w ↦
          w.times-is ∙ w.add_rise.ensures
          ∙ ap (λ (u : Option ℕ). with_rise u w.slot_of.result c.loop-k.times) (sym w.in-Some.is ∙ c.timer_up-output.ensures)
          ∙ ap (λ (s : Option ℕ). with_rise (timer_up c.args.span d k) s c.loop-k.times)
          (w.slot_of.ensures.value ∙ ap (λ (x : DeviceParts). slot_of k x.hpet) c.self.view_is)
          ∙ ap (with_rise (timer_up c.args.span d k) (slot_of k d.hpet)) before
      | in_default w ↦
          w.times-is ∙ before
          ∙ ap (λ (u : Option ℕ). with_rise u (slot_of k d.hpet) (slots_from k d.hpet (timer_up c.args.span d) (front_up c.args.span d)))
          (sym (sym c.timer_up-output.ensures ∙ w.in_default.is))
    ]

pub loop-k-preserved : goal.loop-k-preserved
loop-k-preserved c =
    let more : c.loop-k.k + 1 ≡ suc c.loop-k.k = omega arith in
    times c
    ∙ ap (λ (n : ℕ). slots_from n c.args.self.now.hpet (timer_up c.args.span c.args.self.now) (front_up c.args.span c.args.self.now)) (sym more)

pub returns : goal.returns
returns c =
    let all : c.self.inside.hpet.timers ≡ c.args.self.now.hpet.timers = ap (λ (x : DeviceParts). x.hpet.timers) c.self.view_is in
    let end : c.loop-k.k ≡ c.args.self.now.hpet.timers = omega (arith, c.loop-k-test.false, c.loop-k.auto.k-end, c.timers-k-end.ensures.value, all) in
    c.loop-k.invariant
    ∙ ap (λ (n : ℕ). slots_from n c.args.self.now.hpet (timer_up c.args.span c.args.self.now) (front_up c.args.span c.args.self.now)) end
