use Rattle.std.proofs.Common.{◌≡◌, ◌-◌, Bool, true, false, ap, sym, ◌∙◌, refl, arith}
use Rattle.board_devices.specs.declared.parts.DeviceParts.{DeviceParts}
use Rattle.board_devices.specs.declared.pulse_counts.PulseCounts.{PulseCounts}
use Rattle.board_devices.specs.Parts.{IsDevices}
use Rattle.board_devices.specs.View.{parts_of}
use Rattle.board_devices.specs.private.Pulses.{is_unheard, left_pulses}
use Rattle.board_devices.specs.private.Runs.{HasAdvanced, passed}
use Rattle.board_devices.proofs.Unheard.{left-all, left-none}
use Rattle.board_devices.proofs.devices.Devices.advance.Goals as goal
use Rattle.board_devices.proofs.devices.Devices.advance.Goals.{After-pass}

-- what is left to the clock is what the run doesn't take
left : (c : After-pass) → left_pulses c.args.from c.args.to c.args.self.now.rtc ≡ c.args.pulses.rtc - c.heard_counts-heard.result.rtc
left c = sym (ap (λ (d : DeviceParts). left_pulses c.args.from c.args.to d.rtc) c.self.view_is) ∙ by_test (is_unheard c.self.inside.rtc) refl
  where
    by_test : (u : Bool) → is_unheard c.self.inside.rtc ≡ u
        → left_pulses c.args.from c.args.to c.self.inside.rtc ≡ c.args.pulses.rtc - c.heard_counts-heard.result.rtc
    by_test true e =
        let none : c.heard_counts-heard.result.rtc ≡ 0 = ap (λ (p : PulseCounts). p.rtc) (rw e at c.heard_counts-heard.ensures) in
        omega (arith, left-all c.args.from c.args.to c.self.inside.rtc e, c.requires.pulses.rtc, none)
    by_test false e =
        let all : c.heard_counts-heard.result.rtc ≡ c.args.pulses.rtc = ap (λ (p : PulseCounts). p.rtc) (rw e at c.heard_counts-heard.ensures) in
        omega (arith, left-none c.args.from c.args.to c.self.inside.rtc e, all)

pub invariant_of-self : goal.invariant_of-self
invariant_of-self c =
    let joined : IsDevices (passed (c.args.pulses.rtc - c.heard_counts-heard.result.rtc) (parts_of c.self-2.inside)) =
    rw (left c, ← c.self-2.view_is) at c.advance_by-moved.ensures.joined in
    rw c.pass.ensures joined

pub returns : goal.returns
returns c =
    let ran : HasAdvanced c.args.from c.args.to c.args.self.now (passed (c.args.pulses.rtc - c.heard_counts-heard.result.rtc) (parts_of c.self-2.inside))
    c.advance_by-moved.result c.advance_by-moved.new.times =
    rw (left c, ← c.self-2.view_is) at c.advance_by-moved.ensures.ran in
    rw c.pass.ensures ran
