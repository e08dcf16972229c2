use Rattle.std.proofs.Common.{◌≡◌, None, [], sym, subst, refl}
use Rattle.board_devices.specs.declared.parts.DeviceParts.{DeviceParts}
use Rattle.board_devices.specs.Parts.{IsDevices}
use Rattle.board_devices.specs.View.{parts_of}
use Rattle.board_devices.specs.private.Pulses.{IsQuiet}
use Rattle.board_devices.specs.private.Runs.{HasTicked}
use Rattle.board_devices.proofs.Product.{Sound, same_parts}
use Rattle.board_devices.proofs.QuietRuns.{passed_by, advanced, joined}
use Rattle.board_devices.proofs.TickRuns.{still-ticked}
use Rattle.board_devices.proofs.devices.Devices.pass.Goals as goal
use Rattle.board_devices.proofs.devices.Devices.pass.Goals.{After-pass-3}

sound : (c : After-pass-3) → Sound (parts_of c.self.inside)
sound c = record {
  rtc = rw c.parts-clock.ensures.value at c.parts-clock.ensures.valid;
  joined = c.self.invariant;
}

quiet : (c : After-pass-3) → IsQuiet c.args.from c.args.to c.args.pulses (parts_of c.self.inside)
quiet c = subst (IsQuiet c.args.from c.args.to c.args.pulses) (sym c.self.view_is) c.requires.quiet

-- what the devices are then
left : (c : After-pass-3) → passed_by (sound c) c.requires.stretch.order c.requires.pulses (quiet c)
    ≡ parts_of (record {
      pit = c.pass.new.self;
      rtc = c.pass-2.new.self;
      hpet = c.pass-3.new.self;
      ticks = c.self.inside.ticks;
      slew_ns = c.self.inside.slew_ns;
    })
left c = same_parts (parts_of c.self.inside) (sym c.pass.ensures) (sym c.pass-2.ensures) (sym c.pass-3.ensures) refl

pub invariant_of-self : goal.invariant_of-self
invariant_of-self c =
    let at : After-pass-3 = (goal.at.invariant_of-self c).After-pass-3 in
    subst IsDevices (left at) (joined (sound at) c.requires.stretch.order c.requires.pulses (quiet at))

pub returns : goal.returns
returns c =
    let at : After-pass-3 = (goal.at.returns c).After-pass-3 in
    subst (λ (d : DeviceParts). HasTicked c.args.from c.args.to d (parts_of (record {
      pit = c.pass.new.self;
      rtc = c.pass-2.new.self;
      hpet = c.pass-3.new.self;
      ticks = c.self.inside.ticks;
      slew_ns = c.self.inside.slew_ns;
    })) None) c.self.view_is
    (subst (λ (d : DeviceParts). HasTicked c.args.from c.args.to (parts_of c.self.inside) d None) (left at)
    (still-ticked c.args.from c.args.to (parts_of c.self.inside) _ c.requires.stretch.order
    (advanced (sound at) c.requires.stretch.order c.requires.pulses (quiet at) [])))
