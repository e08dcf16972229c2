use Rattle.std.proofs.Common.{◌≡◌, ◌+◌, ◌-◌, ◌<◌, ◌^◌, ◌||◌, Bool, cond, get_or, None, ap, sym, subst, ◌∙◌, refl, arith}
use Rattle.clk_units.specs.Events.{first_at}
use Rattle.pit_readback.specs.declared.TheConstants.{PIT_HZ}
use Rattle.tick_policy.specs.Line.{ticked_times}
use Rattle.board_devices.specs.declared.parts.DeviceParts.{DeviceParts}
use Rattle.board_devices.specs.Parts.{IsDevices}
use Rattle.board_devices.specs.Places.{line_at, no_line}
use Rattle.board_devices.specs.View.{parts_of}
use Rattle.board_devices.specs.private.Pulses.{IsQuietBesidePit}
use Rattle.board_devices.specs.private.Runs.{HasTicked}
use Rattle.board_devices.proofs.Product.{same_parts}
use Rattle.board_devices.proofs.QuietRuns.{AreLines}
use Rattle.board_devices.proofs.TickRuns as runs
use Rattle.board_devices.proofs.TickRuns.{IsTicking}
use Rattle.board_devices.proofs.devices.Devices.tick.Goals as goal
use Rattle.board_devices.proofs.devices.Devices.tick.Goals.{After-count_ticks}

-- there is room for the ticks
pub count_ticks-requires-clause-room : goal.count_ticks-requires-clause-room
count_ticks-requires-clause-room c =
    let room : (line_at 0 (parts_of c.self.inside)).counts.due + (c.args.to - c.args.from) < 2 ^ 63 =
    rw (← c.self.view_is) at (c.requires.stretch.room 0 (omega arith)) in
    omega (arith, room, c.pulses-rises.ensures.few, c.requires.pulses.few_pit)

known : (c : After-count_ticks) → IsTicking (parts_of c.self.inside) c.args.from c.args.to c.args.pulses c.pulses-rises.result
known c = record {
  sound = record { rtc = rw c.parts-clock.ensures.value at c.parts-clock.ensures.valid; joined = c.self.invariant };
  order = c.requires.stretch.order;
  pulses = c.requires.pulses;
  quiet = subst (IsQuietBesidePit c.args.from c.args.to c.args.pulses) (sym c.self.view_is) c.requires.quiet;
  count = c.pulses-rises.ensures.count;
  first = c.pulses-rises.ensures.first;
}

here : (c : After-count_ticks) → get_or c.count_ticks.new.lines 0 no_line
    ≡ ticked_times (runs.ticks (known c)) (line_at 0 (parts_of c.self.inside))
here c = rw c.legacy-legacy.ensures at c.count_ticks.ensures.here

lines : (c : After-count_ticks) → AreLines (parts_of c.self.inside) c.args.from (c.args.to - c.args.from) c.count_ticks.new.lines
lines c = runs.lines-ticked (known c) c.count_ticks.new.lines c.count_ticks.ensures.places (here c) c.count_ticks.ensures.others

-- what the devices are then
left : (c : After-count_ticks) → runs.ticked_with (known c) c.count_ticks.new.lines
    ≡ parts_of (record {
      pit = c.pulses-rises.new.self;
      rtc = c.pass.new.self;
      hpet = c.pass-2.new.self;
      ticks = c.count_ticks.new.lines;
      slew_ns = c.self.inside.slew_ns;
    })
left c = same_parts (parts_of c.self.inside) (sym c.pulses-rises.ensures.state) (sym c.pass.ensures) (sym c.pass-2.ensures) refl

pub invariant_of-self : goal.invariant_of-self
invariant_of-self c =
    let at : After-count_ticks = (goal.at.invariant_of-self c).After-count_ticks in
    subst IsDevices (left at) (runs.ticked-joined (known at) c.count_ticks.new.lines (lines at))

pub returns : goal.returns
returns c =
    let at : After-count_ticks = (goal.at.returns c).After-count_ticks in
    let rise : c.rise_at.result ≡ runs.rise (known at) =
    c.rise_at.ensures.value
    ∙ ap (λ (b : Bool). cond b None (first_at PIT_HZ c.args.from c.pulses-rises.result.first))
    (c.either-hidden.ensures ∙ ap (λ (b : Bool). b || c.legacy-legacy.result) c.up_at.ensures
    ∙ ap (λ (b : Bool). (line_at 0 (parts_of c.self.inside)).up || b) c.legacy-legacy.ensures) in
    subst (λ (d : DeviceParts). HasTicked c.args.from c.args.to d (parts_of (record {
      pit = c.pulses-rises.new.self;
      rtc = c.pass.new.self;
      hpet = c.pass-2.new.self;
      ticks = c.count_ticks.new.lines;
      slew_ns = c.self.inside.slew_ns;
    })) c.rise_at.result) c.self.view_is
    (subst (λ (d : DeviceParts). HasTicked c.args.from c.args.to (parts_of c.self.inside) d c.rise_at.result) (left at)
    (subst (HasTicked c.args.from c.args.to (parts_of c.self.inside) _) (sym rise)
    (runs.ticked (known at) c.count_ticks.new.lines (lines at) (here at) (omega (arith, c.pulses-rises.ensures.few, c.requires.pulses.few_pit))
    (λ t e. c.rise_at.ensures.by_end t (rise ∙ e)))))
