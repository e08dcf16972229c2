use Rattle.board_core.proofs.Joined.{IsHv-none, processors_of-most}
use Rattle.board_core.proofs.ApicTimers.{AreApics-power_on}
use Rattle.board_core.specs.Conditions.{AreApics}
use Rattle.local_apics.specs.declared.parts.ApicsParts.{ApicsParts}
use Rattle.std.proofs.Common.{◌+◌, ap, sym, subst, refl, ◌∙◌, arith}
use Rattle.host_counter.proofs.Times.{time_at-start}
use Rattle.board_devices.specs.declared.parts.DeviceParts.{DeviceParts}
use Rattle.board_devices.specs.Places.{line_at}
use Rattle.board_devices.proofs.PowerOn.{due_at_power_on}
use Rattle.board_core.specs.Time.{now_of}
use Rattle.board_core.specs.PowerOn.{board_at_power_on}
use Rattle.board_core.proofs.Joined.{AreProcessors-none, AreRises-none}
use Rattle.board_core.proofs.board.BoardState.power_on.Goals as goal

pub invariant_of-result : goal.invariant_of-result
invariant_of-result c = record {
  time = sym (time_at-start c.args.setup.now.anchor);
  joined = record {
    format = record {
      least = c.requires.least_format;
      last = c.requires.last_format;
      least_cpus = c.requires.least_cpus;
      most_cpus = c.requires.most_cpus;
      has_timers = ap (λ (d : DeviceParts). d.hpet.timers) c.power_on.ensures;
    };
    messages = ap (λ (d : DeviceParts). d.hpet.messages) c.power_on.ensures;
    rates = record {
      host = c.requires.host;
      guest = c.requires.guest;
    };
    time = record { started = omega arith; range = omega (arith, time_at-start c.args.setup.now.anchor, c.requires.base) };
    accesses = omega arith;
    due = λ k less. omega (arith, ap (λ (d : DeviceParts). (line_at k d).counts.due) c.power_on.ensures ∙ due_at_power_on c.args.setup.now k);
    wall = record { words = record { most = omega arith; even = omega arith }; unpublished = λ e. refl; below_second = c.requires.wall_nsec };
    processors = AreProcessors-none c.args.setup.now.guest_khz c.args.setup.now.cpus 64;
    rises = AreRises-none c.args.setup.now.format 0 6 _;
    apics = apics;
    hv = IsHv-none c.args.setup.now.format c.args.setup.now.guest_khz c.args.setup.now.cpus c.requires.least_cpus;
  };
}
  where
    apics : AreApics c.args.setup.now.format c.args.setup.now.cpus (now_of (board_at_power_on c.args.setup.now) + 0) c.apics_of_setup.result
    apics = subst (λ (a : ApicsParts). AreApics c.args.setup.now.format c.args.setup.now.cpus (now_of (board_at_power_on c.args.setup.now) + 0) a)
        (sym c.apics_of_setup.ensures) (AreApics-power_on c.args.setup.now.format c.args.setup.now.cpus (now_of (board_at_power_on c.args.setup.now) + 0)
        (omega (arith, c.requires.most_cpus, processors_of-most c.args.setup.now.format)))
