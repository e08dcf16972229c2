use Rattle.std.proofs.Common.{◌-◌, ap, sym, ◌∙◌}
use Rattle.hpet_bursts.proofs.Runs.{bursts_below-none}
use Rattle.hpet_registers.specs.Outputs.{has_message_below}
use Rattle.hpet_registers.proofs.Messages.{no_message-below}
use Rattle.board_devices.specs.declared.parts.DeviceParts.{DeviceParts}
use Rattle.board_devices.proofs.devices.Devices.bursts.Goals as goal

pub returns-else-sends_messages : goal.returns-else-sends_messages
returns-else-sends_messages c =
    c.requires.fresh
    ∙ sym (bursts_below-none 8 c.args.from (c.args.to - c.args.from) c.args.self.now.hpet (no_message-below 8 c.args.self.now.hpet
    (ap (λ (d : DeviceParts). has_message_below 8 d.hpet) (sym c.self.view_is) ∙ sym c.sends_messages.ensures ∙ c.if-sends_messages.false)))
