use Rattle.std.proofs.Common.{ℕ, ◌-◌, ap, sym, ◌∙◌}
use Rattle.pit_readback.specs.declared.parts.PitParts.{PitParts}
use Rattle.pit_readback.specs.Pit.{pit_pulsed_times}
use Rattle.pit_readback.specs.Ports.{port_read}
use Rattle.board_devices.specs.declared.parts.DeviceParts.{DeviceParts}
use Rattle.board_devices.specs.Run.{run}
use Rattle.board_devices.proofs.PortReads.{pit-run}
use Rattle.board_devices.proofs.devices.Devices.read_pit_later.Goals as goal

pub returns-clause-byte : goal.returns-clause-byte
returns-clause-byte c =
    c.read_later.ensures.byte
    ∙ ap (λ (n : ℕ). port_read c.args.to c.args.port (pit_pulsed_times n c.self.inside.pit)) c.pulse_counts.ensures.pit
    ∙ ap (λ (p : PitParts). port_read c.args.to c.args.port p)
    (sym (pit-run c.args.from (c.args.to - c.args.from) _)
    ∙ ap (λ (d : DeviceParts). (run c.args.from (c.args.to - c.args.from) d).state.pit) c.self.view_is)
