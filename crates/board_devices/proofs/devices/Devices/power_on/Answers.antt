use Rattle.board_devices.specs.Parts.{IsDevices, devices_at_power_on}
use Rattle.board_devices.proofs.PowerOn.{IsDevices-at_power_on}
use Rattle.board_devices.proofs.devices.Devices.power_on.Goals as goal

pub invariant_of-result : goal.invariant_of-result
invariant_of-result c =
    let valid : IsDevices (devices_at_power_on c.args.setup.now) = IsDevices-at_power_on c.args.setup.now c.requires in
    rw (c.power_on.ensures, c.power_on-2.ensures, c.power_on-3.ensures, c.lines_at_power_on.ensures, c.has_messages.ensures, c.timers_of-timers.ensures) valid
