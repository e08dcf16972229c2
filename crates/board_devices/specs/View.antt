-- How contracts see the devices.
use Rattle.board_devices.specs.declared.parts.DeviceParts.{DeviceParts}
use Rattle.board_devices.specs.declared.devices.Devices.TheInside.{Inside}

-- the fields as they are stored, as one record
abbrev pub parts_of : Inside → DeviceParts
parts_of d =
    record { pit = d.pit; rtc = d.rtc; hpet = d.hpet; ticks = d.ticks; slew_ns = d.slew_ns }

-- and back
abbrev pub devices_of : DeviceParts → Inside
devices_of d =
    record { pit = d.pit; rtc = d.rtc; hpet = d.hpet; ticks = d.ticks; slew_ns = d.slew_ns }
