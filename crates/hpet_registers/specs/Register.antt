-- The register map of the HPET (IA-PC HPET specification 1.0a, section 2.3).
use Rattle.std.specs.Prelude.{◌≡◌, ℕ, ◌-◌, ◌/◌, ◌%◌, ◌<◌, Bool, true, ◌&&◌, ◌==◌, nat_lt, nat_le}
use Rattle.std.specs.Prelude.{if◌then◌else◌}
use Rattle.hpet_registers.specs.declared.register.Register.{Register}
use Rattle.hpet_registers.specs.declared.register.Register.TheVariants.{Capabilities, Configuration}
use Rattle.hpet_registers.specs.declared.register.Register.TheVariants.{Status, MainCounter}
use Rattle.hpet_registers.specs.declared.register.Register.TheVariants.{TimerConfig}
use Rattle.hpet_registers.specs.declared.register.Register.TheVariants.{TimerComparator}
use Rattle.hpet_registers.specs.declared.register.Register.TheVariants.{TimerMessage, Reserved}

-- the register at a place of the block of timer k (2.3.8 to 2.3.10); a place without one is
-- reserved
abbrev pub timer_register : ℕ → Bool → ℕ → ℕ → Register
timer_register timers messages k place =
    if nat_le timers k then Reserved
    else if place == 0x00 then TimerConfig k
    else if place == 0x08 then TimerComparator k
    else if messages && (place == 0x10) then TimerMessage k
    else Reserved

-- the register of 8 bytes at an offset (2.3, table 2)
abbrev pub register_at : ℕ → Bool → ℕ → Register
register_at timers messages offset =
    if offset == 0x000 then Capabilities
    else if offset == 0x010 then Configuration
    else if offset == 0x020 then Status
    else if offset == 0x0f0 then MainCounter
    else if nat_lt offset 0x100 then Reserved
    else timer_register timers messages ((offset - 0x100) / 0x20) (offset % 0x20)

-- a register of a block with this many timers, and message registers or none
abbrev pub IsRegister : ℕ → Bool → Register → Type 0
IsRegister timers messages (TimerConfig k) = k < timers
IsRegister timers messages (TimerComparator k) = k < timers
IsRegister timers messages (TimerMessage k) = (k < timers) × (messages ≡ true)
IsRegister timers messages _ = Unit {0}
