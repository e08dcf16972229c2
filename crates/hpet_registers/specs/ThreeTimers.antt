-- The block of three timers without messages, place by place (IA-PC HPET specification 1.0a,
-- section 2.3): the least block that the specification allows, written out.
use Rattle.std.specs.Prelude.{ℕ, ◌-◌, ◌*◌, ◌^◌, ◌%◌, ◌==◌, if◌then◌else◌}
use Rattle.hpet_comparator.specs.Config.{config_register}
use Rattle.hpet_registers.specs.declared.parts.HpetParts.{HpetParts}
use Rattle.hpet_registers.specs.declared.register.Register.{Register}
use Rattle.hpet_registers.specs.declared.register.Register.TheVariants.{Capabilities, Configuration}
use Rattle.hpet_registers.specs.declared.register.Register.TheVariants.{Status, MainCounter}
use Rattle.hpet_registers.specs.declared.register.Register.TheVariants.{TimerConfig}
use Rattle.hpet_registers.specs.declared.register.Register.TheVariants.{TimerComparator}
use Rattle.hpet_registers.specs.declared.register.Register.TheVariants.{TimerMessage, Reserved}
use Rattle.hpet_registers.specs.Parts.{timer_at}
use Rattle.hpet_registers.specs.Access.{is_effective, part_of}

-- the register at an offset
abbrev pub three_timer_register : ℕ → Register
three_timer_register offset =
    if offset == 0x000 then Capabilities
    else if offset == 0x010 then Configuration
    else if offset == 0x020 then Status
    else if offset == 0x0f0 then MainCounter
    else if offset == 0x100 then TimerConfig 0
    else if offset == 0x108 then TimerComparator 0
    else if offset == 0x120 then TimerConfig 1
    else if offset == 0x128 then TimerComparator 1
    else if offset == 0x140 then TimerConfig 2
    else if offset == 0x148 then TimerComparator 2
    else Reserved

-- what it reads
abbrev pub three_timer_value : Register → HpetParts → ℕ
three_timer_value Capabilities h = 0x009896808086a201
three_timer_value Configuration h = h.config
three_timer_value Status h = h.status
three_timer_value MainCounter h = h.counter
three_timer_value (TimerConfig k) h = config_register (timer_at k h)
three_timer_value (TimerComparator k) h = (timer_at k h).comparator
three_timer_value (TimerMessage k) h = 0
three_timer_value Reserved h = 0

-- a read
abbrev pub three_timer_read : ℕ → ℕ → HpetParts → ℕ
three_timer_read offset width h =
    let register = three_timer_register (offset - offset % 8) in
    if is_effective offset width then part_of width (offset % 8 == 4) (three_timer_value register h)
    else 2 ^ (8 * width) - 1
