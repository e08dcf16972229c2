-- What the definitions give.
use Rattle.std.proofs.Common.{◌≡◌, [], ◌∷◌, map, refl}
use Rattle.rtc_registers.specs.Parts.{rtc_at_power_on}
use Rattle.rtc_registers.specs.Registers.{with_time}
use Rattle.board_types.specs.Setup.{setup_by_default}
use Rattle.board_core.specs.PowerOn.{board_at_power_on}
use Rattle.board_reset.specs.Reset.{register_b_reset, after_reset, rtc_reset}

-- SET, DSE, DM and 24/12 stay; PIE, AIE, UIE and SQWE don't
registers : map register_b_reset (0xff ∷ 0x7e ∷ []) ≡ 0x87 ∷ 0x06 ∷ []
registers = refl

-- a board at power on is as it was
at_power_on : after_reset (board_at_power_on (setup_by_default 5)) ≡ board_at_power_on (setup_by_default 5)
unfolding after_reset rtc_reset rtc_at_power_on with_time
at_power_on = refl
