use Rattle.rtc_registers.specs.Registers.{divider_of}
use Rattle.board_devices.proofs.FirstOf.{first_tick}
use Rattle.board_devices.proofs.next_edge.first_tick.Goals as goal

pub returns-clause-value : goal.returns-clause-value
returns-clause-value c = first_tick (divider_of c.args.rtc.now) c.args.n c.first_tick.result c.first_tick.ensures
