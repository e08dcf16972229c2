use Rattle.pit_counter.proofs.Joins.{IsCounter-pulsed_times}
use Rattle.pit_counter.proofs.Keeps.{IsCounter-ce}
use Rattle.pit_counter.proofs.reading.read_by_copy.Goals as goal

pub byte_read-byte-requires : goal.byte_read-byte-requires
byte_read-byte-requires c =
    rw c.take_pulses.ensures.state (IsCounter-ce _ (IsCounter-pulsed_times c.args.p.now c.args.n c.requires))
