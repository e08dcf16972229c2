use Rattle.std.proofs.Common.{◌≡◌, length, rules}
use Rattle.pit_readback.specs.Parts.{pit_fault}
use Rattle.pit_readback.proofs.Faults.{IsNone-pit_fault}
use Rattle.pit_readback.proofs.parts.PitParts.first_fault.Goals as goal

pub returns-clause-none : goal.returns-clause-none
returns-clause-none c =
    let three : length c.args.self.now.counters ≡ 3 = search rules in
    let value : c.fault_at.result ≡ pit_fault c.args.self.now = search rules in
    rw value (IsNone-pit_fault c.args.self.now three)
